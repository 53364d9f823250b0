-- A node that was met is below one that was met, and so a leaf is read from below the lowest of them.
use Rattle.std.proofs.Common.{◌≡◌, ◌≢◌, ◌<◌, ◌≤◌, ◌⊎◌, ◌+◌, ◌-◌, ◌/◌, ◌^◌, ℕ, max, zero, suc, Bool, true, false, List, [], ◌∷◌, length, slice_index, slice_index_or, slice_set, Option, Some, None, refl, sym, ◌∙◌, ap, subst, inl, inr, arith}
use Rattle.std.proofs.lemmas.Bool.Decides.{eqb_tells}
use Rattle.std.proofs.lemmas.Grind.{get_or-set_at}
use Rattle.codestream_model.specs.TagTrees.{Seat, exponent, levels_from, root_level}
use Rattle.codestream_model.specs.PacketHeaderReading.{Node, Walked, Read, Got, known_label, read_inclusion, read_planes}
use Rattle.codestream_model.proofs.TreeLemmas.{above}
use Rattle.tag_tree.specs.Places.{place_of}
use Rattle.tag_tree.specs.TreeState.{TreeState}
use Rattle.tag_tree.specs.Kinds.{levels_reading, leaf_reading}
use Rattle.tag_tree.specs.LeafReading.{told_at, Knows}
use Rattle.tag_tree.specs.MetNodes.{IsMet, IsMetDown}
use Rattle.tag_tree.specs.declared.kind.Kind.{Kind}
use Rattle.tag_tree.specs.declared.kind.Kind.TheVariants.{Inclusion, Value}
use Rattle.tag_tree.proofs.PlaceLemmas.{levels_apart, same_node}
use Rattle.tag_tree.proofs.KnowLemmas.{set_other, apart}
use Rattle.tag_tree.proofs.AnswerLemmas.{when_known, planes_known}

-- what was met stays met
set_keeps : (xs : List Bool) (i j : ℕ) → slice_index_or xs j false ≡ true → slice_index_or (slice_set xs i true) j false ≡ true
set_keeps [] i j h = h
set_keeps (y ∷ xs) zero zero h = refl
set_keeps (y ∷ xs) zero (suc j) h = h
set_keeps (y ∷ xs) (suc i) zero h = h
set_keeps (y ∷ xs) (suc i) (suc j) h = set_keeps xs i j h

-- nodes with one place are of one level
one_level : (t : TreeState) (l m x y u v : ℕ) → x < t.cols → y < t.rows → u < t.cols → v < t.rows → place_of t.cols t.rows l x y ≡ place_of t.cols t.rows m u v → l ≡ m
one_level t l m x y u v xc yr uc vr e = elim (eqb_tells l m) [
  | inl d ↦ d.1
  | inr d ↦ absurd (elim (apart l m d.1) [
    | inl f ↦ levels_apart t.cols t.rows l m x y u v xc yr f e
    | inr f ↦ levels_apart t.cols t.rows m l u v x y uc vr f (sym e)
  ])
]

-- and the nodes above them have one place
one_above : (t : TreeState) (l m x y u v : ℕ) → x < t.cols → y < t.rows → u < t.cols → v < t.rows → place_of t.cols t.rows l x y ≡ place_of t.cols t.rows m u v
    → place_of t.cols t.rows (m + 1) u v ≡ place_of t.cols t.rows (l + 1) x y
one_above t l m x y u v xc yr uc vr e =
    let same = one_level t l m x y u v xc yr uc vr e in
    let P : ℕ → Type 0 = λ n. place_of t.cols t.rows l x y ≡ place_of t.cols t.rows n u v in
    let Q : ℕ → Type 0 = λ n. place_of t.cols t.rows (n + 1) u v ≡ place_of t.cols t.rows (l + 1) x y in
    let n = same_node t.cols t.rows l x y u v xc uc (subst P (sym same) e) in
    let col = above x u l n.0 in
    let row = above y v l n.1 in
    subst Q same (rw (col, row) refl)

-- a node below one that was met is met
pub down_after : (t u : TreeState) (level col row place : ℕ) → col < t.cols → row < t.rows → place ≡ place_of t.cols t.rows level col row → IsMetDown t → (level < t.root → IsMet t (level + 1) col row)
    → u.met ≡ slice_set t.met place true → u.cols ≡ t.cols → u.rows ≡ t.rows → u.root ≡ t.root → IsMetDown u
down_after t u level col row place cc_ rr is down upper met cols rows root = λ l x y xc yr low h.
    let p = place_of t.cols t.rows level col row in
    let xt : x < t.cols = omega (arith, xc, cols) in
    let yt : y < t.rows = omega (arith, yr, rows) in
    let lt : l < t.root = omega (arith, low, root) in
    let M : (n : ℕ) → slice_index_or u.met (place_of u.cols u.rows n x y) false ≡ slice_index_or (slice_set t.met p true) (place_of t.cols t.rows n x y) false = λ n. rw (met, cols, rows, is) refl in
    let now : slice_index_or (slice_set t.met p true) (place_of t.cols t.rows l x y) false ≡ true = sym (M l) ∙ h in
    let was : slice_index_or t.met (place_of t.cols t.rows (l + 1) x y) false ≡ true = elim (eqb_tells p (place_of t.cols t.rows l x y)) [
      | inl e ↦
          let same = one_level t l level x y col row xt yt cc_ rr (sym e.1) in
          let A : ℕ → Type 0 = λ n. n < t.root in
          let B : ℕ → Type 0 = λ n. slice_index_or t.met n false ≡ true in
          subst B (one_above t l level x y col row xt yt cc_ rr (sym e.1)) (upper (subst A same lt))
      | inr e ↦ down l x y xt yt lt (sym (set_other t.met p (place_of t.cols t.rows l x y) true false e.1) ∙ now)
    ] in
    M (l + 1) ∙ set_keeps t.met p (place_of t.cols t.rows (l + 1) x y) was

-- all nodes above one that was met were met
pub met_above : (t : TreeState) (level more col row : ℕ) → col < t.cols → row < t.rows → IsMetDown t → IsMet t level col row → level + more ≤ t.root → IsMet t (level + more) col row
met_above t level zero col row xc yr down h low = let P : ℕ → Type 0 = λ n. IsMet t n col row in let e : level ≡ level + 0 = omega arith in subst P e h
met_above t level (suc more) col row xc yr down h low =
    let P : ℕ → Type 0 = λ n. IsMet t n col row in
    let e : level + more + 1 ≡ level + suc more = omega arith in
    subst P e (down (level + more) col row xc yr (omega (arith, low)) (met_above t level more col row xc yr down h (omega (arith, low))))

-- the labels of these levels are known
abbrev pub AreKnown : ℕ → ℕ → Seat → List Node → Type 0
AreKnown level top s nodes = (m : ℕ) → level ≤ m → m ≤ top → (w : ℕ) × (known_label m s nodes ≡ Some w)

pub are_known : (t : TreeState) (nodes : List Node) (level : ℕ) (s : Seat) → s.col < t.cols → s.row < t.rows → IsMetDown t → IsMet t level s.col s.row → Knows t nodes → AreKnown level t.root s nodes
are_known t nodes level s xc yr down h k = λ m low high.
    let e : level + (m - level) ≡ m = omega (arith, low) in
    let P : ℕ → Type 0 = λ n. IsMet t n s.col s.row in
    let met : IsMet t m s.col s.row = subst P e (met_above t level (m - level) s.col s.row xc yr down h (omega (arith, low, high))) in
    (slice_index t.labels (place_of t.cols t.rows m s.col s.row), k.told m s xc yr high ∙ rw met refl)

-- a known label is not read
skips : (kind : Kind) (level w a : ℕ) (levels : List ℕ) (s : Seat) (nodes : List Node) (l : List Bool) → known_label level s nodes ≡ Some w → levels_reading kind (level ∷ levels) a s nodes l ≡ levels_reading kind levels w s nodes l
skips Inclusion level w a levels s nodes l e = when_known level levels s a w nodes l e
skips Value level w a levels s nodes l e = planes_known level levels s a w nodes l e

ends : (kind : Kind) (w : ℕ) (s : Seat) (nodes : List Node) (l : List Bool) → levels_reading kind [] w s nodes l ≡ Got (record { label = w; nodes = nodes }) l
unfolding read_inclusion read_planes
ends Inclusion w s nodes l = refl
ends Value w s nodes l = refl

-- so a reading begins below known labels
pub below_known : (kind : Kind) (top level v a : ℕ) (s : Seat) (nodes : List Node) (l : List Bool) → level ≢ 0 → level ≤ top → AreKnown level top s nodes → known_label level s nodes ≡ Some v
    → levels_reading kind (levels_from top) a s nodes l ≡ levels_reading kind (levels_from (level - 1)) v s nodes l
unfolding levels_from
below_known kind zero level v a s nodes l some low known is = absurd (omega (arith, some, low))
below_known kind (suc top) level v a s nodes l some low known is =
    let (w, e) = known (suc top) low (omega arith) in
    elim (eqb_tells level (suc top)) [
      | inl d ↦
          let P : ℕ → Type 0 = λ n. known_label n s nodes ≡ Some v in
          let here : known_label (suc top) s nodes ≡ Some v = subst P d.1 is in
          let m : top ≡ level - 1 = omega (arith, d.1) in
          skips kind (suc top) v a (levels_from top) s nodes l here ∙ ap (λ (n : ℕ). levels_reading kind (levels_from n) v s nodes l) m
      | inr d ↦
          let lower : level ≤ top = omega (arith, low, d.1) in
          skips kind (suc top) w a (levels_from top) s nodes l e
          ∙ below_known kind top level v w s nodes l some lower (λ m from to. known m from (omega (arith, to))) is
    ]

-- and of a leaf whose label is known nothing is read
pub leaf_known : (kind : Kind) (top v a : ℕ) (s : Seat) (nodes : List Node) (l : List Bool) → AreKnown 0 top s nodes → known_label 0 s nodes ≡ Some v
    → levels_reading kind (levels_from top) a s nodes l ≡ Got (record { label = v; nodes = nodes }) l
unfolding levels_from
leaf_known kind zero v a s nodes l known is = skips kind 0 v a [] s nodes l is ∙ ends kind v s nodes l
leaf_known kind (suc top) v a s nodes l known is =
    let (w, e) = known (suc top) (omega arith) (omega arith) in
    skips kind (suc top) w a (levels_from top) s nodes l e ∙ leaf_known kind top v w s nodes l (λ m from to. known m from (omega (arith, to))) is

-- The reading of a leaf, from below a node that was met.
pub leaf_below : (kind : Kind) (t : TreeState) (level v : ℕ) (s : Seat) (nodes : List Node) (l : List Bool) → level ≢ 0 → level ≤ t.root → root_level (record { band = 0; cols = t.cols; rows = t.rows }) ≡ t.root → AreKnown level t.root s nodes → known_label level s nodes ≡ Some v
    → leaf_reading kind t s nodes l ≡ levels_reading kind (levels_from (level - 1)) v s nodes l
leaf_below kind t level v s nodes l some low top known is =
    ap (λ (n : ℕ). levels_reading kind (levels_from n) 0 s nodes l) top ∙ below_known kind t.root level v 0 s nodes l some low known is

pub leaf_here : (kind : Kind) (t : TreeState) (v : ℕ) (s : Seat) (nodes : List Node) (l : List Bool) → root_level (record { band = 0; cols = t.cols; rows = t.rows }) ≡ t.root → AreKnown 0 t.root s nodes → known_label 0 s nodes ≡ Some v
    → leaf_reading kind t s nodes l ≡ Got (record { label = v; nodes = nodes }) l
leaf_here kind t v s nodes l top known is =
    ap (λ (n : ℕ). levels_reading kind (levels_from n) 0 s nodes l) top ∙ leaf_known kind t.root v 0 s nodes l known is

-- The label of a node that was met.
pub known_at : (t : TreeState) (nodes : List Node) (level v : ℕ) (s : Seat) → s.col < t.cols → s.row < t.rows → level ≤ t.root → IsMet t level s.col s.row → v ≡ slice_index t.labels (place_of t.cols t.rows level s.col s.row) → Knows t nodes → known_label level s nodes ≡ Some v
known_at t nodes level v s xc yr low met is k = k.told level s xc yr low ∙ rw (met, is) refl

-- Labels that are kept are known.
pub kept_known : (level top : ℕ) (s : Seat) (nodes known : List Node) → level ≢ 0 → AreKnown level top s nodes → ((m : ℕ) (u : Seat) → level - 1 < m → known_label m u known ≡ known_label m u nodes) → AreKnown level top s known
kept_known level top s nodes known some are kept = λ m low high.
    let (w, e) = are m low high in
    (w, kept m s (omega (arith, some, low)) ∙ e)

-- A node below the root was met: this is what is known of it.
pub record HasMet (t : TreeState) (level col row v : ℕ) : Type 0 where
  pub low : level ≤ t.root
  pub top : root_level (record { band = 0; cols = t.cols; rows = t.rows }) ≡ t.root
  pub all : (band : ℕ) (nodes : List Node) → Knows t nodes → AreKnown level t.root (record { band = band; col = col; row = row }) nodes
  pub is : (band : ℕ) (nodes : List Node) → Knows t nodes → known_label level (record { band = band; col = col; row = row }) nodes ≡ Some v

pub has_met : (t : TreeState) (level col row place v : ℕ) → col < t.cols → row < t.rows → level < t.root → IsMet t level col row → IsMetDown t → (0 < t.cols → 0 < t.rows → t.root ≡ exponent (max t.cols t.rows))
    → place ≡ place_of t.cols t.rows level col row → v ≡ slice_index t.labels place → HasMet t level col row v
has_met t level col row place v xc yr low met down root at label = record {
  low = omega (arith, low);
  top = sym (root (omega (arith, xc)) (omega (arith, yr)));
  all = λ band nodes k. are_known t nodes level (record { band = band; col = col; row = row }) xc yr down met k;
  is = λ band nodes k. known_at t nodes level v (record { band = band; col = col; row = row }) xc yr (omega (arith, low)) met (label ∙ ap (λ (p : ℕ). slice_index t.labels p) at) k;
}
