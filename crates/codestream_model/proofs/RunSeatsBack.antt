-- A run of the positions of a grid are their pieces.
use Rattle.std.proofs.Common.{◌≡◌, ◌≢◌, ◌≤◌, ◌⊎◌, ◌==◌, ℕ, suc, Bool, true, false, not, List, [], ◌∷◌, ◌++◌, map, refl, sym, ◌∙◌, ap, subst, inl, inr, arith, append_assoc, if◌then◌else◌}
use Rattle.std.specs.List.{AllByRecursion, filter, flat_map, list_any}
use Rattle.std.proofs.lemmas.Bool.Decides.{eqb_tells}
use Rattle.std.proofs.lemmas.List.{map-append}
use Rattle.codestream_model.specs.Values.{Grid, Block}
use Rattle.codestream_model.specs.TagTrees.{Seat, IsSeat, Labels, NeverFalls, seats, seat_of, label, root_level, levels_from, shares, is_first, inclusion_bits}
use Rattle.codestream_model.specs.HeaderPieces.{Piece, InclusionPiece, Choices, stands_at, seat_pieces}
use Rattle.codestream_model.specs.PacketHeader.{is_included, FitLengths}
use Rattle.codestream_model.specs.PacketHeaderReading.{Node, Walked}
use Rattle.codestream_model.proofs.ReadingLemmas.{segment_pieces}
use Rattle.codestream_model.proofs.TreeLemmas.{AreDistinct, either, first_is, equal_number}
use Rattle.codestream_model.proofs.WalkLemmas.{always, below_zero}
use Rattle.codestream_model.proofs.SeatLemmas.{distinct-filter, seats_distinct, none_stands}
use Rattle.codestream_model.proofs.GridLemmas.{KnowsBehind, next_leaf, leaf_known, root_parent, IsGrid, first_here, alone}
use Rattle.codestream_model.proofs.NodeLemmas.{Extends, AreNodes}
use Rattle.codestream_model.proofs.PieceRuns.{PlanesRun, InclusionRun, BlockRun, SeatsRun}
use Rattle.codestream_model.proofs.RunTrees.{planes_pieces, inclusion_pieces}
use Rattle.codestream_model.proofs.RunGrids.{value_pieces, pieces_out, pieces_in}
use Rattle.codestream_model.proofs.RunTreesBack.{Agrees, IsBelowZero, NodesRise, levels_down, PlanesBack, planes_back, InclusionBack, inclusion_back}

-- a tree's labels pick these code-blocks from these positions: a position with label 0 has the next one
abbrev pub Picked : Labels → List Seat → List Block → Type 0
Picked labels [] left = left ≡ []
Picked labels (s ∷ more) left =
    ((label labels 0 s ≡ 1) × Picked labels more left)
    ⊎ ((b : Block) × (others : List Block) × (left ≡ b ∷ others) × (seat_of b ≡ s) × (label labels 0 s ≡ 0) × Picked labels more others)

-- code-blocks that have these Lblocks
abbrev pub HaveLblocks : (Seat → ℕ) → List Block → List ℕ → Type 0
HaveLblocks f [] ns = Unit {0}
HaveLblocks f (b ∷ left) [] = ⊥
HaveLblocks f (b ∷ left) (n ∷ ns) = (f (seat_of b) ≡ n) × HaveLblocks f left ns

-- code-blocks that headers can say with these Lblocks
abbrev pub CanHave : List Block → List ℕ → Type 0
CanHave [] ns = Unit {0}
CanHave (b ∷ left) [] = ⊥
CanHave (b ∷ left) (n ∷ ns) = (((1 ≤ b.passes) × (b.passes ≤ 6)) × FitLengths n b) × CanHave left ns

-- what a run of positions of a grid is
pub record SeatsRunBack (g : Grid) (later : List Seat) (inc pl : List Node) (ps : List Piece) (left : List Block) : Type 0 where
  pub inc_after : List Node
  pub pl_after : List Node
  pub inc_extends : Extends inc inc_after
  pub pl_extends : Extends pl pl_after
  pub inc_sound : AreNodes (root_level g) 1 IsBelowZero inc_after
  pub pl_rise : NodesRise (root_level g) pl_after
  pub ns : List ℕ
  pub can : CanHave left ns
  pub picked : (labels : Labels) → NeverFalls g labels → ((level : ℕ) (s : Seat) → label labels level s ≤ 1) → Agrees labels inc_after → AllByRecursion (IsSeat g) later → Picked labels later left
  pub values : (labels : Labels) → Agrees labels pl_after → AllByRecursion (λ (b : Block). label labels 0 (seat_of b) ≡ b.planes) left
  pub given : (choices : Choices) (blocks own : List Block) (earlier : List Seat) (done : List Block)
      → IsGrid g choices blocks own → seats g ≡ earlier ++ later → own ≡ done ++ left → AllByRecursion (IsSeat g) later → HaveLblocks choices.lblock left ns
      → Agrees (choices.inclusion g.band) inc_after → Agrees (choices.planes g.band) pl_after
      → KnowsBehind (root_level g) (below_zero g (choices.inclusion g.band)) (choices.inclusion g.band) earlier inc
      → KnowsBehind (root_level g) always (choices.planes g.band) (map seat_of done) pl
      → ps ≡ flat_map (seat_pieces g choices blocks) later

-- the labels of a grid's leaves are 0 or 1
leaf_small : (g : Grid) (choices : Choices) (blocks own : List Block) (s : Seat) → IsGrid g choices blocks own → IsSeat g s → label (choices.inclusion g.band) 0 s ≤ 1
leaf_small g choices blocks own s is i = elim (either (is_included blocks s)) [
  | inl t ↦ omega (arith, is.inclusion.leaves s i ∙ ap (λ (b : Bool). if b then 0 else 1) t)
  | inr t ↦ omega (arith, is.inclusion.leaves s i ∙ ap (λ (b : Bool). if b then 0 else 1) t)
]

-- a number that isn't 0
not_zero : (n : ℕ) → (n == 0) ≡ false → n ≡ 0 → ⊥
not_zero n e z = elim (eqb_tells n 0) [ inl t ↦ let c : true ≡ false = sym t.0 ∙ e in cc | inr t ↦ t.1 z ]

-- the levels below the root's parent
abbrev top : Grid → ℕ
top g = suc (root_level g)

-- a position without a code-block, and what follows it
run_out : (g : Grid) (s : Seat) (more : List Seat) (inc pl : List Node) (own rest : List Piece) (found : Walked) (left : List Block) → (found.label == 0) ≡ false
    → InclusionBack g s (top g) 0 inc own found → SeatsRunBack g more found.nodes pl rest left → SeatsRunBack g (s ∷ more) inc pl (own ++ rest) left
run_out g s more inc pl own rest found left z b r = record {
  inc_after = r.inc_after;
  pl_after = r.pl_after;
  inc_extends = λ l t v f. r.inc_extends l t v (b.extends l t v f);
  pl_extends = r.pl_extends;
  inc_sound = r.inc_sound;
  pl_rise = r.pl_rise;
  ns = r.ns;
  can = r.can;
  picked = λ labels never small agrees i.
      let leaf : found.label ≡ label labels 0 s = b.same labels never i.0 (small 0 s) (λ l t v f. agrees l t v (r.inc_extends l t v f)) (sym (root_parent g labels s)) in
      let ne : found.label ≢ 0 = not_zero found.label z in
      let most : found.label ≤ 1 = b.small in
      let one : label labels 0 s ≡ 1 = omega arith in
      inl (one, r.picked labels never small agrees i.1);
  values = r.values;
  given = λ choices blocks all earlier done is e o i ls ai ap' ki kp.
      let labels = choices.inclusion g.band in
      let ai' : Agrees labels found.nodes = λ l t v f. ai l t v (r.inc_extends l t v f) in
      let low : label labels 0 s ≤ 1 = leaf_small g choices blocks all s is i.0 in
      let leaf : found.label ≡ label labels 0 s = b.same labels is.inclusion.never_falls i.0 low ai' (sym (root_parent g labels s)) in
      let out : is_included blocks s ≡ false = elim (either (is_included blocks s)) [
        | inr t ↦ t
        | inl t ↦ absurd (not_zero found.label z (leaf ∙ (is.inclusion.leaves s i.0 ∙ ap (λ (x : Bool). if x then 0 else 1) t)))
      ] in
      let first = λ (l : ℕ). is_first l s (seats g) in
      let w = b.given labels earlier first is.inclusion.never_falls i.0 low ai' (sym (root_parent g labels s)) (first_here g earlier more s e)
      (next_leaf (root_level g) (below_zero g labels) labels earlier s inc ki) in
      let n = r.given choices blocks all (earlier ++ s ∷ []) done is (e ∙ sym (append_assoc earlier (s ∷ []) more)) o i.1 ls ai ap'
      (leaf_known (root_level g) (below_zero g labels) labels earlier s found.nodes w.1) kp in
      let here : own ≡ seat_pieces g choices blocks s = w.0 ∙ (ap (inclusion_pieces g labels s first) (sym (levels_down (root_level g))) ∙ sym (pieces_out g choices blocks s (none_stands s blocks out))) in
      ap (λ (x : List Piece). x ++ rest) here ∙ ap (λ (x : List Piece). seat_pieces g choices blocks s ++ x) n;
}

-- a position with a code-block, and what follows it
run_in : (g : Grid) (b : Block) (more : List Seat) (inc pl : List Node) (own vps bps tail : List Piece) (found value : Walked) (others : List Block) → (found.label == 0) ≡ true
    → InclusionBack g (seat_of b) (top g) 0 inc own found → PlanesBack g (seat_of b) (top g) 0 pl vps value → BlockRun (seat_of b) value.label bps b
    → SeatsRunBack g more found.nodes value.nodes tail others → SeatsRunBack g (seat_of b ∷ more) inc pl (own ++ ((vps ++ bps) ++ tail)) (b ∷ others)
run_in g b more inc pl own vps bps tail found value others z ib vb bb r =
    let s = seat_of b in
    let found_zero : found.label ≡ 0 = equal_number found.label 0 z in
    record {
      inc_after = r.inc_after;
      pl_after = r.pl_after;
      inc_extends = λ l t v f. r.inc_extends l t v (ib.extends l t v f);
      pl_extends = λ l t v f. r.pl_extends l t v (vb.extends l t v f);
      inc_sound = r.inc_sound;
      pl_rise = r.pl_rise;
      ns = bb.lblock ∷ r.ns;
      can = (((bb.some, bb.few), bb.fits), r.can);
      picked = λ labels never small agrees i.
          let leaf : found.label ≡ label labels 0 s = ib.same labels never i.0 (small 0 s) (λ l t v f. agrees l t v (r.inc_extends l t v f)) (sym (root_parent g labels s)) in
          inr (b, others, refl, refl, sym leaf ∙ found_zero, r.picked labels never small agrees i.1);
      values = λ labels agrees. (agrees 0 s value.label (r.pl_extends 0 s value.label vb.leaf) ∙ sym bb.same, r.values labels agrees);
      given = λ choices blocks all earlier done is e o i ls ai ap' ki kp.
          let labels = choices.inclusion g.band in
          let planes = choices.planes g.band in
          let ai' : Agrees labels found.nodes = λ l t v f. ai l t v (r.inc_extends l t v f) in
          let av' : Agrees planes value.nodes = λ l t v f. ap' l t v (r.pl_extends l t v f) in
          let low : label labels 0 s ≤ 1 = leaf_small g choices blocks all s is i.0 in
          let first = λ (l : ℕ). is_first l s (seats g) in
          let w = ib.given labels earlier first is.inclusion.never_falls i.0 low ai' (sym (root_parent g labels s)) (first_here g earlier more s e)
          (next_leaf (root_level g) (below_zero g labels) labels earlier s inc ki) in
          let seats_own : map seat_of all ≡ map seat_of done ++ s ∷ map seat_of others = ap (map seat_of) o ∙ map-append seat_of done (b ∷ others) in
          let d : AreDistinct (map seat_of all) = rw is.own_seats (distinct-filter (is_included blocks) (seats g) (seats_distinct g)) in
          let d' : AreDistinct (map seat_of done ++ s ∷ map seat_of others) = rw seats_own at d in
          let met = λ (l : ℕ). let m : is_first l s (map seat_of all) ≡ not (list_any (shares l s) (map seat_of done)) = rw seats_own (first_is l s (map seat_of done) (map seat_of others) d') in m in
          let meets = λ (l : ℕ). is_first l s (map seat_of all) in
          let v = vb.given planes (map seat_of done) meets av' (sym (root_parent g planes s)) met (next_leaf (root_level g) always planes (map seat_of done) s pl kp) in
          let one : filter (stands_at s) blocks ≡ b ∷ [] = alone g choices blocks all done others b is o i.0.band in
          let o' : all ≡ (done ++ b ∷ []) ++ others = o ∙ sym (append_assoc done (b ∷ []) others) in
          let kp' : KnowsBehind (root_level g) always planes (map seat_of (done ++ b ∷ [])) value.nodes = rw (map-append seat_of done (b ∷ [])) (leaf_known (root_level g) always planes (map seat_of done) s value.nodes v.1) in
          let n = r.given choices blocks all (earlier ++ s ∷ []) (done ++ b ∷ []) is (e ∙ sym (append_assoc earlier (s ∷ []) more)) o' i.1 ls.1 ai ap'
          (leaf_known (root_level g) (below_zero g labels) labels earlier s found.nodes w.1) kp' in
          let ip = map InclusionPiece (inclusion_bits g labels s) in
          let vp = value_pieces g choices all b in
          let sp = segment_pieces (choices.lblock s) b in
          let rest = flat_map (seat_pieces g choices blocks) more in
          let own_is : own ≡ ip = w.0 ∙ ap (inclusion_pieces g labels s first) (sym (levels_down (root_level g))) in
          let values_are : vps ≡ vp = v.0 ∙ ap (planes_pieces g planes s meets) (sym (levels_down (root_level g))) in
          let segments : bps ≡ sp = bb.whole ∙ ap (λ (k : ℕ). segment_pieces k b) (sym ls.0) in
          let whole : own ++ ((vps ++ bps) ++ tail) ≡ ip ++ ((vp ++ sp) ++ rest) = rw (own_is, values_are, segments, n) refl in
          whole ∙ (sym (append_assoc ip (vp ++ sp) rest) ∙ ap (λ (x : List Piece). x ++ rest) (sym (pieces_in g choices blocks all s b one is.own_blocks)));
    }

-- no positions
run_none : (g : Grid) (inc pl : List Node) → AreNodes (root_level g) 1 IsBelowZero inc → NodesRise (root_level g) pl → SeatsRunBack g [] inc pl [] []
run_none g inc pl si sp = record {
  inc_after = inc;
  pl_after = pl;
  inc_extends = λ l t v f. f;
  pl_extends = λ l t v f. f;
  inc_sound = si;
  pl_rise = sp;
  ns = [];
  can = tt;
  picked = λ labels never small agrees i. refl;
  values = λ labels agrees. tt;
  given = λ choices blocks own earlier done is e o i ls ai ap' ki kp. refl;
}

-- the positions of a grid, from some on
pub seats_run_back : (g : Grid) (later : List Seat) (inc pl : List Node) (ps : List Piece) (left : List Block) → AreNodes (root_level g) 1 IsBelowZero inc → NodesRise (root_level g) pl
    → SeatsRun (levels_from (root_level g)) later inc pl ps left → SeatsRunBack g later inc pl ps left
seats_run_back g [] inc pl ps left si sp (none, e) =
    let P : List Piece → Type 0 = λ x. SeatsRunBack g [] inc pl x left in
    let Q : List Block → Type 0 = λ x. SeatsRunBack g [] inc pl [] x in
    subst P (sym none) (subst Q (sym e) (run_none g inc pl si sp))
seats_run_back g (s ∷ more) inc pl ps left si sp (found, own, rest, whole, run, inl (z, next)) =
    let L : List ℕ → Type 0 = λ x. InclusionRun x s 0 inc own found in
    let ib = inclusion_back g s (top g) 0 inc own found (omega arith) si (λ f. inl (refl, refl)) (omega arith) (subst L (levels_down (root_level g)) run) in
    let P : List Piece → Type 0 = λ x. SeatsRunBack g (s ∷ more) inc pl x left in
    subst P (sym whole) (run_out g s more inc pl own rest found left z ib (seats_run_back g more found.nodes pl rest left ib.sound sp next))
seats_run_back g (s ∷ more) inc pl ps left si sp (found, own, rest, whole, run, inr (b, others, value, body, tail, z, e, split, here, next)) =
    let L : List ℕ → Type 0 = λ x. InclusionRun x s 0 inc own found in
    let ib = inclusion_back g s (top g) 0 inc own found (omega arith) si (λ f. inl (refl, refl)) (omega arith) (subst L (levels_down (root_level g)) run) in
    let M : List ℕ → Type 0 = λ x. PlanesRun x s 0 pl here.planes value in
    let vb = planes_back g s (top g) 0 pl here.planes value (omega arith) sp (inl (refl, refl)) (subst M (levels_down (root_level g)) here.value_run) in
    let rr = seats_run_back g more found.nodes value.nodes tail others ib.sound vb.rise next in
    let I : Seat → Type 0 = λ x. InclusionBack g x (top g) 0 inc own found in
    let V : Seat → Type 0 = λ x. PlanesBack g x (top g) 0 pl here.planes value in
    let B : Seat → Type 0 = λ x. BlockRun x value.label here.rest b in
    let S : Seat → Type 0 = λ x. SeatsRunBack g (x ∷ more) inc pl (own ++ ((here.planes ++ here.rest) ++ tail)) (b ∷ others) in
    let back : seat_of b ≡ s = here.block_run.seat in
    let made : SeatsRunBack g (s ∷ more) inc pl (own ++ ((here.planes ++ here.rest) ++ tail)) (b ∷ others) =
    subst S back (run_in g b more inc pl own here.planes here.rest tail found value others z (subst I (sym back) ib) (subst V (sym back) vb) (subst B (sym back) here.block_run) rr) in
    let P : List Piece → Type 0 = λ x. SeatsRunBack g (s ∷ more) inc pl x left in
    let Q : List Block → Type 0 = λ x. SeatsRunBack g (s ∷ more) inc pl (own ++ rest) x in
    let R : List Piece → Type 0 = λ x. SeatsRunBack g (s ∷ more) inc pl (own ++ x) (b ∷ others) in
    let T : List Piece → Type 0 = λ x. SeatsRunBack g (s ∷ more) inc pl (own ++ (x ++ tail)) (b ∷ others) in
    subst P (sym whole) (subst Q (sym e) (subst R (sym split) (subst T (sym here.whole) made)))
