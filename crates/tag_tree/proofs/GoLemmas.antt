-- A leaf's reading goes on in a further piece: the nodes that were met stay known, and the others are read of the bits that come.
use Rattle.std.proofs.Common.{◌≡◌, ◌≢◌, ◌<◌, ◌≤◌, ◌⊎◌, ◌-◌, ◌/◌, ◌^◌, ◌==◌, ◌&&◌, ◌++◌, ℕ, zero, suc, Bool, true, false, List, [], ◌∷◌, Option, Some, None, Result, Ok, Err, refl, sym, ◌∙◌, ap, subst, inl, inr, arith, append_assoc, if◌then◌else◌}
use Rattle.std.proofs.lemmas.Bool.Decides.{eqb_tells}
use Rattle.std.proofs.lemmas.List.{append-nil, append_cancel_right}
use Rattle.codestream_model.specs.StuffedBits.{packed_bits}
use Rattle.codestream_model.specs.TagTrees.{Seat, levels_from}
use Rattle.codestream_model.specs.PacketHeaderReading.{Node, Walked, Read, Got, AtEnd, Refused, and_then, read_bit, node_of, known_label, read_label, read_inclusion, read_planes}
use Rattle.stuffed_bits.specs.BitInState.{BitInState}
use Rattle.stuffed_bits.specs.BitsRead.{HasRead}
use Rattle.tag_tree.specs.TreeState.{TreeState}
use Rattle.tag_tree.specs.LeafReading.{Knows, bits_after, none_left, IsAnswer}
use Rattle.tag_tree.specs.LeafGoing.{Waits, IsFreeOrKnown}
use Rattle.tag_tree.specs.Kinds.{IsSilent, levels_reading}
use Rattle.tag_tree.specs.declared.kind.Kind.{Kind}
use Rattle.tag_tree.specs.declared.kind.Kind.TheVariants.{Inclusion, Value}
use Rattle.tag_tree.specs.declared.stop.LabelStop.{LabelStop}
use Rattle.tag_tree.specs.declared.stop.LabelStop.TheVariants.{TooGreat}
use Rattle.tag_tree.proofs.AnswerLemmas.{answered_last, known_or_not, when_known, when_below, when_met, at_leaf, planes_known, planes_met, planes_at_leaf, same_label, none_is_no_label, by_node, known_reading, silent_reading}
use Rattle.tag_tree.proofs.LocalReads.{Local, IsLocal, local_levels}

-- a node that was just met is known
known_here : (level : ℕ) (s : Seat) (v : ℕ) (nodes : List Node) → known_label level s (node_of level s v ∷ nodes) ≡ Some v
unfolding known_label
known_here level s v nodes = elim (eqb_tells level level) [
  | inr t ↦ absurd (t.1 refl)
  | inl t ↦ elim (eqb_tells (s.col / 2 ^ level) (s.col / 2 ^ level)) [
    | inr u ↦ absurd (u.1 refl)
    | inl u ↦ elim (eqb_tells (s.row / 2 ^ level) (s.row / 2 ^ level)) [ inr w ↦ absurd (w.1 refl) | inl w ↦ rw (t.0, u.0, w.0) refl ]
  ]
]

-- and of another level nothing is new
known_other : (level lv : ℕ) (s u : Seat) (v : ℕ) (nodes : List Node) → level < lv → known_label lv u (node_of level s v ∷ nodes) ≡ known_label lv u nodes
unfolding known_label
known_other level lv s u v nodes h = elim (eqb_tells lv level) [ inl t ↦ absurd (omega (arith, t.1)) | inr t ↦ rw t.0 refl ]

-- What a node's reading leaves: it is known then, so that it is no more read, and no more is known of the levels above.
pub record Left (reading : List Node → List Bool → Read Walked) (level : ℕ) (s : Seat) (nodes : List Node) (w : Walked) : Type 0 where
  pub again : (known : List Node) → known_label level s known ≡ known_label level s w.nodes → (further : List Bool) → reading known further ≡ Got (record { label = w.label; nodes = known }) further
  pub upper : (lv : ℕ) (u : Seat) → level < lv → known_label lv u w.nodes ≡ known_label lv u nodes

-- of a known node
left_known : (reading : List Node → List Bool → Read Walked) (level : ℕ) (s : Seat) (v : ℕ) (nodes : List Node) (w : Walked) → record { label = v; nodes = nodes } ≡ w
    → ((known : List Node) → known_label level s known ≡ known_label level s nodes → (further : List Bool) → reading known further ≡ Got (record { label = v; nodes = known }) further)
    → Left reading level s nodes w
left_known reading level s v nodes w e again =
    let P : Walked → Type 0 = λ x. Left reading level s nodes x in
    subst P e (record { again = again; upper = λ lv u h. refl })

-- of one that is met
left_met : (reading : List Node → List Bool → Read Walked) (level : ℕ) (s : Seat) (v : ℕ) (nodes : List Node) (w : Walked) → record { label = v; nodes = node_of level s v ∷ nodes } ≡ w
    → ((known : List Node) → known_label level s known ≡ Some v → (further : List Bool) → reading known further ≡ Got (record { label = v; nodes = known }) further)
    → Left reading level s nodes w
left_met reading level s v nodes w e again =
    let P : Walked → Type 0 = λ x. Left reading level s nodes x in
    subst P e (record { again = λ known k further. again known (k ∙ known_here level s v nodes) further; upper = λ lv u h. known_other level lv s u v nodes h })

got_of : {A : Type 0} (x y : A) (l m : List Bool) → Got x l ≡ Got y m → x ≡ y
got_of x y l m e = cc

-- a node of the inclusion tree that is met by a bit
inclusion_by_bit : (level : ℕ) (s : Seat) (nodes : List Node) (l rest : List Bool) (w : Walked)
    → and_then (read_bit l) (λ b more. read_inclusion [] s (if b then 0 else 1) (node_of level s (if b then 0 else 1) ∷ nodes) more) ≡ Got w rest
    → (v : ℕ) × (record { label = v; nodes = node_of level s v ∷ nodes } ≡ w)
inclusion_by_bit level s nodes [] rest w e = absurd (cc)
inclusion_by_bit level s nodes (b ∷ l) rest w e =
    let v = if b then 0 else 1 in
    (v, got_of (record { label = v; nodes = node_of level s v ∷ nodes }) w l rest (sym (at_leaf s v (node_of level s v ∷ nodes) l) ∙ e))

pub inclusion_left : (level : ℕ) (s : Seat) (above : ℕ) (nodes : List Node) (l rest : List Bool) (w : Walked) → read_inclusion (level ∷ []) s above nodes l ≡ Got w rest
    → Left (λ ns m. read_inclusion (level ∷ []) s above ns m) level s nodes w
inclusion_left level s above nodes l rest w e =
    let R : List Node → List Bool → Read Walked = λ ns m. read_inclusion (level ∷ []) s above ns m in
    elim (known_or_not (known_label level s nodes)) [
      | inr k ↦ left_known R level s k.0 nodes w (got_of (record { label = k.0; nodes = nodes }) w l rest (sym (when_known level [] s above k.0 nodes l k.1 ∙ at_leaf s k.0 nodes l) ∙ e))
          (λ known q further. when_known level [] s above k.0 known further (q ∙ k.1) ∙ at_leaf s k.0 known further)
      | inl k ↦ elim (eqb_tells above 0) [
        | inr z ↦ left_known R level s above nodes w (got_of (record { label = above; nodes = nodes }) w l rest (sym (when_below level [] s above nodes l k z.0 ∙ at_leaf s above nodes l) ∙ e))
            (λ known q further. when_below level [] s above known further (q ∙ k) z.0 ∙ at_leaf s above known further)
        | inl z ↦
            let b = inclusion_by_bit level s nodes l rest w (sym (when_met level [] s above nodes l k z.0) ∙ e) in
            left_met R level s b.0 nodes w b.1 (λ known q further. when_known level [] s above b.0 known further q ∙ at_leaf s b.0 known further)
      ]
    ]

-- a node of the value tree whose label is read
planes_by_label : (level : ℕ) (s : Seat) (nodes : List Node) (r : Read ℕ) (rest : List Bool) (w : Walked)
    → and_then r (λ value more. read_planes [] s value (node_of level s value ∷ nodes) more) ≡ Got w rest
    → (v : ℕ) × (record { label = v; nodes = node_of level s v ∷ nodes } ≡ w)
planes_by_label level s nodes (Got v l) rest w e = (v, got_of (record { label = v; nodes = node_of level s v ∷ nodes }) w l rest (sym (planes_at_leaf s v (node_of level s v ∷ nodes) l) ∙ e))
planes_by_label level s nodes AtEnd rest w e = absurd (cc)
planes_by_label level s nodes (Refused why) rest w e = absurd (cc)

pub planes_left : (level : ℕ) (s : Seat) (above : ℕ) (nodes : List Node) (l rest : List Bool) (w : Walked) → read_planes (level ∷ []) s above nodes l ≡ Got w rest
    → Left (λ ns m. read_planes (level ∷ []) s above ns m) level s nodes w
planes_left level s above nodes l rest w e =
    let R : List Node → List Bool → Read Walked = λ ns m. read_planes (level ∷ []) s above ns m in
    elim (known_or_not (known_label level s nodes)) [
      | inr k ↦ left_known R level s k.0 nodes w (got_of (record { label = k.0; nodes = nodes }) w l rest (sym (planes_known level [] s above k.0 nodes l k.1 ∙ planes_at_leaf s k.0 nodes l) ∙ e))
          (λ known q further. planes_known level [] s above k.0 known further (q ∙ k.1) ∙ planes_at_leaf s k.0 known further)
      | inl k ↦
          let b = planes_by_label level s nodes (read_label above l) rest w (sym (planes_met level [] s above nodes l k) ∙ e) in
          left_met R level s b.0 nodes w b.1 (λ known q further. planes_known level [] s above b.0 known further q ∙ planes_at_leaf s b.0 known further)
    ]

-- a reading that waits at its first node
pub waits_here : (reading : List Node → List Bool → Read Walked) (from : ℕ) (nodes : List Node) (done : List Bool) (taken : List ℕ) (t : TreeState) (h : BitInState) → Knows t nodes → HasRead done taken h
    → Waits reading from nodes done taken t h
waits_here reading from nodes done taken t h k r =
    let P : List Bool → Type 0 = λ l. HasRead l taken h in
    record { known = nodes; more = []; knows = k; read = subst P (sym (append-nil done)) r; upper = λ level s u. refl; goes_on = λ further. refl }

-- the readings of a path and of its first node
pub record IsPath (whole node below : ℕ → List Node → List Bool → Read Walked) (level : ℕ) (s : Seat) (above : ℕ) : Type 0 where
  pub by_node : (ns : List Node) (l : List Bool) → whole above ns l ≡ and_then (node above ns l) (λ w rest. below w.label w.nodes rest)
  pub local : (ns : List Node) → IsLocal (node above ns)
  pub left : (ns : List Node) (l rest : List Bool) (w : Walked) → node above ns l ≡ Got w rest → Left (node above) level s ns w

-- a reading that waits in its first node
waits_first : (whole node below : ℕ → List Node → List Bool → Read Walked) (level : ℕ) (s : Seat) (above : ℕ) → IsPath whole node below level s above
    → (nodes : List Node) (done : List Bool) (after : List ℕ) (u : TreeState) (k : BitInState) → Waits (node above) level nodes done after u k → Waits (whole above) level nodes done after u k
waits_first whole node below level s above path nodes done after u k b =
    let next : Walked → List Bool → Read Walked = λ x l. below x.label x.nodes l in
    record {
      known = b.known;
      more = b.more;
      knows = b.knows;
      read = b.read;
      upper = b.upper;
      goes_on = λ further. path.by_node nodes (b.more ++ further) ∙ (ap (λ (r : Read Walked). and_then r next) (b.goes_on further) ∙ sym (path.by_node b.known further));
    }

-- the path of a tree of either kind
levels_left : (kind : Kind) (level : ℕ) (s : Seat) (above : ℕ) (nodes : List Node) (l rest : List Bool) (w : Walked) → levels_reading kind (level ∷ []) above s nodes l ≡ Got w rest
    → Left (λ ns m. levels_reading kind (level ∷ []) above s ns m) level s nodes w
levels_left Inclusion level s above nodes l rest w e = inclusion_left level s above nodes l rest w e
levels_left Value level s above nodes l rest w e = planes_left level s above nodes l rest w e

pub path_of : (kind : Kind) (level : ℕ) (levels : List ℕ) (s : Seat) (above : ℕ)
    → IsPath (λ a ns l. levels_reading kind (level ∷ levels) a s ns l) (λ a ns l. levels_reading kind (level ∷ []) a s ns l) (λ a ns l. levels_reading kind levels a s ns l) level s above
path_of kind level levels s above = record {
  by_node = λ ns l. by_node kind level levels s above ns l;
  local = λ ns. local_levels kind (level ∷ []) s above ns;
  left = λ ns l rest w f. levels_left kind level s above ns l rest w f;
}

-- a node's answer, and then a reading below it that waits
waits_by : (whole node below : ℕ → List Node → List Bool → Read Walked) (level : ℕ) (s : Seat) (above : ℕ) → IsPath whole node below level s above → level ≢ 0
    → (nodes : List Node) (done : List Bool) (all taken after : List ℕ) (t u : TreeState) (h k : BitInState) (one : Result ℕ LabelStop) (label : ℕ) (first : Read Walked) → node above nodes (bits_after done all) ≡ first
    → IsAnswer done all taken t h one first → one ≡ Ok label
    → ((w : Walked) (more : List Bool) → w.label ≡ label → Knows t w.nodes → HasRead (done ++ more) taken h → Waits (below w.label) (level - 1) w.nodes (done ++ more) after u k)
    → Waits (whole above) level nodes done after u k
waits_by whole node below level s above path some nodes done all taken after t u h k one label (Got w rest) f a e on =
    let mine : Local (node above nodes) (bits_after done all) w rest = path.local nodes (bits_after done all) w rest f in
    let more = a.2.0 in
    let same : mine.more ≡ more = append_cancel_right mine.more more rest (sym mine.front ∙ a.2.1) in
    let left : Left (node above) level s nodes w = path.left nodes (bits_after done all) rest w f in
    let b : Waits (below w.label) (level - 1) w.nodes (done ++ more) after u k = on w more (same_label w.label label (sym a.0 ∙ e)) a.1 a.2.2 in
    let here : known_label level s b.known ≡ known_label level s w.nodes = b.upper level s (omega arith) in
    let P : List Bool → Type 0 = λ l. HasRead l after k in
    record {
      known = b.known;
      more = more ++ b.more;
      knows = b.knows;
      read = subst P (append_assoc done more b.more) b.read;
      upper = λ lv v g. b.upper lv v (omega arith) ∙ left.upper lv v g;
      goes_on = λ further.
          let next : Walked → List Bool → Read Walked = λ x l. below x.label x.nodes l in
          let got : node above nodes (more ++ (b.more ++ further)) ≡ Got w (b.more ++ further) = ap (λ (l : List Bool). node above nodes (l ++ (b.more ++ further))) (sym same) ∙ mine.any (b.more ++ further) in
          ap (whole above nodes) (append_assoc more b.more further)
          ∙ (path.by_node nodes (more ++ (b.more ++ further))
          ∙ (ap (λ (r : Read Walked). and_then r next) got
          ∙ (b.goes_on further
          ∙ (sym (ap (λ (r : Read Walked). and_then r next) (left.again b.known here further)) ∙ sym (path.by_node b.known further)))));
    }
waits_by whole node below level s above path some nodes done all taken after t u h k one label AtEnd f a e on = absurd (none_is_no_label (packed_bits all).broken_at label (sym e ∙ a))
waits_by whole node below level s above path some nodes done all taken after t u h k one label (Refused why) f a e on = absurd (cc)

pub waits_on : (whole node below : ℕ → List Node → List Bool → Read Walked) (level : ℕ) (s : Seat) (above : ℕ) → IsPath whole node below level s above → level ≢ 0
    → (nodes : List Node) (done : List Bool) (all taken after : List ℕ) (t u : TreeState) (h k : BitInState) (one : Result ℕ LabelStop) (label : ℕ)
    → IsAnswer done all taken t h one (node above nodes (bits_after done all)) → one ≡ Ok label
    → ((w : Walked) (more : List Bool) → w.label ≡ label → Knows t w.nodes → HasRead (done ++ more) taken h → Waits (below w.label) (level - 1) w.nodes (done ++ more) after u k)
    → Waits (whole above) level nodes done after u k
waits_on whole node below level s above path some nodes done all taken after t u h k one label a e on =
    waits_by whole node below level s above path some nodes done all taken after t u h k one label (node above nodes (bits_after done all)) refl a e on

-- after two labels, one below the other
pub free_on : (kind : Kind) (level : ℕ) (levels : List ℕ) (above col row label v : ℕ) (t u w : TreeState) (h i j : BitInState)
    → IsFreeOrKnown (λ s ns l. levels_reading kind (level ∷ []) above s ns l) col row label t u h i → IsFreeOrKnown (λ s ns l. levels_reading kind levels label s ns l) col row v u w i j
    → IsFreeOrKnown (λ s ns l. levels_reading kind (level ∷ levels) above s ns l) col row v t w h j
free_on kind level levels above col row label v t u w h i j a b = elim b [
  | inl f ↦ inl f
  | inr q ↦ elim a [
    | inl f ↦ inl (q.1 ∙ f)
    | inr p ↦ inr (
      q.0 ∙ p.0,
      q.1 ∙ p.1,
      λ band nodes l k.
          let s : Seat = record { band = band; col = col; row = row } in
          let next : Walked → List Bool → Read Walked = λ x m. levels_reading kind levels x.label s x.nodes m in
          let P : TreeState → Type 0 = λ g. Knows g nodes in
          by_node kind level levels s above nodes l ∙ (ap (λ (r : Read Walked). and_then r next) (p.2 band nodes l k) ∙ q.2 band nodes l (subst P (sym p.0) k)),
    )
  ]
]

-- a node that is known
pub known_free : (kind : Kind) (level above col row v : ℕ) (t : TreeState) (h : BitInState)
    → ((band : ℕ) (nodes : List Node) → Knows t nodes → known_label level (record { band = band; col = col; row = row }) nodes ≡ Some v)
    → IsFreeOrKnown (λ s ns l. levels_reading kind (level ∷ []) above s ns l) col row v t t h h
known_free kind level above col row v t h known = inr (refl, refl, λ band nodes l k. known_reading kind level above v (record { band = band; col = col; row = row }) nodes l (known band nodes k))

-- a silent node
pub silent_free : (kind : Kind) (level above col row : ℕ) (t : TreeState) (h : BitInState) → IsSilent kind above
    → ((band : ℕ) (nodes : List Node) → Knows t nodes → known_label level (record { band = band; col = col; row = row }) nodes ≡ None)
    → IsFreeOrKnown (λ s ns l. levels_reading kind (level ∷ []) above s ns l) col row above t t h h
silent_free kind level above col row t h silent unknown = inr (refl, refl, λ band nodes l k. silent_reading kind level above (record { band = band; col = col; row = row }) nodes l (unknown band nodes k) silent)

-- the label that was read of a leaf is what was answered
pub same_freed : (reading : Seat → List Node → List Bool → Read Walked) (col row v w : ℕ) (t u : TreeState) (h i : BitInState) → ◌≡◌ {A = Result ℕ LabelStop} (Ok v) (Ok w) → IsFreeOrKnown reading col row v t u h i → IsFreeOrKnown reading col row w t u h i
same_freed reading col row v w t u h i e f = let P : ℕ → Type 0 = λ n. IsFreeOrKnown reading col row n t u h i in subst P (same_label v w e) f

-- the levels of a path are those of its first node and those below it, if there are any
levels_split : (level : ℕ) → (levels : List ℕ) × (levels_from level ≡ level ∷ levels)
unfolding levels_from
levels_split zero = ([], refl)
levels_split (suc level) = (levels_from level, refl)

-- a path that stops at its first node
pub path_stopped : (kind : Kind) (level above : ℕ) (s : Seat) (nodes : List Node) (done : List Bool) (all taken : List ℕ) (t : TreeState) (h : BitInState) (stopped : LabelStop)
    → IsAnswer done all taken t h (Err stopped) (levels_reading kind (level ∷ []) above s nodes (bits_after done all))
    → IsAnswer done all taken t h (Err stopped) (levels_reading kind (levels_from level) above s nodes (bits_after done all))
path_stopped kind level above s nodes done all taken t h stopped a =
    let split = levels_split level in
    let next : Walked → List Bool → Read Walked = λ w rest. levels_reading kind split.0 w.label s w.nodes rest in
    let first = levels_reading kind (level ∷ []) above s nodes (bits_after done all) in
    let whole : levels_reading kind (levels_from level) above s nodes (bits_after done all) ≡ and_then first next =
    ap (λ (ls : List ℕ). levels_reading kind ls above s nodes (bits_after done all)) split.1 ∙ by_node kind level split.0 s above nodes (bits_after done all) in
    let P : Read Walked → Type 0 = λ x. IsAnswer done all taken t h (Err stopped) x in
    subst P (sym whole) (answered_last first next done all taken t h (Err stopped) a (λ v e. absurd (cc)))

-- a path that waits at its first node
pub path_waits_first : (kind : Kind) (level above : ℕ) (s : Seat) (nodes : List Node) (done : List Bool) (taken : List ℕ) (t : TreeState) (h : BitInState)
    → Waits (λ ns l. levels_reading kind (level ∷ []) above s ns l) level nodes done taken t h → Waits (λ ns l. levels_reading kind (levels_from level) above s ns l) level nodes done taken t h
path_waits_first kind level above s nodes done taken t h b =
    let split = levels_split level in
    let P : List ℕ → Type 0 = λ ls. Waits (λ ns l. levels_reading kind ls above s ns l) level nodes done taken t h in
    subst P (sym split.1)
    (waits_first (λ a ns l. levels_reading kind (level ∷ split.0) a s ns l) (λ a ns l. levels_reading kind (level ∷ []) a s ns l) (λ a ns l. levels_reading kind split.0 a s ns l) level s above (path_of kind level split.0 s above) nodes done taken t h b)
