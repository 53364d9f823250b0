-- Answers, one after another: what is read down a path is read node by node.
use Rattle.std.proofs.Common.{◌≡◌, ◌≢◌, ◌⊎◌, ◌-◌, ◌==◌, ℕ, zero, suc, Bool, true, false, List, [], ◌∷◌, ◌++◌, length, drop, Option, Some, None, Result, Ok, Err, refl, sym, ◌∙◌, ap, subst, inl, inr, arith, append_assoc, if◌then◌else◌}
use Rattle.std.specs.List.{slice_range}
use Rattle.std.proofs.lemmas.Bool.Decides.{eqb_tells}
use Rattle.std.proofs.lemmas.List.{append-nil, length-append, drop_at, drop-drop}
use Rattle.codestream_model.specs.StuffedBits.{packed_bits}
use Rattle.codestream_model.specs.TagTrees.{Seat, levels_from}
use Rattle.codestream_model.specs.PacketHeaderReading.{Node, Walked, Read, Got, AtEnd, Refused, and_then, read_bit, node_of, known_label, read_label, read_inclusion, read_planes}
use Rattle.stuffed_bits.specs.BitInState.{BitInState}
use Rattle.stuffed_bits.specs.BitsRead.{HasRead, answer_by, given}
use Rattle.stuffed_bits.specs.declared.stop.Stop.{Stop}
use Rattle.stuffed_bits.proofs.ReadLemmas.{range_none}
use Rattle.stuffed_bits.proofs.PartAnswers.{stopped_at}
use Rattle.tag_tree.specs.TreeState.{TreeState}
use Rattle.tag_tree.specs.LeafReading.{Knows, bits_after, none_left, IsAnswer, IsLabel}
use Rattle.tag_tree.specs.LabelStops.{label_stop}
use Rattle.tag_tree.specs.Kinds.{IsSilent, label_reading, levels_reading}
use Rattle.tag_tree.specs.declared.kind.Kind.{Kind}
use Rattle.tag_tree.specs.declared.kind.Kind.TheVariants.{Inclusion, Value}
use Rattle.tag_tree.specs.declared.stop.LabelStop.{LabelStop}
use Rattle.tag_tree.specs.declared.stop.LabelStop.TheVariants.{TooGreat}

-- the bits after further ones
behind_more : (done more rest : List Bool) (all : List ℕ) → bits_after done all ≡ more ++ rest → bits_after (done ++ more) all ≡ rest
behind_more done more rest all e =
    let bits = (packed_bits all).bits in
    ap (λ (n : ℕ). drop n bits) (length-append done more)
    ∙ (sym (drop-drop (length more) (length done) bits) ∙ (ap (drop (length more)) e ∙ drop_at more rest (length more) refl))

-- an answer after further bits is one after the first
widened : (done more : List Bool) (all taken : List ℕ) (t : TreeState) (h : BitInState) (out : Result ℕ LabelStop) (r : Read Walked) → bits_after done all ≡ more ++ bits_after (done ++ more) all
    → IsAnswer (done ++ more) all taken t h out r → IsAnswer done all taken t h out r
widened done more all taken t h out (Got w rest) e a =
    let P : List Bool → Type 0 = λ l. HasRead l taken h in
    (a.0, a.1, (more ++ a.2.0, e ∙ (ap (λ (l : List Bool). more ++ l) a.2.1 ∙ sym (append_assoc more a.2.0 rest)), subst P (append_assoc done more a.2.0) a.2.2))
widened done more all taken t h out AtEnd e a = a
widened done more all taken t h out (Refused why) e a = a

-- no label is answered where no bit is left
pub none_is_no_label : (o : Option ℕ) (v : ℕ) → Ok v ≡ none_left o → ⊥
none_is_no_label o v e = cc

pub same_label : (u v : ℕ) → ◌≡◌ {A = Result ℕ LabelStop} (Ok u) (Ok v) → u ≡ v
same_label u v e = cc

-- a node's answer, and then that of the nodes below it
pub answered_on : (first : Read Walked) (next : Walked → List Bool → Read Walked) (done : List Bool) (all taken after : List ℕ) (t u : TreeState) (h k : BitInState) (one two : Result ℕ LabelStop) (label : ℕ)
    → IsAnswer done all taken t h one first → one ≡ Ok label
    → ((w : Walked) (more : List Bool) → w.label ≡ label → Knows t w.nodes → HasRead (done ++ more) taken h → IsAnswer (done ++ more) all after u k two (next w (bits_after (done ++ more) all)))
    → IsAnswer done all after u k two (and_then first next)
answered_on (Got w rest) next done all taken after t u h k one two label a e on =
    let more = a.2.0 in
    let left : bits_after (done ++ more) all ≡ rest = behind_more done more rest all a.2.1 in
    let b : IsAnswer (done ++ more) all after u k two (next w (bits_after (done ++ more) all)) = on w more (same_label w.label label (sym a.0 ∙ e)) a.1 a.2.2 in
    let P : List Bool → Type 0 = λ l. IsAnswer (done ++ more) all after u k two (next w l) in
    widened done more all after u k two (next w rest) (a.2.1 ∙ ap (λ (l : List Bool). more ++ l) (sym left)) (subst P left b)
answered_on AtEnd next done all taken after t u h k one two label a e on = absurd (none_is_no_label (packed_bits all).broken_at label (sym e ∙ a))
answered_on (Refused why) next done all taken after t u h k one two label a e on = absurd (let c : Err TooGreat ≡ Ok label = sym a ∙ e in cc)

-- an answer that is no label ends the path
pub answered_last : (first : Read Walked) (next : Walked → List Bool → Read Walked) (done : List Bool) (all taken : List ℕ) (t : TreeState) (h : BitInState) (out : Result ℕ LabelStop)
    → IsAnswer done all taken t h out first → ((v : ℕ) → out ≡ Ok v → ⊥) → IsAnswer done all taken t h out (and_then first next)
answered_last (Got w rest) next done all taken t h out a none = absurd (none w.label a.0)
answered_last AtEnd next done all taken t h out a none = a
answered_last (Refused why) next done all taken t h out a none = a

-- a label that is known, or not
pub known_or_not : (o : Option ℕ) → (o ≡ None) ⊎ ((v : ℕ) × (o ≡ Some v))
known_or_not None = inl refl
known_or_not (Some v) = inr (v, refl)

-- a path whose first node is known, lies below one that isn't 0, or is met by a bit
pub when_known : (level : ℕ) (levels : List ℕ) (s : Seat) (above v : ℕ) (nodes : List Node) (l : List Bool) → known_label level s nodes ≡ Some v → read_inclusion (level ∷ levels) s above nodes l ≡ read_inclusion levels s v nodes l
unfolding read_inclusion
when_known level levels s above v nodes l e = rw (e, read_inclusion) refl

pub when_below : (level : ℕ) (levels : List ℕ) (s : Seat) (above : ℕ) (nodes : List Node) (l : List Bool) → known_label level s nodes ≡ None → (above == 0) ≡ false → read_inclusion (level ∷ levels) s above nodes l ≡ read_inclusion levels s above nodes l
unfolding read_inclusion
when_below level levels s above nodes l e z = rw (e, z, read_inclusion) refl

pub when_met : (level : ℕ) (levels : List ℕ) (s : Seat) (above : ℕ) (nodes : List Node) (l : List Bool) → known_label level s nodes ≡ None → (above == 0) ≡ true
    → read_inclusion (level ∷ levels) s above nodes l ≡ and_then (read_bit l) (λ b more. read_inclusion levels s (if b then 0 else 1) (node_of level s (if b then 0 else 1) ∷ nodes) more)
unfolding read_inclusion
when_met level levels s above nodes l e z = rw (e, z, read_inclusion) refl

-- no path
pub at_leaf : (s : Seat) (above : ℕ) (nodes : List Node) (l : List Bool) → read_inclusion [] s above nodes l ≡ Got (record { label = above; nodes = nodes }) l
unfolding read_inclusion
at_leaf s above nodes l = refl

-- a node that isn't known is read from the first bit
inclusion_by_bit : (level : ℕ) (levels : List ℕ) (s : Seat) (nodes : List Node) (l : List Bool)
    → and_then (read_bit l) (λ b more. read_inclusion levels s (if b then 0 else 1) (node_of level s (if b then 0 else 1) ∷ nodes) more)
    ≡ and_then (and_then (read_bit l) (λ b more. read_inclusion [] s (if b then 0 else 1) (node_of level s (if b then 0 else 1) ∷ nodes) more)) (λ w rest. read_inclusion levels s w.label w.nodes rest)
unfolding read_inclusion
inclusion_by_bit level levels s nodes [] = refl
inclusion_by_bit level levels s nodes (b ∷ l) = refl

-- a path is read node by node
pub inclusion_by_node : (level : ℕ) (levels : List ℕ) (s : Seat) (above : ℕ) (nodes : List Node) (l : List Bool)
    → read_inclusion (level ∷ levels) s above nodes l ≡ and_then (read_inclusion (level ∷ []) s above nodes l) (λ w rest. read_inclusion levels s w.label w.nodes rest)
inclusion_by_node level levels s above nodes l =
    let next : Walked → List Bool → Read Walked = λ w rest. read_inclusion levels s w.label w.nodes rest in
    elim (known_or_not (known_label level s nodes)) [
      | inr k ↦ when_known level levels s above k.0 nodes l k.1 ∙ ap (λ (r : Read Walked). and_then r next) (sym (when_known level [] s above k.0 nodes l k.1 ∙ at_leaf s k.0 nodes l))
      | inl k ↦ elim (eqb_tells above 0) [
        | inr z ↦ when_below level levels s above nodes l k z.0 ∙ ap (λ (r : Read Walked). and_then r next) (sym (when_below level [] s above nodes l k z.0 ∙ at_leaf s above nodes l))
        | inl z ↦ when_met level levels s above nodes l k z.0 ∙ (inclusion_by_bit level levels s nodes l ∙ ap (λ (r : Read Walked). and_then r next) (sym (when_met level [] s above nodes l k z.0)))
      ]
    ]

-- an answer without a bit
pub answered_at_once : (v : ℕ) (nodes : List Node) (done : List Bool) (all taken : List ℕ) (t : TreeState) (h : BitInState) → Knows t nodes → HasRead done taken h
    → IsAnswer done all taken t h (Ok v) (Got (record { label = v; nodes = nodes }) (bits_after done all))
answered_at_once v nodes done all taken t h k r =
    let P : List Bool → Type 0 = λ l. HasRead l taken h in
    (refl, k, ([], refl, subst P (sym (append-nil done)) r))

-- no bytes of a piece
pub no_range : (bytes piece : List ℕ) (at : ℕ) → bytes ≡ bytes ++ slice_range piece at at
no_range bytes piece at = sym (append-nil bytes) ∙ ap (λ (l : List ℕ). bytes ++ l) (sym (range_none piece at))

-- the levels of a path
pub leaf_levels : (level : ℕ) → level ≡ 0 → levels_from level ≡ level ∷ []
unfolding levels_from
leaf_levels level e = rw e refl

pub lower_levels : (level : ℕ) → level ≢ 0 → levels_from level ≡ level ∷ levels_from (level - 1)
unfolding levels_from
lower_levels zero h = absurd (h refl)
lower_levels (suc level) h = let e : suc level - 1 ≡ level = omega arith in rw e refl

-- a path of the value tree whose first node is known, or is met
pub planes_known : (level : ℕ) (levels : List ℕ) (s : Seat) (above v : ℕ) (nodes : List Node) (l : List Bool) → known_label level s nodes ≡ Some v → read_planes (level ∷ levels) s above nodes l ≡ read_planes levels s v nodes l
unfolding read_planes
planes_known level levels s above v nodes l e = rw (e, read_planes) refl

pub planes_met : (level : ℕ) (levels : List ℕ) (s : Seat) (above : ℕ) (nodes : List Node) (l : List Bool) → known_label level s nodes ≡ None
    → read_planes (level ∷ levels) s above nodes l ≡ and_then (read_label above l) (λ value more. read_planes levels s value (node_of level s value ∷ nodes) more)
unfolding read_planes
planes_met level levels s above nodes l e = rw (e, read_planes) refl

pub planes_at_leaf : (s : Seat) (above : ℕ) (nodes : List Node) (l : List Bool) → read_planes [] s above nodes l ≡ Got (record { label = above; nodes = nodes }) l
unfolding read_planes
planes_at_leaf s above nodes l = refl

planes_by_label : (level : ℕ) (levels : List ℕ) (s : Seat) (nodes : List Node) (r : Read ℕ)
    → and_then r (λ value more. read_planes levels s value (node_of level s value ∷ nodes) more)
    ≡ and_then (and_then r (λ value more. read_planes [] s value (node_of level s value ∷ nodes) more)) (λ w rest. read_planes levels s w.label w.nodes rest)
unfolding read_planes
planes_by_label level levels s nodes (Got v l) = refl
planes_by_label level levels s nodes AtEnd = refl
planes_by_label level levels s nodes (Refused why) = refl

pub planes_by_node : (level : ℕ) (levels : List ℕ) (s : Seat) (above : ℕ) (nodes : List Node) (l : List Bool)
    → read_planes (level ∷ levels) s above nodes l ≡ and_then (read_planes (level ∷ []) s above nodes l) (λ w rest. read_planes levels s w.label w.nodes rest)
planes_by_node level levels s above nodes l =
    let next : Walked → List Bool → Read Walked = λ w rest. read_planes levels s w.label w.nodes rest in
    elim (known_or_not (known_label level s nodes)) [
      | inr k ↦ planes_known level levels s above k.0 nodes l k.1 ∙ ap (λ (r : Read Walked). and_then r next) (sym (planes_known level [] s above k.0 nodes l k.1 ∙ planes_at_leaf s k.0 nodes l))
      | inl k ↦ planes_met level levels s above nodes l k ∙ (planes_by_label level levels s nodes (read_label above l) ∙ ap (λ (r : Read Walked). and_then r next) (sym (planes_met level [] s above nodes l k)))
    ]

-- A path of a tree of either kind is read node by node.
pub by_node : (kind : Kind) (level : ℕ) (levels : List ℕ) (s : Seat) (above : ℕ) (nodes : List Node) (l : List Bool)
    → levels_reading kind (level ∷ levels) above s nodes l ≡ and_then (levels_reading kind (level ∷ []) above s nodes l) (λ w rest. levels_reading kind levels w.label s w.nodes rest)
by_node Inclusion level levels s above nodes l = inclusion_by_node level levels s above nodes l
by_node Value level levels s above nodes l = planes_by_node level levels s above nodes l

-- The label of a node that is known is that label.
pub known_reading : (kind : Kind) (level above v : ℕ) (s : Seat) (nodes : List Node) (l : List Bool) → known_label level s nodes ≡ Some v
    → levels_reading kind (level ∷ []) above s nodes l ≡ Got (record { label = v; nodes = nodes }) l
known_reading Inclusion level above v s nodes l e = when_known level [] s above v nodes l e ∙ at_leaf s v nodes l
known_reading Value level above v s nodes l e = planes_known level [] s above v nodes l e ∙ planes_at_leaf s v nodes l

-- The label of a silent node is that of the node above it.
pub silent_reading : (kind : Kind) (level above : ℕ) (s : Seat) (nodes : List Node) (l : List Bool) → known_label level s nodes ≡ None → IsSilent kind above
    → levels_reading kind (level ∷ []) above s nodes l ≡ Got (record { label = above; nodes = nodes }) l
silent_reading Inclusion level above s nodes l e silent = elim (eqb_tells above 0) [
  | inl z ↦ absurd (silent z.1)
  | inr z ↦ when_below level [] s above nodes l e z.0 ∙ at_leaf s above nodes l
]
silent_reading Value level above s nodes l e silent = absurd silent

-- A node of an inclusion tree that is met by a bit.
met_by_bit : (level : ℕ) (s : Seat) (nodes : List Node) (l : List Bool)
    → and_then (read_bit l) (λ b more. read_inclusion [] s (if b then 0 else 1) (node_of level s (if b then 0 else 1) ∷ nodes) more)
    ≡ and_then (and_then (read_bit l) (λ b more. Got (if b then 0 else 1) more)) (λ v more. Got (record { label = v; nodes = node_of level s v ∷ nodes }) more)
unfolding read_inclusion
met_by_bit level s nodes [] = refl
met_by_bit level s nodes (b ∷ l) = refl

-- A node of a value tree that is met by a label.
met_by_label : (level : ℕ) (s : Seat) (nodes : List Node) (r : Read ℕ)
    → and_then r (λ value more. read_planes [] s value (node_of level s value ∷ nodes) more) ≡ and_then r (λ v more. Got (record { label = v; nodes = node_of level s v ∷ nodes }) more)
unfolding read_planes
met_by_label level s nodes (Got v l) = refl
met_by_label level s nodes AtEnd = refl
met_by_label level s nodes (Refused why) = refl

-- The label of any other node is read of the next bits, and the node is known then.
pub met_reading : (kind : Kind) (level above : ℕ) (s : Seat) (nodes : List Node) (l : List Bool) → known_label level s nodes ≡ None → (IsSilent kind above → ⊥)
    → levels_reading kind (level ∷ []) above s nodes l ≡ and_then (label_reading kind above l) (λ v more. Got (record { label = v; nodes = node_of level s v ∷ nodes }) more)
met_reading Inclusion level above s nodes l e some = elim (eqb_tells above 0) [
  | inl z ↦ when_met level [] s above nodes l e z.0 ∙ met_by_bit level s nodes l
  | inr z ↦ absurd (some z.1)
]
met_reading Value level above s nodes l e some = planes_met level [] s above nodes l e ∙ met_by_label level s nodes (read_label above l)

-- The answer to a node that is known.
pub node_known : (kind : Kind) (level above v : ℕ) (s : Seat) (nodes : List Node) (done : List Bool) (all taken : List ℕ) (t : TreeState) (h : BitInState) → known_label level s nodes ≡ Some v → Knows t nodes → HasRead done taken h
    → IsAnswer done all taken t h (Ok v) (levels_reading kind (level ∷ []) above s nodes (bits_after done all))
node_known kind level above v s nodes done all taken t h e k r =
    let P : Read Walked → Type 0 = λ x. IsAnswer done all taken t h (Ok v) x in
    subst P (sym (known_reading kind level above v s nodes (bits_after done all) e)) (answered_at_once v nodes done all taken t h k r)

-- The answer to a silent node.
pub node_silent : (kind : Kind) (level above : ℕ) (s : Seat) (nodes : List Node) (done : List Bool) (all taken : List ℕ) (t : TreeState) (h : BitInState) → known_label level s nodes ≡ None → IsSilent kind above → Knows t nodes → HasRead done taken h
    → IsAnswer done all taken t h (Ok above) (levels_reading kind (level ∷ []) above s nodes (bits_after done all))
node_silent kind level above s nodes done all taken t h e silent k r =
    let P : Read Walked → Type 0 = λ x. IsAnswer done all taken t h (Ok above) x in
    subst P (sym (silent_reading kind level above s nodes (bits_after done all) e silent)) (answered_at_once above nodes done all taken t h k r)

-- A label that was read is its node's.
label_met : (level v : ℕ) (s : Seat) (nodes : List Node) (done : List Bool) (all taken : List ℕ) (t : TreeState) (h : BitInState) (r : Read ℕ) → IsLabel done all taken h (Ok v) r → Knows t (node_of level s v ∷ nodes)
    → IsAnswer done all taken t h (Ok v) (and_then r (λ value more. Got (record { label = value; nodes = node_of level s value ∷ nodes }) more))
label_met level v s nodes done all taken t h (Got w rest) a k =
    let same : v ≡ w = same_label v w a.0 in
    let P : ℕ → Type 0 = λ n. Knows t (node_of level s n ∷ nodes) in
    (a.0, subst P same k, a.1)
label_met level v s nodes done all taken t h AtEnd a k = absurd (none_is_no_label (packed_bits all).broken_at v a)
label_met level v s nodes done all taken t h (Refused why) a k = absurd (cc)

-- The answer to a node whose label was read.
pub node_met : (kind : Kind) (level above v : ℕ) (s : Seat) (nodes : List Node) (done : List Bool) (all taken : List ℕ) (t : TreeState) (h : BitInState) → known_label level s nodes ≡ None → (IsSilent kind above → ⊥)
    → IsLabel done all taken h (Ok v) (label_reading kind above (bits_after done all)) → Knows t (node_of level s v ∷ nodes)
    → IsAnswer done all taken t h (Ok v) (levels_reading kind (level ∷ []) above s nodes (bits_after done all))
node_met kind level above v s nodes done all taken t h e some a k =
    let P : Read Walked → Type 0 = λ x. IsAnswer done all taken t h (Ok v) x in
    subst P (sym (met_reading kind level above s nodes (bits_after done all) e some)) (label_met level v s nodes done all taken t h (label_reading kind above (bits_after done all)) a k)

-- A label that isn't read.
label_stopped : (level : ℕ) (s : Seat) (nodes : List Node) (done : List Bool) (all taken : List ℕ) (t : TreeState) (h : BitInState) (stopped : LabelStop) (r : Read ℕ) → IsLabel done all taken h (Err stopped) r
    → IsAnswer done all taken t h (Err stopped) (and_then r (λ value more. Got (record { label = value; nodes = node_of level s value ∷ nodes }) more))
label_stopped level s nodes done all taken t h stopped (Got w rest) a = absurd (let c : Err stopped ≡ Ok w = a.0 in cc)
label_stopped level s nodes done all taken t h stopped AtEnd a = a
label_stopped level s nodes done all taken t h stopped (Refused why) a = a

-- The answer to a node whose label isn't read.
pub node_stopped : (kind : Kind) (level above : ℕ) (s : Seat) (nodes : List Node) (done : List Bool) (all taken : List ℕ) (t : TreeState) (h : BitInState) (stopped : LabelStop) → known_label level s nodes ≡ None → (IsSilent kind above → ⊥)
    → IsLabel done all taken h (Err stopped) (label_reading kind above (bits_after done all))
    → IsAnswer done all taken t h (Err stopped) (levels_reading kind (level ∷ []) above s nodes (bits_after done all))
node_stopped kind level above s nodes done all taken t h stopped e some a =
    let P : Read Walked → Type 0 = λ x. IsAnswer done all taken t h (Err stopped) x in
    subst P (sym (met_reading kind level above s nodes (bits_after done all) e some)) (label_stopped level s nodes done all taken t h stopped (label_reading kind above (bits_after done all)) a)

-- The label that a bit gives a node of an inclusion tree.
label_of_bit : (b : Bool) (l rest : List Bool) → l ≡ b ∷ rest → label_reading Inclusion 0 l ≡ Got (if b then 0 else 1) rest
label_of_bit b l rest e = ap (label_reading Inclusion 0) e

one_for_bit : (b : Bool) (l : List Bool) (o : Option ℕ) → Ok b ≡ answer_by l o → (rest : List Bool) × (l ≡ b ∷ rest)
one_for_bit b [] o e = absurd (cc)
one_for_bit b (c ∷ l) o e = let f : b ≡ c = cc in (l, ap (λ (x : Bool). x ∷ l) (sym f))

-- The answer to a bit of an inclusion tree.
pub bit_label : (b : Bool) (v : ℕ) (done : List Bool) (all taken : List ℕ) (h : BitInState) (out : Result Bool Stop) → v ≡ (if b then 0 else 1) → out ≡ Ok b → out ≡ answer_by (bits_after done all) (packed_bits all).broken_at → HasRead (done ++ given out) taken h
    → IsLabel done all taken h (Ok v) (label_reading Inclusion 0 (bits_after done all))
bit_label b v done all taken h out e is a r =
    let one = one_for_bit b (bits_after done all) (packed_bits all).broken_at (sym is ∙ a) in
    let P : Read ℕ → Type 0 = λ x. IsLabel done all taken h (Ok v) x in
    let Q : Result Bool Stop → Type 0 = λ x. HasRead (done ++ given x) taken h in
    subst P (sym (label_of_bit b (bits_after done all) one.0 one.1)) (ap (λ (n : ℕ). Ok n) e, (b ∷ [], one.1, subst Q is r))

-- The answer to a bit that isn't there.
pub bit_stopped : (stopped : Stop) (done : List Bool) (all taken : List ℕ) (h : BitInState) → Err stopped ≡ answer_by (bits_after done all) (packed_bits all).broken_at
    → IsLabel done all taken h (Err (label_stop stopped)) (label_reading Inclusion 0 (bits_after done all))
bit_stopped stopped done all taken h a =
    let n = stopped_at (bits_after done all) (packed_bits all).broken_at stopped (sym a) in
    let P : Read ℕ → Type 0 = λ x. IsLabel done all taken h (Err (label_stop stopped)) x in
    let end : label_reading Inclusion 0 (bits_after done all) ≡ AtEnd = ap (label_reading Inclusion 0) n.0 in
    subst P (sym end) (ap (λ (x : Stop). Err (label_stop x)) n.1)
