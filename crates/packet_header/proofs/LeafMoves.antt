-- A leaf of a tag tree, read of the bits of a source.
use Rattle.std.proofs.Common.{◌≡◌, ◌≤◌, ◌⊎◌, ◌++◌, ℕ, suc, Bool, true, false, List, [], ◌∷◌, length, take, drop, nat_le, Option, Some, None, Result, Err, refl, sym, ◌∙◌, ap, subst, inl, inr}
use Rattle.std.specs.List.{slice_range}
use Rattle.std.proofs.lemmas.List.{append_cancel_right}
use Rattle.codestream_model.specs.StuffedBits.{packed_bits}
use Rattle.codestream_model.specs.TagTrees.{Seat}
use Rattle.codestream_model.specs.HeaderPieces.{HeaderRefusal, ZeroPlanes}
use Rattle.codestream_model.specs.PacketHeaderReading.{Node, Walked, Read, Got, AtEnd, Refused, and_then, unless, node_of, known_label, read_label, read_planes}
use Rattle.stuffed_bits.specs.BitsRead.{HasRead}
use Rattle.tag_tree.specs.TreeState.{TreeState}
use Rattle.tag_tree.specs.LeafReading.{IsAnswer}
use Rattle.tag_tree.specs.LeafGoing.{Waits}
use Rattle.stuffed_bits.specs.BitsRead.{stop_by}
use Rattle.stuffed_bits.specs.declared.stop.Stop.{Stop}
use Rattle.stuffed_bits.specs.declared.stop.Stop.TheVariants as bits
use Rattle.tag_tree.specs.LabelStops.{label_stop}
use Rattle.tag_tree.specs.Kinds.{levels_reading}
use Rattle.tag_tree.specs.declared.kind.Kind.{Kind}
use Rattle.tag_tree.specs.declared.kind.Kind.TheVariants.{Inclusion, Value}
use Rattle.tag_tree.specs.declared.stop.LabelStop.{LabelStop}
use Rattle.tag_tree.specs.declared.stop.LabelStop.TheVariants as label
use Rattle.tag_tree.proofs.LocalReads.{Local, IsLocal}
use Rattle.packet_header.specs.Answers.{leaf_answer, label_stop_of, stop_of}
use Rattle.packet_header.specs.Moves.{HasGiven, all_of, bits_after}
use Rattle.packet_header.specs.Leaves.{LeafMoved}
use Rattle.stuffed_bits.specs.declared.source.Source.{Source}
use Rattle.packet_header.specs.declared.refusal.HeaderStop.{HeaderStop}
use Rattle.packet_header.specs.declared.refusal.HeaderStop.TheVariants as stop
use Rattle.packet_header.specs.declared.refusal.HeaderWhy.TheVariants as why
use Rattle.packet_header.proofs.Sources.{taken_and_rest, stands_there, need_is}
use Rattle.packet_header.proofs.Moving.{left_behind}

-- what stops the bits of a label stops a header so
same_stop : (s : Stop) → label_stop_of (label_stop s) ≡ stop_of s
same_stop bits.Need = refl
same_stop bits.Stuffed = refl

-- the answer for a leaf, by what is read of the bits that are left
leaf_by : (reading : List Node → List Bool → Read Walked) (from : ℕ) (nodes : List Node) (before : List ℕ) (done : List Bool) (t : TreeState) (old new : Source) (out : Result ℕ LabelStop) (r : Read Walked) → old.at ≤ new.at → new.piece.now ≡ old.piece.now
    → (out ≡ Err label.Need → new.at ≡ length old.piece.now) → IsLocal (reading nodes) → reading nodes (bits_after done (all_of before old)) ≡ r
    → IsAnswer done (all_of before old) ((before ++ take old.at old.piece.now) ++ slice_range old.piece.now old.at new.at) t new.bits out r
    → (out ≡ Err label.Need → Waits reading from nodes done ((before ++ take old.at old.piece.now) ++ slice_range old.piece.now old.at new.at) t new.bits)
    → ((refused : HeaderRefusal) → r ≡ Refused refused → out ≡ Err label.TooGreat → refused ≡ ZeroPlanes)
    → LeafMoved reading nodes before done t old new (leaf_answer out)
leaf_by reading from nodes before done t old new out (Got w rest) onward same whole local e a waits z =
    let more = a.2.0 in
    let l = bits_after done (all_of before old) in
    let mine : Local (reading nodes) l w rest = local l w rest e in
    let own : mine.more ≡ more = append_cancel_right mine.more more rest (sym mine.front ∙ a.2.1) in
    let Q : Result ℕ HeaderStop → Type 0 = λ x. LeafMoved reading nodes before done t old new x in
    subst Q (sym (ap leaf_answer a.0)) (record {
      known = w.nodes;
      knows = a.1;
      went = record {
        more = more;
        holds = stands_there before (done ++ more) old new onward same a.2.2;
        goes_on = λ further. ap (λ (m : List Bool). reading nodes (m ++ further)) (sym own) ∙ mine.any further;
      };
    })
leaf_by reading from nodes before done t old new out AtEnd onward same whole local e a waits z =
    let broken = (packed_bits (all_of before old)).broken_at in
    let Q : Result ℕ HeaderStop → Type 0 = λ x. LeafMoved reading nodes before done t old new x in
    subst Q (sym (ap leaf_answer a ∙ ap (λ (x : HeaderStop). Err x) (same_stop (stop_by broken)))) (
      rw e refl,
      λ n.
          let needs : out ≡ Err label.Need = a ∙ ap (λ (x : Stop). Err (label_stop x)) (need_is (stop_by broken) n) in
          let w = waits needs in
          let holds : HasGiven before (done ++ w.more) new = stands_there before (done ++ w.more) old new onward same w.read in
          let left = bits_after (done ++ w.more) (all_of before new) in
          record {
            known = w.known;
            knows = w.knows;
            rests = record { whole = whole needs ∙ ap length (sym same); went = record { more = w.more; holds = holds; goes_on = w.goes_on } };
            left = left;
            unknown = sym (w.goes_on left) ∙ (sym (ap (reading nodes) (left_behind before done w.more old new same holds)) ∙ e);
          },
    )
leaf_by reading from nodes before done t old new out (Refused refused) onward same whole local e a waits z =
    let Q : Result ℕ HeaderStop → Type 0 = λ x. LeafMoved reading nodes before done t old new x in
    let planes : refused ≡ ZeroPlanes = z refused refl a in
    let read : reading nodes (bits_after done (all_of before old)) ≡ Refused ZeroPlanes = e ∙ ap Refused planes in
    subst Q (sym (ap leaf_answer a)) (rw read refl, λ n. absurd (let c : stop.Bad why.ZeroPlanes ≡ stop.Need = n in cc))

pub leaf_gets : (reading : List Node → List Bool → Read Walked) (from : ℕ) (nodes : List Node) (before : List ℕ) (done : List Bool) (t : TreeState) (old new : Source) (out : Result ℕ LabelStop) → old.at ≤ new.at → new.piece.now ≡ old.piece.now
    → (out ≡ Err label.Need → new.at ≡ length old.piece.now) → IsLocal (reading nodes)
    → ((bytes : List ℕ) → HasRead done bytes old.bits → IsAnswer done (bytes ++ drop old.at old.piece.now) (bytes ++ slice_range old.piece.now old.at new.at) t new.bits out (reading nodes (bits_after done (bytes ++ drop old.at old.piece.now))))
    → (out ≡ Err label.Need → (bytes : List ℕ) → HasRead done bytes old.bits → Waits reading from nodes done (bytes ++ slice_range old.piece.now old.at new.at) t new.bits)
    → ((l : List Bool) (refused : HeaderRefusal) → reading nodes l ≡ Refused refused → out ≡ Err label.TooGreat → refused ≡ ZeroPlanes)
    → HasGiven before done old → LeafMoved reading nodes before done t old new (leaf_answer out)
leaf_gets reading from nodes before done t old new out onward same whole local read waits z s =
    let taken = before ++ take old.at old.piece.now in
    let all = all_of before old in
    let P : List ℕ → Type 0 = λ l. IsAnswer done l (taken ++ slice_range old.piece.now old.at new.at) t new.bits out (reading nodes (bits_after done l)) in
    leaf_by reading from nodes before done t old new out (reading nodes (bits_after done all)) onward same whole local refl (subst P (taken_and_rest before old.piece.now old.at) (read taken s.read)) (λ n. waits n taken s.read) (λ refused. z (bits_after done all) refused)

-- a label is refused for its zero bit-planes alone
unless_refuses : (t : Bool) (r : Read ℕ) (why : HeaderRefusal) → unless t ZeroPlanes r ≡ Refused why → (r ≡ Refused why → why ≡ ZeroPlanes) → why ≡ ZeroPlanes
unless_refuses true r why e on = cc
unless_refuses false r why e on = on e

label_refuses : (least : ℕ) (l : List Bool) (why : HeaderRefusal) → read_label least l ≡ Refused why → why ≡ ZeroPlanes
unfolding read_label
label_refuses least [] why e = absurd (cc)
label_refuses least (true ∷ l) why e = absurd (cc)
label_refuses least (false ∷ l) why e = unless_refuses (nat_le 74 least) (read_label (suc least) l) why e (λ f. label_refuses (suc least) l why f)

-- a reading that is refused, in its first part or after it
refused_in : {A B : Type 0} (r : Read A) (next : A → List Bool → Read B) (why : HeaderRefusal) → and_then r next ≡ Refused why → (r ≡ Refused why) ⊎ ((x : A) × (rest : List Bool) × (next x rest ≡ Refused why))
refused_in (Got x rest) next why e = inr (x, rest, e)
refused_in AtEnd next why e = absurd (cc)
refused_in (Refused other) next why e = inl (let f : other ≡ why = cc in ap Refused f)

known_or_not : (o : Option ℕ) → (o ≡ None) ⊎ ((v : ℕ) × (o ≡ Some v))
known_or_not None = inl refl
known_or_not (Some v) = inr (v, refl)

-- and so is a leaf of the value tree
pub planes_refuse : (levels : List ℕ) (s : Seat) (above : ℕ) (nodes : List Node) (l : List Bool) (why : HeaderRefusal) → read_planes levels s above nodes l ≡ Refused why → why ≡ ZeroPlanes
unfolding read_planes
planes_refuse [] s above nodes l why e = absurd (cc)
planes_refuse (level ∷ levels) s above nodes l why e = elim (known_or_not (known_label level s nodes)) [
  | inr k ↦ planes_refuse levels s k.0 nodes l why (rw (k.1, read_planes) at e)
  | inl k ↦ let f : and_then (read_label above l) (λ value more. read_planes levels s value (node_of level s value ∷ nodes) more) ≡ Refused why = rw (k, read_planes) at e in
      elim (refused_in (read_label above l) (λ value more. read_planes levels s value (node_of level s value ∷ nodes) more) why f) [
        | inl g ↦ label_refuses above l why g
        | inr g ↦ planes_refuse levels s g.0 (node_of level s g.0 ∷ nodes) g.1 why g.2
      ]
]

-- a label that is too great is refused for its zero bit-planes, and no inclusion is
pub label_refuses_planes : (kind : Kind) (levels : List ℕ) (s : Seat) (nodes : List Node) (l : List Bool) (why : HeaderRefusal) (out : Result ℕ LabelStop) → (kind ≡ Inclusion → out ≡ Err label.TooGreat → ⊥) → levels_reading kind levels 0 s nodes l ≡ Refused why
    → out ≡ Err label.TooGreat → why ≡ ZeroPlanes
label_refuses_planes Inclusion levels s nodes l why out never e n = absurd (never refl n)
label_refuses_planes Value levels s nodes l why out never e n = planes_refuse levels s 0 nodes l why e
