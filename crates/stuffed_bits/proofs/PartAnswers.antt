-- A number is that of the bits that are left, in parts; where they are too few, none is answered.
use Rattle.std.proofs.Common.{◌≡◌, ◌<◌, ◌≤◌, ◌+◌, ◌-◌, ◌*◌, ◌^◌, ℕ, Bool, true, false, List, [], ◌∷◌, ◌++◌, length, drop, nat_le, Option, Ok, Err, refl, sym, ◌∙◌, ap, subst, arith, append_assoc}
use Rattle.std.specs.List.{slice_range}
use Rattle.std.proofs.lemmas.Bool.{le-leb, lt-leb}
use Rattle.std.proofs.lemmas.List.{append-nil, length-append, length-drop}
use Rattle.codestream_model.specs.StuffedBits.{number_bits, packed_bits}
use Rattle.codestream_model.proofs.BitLemmas.{number_bits-length, number_of_bits}
use Rattle.stuffed_bits.specs.BitInState.{BitInState}
use Rattle.stuffed_bits.specs.BitsRead.{HasDrawn, answer_by, answer_after, stop_by}
use Rattle.stuffed_bits.specs.NumbersRead.{number_after}
use Rattle.stuffed_bits.specs.declared.stop.Stop.{Stop}
use Rattle.stuffed_bits.proofs.ReadLemmas.{front_behind, range_none}
use Rattle.stuffed_bits.proofs.RangeLemmas.{ranges_join, range_and_rest}
use Rattle.stuffed_bits.proofs.PartLemmas.{joined_bits}

-- where a reader stops no bit is left
pub stopped_at : (l : List Bool) (o : Option ℕ) (stopped : Stop) → answer_by l o ≡ Err stopped → (l ≡ []) × (stopped ≡ stop_by o)
stopped_at [] o stopped e = (refl, cc)
stopped_at (b ∷ l) o stopped e = absurd (cc)

-- too few bits are left
too_few : (width done v : ℕ) (bits all : List Bool) → done < width → drop (length (bits ++ number_bits done v)) all ≡ [] → nat_le width (length (drop (length bits) all)) ≡ false
too_few width done v bits all few e =
    lt-leb width (length (drop (length bits) all))
    (omega (arith, ap length e, length-drop (length (bits ++ number_bits done v)) all, length-append bits (number_bits done v), number_bits-length done v, length-drop (length bits) all))

-- no number is answered where a reader stops after its first bits
pub number_stops : (width done v : ℕ) (bits : List Bool) (bytes piece : List ℕ) (at mid : ℕ) (stopped : Stop) → done < width → at ≤ mid
    → answer_after (bits ++ number_bits done v) (packed_bits ((bytes ++ slice_range piece at mid) ++ drop mid piece)) ≡ Err stopped → Err stopped ≡ number_after width bits (packed_bits (bytes ++ drop at piece))
number_stops width done v bits bytes piece at mid stopped few onward e =
    let run = packed_bits (bytes ++ drop at piece) in
    let f : answer_after (bits ++ number_bits done v) run ≡ Err stopped = ap (λ (l : List ℕ). answer_after (bits ++ number_bits done v) (packed_bits l)) (sym (range_and_rest bytes piece at mid onward)) ∙ e in
    let n = stopped_at (drop (length (bits ++ number_bits done v)) run.bits) run.broken_at stopped f in
    rw (too_few width done v bits run.bits few n.0) (ap (λ (s : Stop). Err s) n.1)

-- a number whose bits were all read
pub number_is : (width v : ℕ) (bits : List Bool) (bytes piece : List ℕ) (at end : ℕ) (h : BitInState) → v < 2 ^ width → at ≤ end
    → HasDrawn (bits ++ number_bits width v) (bytes ++ slice_range piece at end) h → Ok v ≡ number_after width bits (packed_bits (bytes ++ drop at piece))
number_is width v bits bytes piece at end h small onward r =
    let t = front_behind bits (number_bits width v) bytes piece at end h onward r in
    let bits_after : drop (length bits) (packed_bits (bytes ++ drop at piece)).bits ≡ number_bits width v ++ t.0 = t.1 in
    let long : nat_le width (length (number_bits width v ++ t.0)) ≡ true = le-leb width (length (number_bits width v ++ t.0)) (omega (arith, length-append (number_bits width v) t.0, number_bits-length width v)) in
    rw (bits_after, long) (ap (λ (n : ℕ). Ok n) (sym (number_of_bits width v small t.0)))

-- before the first part
pub none_done : (width v : ℕ) (bits : List Bool) (bytes piece : List ℕ) (at : ℕ) (h : BitInState) → HasDrawn bits bytes h → HasDrawn (bits ++ number_bits (width - width) v) (bytes ++ slice_range piece at at) h
unfolding number_bits
none_done width v bits bytes piece at h r =
    let z : width - width ≡ 0 = omega arith in
    let none : bytes ++ slice_range piece at at ≡ bytes = ap (λ (l : List ℕ). bytes ++ l) (range_none piece at) ∙ append-nil bytes in
    rw (z, none, append-nil bits) r

-- further bits were read, of a further part of the piece
pub joins_on : (bits some more : List Bool) (bytes piece : List ℕ) (at mid end : ℕ) (h : BitInState) → at ≤ mid → mid ≤ end
    → HasDrawn ((bits ++ some) ++ more) ((bytes ++ slice_range piece at mid) ++ slice_range piece mid end) h → HasDrawn (bits ++ (some ++ more)) (bytes ++ slice_range piece at end) h
joins_on bits some more bytes piece at mid end h t u r =
    let P : List Bool → Type 0 = λ l. HasDrawn l (bytes ++ slice_range piece at end) h in
    let Q : List ℕ → Type 0 = λ l. HasDrawn ((bits ++ some) ++ more) l h in
    subst P (append_assoc bits some more) (subst Q (ranges_join bytes piece at mid end t u) r)

-- a part more of a number
pub part_joins : (done count v part : ℕ) (bits : List Bool) (bytes piece : List ℕ) (at mid end : ℕ) (h : BitInState) → part < 2 ^ count → at ≤ mid → mid ≤ end
    → HasDrawn ((bits ++ number_bits done v) ++ number_bits count part) ((bytes ++ slice_range piece at mid) ++ slice_range piece mid end) h
    → HasDrawn (bits ++ number_bits (done + count) (v * 2 ^ count + part)) (bytes ++ slice_range piece at end) h
part_joins done count v part bits bytes piece at mid end h small t u r =
    let P : List Bool → Type 0 = λ l. HasDrawn (bits ++ l) (bytes ++ slice_range piece at end) h in
    subst P (sym (joined_bits done count v part small)) (joins_on bits (number_bits done v) (number_bits count part) bytes piece at mid end h t u r)
