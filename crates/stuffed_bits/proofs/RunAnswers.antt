-- A run is that of the bits that are left, in parts; where they end before it does, none is answered.
use Rattle.std.proofs.Common.{◌≡◌, ◌<◌, ◌≤◌, ◌+◌, ◌++◌, ℕ, suc, Bool, true, false, not, List, [], ◌∷◌, length, drop, replicate, nat_lt, Err, sym, ◌∙◌, ap, subst, arith, append_assoc}
use Rattle.std.specs.List.{slice_range}
use Rattle.std.proofs.lemmas.Bool.{le-leb, lt-leb}
use Rattle.std.proofs.lemmas.List.{append-nil, replicate-append-replicate}
use Rattle.codestream_model.specs.StuffedBits.{packed_bits}
use Rattle.stuffed_bits.specs.BitInState.{BitInState}
use Rattle.stuffed_bits.specs.BitsRead.{HasDrawn, answer_after, stop_by}
use Rattle.stuffed_bits.specs.RunsRead.{run_bits, IsShort}
use Rattle.stuffed_bits.specs.declared.stop.Stop.{Stop}
use Rattle.stuffed_bits.proofs.ReadLemmas.{range_none, no_more_behind}
use Rattle.stuffed_bits.proofs.RangeLemmas.{range_and_rest}
use Rattle.stuffed_bits.proofs.PartAnswers.{stopped_at, joins_on}

-- a run of the most bits
pub whole_run : (of : Bool) (most n : ℕ) → n ≡ most → replicate n of ≡ run_bits of most n
whole_run of most n e = let t : nat_lt n most ≡ false = lt-leb (suc n) most (omega arith) in rw t (sym (append-nil (replicate n of)))

-- and a shorter one, of which n bits were read before
pub ended_run : (of : Bool) (most m n : ℕ) → m + n < most → replicate m of ++ (replicate n of ++ not of ∷ []) ≡ run_bits of most (m + n)
ended_run of most m n h =
    let t : nat_lt (m + n) most ≡ true = le-leb (suc (m + n)) most (omega arith) in
    rw t (sym (append_assoc (replicate m of) (replicate n of) (not of ∷ [])) ∙ ap (λ (l : List Bool). l ++ not of ∷ []) (replicate-append-replicate m n of))

-- before the first part
pub none_run : (of : Bool) (bits : List Bool) (bytes piece : List ℕ) (at : ℕ) (h : BitInState) → HasDrawn bits bytes h → HasDrawn (bits ++ replicate 0 of) (bytes ++ slice_range piece at at) h
none_run of bits bytes piece at h r =
    let none : bytes ++ slice_range piece at at ≡ bytes = ap (λ (l : List ℕ). bytes ++ l) (range_none piece at) ∙ append-nil bytes in
    rw (none, append-nil bits) r

-- a part more
pub run_joins : (of : Bool) (m n : ℕ) (bits : List Bool) (bytes piece : List ℕ) (at mid end : ℕ) (h : BitInState) → at ≤ mid → mid ≤ end
    → HasDrawn ((bits ++ replicate m of) ++ replicate n of) ((bytes ++ slice_range piece at mid) ++ slice_range piece mid end) h
    → HasDrawn (bits ++ replicate (m + n) of) (bytes ++ slice_range piece at end) h
run_joins of m n bits bytes piece at mid end h t u r =
    let P : List Bool → Type 0 = λ l. HasDrawn (bits ++ l) (bytes ++ slice_range piece at end) h in
    subst P (replicate-append-replicate m n of) (joins_on bits (replicate m of) (replicate n of) bytes piece at mid end h t u r)

-- the last part
pub run_ends : (of : Bool) (most m n : ℕ) (bits : List Bool) (bytes piece : List ℕ) (at mid end : ℕ) (h : BitInState) → m + n < most → at ≤ mid → mid ≤ end
    → HasDrawn ((bits ++ replicate m of) ++ (replicate n of ++ not of ∷ [])) ((bytes ++ slice_range piece at mid) ++ slice_range piece mid end) h
    → HasDrawn (bits ++ run_bits of most (m + n)) (bytes ++ slice_range piece at end) h
run_ends of most m n bits bytes piece at mid end h few t u r =
    let P : List Bool → Type 0 = λ l. HasDrawn (bits ++ l) (bytes ++ slice_range piece at end) h in
    subst P (ended_run of most m n few) (joins_on bits (replicate m of) (replicate n of ++ not of ∷ []) bytes piece at mid end h t u r)

-- where a reader stops after the first bits
pub run_stops : (of : Bool) (most m : ℕ) (bits : List Bool) (bytes piece : List ℕ) (at mid : ℕ) (h : BitInState) (stopped : Stop) → m < most → at ≤ mid → HasDrawn (bits ++ replicate m of) (bytes ++ slice_range piece at mid) h
    → answer_after (bits ++ replicate m of) (packed_bits ((bytes ++ slice_range piece at mid) ++ drop mid piece)) ≡ Err stopped
    → IsShort of most (drop (length bits) (packed_bits (bytes ++ drop at piece)).bits) × (stopped ≡ stop_by (packed_bits (bytes ++ drop at piece)).broken_at)
run_stops of most m bits bytes piece at mid h stopped few onward r e =
    let run = packed_bits (bytes ++ drop at piece) in
    let f : answer_after (bits ++ replicate m of) run ≡ Err stopped = ap (λ (l : List ℕ). answer_after (bits ++ replicate m of) (packed_bits l)) (sym (range_and_rest bytes piece at mid onward)) ∙ e in
    let n = stopped_at (drop (length (bits ++ replicate m of)) run.bits) run.broken_at stopped f in
    ((m, few, no_more_behind bits (replicate m of) bytes piece at mid h onward r n.0), n.1)
