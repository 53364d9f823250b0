-- A label is read of a run of zeros.
use Rattle.std.proofs.Common.{◌≡◌, ◌<◌, ◌≤◌, ◌+◌, ◌-◌, ℕ, zero, suc, Bool, true, false, List, [], ◌∷◌, ◌++◌, replicate, nat_le, nat_lt, Option, Result, Ok, Err, refl, sym, ◌∙◌, ap, subst, arith, append_assoc}
use Rattle.std.proofs.lemmas.Bool.{le-leb, lt-leb}
use Rattle.std.proofs.lemmas.List.{append-nil}
use Rattle.codestream_model.specs.StuffedBits.{packed_bits}
use Rattle.codestream_model.specs.HeaderPieces.{ZeroPlanes}
use Rattle.codestream_model.specs.PacketHeaderReading.{Read, Got, AtEnd, Refused, read_label}
use Rattle.stuffed_bits.specs.BitInState.{BitInState}
use Rattle.stuffed_bits.specs.BitsRead.{HasRead, stop_by}
use Rattle.stuffed_bits.specs.RunsRead.{run_bits, IsShort, IsRun}
use Rattle.stuffed_bits.specs.declared.stop.Stop.{Stop}
use Rattle.stuffed_bits.specs.declared.stop.Stop.TheVariants as bits
use Rattle.tag_tree.specs.LabelStops.{label_stop}
use Rattle.tag_tree.specs.LeafReading.{bits_after, IsLabel}
use Rattle.tag_tree.specs.declared.stop.LabelStop.{LabelStop}
use Rattle.tag_tree.specs.declared.stop.LabelStop.TheVariants.{Need, TooGreat}

-- a label that needs a further piece needs a bit
pub need_of : (s : Stop) → label_stop s ≡ Need → s ≡ bits.Need
need_of bits.Need e = refl
need_of bits.Stuffed e = absurd (cc)

-- bits that end are no label that is too great
pub never_great : (s : Stop) → label_stop s ≡ TooGreat → ⊥
never_great bits.Need e = absurd (cc)
never_great bits.Stuffed e = absurd (cc)

-- zeros that end before the label does
label_of_zeros : (n least : ℕ) → n ≤ 74 - least → read_label least (replicate n false) ≡ AtEnd
unfolding read_label
label_of_zeros zero least few = refl
label_of_zeros (suc n) least few =
    let test : nat_le 74 least ≡ false = lt-leb 74 least (omega arith) in
    rw test (label_of_zeros n (suc least) (omega arith))

-- zeros and a one
label_of_run : (n least : ℕ) (rest : List Bool) → n ≤ 74 - least → read_label least (replicate n false ++ true ∷ rest) ≡ Got (least + n) rest
unfolding read_label
label_of_run zero least rest few = let e : least ≡ least + 0 = omega arith in ap (λ (n : ℕ). Got n rest) e
label_of_run (suc n) least rest few =
    let test : nat_le 74 least ≡ false = lt-leb 74 least (omega arith) in
    let e : suc least + n ≡ least + suc n = omega arith in
    rw test (label_of_run n (suc least) rest (omega arith) ∙ ap (λ (m : ℕ). Got m rest) e)

-- too many zeros
label_of_many : (n least : ℕ) (rest : List Bool) → n ≡ 74 - least → read_label least (replicate (suc n) false ++ rest) ≡ Refused ZeroPlanes
unfolding read_label
label_of_many zero least rest e = let test : nat_le 74 least ≡ true = le-leb 74 least (omega arith) in rw test refl
label_of_many (suc n) least rest e =
    let test : nat_le 74 least ≡ false = lt-leb 74 least (omega arith) in
    rw test (label_of_many n (suc least) rest (omega arith))

-- a run's answer, by whether it was read
pub run_of_err : (of : Bool) (most : ℕ) (bits : List Bool) (broken_at : Option ℕ) (out : Result ℕ Stop) (stopped : Stop) → out ≡ Err stopped → IsRun of most bits broken_at out → IsShort of most bits × (stopped ≡ stop_by broken_at)
run_of_err of most bits broken_at out stopped e h = let P : Result ℕ Stop → Type 0 = λ x. IsRun of most bits broken_at x in subst P e h

pub run_of_ok : (of : Bool) (most : ℕ) (bits : List Bool) (broken_at : Option ℕ) (out : Result ℕ Stop) (n : ℕ) → out ≡ Ok n → IsRun of most bits broken_at out → (n ≤ most) × ((rest : List Bool) × (bits ≡ run_bits of most n ++ rest))
run_of_ok of most bits broken_at out n e h = let P : Result ℕ Stop → Type 0 = λ x. IsRun of most bits broken_at x in subst P e h

-- the answer where the bits end before the label does
pub label_short : (least most : ℕ) (done : List Bool) (all taken : List ℕ) (h : BitInState) (stopped : Stop) → most ≡ 74 - least + 1 → IsShort false most (bits_after done all) → stopped ≡ stop_by (packed_bits all).broken_at
    → IsLabel done all taken h (Err (label_stop stopped)) (read_label least (bits_after done all))
label_short least most done all taken h stopped size s a =
    let P : Read ℕ → Type 0 = λ x. IsLabel done all taken h (Err (label_stop stopped)) x in
    let e : read_label least (bits_after done all) ≡ AtEnd = ap (read_label least) s.2 ∙ label_of_zeros s.0 least (omega (arith, s.1)) in
    subst P (sym e) (ap (λ (x : Stop). Err (label_stop x)) a)

-- where a one ends the zeros
pub label_found : (least most n : ℕ) (done rest : List Bool) (all taken : List ℕ) (h : BitInState) → most ≡ 74 - least + 1 → n < most → bits_after done all ≡ run_bits false most n ++ rest → HasRead (done ++ run_bits false most n) taken h
    → IsLabel done all taken h (Ok (least + n)) (read_label least (bits_after done all))
label_found least most n done rest all taken h size few e r =
    let P : Read ℕ → Type 0 = λ x. IsLabel done all taken h (Ok (least + n)) x in
    let test : nat_lt n most ≡ true = le-leb (suc n) most (omega arith) in
    let bits : run_bits false most n ++ rest ≡ replicate n false ++ true ∷ rest = rw test (append_assoc (replicate n false) (true ∷ []) rest) in
    let found : read_label least (bits_after done all) ≡ Got (least + n) rest = ap (read_label least) (e ∙ bits) ∙ label_of_run n least rest (omega arith) in
    subst P (sym found) (refl, (run_bits false most n, e, r))

-- where the zeros are too many
pub label_too_great : (least most n : ℕ) (done rest : List Bool) (all taken : List ℕ) (h : BitInState) → most ≡ 74 - least + 1 → n ≡ most → bits_after done all ≡ run_bits false most n ++ rest
    → IsLabel done all taken h (Err TooGreat) (read_label least (bits_after done all))
label_too_great least most n done rest all taken h size whole e =
    let P : Read ℕ → Type 0 = λ x. IsLabel done all taken h (Err TooGreat) x in
    let test : nat_lt n most ≡ false = lt-leb (suc n) most (omega arith) in
    let count : n ≡ suc (74 - least) = omega arith in
    let bits : run_bits false most n ++ rest ≡ replicate (suc (74 - least)) false ++ rest = rw test (ap (λ (l : List Bool). l ++ rest) (append-nil (replicate n false)) ∙ ap (λ (k : ℕ). replicate k false ++ rest) count) in
    subst P (sym (ap (read_label least) (e ∙ bits) ∙ label_of_many (74 - least) least rest refl)) refl
