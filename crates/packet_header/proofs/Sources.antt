-- What a source gets of the bits that come.
use Rattle.std.proofs.Common.{◌≡◌, ◌≤◌, ◌<◌, ◌+◌, ◌-◌, ◌^◌, ◌⊎◌, ℕ, Bool, true, false, List, [], ◌∷◌, ◌++◌, length, take, drop, nat_le, Option, Result, Ok, Err, IfOk, refl, sym, ◌∙◌, ap, subst, inl, inr, arith, append_assoc}
use Rattle.std.specs.List.{slice_range}
use Rattle.std.proofs.lemmas.Bool.{le-leb}
use Rattle.std.proofs.lemmas.Bool.Decides.{leb_tells}
use Rattle.std.proofs.lemmas.List.{append-nil, length-append, drop_at, take-append-drop}
use Rattle.std.proofs.Math.Seq.{take-add}
use Rattle.codestream_model.specs.StuffedBits.{number_bits, number_of, packed_bits}
use Rattle.codestream_model.specs.PacketHeaderReading.{Got, AtEnd, read_bit, read_number}
use Rattle.codestream_model.proofs.BitLemmas.{number_bits-length, number_of_bits}
use Rattle.stuffed_bits.specs.BitsRead.{HasRead, given, answer_by, answer_after, stop_by}
use Rattle.stuffed_bits.specs.NumbersRead.{number_by, number_after}
use Rattle.stuffed_bits.specs.RunsRead.{run_bits, IsRun}
use Rattle.stuffed_bits.specs.declared.stop.Stop.{Stop}
use Rattle.stuffed_bits.specs.declared.stop.Stop.TheVariants as bits
use Rattle.packet_header.specs.Answers.{stop_of, header_answer}
use Rattle.packet_header.specs.Moves.{HasGiven, all_of, bits_after, Gets, GetsRun, Moved, behind_answer}
use Rattle.stuffed_bits.specs.declared.source.Source.{Source}
use Rattle.packet_header.specs.declared.refusal.HeaderStop.TheVariants as stop

-- the bytes that were taken and those that weren't are all
pub taken_and_rest : (before piece : List ℕ) (at : ℕ) → (before ++ take at piece) ++ drop at piece ≡ before ++ piece
taken_and_rest before piece at = append_assoc before (take at piece) (drop at piece) ∙ ap (λ (l : List ℕ). before ++ l) (take-append-drop at piece)

-- bytes up to a place, and those from there to another
front_grows : (piece : List ℕ) (at end : ℕ) → at ≤ end → take at piece ++ slice_range piece at end ≡ take end piece
front_grows piece at end h = let e : at + (end - at) ≡ end = omega arith in sym (take-add at (end - at) piece) ∙ ap (λ (n : ℕ). take n piece) e

pub taken_grow : (before piece : List ℕ) (at end : ℕ) → at ≤ end → (before ++ take at piece) ++ slice_range piece at end ≡ before ++ take end piece
taken_grow before piece at end h = append_assoc before (take at piece) (slice_range piece at end) ∙ ap (λ (l : List ℕ). before ++ l) (front_grows piece at end h)

-- what a source has given is what its reader has
pub stands_there : (before : List ℕ) (done : List Bool) (old new : Source) → old.at ≤ new.at → new.piece.now ≡ old.piece.now → HasRead done ((before ++ take old.at old.piece.now) ++ slice_range old.piece.now old.at new.at) new.bits
    → HasGiven before done new
stands_there before done old new onward same r =
    let P : List ℕ → Type 0 = λ l. HasRead done l new.bits in
    let Q : List ℕ → Type 0 = λ l. HasRead done (before ++ take new.at l) new.bits in
    record { read = subst Q (sym same) (subst P (taken_grow before old.piece.now old.at new.at onward) r) }

-- what the answer to a bit says
bit_cases : (l : List Bool) (o : Option ℕ) (out : Result Bool Stop) → out ≡ answer_by l o → ((b : Bool) × (out ≡ Ok b)) ⊎ ((l ≡ []) × (out ≡ Err (stop_by o)))
bit_cases (b ∷ rest) o out e = inl (b, e)
bit_cases [] o out e = inr (refl, e)

-- what stops a header where a piece is needed stops its bits too
pub need_is : (s : Stop) → stop_of s ≡ stop.Need → s ≡ bits.Need
need_is bits.Need e = refl
need_is bits.Stuffed e = absurd (cc)

-- a bit
pub bit_gets : (old new : Source) (out : Result Bool Stop) → old.at ≤ new.at → new.piece.now ≡ old.piece.now → (out ≡ Err bits.Need → new.at ≡ length old.piece.now)
    → ((bits : List Bool) (bytes : List ℕ) → HasRead bits bytes old.bits → out ≡ answer_after bits (packed_bits (bytes ++ drop old.at old.piece.now)))
    → ((bits : List Bool) (bytes : List ℕ) → HasRead bits bytes old.bits → HasRead (bits ++ given out) (bytes ++ slice_range old.piece.now old.at new.at) new.bits)
    → Gets read_bit old new (header_answer out)
bit_gets old new out onward same whole exact gives = λ before done s.
    let taken = before ++ take old.at old.piece.now in
    let run = packed_bits (all_of before old) in
    let e : out ≡ answer_by (bits_after done (all_of before old)) run.broken_at = exact done taken s.read ∙ ap (λ (l : List ℕ). answer_after done (packed_bits l)) (taken_and_rest before old.piece.now old.at) in
    let now : HasGiven before (done ++ given out) new = stands_there before (done ++ given out) old new onward same (gives done taken s.read) in
    let P : Result Bool Stop → Type 0 = λ x. HasGiven before (done ++ given x) new in
    let Q : Result Bool Stop → Type 0 = λ x. Moved read_bit (behind_answer read_bit (header_answer x)) before done old new (header_answer x) in
    elim (bit_cases (bits_after done (all_of before old)) run.broken_at out e) [
      | inl t ↦ subst Q (sym t.1) (record { more = t.0 ∷ []; holds = subst P t.1 now; goes_on = λ further. refl })
      | inr t ↦
          subst Q (sym t.1) (
            rw t.0 refl,
            λ n. record { whole = whole (t.1 ∙ ap (λ (x : Stop). Err x) (need_is (stop_by run.broken_at) n)) ∙ ap length (sym same); went = record { more = []; holds = subst P t.1 now; goes_on = λ further. refl } },
          )
    ]

-- the bits of a number, and further ones
number_read : (width n : ℕ) (further : List Bool) → n < 2 ^ width → read_number width (number_bits width n ++ further) ≡ Got n further
unfolding read_number
number_read width n further small =
    let long : nat_le width (length (number_bits width n ++ further)) ≡ true = le-leb width (length (number_bits width n ++ further)) (omega (arith, length-append (number_bits width n) further, number_bits-length width n)) in
    let value : number_of width (number_bits width n ++ further) ≡ n = number_of_bits width n small further in
    let rest : drop width (number_bits width n ++ further) ≡ further = drop_at (number_bits width n) further width (number_bits-length width n) in
    rw (long, value, rest) refl

-- too few bits
number_ends : (width : ℕ) (l : List Bool) → nat_le width (length l) ≡ false → read_number width l ≡ AtEnd
unfolding read_number
number_ends width l e = rw e refl

-- a number
pub number_gets : (width : ℕ) (old new : Source) (out : Result ℕ Stop) → old.at ≤ new.at → new.piece.now ≡ old.piece.now → (out ≡ Err bits.Need → new.at ≡ length old.piece.now)
    → ((bits : List Bool) (bytes : List ℕ) → HasRead bits bytes old.bits → out ≡ number_after width bits (packed_bits (bytes ++ drop old.at old.piece.now)))
    → ((n : ℕ) → out ≡ Ok n → (bits : List Bool) (bytes : List ℕ) → HasRead bits bytes old.bits → HasRead (bits ++ number_bits width n) (bytes ++ slice_range old.piece.now old.at new.at) new.bits)
    → (out ≡ Err bits.Need → (bits : List Bool) (bytes : List ℕ) → HasRead bits bytes old.bits → HasRead bits (bytes ++ slice_range old.piece.now old.at new.at) new.bits)
    → IfOk out (λ n. n < 2 ^ width)
    → Gets (read_number width) old new (header_answer out)
number_gets width old new out onward same whole exact gives waits small = λ before done s.
    let taken = before ++ take old.at old.piece.now in
    let l = bits_after done (all_of before old) in
    let run = packed_bits (all_of before old) in
    let reading = read_number width in
    let there : out ≡ number_by width l run.broken_at = exact done taken s.read ∙ ap (λ (m : List ℕ). number_after width done (packed_bits m)) (taken_and_rest before old.piece.now old.at) in
    let Q : Result ℕ Stop → Type 0 = λ x. Moved reading (behind_answer reading (header_answer x)) before done old new (header_answer x) in
    elim (leb_tells width (length l)) [
      | inl t ↦
          let n = number_of width l in
          let e : out ≡ Ok n = there ∙ rw t.0 refl in
          let S : Result ℕ Stop → Type 0 = λ x. IfOk x (λ v. v < 2 ^ width) in
          let low : n < 2 ^ width = subst S e small in
          subst Q (sym e) (record { more = number_bits width n; holds = stands_there before (done ++ number_bits width n) old new onward same (gives n e done taken s.read); goes_on = λ further. number_read width n further low })
      | inr t ↦
          let e : out ≡ Err (stop_by run.broken_at) = there ∙ rw t.0 refl in
          let end : read_number width l ≡ AtEnd = number_ends width l t.0 in
          let none : done ≡ done ++ [] = sym (append-nil done) in
          let P : List Bool → Type 0 = λ m. HasGiven before m new in
          subst Q (sym e) (
            rw end refl,
            λ n.
                let needs : out ≡ Err bits.Need = e ∙ ap (λ (x : Stop). Err x) (need_is (stop_by run.broken_at) n) in
                record {
                  whole = whole needs ∙ ap length (sym same);
                  went = record { more = []; holds = subst P none (stands_there before done old new onward same (waits needs done taken s.read)); goes_on = λ further. refl };
                },
          )
    ]

-- a run
pub run_gets : (of : Bool) (most : ℕ) (old new : Source) (out : Result ℕ Stop) → old.at ≤ new.at → new.piece.now ≡ old.piece.now → (out ≡ Err bits.Need → new.at ≡ length old.piece.now)
    → ((bits : List Bool) (bytes : List ℕ) → HasRead bits bytes old.bits → IsRun of most (drop (length bits) (packed_bits (bytes ++ drop old.at old.piece.now)).bits) (packed_bits (bytes ++ drop old.at old.piece.now)).broken_at out)
    → ((n : ℕ) → out ≡ Ok n → (bits : List Bool) (bytes : List ℕ) → HasRead bits bytes old.bits → HasRead (bits ++ run_bits of most n) (bytes ++ slice_range old.piece.now old.at new.at) new.bits)
    → (out ≡ Err bits.Need → (bits : List Bool) (bytes : List ℕ) → HasRead bits bytes old.bits → HasRead bits (bytes ++ slice_range old.piece.now old.at new.at) new.bits)
    → GetsRun of most old new (header_answer out)
run_gets of most old new (Ok n) onward same whole exact gives waits = λ before done s.
    let taken = before ++ take old.at old.piece.now in
    let P : List ℕ → Type 0 = λ m. IsRun of most (drop (length done) (packed_bits m).bits) (packed_bits m).broken_at (Ok n) in
    let a = subst P (taken_and_rest before old.piece.now old.at) (exact done taken s.read) in
    (a.0, stands_there before (done ++ run_bits of most n) old new onward same (gives n refl done taken s.read), a.1)
run_gets of most old new (Err stopped) onward same whole exact gives waits = λ before done s.
    let taken = before ++ take old.at old.piece.now in
    let P : List ℕ → Type 0 = λ m. IsRun of most (drop (length done) (packed_bits m).bits) (packed_bits m).broken_at (Err stopped) in
    let a = subst P (taken_and_rest before old.piece.now old.at) (exact done taken s.read) in (
      a.0,
      ap stop_of a.1,
      λ n.
          let needs : ◌≡◌ {A = Result ℕ Stop} (Err stopped) (Err bits.Need) = ap (λ (x : Stop). Err x) (need_is stopped n) in
          (whole needs ∙ ap length (sym same), stands_there before done old new onward same (waits needs done taken s.read)),
    )
