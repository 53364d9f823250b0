-- The values of a code-block, each and what follows it.
use Rattle.std.proofs.Common.{◌≡◌, ◌<◌, ◌≤◌, ◌+◌, ◌-◌, ◌==◌, Result, Ok, Err, inl, inr, subst, append_assoc, ◌++◌, ℕ, zero, suc, Bool, true, false, List, [], ◌∷◌, length, replicate, nat_le, nat_lt, refl, sym, ◌∙◌, ap, arith, if◌then◌else◌}
use Rattle.std.proofs.lemmas.Bool.{le-leb, lt-leb}
use Rattle.std.proofs.lemmas.Bool.Decides.{leb_tells}
use Rattle.std.proofs.lemmas.List.{append-nil}
use Rattle.codestream_model.specs.StuffedBits.{number_of}
use Rattle.codestream_model.specs.TagTrees.{Seat}
use Rattle.codestream_model.specs.HeaderPieces.{Passes as TooManyPasses, CleanupShort, CleanupLong, LengthBits, RefineLong, refine_width}
use Rattle.codestream_model.specs.PacketHeaderReading.{Read, Got, AtEnd, Refused, and_then, unless, read_bit, read_number, read_passes, read_lblock}
use Rattle.stuffed_bits.specs.RunsRead.{run_bits}
use Rattle.packet_header.specs.Moves.{HasGiven, all_of, bits_after, Gets, GetsRun, Moved, behind_answer}
use Rattle.stuffed_bits.specs.declared.source.Source.{Source}
use Rattle.packet_header.specs.declared.refusal.HeaderStop.{HeaderStop}
use Rattle.packet_header.specs.declared.refusal.HeaderStop.TheVariants.{Need, Bad}
use Rattle.packet_header.specs.declared.refusal.HeaderWhy.TheVariants as why
use Rattle.packet_header.specs.Steps.{block_rest, by_passes, by_cleanup, by_refine, position_of, refine_rest}
use Rattle.packet_header.specs.declared.block.Block.{Block}
use Rattle.codestream_model.specs.Values as values
use Rattle.packet_header.specs.declared.step.Step.TheVariants.{Passes, MorePasses, LastPasses, Cleanup}
use Rattle.packet_header.proofs.Moving.{then_assoc}

-- the number of passes, by its first bit,
abbrev pub by_first : Bool → List Bool → Read ℕ
by_first false l = Got 1 l
by_first true l = read_passes (true ∷ l)

-- by its second,
abbrev pub by_second : Bool → List Bool → Read ℕ
by_second false l = Got 2 l
by_second true l = read_passes (true ∷ true ∷ l)

-- and by its last two
abbrev pub by_last : ℕ → List Bool → Read ℕ
by_last n l = if n == 0 then Got 3 l else Refused TooManyPasses

first_bit : (l : List Bool) → read_passes l ≡ and_then (read_bit l) by_first
unfolding read_passes
first_bit [] = refl
first_bit (false ∷ l) = refl
first_bit (true ∷ l) = refl

second_bit : (l : List Bool) → read_passes (true ∷ l) ≡ and_then (read_bit l) by_second
unfolding read_passes
second_bit [] = refl
second_bit (false ∷ l) = refl
second_bit (true ∷ l) = refl

last_bits : (l : List Bool) → read_passes (true ∷ true ∷ l) ≡ and_then (read_number 2 l) by_last
unfolding read_passes read_number number_of
last_bits [] = refl
last_bits (a ∷ []) = refl
last_bits (false ∷ false ∷ l) = let long : nat_le 2 (length (false ∷ false ∷ l)) ≡ true = le-leb 2 (length (false ∷ false ∷ l)) (omega arith) in rw long refl
last_bits (false ∷ true ∷ l) = let long : nat_le 2 (length (false ∷ true ∷ l)) ≡ true = le-leb 2 (length (false ∷ true ∷ l)) (omega arith) in rw long refl
last_bits (true ∷ false ∷ l) = let long : nat_le 2 (length (true ∷ false ∷ l)) ≡ true = le-leb 2 (length (true ∷ false ∷ l)) (omega arith) in rw long refl
last_bits (true ∷ true ∷ l) = let long : nat_le 2 (length (true ∷ true ∷ l)) ≡ true = le-leb 2 (length (true ∷ true ∷ l)) (omega arith) in rw long refl

pub first_rest : (s : Seat) (planes : ℕ) (l : List Bool) → block_rest s (Passes planes) l ≡ and_then (read_bit l) (λ b m. and_then (by_first b m) (by_passes s planes))
first_rest s planes l = ap (λ (r : Read ℕ). and_then r (by_passes s planes)) (first_bit l) ∙ then_assoc (read_bit l) by_first (by_passes s planes)

pub second_rest : (s : Seat) (planes : ℕ) (l : List Bool) → block_rest s (MorePasses planes) l ≡ and_then (read_bit l) (λ b m. and_then (by_second b m) (by_passes s planes))
second_rest s planes l = ap (λ (r : Read ℕ). and_then r (by_passes s planes)) (second_bit l) ∙ then_assoc (read_bit l) by_second (by_passes s planes)

pub last_rest : (s : Seat) (planes : ℕ) (l : List Bool) → block_rest s (LastPasses planes) l ≡ and_then (read_number 2 l) (λ n m. and_then (by_last n m) (by_passes s planes))
last_rest s planes l = ap (λ (r : Read ℕ). and_then r (by_passes s planes)) (last_bits l) ∙ then_assoc (read_number 2 l) by_last (by_passes s planes)

-- a code that is refused
pub refused_code : (s : Seat) (planes n : ℕ) (m : List Bool) → (n == 0) ≡ false → and_then (by_last n m) (by_passes s planes) ≡ Refused TooManyPasses
refused_code s planes n m e = rw e refl

-- the length of a cleanup segment, by its number
abbrev pub by_length : ℕ → List Bool → Read ℕ
by_length n m = unless (nat_lt n 2) CleanupShort (unless (nat_le 65535 n) CleanupLong (Got n m))

pub cleanup_rest : (s : Seat) (planes passes lblock : ℕ) (l : List Bool)
    → block_rest s (Cleanup planes passes lblock) l ≡ and_then (read_number lblock l) (λ n m. and_then (by_length n m) (by_cleanup s planes passes lblock))
cleanup_rest s planes passes lblock l = then_assoc (read_number lblock l) by_length (by_cleanup s planes passes lblock)

pub short_length : (s : Seat) (planes passes lblock n : ℕ) (m : List Bool) → n < 2 → and_then (by_length n m) (by_cleanup s planes passes lblock) ≡ Refused CleanupShort
short_length s planes passes lblock n m h = let t : nat_lt n 2 ≡ true = le-leb (suc n) 2 (omega arith) in rw t refl

pub long_length : (s : Seat) (planes passes lblock n : ℕ) (m : List Bool) → 2 ≤ n → 65535 ≤ n → and_then (by_length n m) (by_cleanup s planes passes lblock) ≡ Refused CleanupLong
long_length s planes passes lblock n m h g = let t : nat_lt n 2 ≡ false = lt-leb (suc n) 2 (omega arith) in let u : nat_le 65535 n ≡ true = le-leb 65535 n g in rw (t, u) refl

pub good_length : (s : Seat) (planes passes lblock n : ℕ) (m : List Bool) → 2 ≤ n → n < 65535 → and_then (by_length n m) (by_cleanup s planes passes lblock) ≡ by_cleanup s planes passes lblock n m
good_length s planes passes lblock n m h g = let t : nat_lt n 2 ≡ false = lt-leb (suc n) 2 (omega arith) in let u : nat_le 65535 n ≡ false = lt-leb 65535 n g in rw (t, u) refl

-- ones that end before the Lblock does
lblock_of_ones : (n least : ℕ) → n ≤ 24 - least → read_lblock least (replicate n true) ≡ AtEnd
unfolding read_lblock
lblock_of_ones zero least few = refl
lblock_of_ones (suc n) least few =
    let test : nat_le 24 least ≡ false = lt-leb 24 least (omega arith) in
    rw test (lblock_of_ones n (suc least) (omega arith))

-- ones and a zero
lblock_of_run : (n least : ℕ) (rest : List Bool) → n ≤ 24 - least → read_lblock least (replicate n true ++ false ∷ rest) ≡ Got (least + n) rest
unfolding read_lblock
lblock_of_run zero least rest few = let e : least ≡ least + 0 = omega arith in ap (λ (n : ℕ). Got n rest) e
lblock_of_run (suc n) least rest few =
    let test : nat_le 24 least ≡ false = lt-leb 24 least (omega arith) in
    let e : suc least + n ≡ least + suc n = omega arith in
    rw test (lblock_of_run n (suc least) rest (omega arith) ∙ ap (λ (m : ℕ). Got m rest) e)

-- too many ones
lblock_of_many : (n least : ℕ) (rest : List Bool) → n ≡ 24 - least → read_lblock least (replicate (suc n) true ++ rest) ≡ Refused LengthBits
unfolding read_lblock
lblock_of_many zero least rest e = let test : nat_le 24 least ≡ true = le-leb 24 least (omega arith) in rw test refl
lblock_of_many (suc n) least rest e =
    let test : nat_le 24 least ≡ false = lt-leb 24 least (omega arith) in
    rw test (lblock_of_many n (suc least) rest (omega arith))

-- an Lblock that was read, by its ones, or what stops it
abbrev pub lblock_answer : Result ℕ HeaderStop → Result ℕ HeaderStop
lblock_answer (Ok n) = if nat_le 22 n then Err (Bad why.LengthBits) else Ok (3 + n)
lblock_answer (Err stopped) = Err stopped

pub lblock_gets : (old new : Source) (got : Result ℕ HeaderStop) → GetsRun true 22 old new got → Gets (read_lblock 3) old new (lblock_answer got)
lblock_gets old new (Ok n) g = λ before done s.
    let a = g before done s in
    let l = bits_after done (all_of before old) in
    let rest = a.2.0 in
    let Q : Result ℕ HeaderStop → Type 0 = λ x. Moved (read_lblock 3) (behind_answer (read_lblock 3) x) before done old new x in
    elim (leb_tells 22 n) [
      | inl t ↦
          let few : nat_lt n 22 ≡ false = lt-leb (suc n) 22 (omega (arith, t.1)) in
          let count : n ≡ suc 21 = omega (arith, a.0, t.1) in
          let bits : run_bits true 22 n ++ rest ≡ replicate (suc 21) true ++ rest = rw few (ap (λ (m : List Bool). m ++ rest) (append-nil (replicate n true)) ∙ ap (λ (k : ℕ). replicate k true ++ rest) count) in
          let read : read_lblock 3 l ≡ Refused LengthBits = ap (read_lblock 3) (a.2.1 ∙ bits) ∙ lblock_of_many 21 3 rest refl in
          let is : lblock_answer (Ok n) ≡ Err (Bad why.LengthBits) = rw t.0 refl in
          subst Q (sym is) (rw read refl, λ n. absurd (let c : Bad why.LengthBits ≡ Need = n in cc))
      | inr t ↦
          let few : nat_lt n 22 ≡ true = le-leb (suc n) 22 (omega (arith, t.1)) in
          let is : lblock_answer (Ok n) ≡ Ok (3 + n) = rw t.0 refl in
          let goes : (further : List Bool) → read_lblock 3 (run_bits true 22 n ++ further) ≡ Got (3 + n) further = λ further. rw few (ap (read_lblock 3) (append_assoc (replicate n true) (false ∷ []) further) ∙ lblock_of_run n 3 further (omega (arith, t.1))) in
          subst Q (sym is) (record { more = run_bits true 22 n; holds = a.1; goes_on = goes })
    ]
lblock_gets old new (Err stopped) g = λ before done s.
    let a = g before done s in
    let l = bits_after done (all_of before old) in
    let P : List Bool → Type 0 = λ m. HasGiven before m new in
    let read : read_lblock 3 l ≡ AtEnd = ap (read_lblock 3) a.0.2 ∙ lblock_of_ones a.0.0 3 (omega (arith, a.0.1)) in (
      rw read a.1,
      λ n. let q = a.2 n in record { whole = q.0; went = record { more = []; holds = subst P (sym (append-nil done)) q.1; goes_on = λ further. refl } },
    )

-- what an answer to a run says
pub lblock_found : (got : Result ℕ HeaderStop) (n : ℕ) → got ≡ Ok n → n < 22 → lblock_answer got ≡ Ok (3 + n)
lblock_found got n e h = let t : nat_le 22 n ≡ false = lt-leb 22 n h in ap lblock_answer e ∙ rw t refl

pub lblock_great : (got : Result ℕ HeaderStop) (n : ℕ) → got ≡ Ok n → 22 ≤ n → lblock_answer got ≡ Err (Bad why.LengthBits)
lblock_great got n e h = let t : nat_le 22 n ≡ true = le-leb 22 n h in ap lblock_answer e ∙ rw t refl

-- the length of a refinement segment, by its number
abbrev pub by_last_length : ℕ → List Bool → Read ℕ
by_last_length n m = unless (nat_le 2047 n) RefineLong (Got n m)

abbrev pub whole_block : Block → ℕ → List Bool → Read values.Block
whole_block b refine m = by_refine (position_of b) b.planes b.passes b.cleanup refine m

pub refine_by_number : (b : Block) (lblock w : ℕ) (l : List Bool) → 1 < b.passes → w ≡ refine_width b.passes lblock → refine_rest b lblock l ≡ and_then (read_number w l) (λ n m. and_then (by_last_length n m) (whole_block b))
refine_by_number b lblock w l some e =
    let t : nat_le b.passes 1 ≡ false = lt-leb b.passes 1 some in
    let own : refine_rest b lblock l ≡ and_then (and_then (read_number (refine_width b.passes lblock) l) by_last_length) (whole_block b) = rw t refl in
    own ∙ (then_assoc (read_number (refine_width b.passes lblock) l) by_last_length (whole_block b) ∙ ap (λ (n : ℕ). and_then (read_number n l) (λ k m. and_then (by_last_length k m) (whole_block b))) (sym e))

pub long_refine : (b : Block) (n : ℕ) (m : List Bool) → 2047 ≤ n → and_then (by_last_length n m) (whole_block b) ≡ Refused RefineLong
long_refine b n m h = let t : nat_le 2047 n ≡ true = le-leb 2047 n h in rw t refl
