-- What closes the bits that a source has given.
use Rattle.std.proofs.Common.{◌≡◌, ◌≤◌, ◌<◌, ◌⊎◌, ◌+◌, ◌-◌, ◌==◌, ◌++◌, ℕ, zero, suc, Bool, true, false, List, [], ◌∷◌, length, take, drop, slice_index, nat_lt, Option, Some, None, IsSome, Result, Ok, Err, refl, sym, ◌∙◌, ap, subst, inl, inr, arith, if◌then◌else◌}
use Rattle.std.proofs.lemmas.Bool.{le-ltb, lt-ltb}
use Rattle.std.proofs.lemmas.Bool.Decides.{eqb_tells, leb_tells}
use Rattle.std.proofs.lemmas.List.{length-take, length-append}
use Rattle.codestream_model.specs.StuffedBits.{number_bits, carried_after, sound_after, packed_bits, bytes_of_bits, closing_after}
use Rattle.stuffed_bits.specs.BitInState.{BitInState, IsFree}
use Rattle.stuffed_bits.specs.Carried.{last_from, last_of, before_next}
use Rattle.stuffed_bits.specs.BitsRead.{HasDrawn, closing_by, closing_answer}
use Rattle.stuffed_bits.specs.declared.stop.Stop.{Stop}
use Rattle.stuffed_bits.specs.declared.stop.Stop.TheVariants.{Need, Stuffed}
use Rattle.stuffed_bits.proofs.CarriedLemmas.{before_last}
use Rattle.stuffed_bits.proofs.ReadLemmas.{sound_of_all}
use Rattle.stuffed_bits.proofs.PackedLemmas.{reach_of}
use Rattle.stuffed_bits.proofs.PartsRead.{drawn_free}
use Rattle.packet_header.specs.Moves.{HasGiven, taken_of}
use Rattle.packet_header.specs.Answers.{stop_at, stop_of}
use Rattle.packet_header.specs.Closing.{closed_after, Closes}
use Rattle.stuffed_bits.specs.declared.source.Source.{Source}
use Rattle.packet_header.proofs.Sources.{taken_and_rest}

-- where bits were given, a byte was taken
some_taken : (done : List Bool) (bytes : List ℕ) (h : BitInState) → HasDrawn done bytes h → 0 < length done → 0 < length bytes
unfolding carried_after
some_taken done [] h r some = absurd (omega (arith, ap (λ (l : List Bool). length l) r.holds.filled, length-append done (number_bits h.left (before_next h.last))))
some_taken done (b ∷ bytes) h r some = omega arith

last_is_some : (bytes : List ℕ) → 0 < length bytes → IsSome (last_of bytes)
last_is_some [] h = absurd (omega arith)
last_is_some (b ∷ bytes) h = refl

-- so a reader that gave a bit has a last byte
pub begun : (done : List Bool) (bytes : List ℕ) (h : BitInState) → HasDrawn done bytes h → 0 < length done → IsSome h.last
begun done bytes h r some = let P : Option ℕ → Type 0 = λ o. IsSome o in subst P (sym r.last) (last_is_some bytes (some_taken done bytes h r some))

-- the last of bytes
last_is : (before : ℕ) (bytes : List ℕ) → 0 < length bytes → last_from before bytes ≡ slice_index bytes (length bytes - 1)
unfolding last_from
last_is before [] h = absurd (omega arith)
last_is before (b ∷ []) h = refl
last_is before (b ∷ c ∷ bytes) h =
    let e : length (b ∷ c ∷ bytes) - 1 ≡ suc (length (c ∷ bytes) - 1) = omega arith in
    last_is b (c ∷ bytes) (omega arith) ∙ sym (ap (slice_index (b ∷ c ∷ bytes)) e)

-- an item of a front is the list's
pub item_of_front : (bytes : List ℕ) (n k : ℕ) → k < n → slice_index (take n bytes) k ≡ slice_index bytes k
item_of_front [] zero k h = absurd (omega arith)
item_of_front [] (suc n) k h = refl
item_of_front (b ∷ bytes) zero k h = absurd (omega arith)
item_of_front (b ∷ bytes) (suc n) zero h = refl
item_of_front (b ∷ bytes) (suc n) (suc k) h = item_of_front bytes n k (omega arith)

-- an item of the first of two lists is that of both
item_of_first : (front rest : List ℕ) (k : ℕ) → k < length front → slice_index (front ++ rest) k ≡ slice_index front k
item_of_first [] rest k h = absurd (omega arith)
item_of_first (b ∷ front) rest zero h = refl
item_of_first (b ∷ front) rest (suc k) h = item_of_first front rest k (omega arith)

-- the item between two lists
item_at : (front : List ℕ) (b : ℕ) (more : List ℕ) → slice_index (front ++ b ∷ more) (length front) ≡ b
item_at [] b more = refl
item_at (a ∷ front) b more = item_at front b more

-- What a reader of bits that has given some of these bytes' knows of them and of the rest.
record Taken (front rest : List ℕ) (done : List Bool) (h : BitInState) : Type 0 where
  some : 0 < length front
  used : bytes_of_bits 0 (length done) (front ++ rest) ≡ length front
  last : slice_index (front ++ rest) (length front - 1) ≡ before_next h.last
  sound : sound_after 0 (front ++ rest) ≡ front ++ sound_after (before_next h.last) rest

taken : (front rest : List ℕ) (done : List Bool) (h : BitInState) → HasDrawn done front h → 0 < length done → Taken front rest done h
taken front rest done h r some =
    let there : 0 < length front = some_taken done front h r some in
    let before : before_next h.last ≡ last_from 0 front = ap before_next r.last ∙ before_last front in
    record {
      some = there;
      used = reach_of done _ front rest r.holds there;
      last = item_of_first front rest (length front - 1) (omega arith) ∙ (sym (last_is 0 front there) ∙ sym before);
      sound = sound_of_all done front rest h r;
    }

-- whether the stuffing is broken, by the bytes that follow
broken_behind : (front rest : List ℕ) (done : List Bool) (h : BitInState) → Taken front rest done h → (n : ℕ) → length (sound_after (before_next h.last) rest) ≡ n
    → (packed_bits (front ++ rest)).broken_at ≡ (if nat_lt (length front + n) (length (front ++ rest)) then Some (length front + n) else None)
broken_behind front rest done h t n e =
    let size : length (sound_after 0 (front ++ rest)) ≡ length front + n = omega (arith, ap (λ (l : List ℕ). length l) t.sound, length-append front (sound_after (before_next h.last) rest)) in
    rw size refl

-- What is answered: the bytes that are closed, or what stops the reader.
abbrev pub ClosesBy : List ℕ → List ℕ → List Bool → BitInState → Result (Unit {0}) Stop → Type 0
ClosesBy front rest done h out =
    let closes = closed_after (front ++ rest) (bytes_of_bits 0 (length done) (front ++ rest)) in
    ((out ≡ Ok tt) × (closes ≡ Ok (length front + closing_after (before_next h.last)))) ⊎ ((stopped : Stop) × (out ≡ Err stopped) × (closes ≡ Err (stop_of stopped)))

-- the answer where the last byte isn't FF
closed_at_once : (front rest : List ℕ) (done : List Bool) (h : BitInState) (out : Result (Unit {0}) Stop) → Taken front rest done h → (before_next h.last == 255) ≡ false → out ≡ closing_answer (before_next h.last) rest → ClosesBy front rest done h out
closed_at_once front rest done h out t e a =
    let f : (slice_index (front ++ rest) (length front - 1) == 255) ≡ false = ap (λ (n : ℕ). n == 255) t.last ∙ e in
    let b : out ≡ Ok tt = rw e at a in
    let z : length front + 0 ≡ length front = omega arith in
    inl (b, rw (t.used, f, e, z) refl)

-- the answer where it is, by the bytes that follow
closed_behind : (front rest : List ℕ) (done : List Bool) (h : BitInState) (out : Result (Unit {0}) Stop) → Taken front rest done h → (before_next h.last == 255) ≡ true → out ≡ closing_by rest → ClosesBy front rest done h out
unfolding sound_after
closed_behind front [] done h out t e a =
    let bytes = front ++ [] in
    let f : (slice_index bytes (length front - 1) == 255) ≡ true = ap (λ (n : ℕ). n == 255) t.last ∙ e in
    let size : length bytes ≡ length front = omega (arith, length-append front []) in
    let g : nat_lt (length front) (length bytes) ≡ false = le-ltb (length front) (length bytes) (omega arith) in
    let m : nat_lt (length front + 0) (length bytes) ≡ false = le-ltb (length front + 0) (length bytes) (omega arith) in
    let k : (packed_bits bytes).broken_at ≡ None = broken_behind front [] done h t 0 refl ∙ (rw m refl) in
    inr (Need, a, rw (t.used, f, g) (ap (λ (o : Option ℕ). Err (stop_at o)) k))
closed_behind front (b ∷ more) done h out t e a =
    let bytes = front ++ b ∷ more in
    let f : (slice_index bytes (length front - 1) == 255) ≡ true = ap (λ (n : ℕ). n == 255) t.last ∙ e in
    let size : length front < length bytes = omega (arith, length-append front (b ∷ more)) in
    let next : slice_index bytes (length front) ≡ b = item_at front b more in
    let g : nat_lt (length front) (length bytes) ≡ true = lt-ltb (length front) (length bytes) size in
    elim (leb_tells 128 b) [
      | inl u ↦
          let none : length (sound_after (before_next h.last) (b ∷ more)) ≡ 0 = rw (e, u.0) refl in
          let m : nat_lt (length front + 0) (length bytes) ≡ true = lt-ltb (length front + 0) (length bytes) (omega arith) in
          let k : (packed_bits bytes).broken_at ≡ Some (length front + 0) = broken_behind front (b ∷ more) done h t 0 none ∙ (rw m refl) in
          let low : nat_lt (slice_index bytes (length front)) 128 ≡ false = rw next (le-ltb b 128 u.1) in
          let c : out ≡ Err Stuffed = rw u.0 at a in
          inr (Stuffed, c, rw (t.used, f, g, low) (ap (λ (o : Option ℕ). Err (stop_at o)) k))
      | inr u ↦
          let low : nat_lt (slice_index bytes (length front)) 128 ≡ true = rw next (lt-ltb b 128 u.1) in
          let c : out ≡ Ok tt = rw u.0 at a in
          inl (c, rw (t.used, f, g, low, e) refl)
    ]

closes_by : (front rest : List ℕ) (done : List Bool) (h : BitInState) (out : Result (Unit {0}) Stop) → HasDrawn done front h → 0 < length done → out ≡ closing_answer (before_next h.last) rest → ClosesBy front rest done h out
closes_by front rest done h out r some a =
    let t = taken front rest done h r some in
    elim (eqb_tells (before_next h.last) 255) [
      | inl e ↦ closed_behind front rest done h out t e.0 (rw e.0 at a)
      | inr e ↦ closed_at_once front rest done h out t e.0 a
    ]

-- the answer for all bytes that came
source_closes : (before : List ℕ) (done : List Bool) (s : Source) (out : Result (Unit {0}) Stop) → IsFree s.bits → HasGiven before done s → 0 < length done → out ≡ closing_answer (before_next s.bits.last) (drop s.at s.piece.now)
    → ClosesBy (taken_of before s) (drop s.at s.piece.now) done s.bits out
source_closes before done s out free holds some a =
    closes_by (taken_of before s) (drop s.at s.piece.now) done s.bits out (drawn_free done (taken_of before s) s.bits free holds.read) some a

-- the answer where they are closed
pub closed_ok : (before : List ℕ) (done : List Bool) (s : Source) (out : Result (Unit {0}) Stop) (end : ℕ) → s.at ≤ length s.piece.now → IsFree s.bits → HasGiven before done s → 0 < length done → out ≡ closing_answer (before_next s.bits.last) (drop s.at s.piece.now)
    → out ≡ Ok tt → end ≡ s.at + closing_after (before_next s.bits.last) → Closes before done s (Ok end)
closed_ok before done s out end within free holds some a e past = elim (source_closes before done s out free holds some a) [
  | inl t ↦
      let all = taken_and_rest before s.piece.now s.at in
      let size : length (taken_of before s) ≡ length before + s.at = omega (arith, length-append before (take s.at s.piece.now), length-take s.at s.piece.now) in
      let P : List ℕ → Type 0 = λ l. closed_after l (bytes_of_bits 0 (length done) l) ≡ Ok (length (taken_of before s) + closing_after (before_next s.bits.last)) in
      let there : length before + end ≡ length (taken_of before s) + closing_after (before_next s.bits.last) = omega (arith, size, past) in
      ap Ok there ∙ sym (subst P all t.1)
  | inr t ↦ absurd (let f : Ok tt ≡ Err t.0 = sym e ∙ t.1 in cc)
]

same_error : (x y : Stop) → ◌≡◌ {A = Result (Unit {0}) Stop} (Err x) (Err y) → x ≡ y
same_error x y e = cc

-- and where they aren't
pub closed_err : (before : List ℕ) (done : List Bool) (s : Source) (out : Result (Unit {0}) Stop) (stopped : Stop) → IsFree s.bits → HasGiven before done s → 0 < length done → out ≡ closing_answer (before_next s.bits.last) (drop s.at s.piece.now)
    → out ≡ Err stopped → Closes before done s (Err (stop_of stopped))
closed_err before done s out stopped free holds some a e = elim (source_closes before done s out free holds some a) [
  | inl t ↦ absurd (let f : Ok tt ≡ Err stopped = sym t.0 ∙ e in cc)
  | inr t ↦
      let all = taken_and_rest before s.piece.now s.at in
      let same : stopped ≡ t.0 = same_error stopped t.0 (sym e ∙ t.1) in
      let P : List ℕ → Type 0 = λ l. closed_after l (bytes_of_bits 0 (length done) l) ≡ Err (stop_of t.0) in
      ap (λ (x : Stop). Err (stop_of x)) same ∙ sym (subst P all t.2)
]
