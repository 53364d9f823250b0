-- The index that reading names is the first at which the stuffing is broken.
use Rattle.std.proofs.Common.{◌≡◌, ◌<◌, ◌≤◌, ◌↔◌, ◌+◌, ◌-◌, ◌==◌, ◌&&◌, ◌⊎◌, ℕ, zero, suc, Bool, true, false, List, [], ◌∷◌, ◌++◌, length, slice_index, refl, sym, ◌∙◌, ap, subst, inl, inr, arith, append_assoc, nat_le}
use Rattle.std.specs.Prelude.{Option, Some, None, nat_lt, if◌then◌else◌}
use Rattle.std.proofs.lemmas.Bool.{cases_lt, and_parts, leb-true, le-leb, le-ltb, lt-ltb}
use Rattle.codestream_model.specs.StuffedBits.{carried_after, carried, Packs, sound_after, packed_bits}
use Rattle.codestream_model.specs.BitLaws.{PackedBitsAreRead, IsBrokenAt, IsFirstBroken, BrokenAtIsFirst, UnbrokenIsNone}
use Rattle.codestream_model.proofs.PackingLemmas.{last_after, carried-append, packed_are_carried}
use Rattle.codestream_model.proofs.TreeLemmas.{either, equal_number}
use Rattle.codestream_model.proofs.HeaderLemmas.{sound_front}

-- bits packed in bytes are the first that are read from them
pub packed_bits_are_read : PackedBitsAreRead
packed_bits_are_read bits bytes more p =
    let c = packed_are_carried bits bytes p in
    let l = last_after 0 bytes in
    let x = carried_after l (sound_after l more) in (
      c.0 ++ x,
      ap (carried_after 0) (sound_front 0 bytes more (λ e. absurd (omega arith)) p.stuffed)
          ∙ (carried-append 0 bytes (sound_after l more) ∙ (ap (λ (y : List Bool). y ++ x) c.1 ∙ append_assoc bits c.0 x)),
    )

-- the stuffing of bytes that follow this byte is broken at an index
abbrev BreaksAfter : ℕ → List ℕ → ℕ → Type 0
BreaksAfter before bytes i = (slice_index (before ∷ bytes) i ≡ 255) × (128 ≤ slice_index bytes i)

-- where the sound bytes end early, the stuffing is broken
breaks_at_end : (before : ℕ) (bytes : List ℕ) → length (sound_after before bytes) < length bytes → BreaksAfter before bytes (length (sound_after before bytes))
unfolding sound_after
breaks_at_end before [] h = absurd (omega arith)
breaks_at_end before (b ∷ bytes) h = elim (either ((before == 255) && nat_le 128 b)) [
  | inl t ↦
      let p = and_parts (before == 255) (nat_le 128 b) t in
      rw t (equal_number before 255 p.0, leb-true 128 b p.1)
  | inr t ↦
      let h' : suc (length (sound_after b bytes)) < suc (length bytes) = rw t at h in
      rw t (breaks_at_end b bytes (omega arith))
]

-- before that it isn't
none_before : (before : ℕ) (bytes : List ℕ) (i : ℕ) → BreaksAfter before bytes i → length (sound_after before bytes) ≤ i
unfolding sound_after
none_before before [] i s = omega arith
none_before before (b ∷ bytes) zero s = rw (s.0, le-leb 128 b s.1) (omega arith)
none_before before (b ∷ bytes) (suc i) s = elim (either ((before == 255) && nat_le 128 b)) [
  | inl t ↦ rw t (omega arith)
  | inr t ↦ rw t (let r : length (sound_after b bytes) ≤ i = none_before b bytes i s in omega arith)
]

-- no byte of 128 or more is past the end
within : (bytes : List ℕ) (i : ℕ) → 128 ≤ slice_index bytes i → i < length bytes
within [] i h = absurd (omega arith)
within (b ∷ bytes) zero h = omega arith
within (b ∷ bytes) (suc i) h = (let r : i < length bytes = within bytes i h in omega arith)

-- one more and one less
less_one : (i : ℕ) → suc i - 1 ≡ i
less_one i = omega arith

-- after 0 it is broken where bytes are
from_zero : (bytes : List ℕ) (i : ℕ) → BreaksAfter 0 bytes i → IsBrokenAt bytes i
from_zero bytes zero s = absurd (let e : 0 ≡ 255 = s.0 in omega arith)
from_zero bytes (suc i) s = record { later = omega arith; after_ff = ap (λ k. slice_index bytes k) (less_one i) ∙ s.0; high = s.1 }

to_zero : (bytes : List ℕ) (i : ℕ) → IsBrokenAt bytes i → BreaksAfter 0 bytes i
to_zero bytes zero s = absurd (omega (arith, s.later))
to_zero bytes (suc i) s = (ap (λ k. slice_index bytes k) (sym (less_one i)) ∙ s.after_ff, s.high)

-- a test of two numbers, and what it says
ltb_tells : (n m : ℕ) → ((nat_lt n m ≡ true) × (n < m)) ⊎ ((nat_lt n m ≡ false) × (m ≤ n))
ltb_tells n m = elim (cases_lt n m) [ inl t ↦ inl (lt-ltb n m t, t) | inr t ↦ inr (le-ltb n m t, t) ]

-- the index that reading names, over plain numbers
named : (n m i : ℕ) → (if nat_lt n m then Some n else None) ≡ Some i → (n < m) × (n ≡ i)
named n m i e = elim (ltb_tells n m) [
  | inl t ↦ (t.1, (let f : Some n ≡ Some i = rw t.0 at e in cc))
  | inr t ↦ absurd (let f : None ≡ Some i = rw t.0 at e in cc)
]

unnamed : (n m : ℕ) → (if nat_lt n m then Some n else None) ≡ None → m ≤ n
unnamed n m e = elim (ltb_tells n m) [
  | inl t ↦ absurd (let f : Some n ≡ None = rw t.0 at e in cc)
  | inr t ↦ t.1
]

not_less : (n m : ℕ) → m ≤ n → (if nat_lt n m then Some n else None) ≡ None
not_less n m h = elim (ltb_tells n m) [ inl t ↦ absurd (let f : n < m = t.1 in omega arith) | inr t ↦ rw t.0 refl ]

-- the end of the sound bytes is the first broken index
found_first : (bytes : List ℕ) (i : ℕ) → length (sound_after 0 bytes) < length bytes → length (sound_after 0 bytes) ≡ i → IsFirstBroken bytes i
found_first bytes i lt e =
    let P : ℕ → Type 0 = λ k. IsFirstBroken bytes k in
    subst P e (record {
      broken = from_zero bytes (length (sound_after 0 bytes)) (breaks_at_end 0 bytes lt);
      none_before = λ j s. none_before 0 bytes j (to_zero bytes j s);
    })

first_found : (bytes : List ℕ) (i : ℕ) → IsFirstBroken bytes i → (length (sound_after 0 bytes) < length bytes) × (length (sound_after 0 bytes) ≡ i)
first_found bytes i s =
    let low : length (sound_after 0 bytes) ≤ i = none_before 0 bytes i (to_zero bytes i s.broken) in
    let inside : i < length bytes = within bytes i s.broken.high in
    let lt : length (sound_after 0 bytes) < length bytes = omega arith in
    let high : i ≤ length (sound_after 0 bytes) = s.none_before (length (sound_after 0 bytes)) (from_zero bytes (length (sound_after 0 bytes)) (breaks_at_end 0 bytes lt)) in
    (lt, omega arith)

-- where nothing is broken all bytes are sound
no_break : (bytes : List ℕ) → ((i : ℕ) → IsBrokenAt bytes i → ⊥) → length bytes ≤ length (sound_after 0 bytes)
no_break bytes f = elim (cases_lt (length (sound_after 0 bytes)) (length bytes)) [
  | inl lt ↦ absurd (f (length (sound_after 0 bytes)) (from_zero bytes (length (sound_after 0 bytes)) (breaks_at_end 0 bytes lt)))
  | inr all ↦ all
]

pub broken_at_is_first : BrokenAtIsFirst
broken_at_is_first bytes i = (
  λ e. let n = named (length (sound_after 0 bytes)) (length bytes) i e in found_first bytes i n.0 n.1,
  λ s. let f = first_found bytes i s in rw (lt-ltb (length (sound_after 0 bytes)) (length bytes) f.0, f.1) refl,
)

pub unbroken_is_none : UnbrokenIsNone
unbroken_is_none bytes = (
  λ e i s.
      let h = unnamed (length (sound_after 0 bytes)) (length bytes) e in
      let low : length (sound_after 0 bytes) ≤ i = none_before 0 bytes i (to_zero bytes i s) in
      let inside : i < length bytes = within bytes i s.high in
      omega arith,
  λ f. not_less (length (sound_after 0 bytes)) (length bytes) (no_break bytes f),
)
