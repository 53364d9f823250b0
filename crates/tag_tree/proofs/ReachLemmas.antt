-- Further bits reach no fewer bytes, and bits that were written reach no further than their buffer.
use Rattle.std.proofs.Common.{◌≡◌, ◌≢◌, ◌<◌, ◌≤◌, ◌+◌, ◌-◌, ◌*◌, ◌^◌, ℕ, zero, suc, Bool, false, List, [], ◌∷◌, ◌++◌, length, take, drop, replicate, nat_le, refl, sym, ◌∙◌, ap, subst, inl, inr, arith, append_assoc, if◌then◌else◌}
use Rattle.std.proofs.lemmas.Bool.Decides.{leb_tells, eqb_tells}
use Rattle.std.proofs.lemmas.List.{length-append, length-drop, drop-append-le}
use Rattle.codestream_model.specs.Bytes.{bit}
use Rattle.codestream_model.specs.StuffedBits.{number_of, width_after, packed_after, bytes_of_bits, carried_after}
use Rattle.codestream_model.proofs.PackingLemmas.{width_cases}
use Rattle.stuffed_bits.specs.BitWriterState.{BitWriterState}
use Rattle.stuffed_bits.specs.Carried.{Carries}
use Rattle.stuffed_bits.specs.BitsWritten.{HasWritten, reach}
use Rattle.stuffed_bits.proofs.WriterLemmas.{reach_is}

-- the number that n bits spell, by the bits in front
number_of_front : (n : ℕ) (bits more : List Bool) → n ≤ length bits → number_of n (bits ++ more) ≡ number_of n bits
unfolding number_of
number_of_front zero bits more h = refl
number_of_front (suc n) [] more h = absurd (omega arith)
number_of_front (suc n) (b ∷ bits) more h = ap (λ (v : ℕ). bit b * 2 ^ n + v) (number_of_front n bits more (omega arith))

-- how many bytes bits reach into after a byte, by their first byte and the bits after it
abbrev behind_byte : ℕ → ℕ → List Bool → ℕ
behind_byte room before bits = bytes_of_bits before (length bits) (packed_after room before bits)

first_byte : (room before : ℕ) (bits : List Bool) → 0 < length bits → length bits ≤ room
    → behind_byte room before bits ≡ (if nat_le (length bits) (width_after before) then 1 else suc (behind_byte (room - 1) (number_of (width_after before) bits) (drop (width_after before) bits)))
unfolding packed_after bytes_of_bits
first_byte zero before (b ∷ bits) h t = absurd (omega arith)
first_byte room before [] h t = absurd (omega arith)
first_byte (suc room) before (b ∷ bits) h t =
    let w = width_after before in
    let v = number_of w (b ∷ bits) in
    let one : suc room - 1 ≡ room = omega arith in
    let left : length (b ∷ bits) - w ≡ length (drop w (b ∷ bits)) = sym (length-drop w (b ∷ bits)) in
    ap (λ (n : ℕ). if nat_le (length (b ∷ bits)) w then 1 else suc (bytes_of_bits v n (packed_after room v (drop w (b ∷ bits))))) left
    ∙ ap (λ (n : ℕ). if nat_le (length (b ∷ bits)) w then 1 else suc (behind_byte n v (drop w (b ∷ bits)))) (sym one)

-- further bits reach no fewer bytes
grows_behind : (room : ℕ) (wide before : ℕ) (bits more : List Bool) → 0 < length bits → length bits ≤ room → length bits + length more ≤ wide
    → behind_byte room before bits ≤ behind_byte wide before (bits ++ more)
grows_behind zero wide before bits more some h t = absurd (omega arith)
grows_behind (suc room) wide before bits more some h t =
    let w = width_after before in
    let all : length (bits ++ more) ≡ length bits + length more = length-append bits more in
    let e = first_byte (suc room) before bits some h in
    let f = first_byte wide before (bits ++ more) (omega arith) (omega arith) in
    elim (leb_tells (length bits) w) [
      | inl few ↦ elim (leb_tells (length (bits ++ more)) w) [
        | inl u ↦ rw (e, f, few.0, u.0) (omega arith)
        | inr u ↦ rw (e, f, few.0, u.0) (omega arith)
      ]
      | inr many ↦
          let over : w < length bits = many.1 in
          let over_all : nat_le (length (bits ++ more)) w ≡ false = elim (leb_tells (length (bits ++ more)) w) [ inl u ↦ absurd (omega (arith, u.1)) | inr u ↦ u.0 ] in
          let some_width : 0 < w = elim (width_cases before) [ inl u ↦ omega (arith, u.1) | inr u ↦ omega (arith, u.1) ] in
          let front : drop w (bits ++ more) ≡ drop w bits ++ more = drop-append-le w bits more (omega arith) in
          let v : number_of w (bits ++ more) ≡ number_of w bits = number_of_front w bits more (omega arith) in
          let rest : length (drop w bits) ≡ length bits - w = length-drop w bits in
          let step : behind_byte (suc room - 1) (number_of w bits) (drop w bits) ≤ behind_byte (wide - 1) (number_of w bits) (drop w bits ++ more) =
          (let one : suc room - 1 ≡ room = omega arith in rw one (grows_behind room (wide - 1) (number_of w bits) (drop w bits) more (omega arith) (omega arith) (omega arith))) in
          rw (e, f, many.0, over_all, front, v) (omega (arith, step))
    ]

pub reach_grows : (bits more : List Bool) → reach bits ≤ reach (bits ++ more)
unfolding packed_after bytes_of_bits
reach_grows [] more = omega arith
reach_grows (b ∷ bits) more =
    grows_behind (length (b ∷ bits)) (length ((b ∷ bits) ++ more)) 0 (b ∷ bits) more (omega arith) (omega arith) (omega (arith, length-append (b ∷ bits) more))

-- bits that reach past a buffer do so with further ones
pub past_with_more : (done bits more : List Bool) (room : ℕ) → room < reach (done ++ bits) → room < reach (done ++ (bits ++ more))
past_with_more done bits more room h =
    let P : List Bool → Type 0 = λ l. reach (done ++ bits) ≤ reach l in
    let g : reach (done ++ bits) ≤ reach (done ++ (bits ++ more)) = subst P (append_assoc done bits more) (reach_grows (done ++ bits) more) in
    omega arith

-- bits of no byte are none
no_bits : (bits spare : List Bool) → [] ≡ bits ++ spare → bits ≡ []
no_bits [] spare e = refl
no_bits (b ∷ bits) spare e = absurd (cc)

none_reaches : reach [] ≡ 0
unfolding packed_after bytes_of_bits
none_reaches = refl

in_no_byte : (bits spare : List Bool) (bytes : List ℕ) → bytes ≡ [] → Carries bits spare bytes → bits ≡ []
unfolding carried_after
in_no_byte bits spare [] e s = no_bits bits spare s.filled
in_no_byte bits spare (b ∷ bytes) e s = absurd (cc)

-- bits that were written reach no further than the buffer
pub written_within : (bits : List Bool) (buf : List ℕ) (w : BitWriterState) → HasWritten bits buf w → reach bits ≤ length buf
written_within bits buf w r = elim (eqb_tells w.len 0) [
  | inl t ↦
      let none : bits ≡ [] = in_no_byte bits (replicate w.free false) (take w.len buf) (ap (λ (n : ℕ). take n buf) t.1) r.holds in
      omega (arith, ap reach none, none_reaches)
  | inr t ↦
      let ne : w.len ≢ 0 = t.1 in
      omega (arith, reach_is bits buf w (omega arith) r, r.within)
]
