-- The bits that packing adds are 0.
use Rattle.std.proofs.Common.{◌≡◌, ◌<◌, ◌≤◌, ◌+◌, ◌-◌, ◌==◌, ℕ, zero, suc, Bool, true, false, List, [], ◌∷◌, ◌++◌, length, take, drop, refl, sym, ◌∙◌, ap, inl, inr, arith, append_assoc}
use Rattle.std.specs.List.{AllByRecursion}
use Rattle.std.proofs.lemmas.Bool.{cases_lt}
use Rattle.std.proofs.lemmas.Bool.Decides.{eqb_tells}
use Rattle.std.proofs.lemmas.List.{append-nil, length-drop, take-append-drop, drop_all}
use Rattle.codestream_model.specs.StuffedBits.{number_bits, number_of, width_after, carried_after, carried, packed_after, packing}
use Rattle.codestream_model.specs.BitLaws.{PackingPadsWithZeros}
use Rattle.codestream_model.proofs.BitLemmas.{padded, bits_of_number, number_bits-zero, padded-take, padded-short}
use Rattle.codestream_model.proofs.PackingLemmas.{width-ge}
use Rattle.codestream_model.proofs.SeatLemmas.{all-append}

-- bits that are all 0
abbrev AreZero : List Bool → Type 0
AreZero pad = AllByRecursion (λ (b : Bool). b ≡ false) pad

-- padding without bits is 0
zeros : (n : ℕ) → AreZero (padded n [])
unfolding padded
zeros zero = tt
zeros (suc n) = (refl, zeros n)

-- what closes the bytes carries bits that are 0
closing_zero : (room before : ℕ) → AreZero (carried_after before (packed_after room before []))
unfolding carried_after packed_after
closing_zero room before = elim (eqb_tells before 255) [
  | inl t ↦ rw (t.0, append-nil (number_bits (width_after before) 0), t.0, number_bits-zero 7) (zeros 7)
  | inr t ↦ rw t.0 tt
]

-- bits padded so that they fill a byte, and the bits after them
split : (w : ℕ) (bits more : List Bool) → AreZero more → (pad : List Bool) × (padded w bits ++ (drop w bits ++ more) ≡ bits ++ pad) × AreZero pad
split w bits more z = elim (cases_lt w (length bits)) [
  | inl long ↦ (
    more,
    ap (λ (l : List Bool). l ++ (drop w bits ++ more)) (padded-take w bits (omega arith)) ∙ (sym (append_assoc (take w bits) (drop w bits) more) ∙ ap (λ (l : List Bool). l ++ more) (take-append-drop w bits)),
    z,
  )
  | inr short ↦ (
    padded (w - length bits) [] ++ more,
    ap (λ (l : List Bool). padded w bits ++ (l ++ more)) (drop_all w bits short) ∙ (ap (λ (l : List Bool). l ++ more) (padded-short w bits short) ∙ append_assoc bits (padded (w - length bits) []) more),
    all-append (λ (b : Bool). b ≡ false) (padded (w - length bits) []) more (zeros (w - length bits)) z,
  )
]

packed_zero : (room before : ℕ) (bits : List Bool) → length bits ≤ room → (pad : List Bool) × (carried_after before (packed_after room before bits) ≡ bits ++ pad) × AreZero pad
unfolding carried_after packed_after
packed_zero room before [] h = (carried_after before (packed_after room before []), refl, closing_zero room before)
packed_zero zero before (b ∷ bits) h = absurd (omega arith)
packed_zero (suc room) before (b ∷ bits) h =
    let w = width_after before in
    let byte = number_of w (b ∷ bits) in
    let r = packed_zero room byte (drop w (b ∷ bits)) (omega (arith, length-drop w (b ∷ bits), width-ge before)) in
    let s = split w (b ∷ bits) r.0 r.2 in (
      s.0,
      ap (λ (l : List Bool). number_bits w byte ++ l) r.1 ∙ (ap (λ (l : List Bool). l ++ (drop w (b ∷ bits) ++ r.0)) (bits_of_number w (b ∷ bits)) ∙ s.1),
      s.2,
    )

pub packing_pads_with_zeros : PackingPadsWithZeros
packing_pads_with_zeros bits = packed_zero (length bits) 0 bits (let e : length bits ≤ length bits = omega arith in e)
