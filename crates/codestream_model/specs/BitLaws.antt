-- What is promised of the bits that bytes carry, of their stuffing and of packing, in the words of T.800 B.10.1.
use Rattle.std.specs.Prelude.{◌≡◌, ◌≤◌, ◌↔◌, ◌-◌, ℕ, Bool, false, List, ◌++◌, length, take, slice_index, Some, None}
use Rattle.std.specs.List.{AllByRecursion}
use Rattle.codestream_model.specs.StuffedBits.{carried, Packs, packing, packed_bits, bytes_of_bits}

-- Bits packed in bytes are the first bits read from these bytes, whatever follows them.
abbrev pub PackedBitsAreRead : Type 0
PackedBitsAreRead =
    (bits : List Bool) (bytes more : List ℕ) → Packs bits bytes
    → (rest : List Bool) × ((packed_bits (bytes ++ more)).bits ≡ bits ++ rest)

-- The stuffing is broken at an index where a byte of 128 or more follows FF.
pub record IsBrokenAt (bytes : List ℕ) (i : ℕ) : Type 0 where
  pub later : 1 ≤ i
  pub after_ff : slice_index bytes (i - 1) ≡ 255
  pub high : 128 ≤ slice_index bytes i

-- An index is the first at which the stuffing is broken.
pub record IsFirstBroken (bytes : List ℕ) (i : ℕ) : Type 0 where
  pub broken : IsBrokenAt bytes i
  pub none_before : (j : ℕ) → IsBrokenAt bytes j → i ≤ j

-- Reading names the first index at which the stuffing is broken.
abbrev pub BrokenAtIsFirst : Type 0
BrokenAtIsFirst =
    (bytes : List ℕ) (i : ℕ) → ((packed_bits bytes).broken_at ≡ Some i) ↔ IsFirstBroken bytes i

-- Reading names no index exactly where the stuffing isn't broken.
abbrev pub UnbrokenIsNone : Type 0
UnbrokenIsNone =
    (bytes : List ℕ) → ((packed_bits bytes).broken_at ≡ None) ↔ ((i : ℕ) → IsBrokenAt bytes i → ⊥)

-- `bytes_of_bits` is the least number of first bytes that carry at least n bits.
abbrev pub BytesOfBitsIsLeast : Type 0
BytesOfBitsIsLeast =
    (n k : ℕ) (bytes : List ℕ) → 1 ≤ n → n ≤ length (carried bytes)
    → (bytes_of_bits 0 n bytes ≤ k) ↔ (n ≤ length (carried (take k bytes)))

-- The bits that `packing` adds after the given ones are all 0.
abbrev pub PackingPadsWithZeros : Type 0
PackingPadsWithZeros =
    (bits : List Bool)
    → (pad : List Bool) × (carried (packing bits) ≡ bits ++ pad)
    × AllByRecursion (λ b. b ≡ false) pad
