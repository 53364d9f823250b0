-- The state of a reader of bits.
use Rattle.std.specs.Prelude.{◌≡◌, ◌<◌, ◌≤◌, ◌^◌, ℕ, Bool, List, [], replicate, Option, None}
use Rattle.codestream_model.specs.StuffedBits.{number_bits}
use Rattle.stuffed_bits.specs.declared.part.Part.{Part}
use Rattle.stuffed_bits.specs.declared.part.Part.TheVariants.{Nothing, Number, Run}

-- The state of a reader of bits: the last byte that was taken, if any; how many of its bits, the lowest ones, weren't read yet;
-- and the bits that were read of a value whose last bit hasn't come.
pub record BitInState : Type 0 where
  pub last : Option ℕ
  pub left : ℕ
  pub part : Part

-- The state before the first byte.
abbrev pub no_byte : BitInState
no_byte = record { last = None; left = 0; part = Nothing }

-- The bits that were read of a value whose last bit hasn't come.
abbrev pub part_bits : Part → List Bool
part_bits Nothing = []
part_bits (Number v n) = number_bits n v
part_bits (Run of n) = replicate n of

-- No bits are kept of a value whose last bit hasn't come.
abbrev pub IsFree : BitInState → Type 0
IsFree h = h.part ≡ Nothing

-- No bits are kept, or the first bits of a number of `width` bits.
abbrev pub IsOfNumber : ℕ → Part → Type 0
IsOfNumber width Nothing = Unit {0}
IsOfNumber width (Number v n) = (n ≤ width) × (v < 2 ^ n)
IsOfNumber width (Run of n) = ⊥

-- No bits are kept, or bits of a run of this kind.
abbrev pub IsOfRun : Bool → Part → Type 0
IsOfRun of Nothing = Unit {0}
IsOfRun of (Number v n) = ⊥
IsOfRun of (Run kind n) = kind ≡ of
