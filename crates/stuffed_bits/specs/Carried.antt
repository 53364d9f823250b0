-- Bits that bytes carry while more may follow (T.800 B.10.1).
use Rattle.std.specs.Prelude.{◌≡◌, ◌<◌, ◌≤◌, ◌++◌, ℕ, Bool, List, [], ◌∷◌, length, take, Option, Some, None}
use Rattle.codestream_model.specs.Bytes.{IsBytes}
use Rattle.codestream_model.specs.StuffedBits.{IsStuffed, carried}

-- The last of these bytes, which follow `before`; `before` where there is none.
unfoldable pub last_from : ℕ → List ℕ → ℕ
last_from before [] = before
last_from before (b ∷ bytes) = last_from b bytes

-- The last of bytes, if any.
abbrev pub last_of : List ℕ → Option ℕ
last_of [] = None
last_of (b ∷ bytes) = Some (last_from b bytes)

-- The byte before the next one, or 0 before the first.
abbrev pub before_next : Option ℕ → ℕ
before_next None = 0
before_next (Some b) = b

-- The bytes, as far as they are filled, carry these bits and then the spare ones, and none of their prefixes carries all of
-- these bits.
pub record Carries (bits spare : List Bool) (bytes : List ℕ) : Type 0 where
  pub each : IsBytes bytes
  pub stuffed : IsStuffed bytes
  pub filled : carried bytes ≡ bits ++ spare
  pub needed : (n : ℕ) → n < length bytes → length (carried (take n bytes)) < length bits

-- The same as `Carries`, of bytes of which a prefix may carry all of these bits: the last byte may have been begun for none.
pub record Begun (bits spare : List Bool) (bytes : List ℕ) : Type 0 where
  pub each : IsBytes bytes
  pub stuffed : IsStuffed bytes
  pub filled : carried bytes ≡ bits ++ spare
  pub needed : (n : ℕ) → n < length bytes → length (carried (take n bytes)) ≤ length bits
