-- Laws of what is drawn.
use Rattle.std.specs.Prelude.{◌≡◌, ◌<◌, ◌≤◌, ◌^◌, ℕ, length}
use Rattle.codestream_model.specs.Bytes.{IsBytes}
use Rattle.trial_model.specs.Draws.{draw, draw_bytes}

-- A draw is below its bound and leaves a state of 64 bits; as many bytes are drawn as are asked
-- for.
pub record DrawsAreWithin : Type 0 where
  pub number : (n state : ℕ) → 1 ≤ n → (draw n state).value < n
  pub state : (n state : ℕ) → (draw n state).state < 2 ^ 64
  pub length : (n state : ℕ) → length (draw_bytes n state).value ≡ n
  pub bytes : (n state : ℕ) → IsBytes (draw_bytes n state).value
