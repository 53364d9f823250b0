-- What is drawn is within its bounds.
use Rattle.std.proofs.Common.{◌≡◌, ◌<◌, ◌≤◌, ◌+◌, ◌*◌, ◌/◌, ◌^◌, ℕ, zero, suc, length, refl, ap, arith}
use Rattle.std.proofs.Math.Nat.{mod-lt}
use Rattle.codestream_model.specs.Bytes.{IsBytes}
use Rattle.trial_model.specs.Draws.{next_state, drawn, draw_bytes}
use Rattle.trial_model.specs.DrawLaws.{DrawsAreWithin}

-- a number that is drawn is below its bound
below : (n state : ℕ) → 1 ≤ n → drawn n state < n
below n state some = mod-lt (state / 2 ^ 33) some

-- as many bytes are drawn as are asked for
drawn_length : (n state : ℕ) → length (draw_bytes n state).value ≡ n
unfolding draw_bytes
drawn_length zero state = refl
drawn_length (suc n) state = ap suc (drawn_length n (next_state state))

-- and they are bytes
drawn_bytes : (n state : ℕ) → IsBytes (draw_bytes n state).value
unfolding draw_bytes
drawn_bytes zero state i = omega arith
drawn_bytes (suc n) state zero = omega (arith, below 255 (next_state state) (omega arith))
drawn_bytes (suc n) state (suc i) = drawn_bytes n (next_state state) i

pub draws_are_within : DrawsAreWithin
draws_are_within = record {
  number = λ n state some. below n (next_state state) some;
  state = λ n state. mod-lt (state * 6364136223846793005 + 1442695040888963407) (omega arith);
  length = drawn_length;
  bytes = drawn_bytes;
}
