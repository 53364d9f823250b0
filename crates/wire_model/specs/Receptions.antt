-- What the outside answers to a call for a datagram.
use Rattle.std.specs.Prelude.{ℕ, List}

-- The answer to a call for a datagram: one arrived; none is there now; none will come; the call failed.
pub data Reception : Type 0 where
  Arrived : List ℕ → Reception
  NotReady : Reception
  Closed : Reception
  Failed : Reception
