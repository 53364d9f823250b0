use Rattle.std.proofs.Common.{◌≡◌, ◌<◌, ℕ, false, nat_le, Some}
use Rattle.std.specs.Prelude.{slice_get}
use Rattle.thinning_relay.specs.declared.receiver.Receiver.{Receiver}
use Rattle.thinning_relay.proofs.passing.has_taker.Given as goal

abbrev pub invariant-loop-receiver : goal.invariant-loop-receiver
invariant-loop-receiver l = (j : ℕ) (r : Receiver) → j < l.receiver-index → slice_get l.receivers j ≡ Some r → nat_le l.level r.limit ≡ false
