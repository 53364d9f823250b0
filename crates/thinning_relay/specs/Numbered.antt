-- Receivers by their numbers.
use Rattle.std.specs.Prelude.{◌≡◌, ℕ, List, Some, slice_get}
use Rattle.thinning_relay.specs.declared.receiver.Receiver.{Receiver}

-- Each receiver has the number of its place.
abbrev pub AreNumbered : List Receiver → Type 0
AreNumbered rs = (j : ℕ) (r : Receiver) → slice_get rs j ≡ Some r → r.queue.peer ≡ j
