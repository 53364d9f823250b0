-- What is drawn of the positions of a trial's datagrams.
use Rattle.std.specs.Prelude.{◌≡◌, ◌++◌, ℕ}
use Rattle.trial_model.specs.Trial.{not_lost}
use Rattle.trial_job.specs.declared.delivering.Arrivals.{Arrivals}

-- Between the old and the new arrivals the datagram at a position was drawn: its position was added
-- as often as it comes.
pub record AddsPosition (loss position : ℕ) (old new : Arrivals) : Type 0 where
  pub positions : new.positions.items ≡ old.positions.items ++ (not_lost loss position 1 old.draws.state).value
  pub state : new.draws.state ≡ (not_lost loss position 1 old.draws.state).state

-- The arrivals are those that are drawn for a number of datagrams from a seed.
pub record AreDrawn (loss count seed : ℕ) (arrivals : Arrivals) : Type 0 where
  pub positions : arrivals.positions.items ≡ (not_lost loss 0 count seed).value
  pub state : arrivals.draws.state ≡ (not_lost loss 0 count seed).state
