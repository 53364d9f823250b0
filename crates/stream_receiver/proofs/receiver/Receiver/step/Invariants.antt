use Rattle.std.proofs.Common.{◌≡◌}
use Rattle.stream_model.specs.DrainLaws.{weight}
use Rattle.stream_receiver.specs.States.{rest}
use Rattle.stream_receiver.proofs.receiver.Receiver.step.Given as goal

-- what can be given stays, and each datagram or gap makes the window lighter
abbrev pub invariant-loop-self : goal.invariant-loop-self
invariant-loop-self l = (rest l.fn.self ≡ rest l.self) × (l.self.pick ≡ l.fn.self.pick)

abbrev pub decreases-loop-self : goal.decreases-loop-self
decreases-loop-self l = weight l.self.rules.window
