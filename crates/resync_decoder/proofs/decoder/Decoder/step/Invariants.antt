use Rattle.std.proofs.Common.{◌≡◌}
use Rattle.stream_model.specs.Decoder.{settled}
use Rattle.stream_model.proofs.Settles.{weight}
use Rattle.resync_decoder.proofs.decoder.Decoder.step.Given as goal

-- the bytes settle to the same, and each change makes the weight less
abbrev pub invariant-loop-self : goal.invariant-loop-self
invariant-loop-self l = settled l.fn.self.rules ≡ settled l.self.rules

abbrev pub decreases-loop-self : goal.decreases-loop-self
decreases-loop-self l = weight l.self.rules
