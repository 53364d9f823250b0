use Rattle.std.proofs.Common.{◌≡◌}
use Rattle.codestream_model.specs.Codestream.{joined}
use Rattle.trial_model.specs.TrialLaws.{trial_codestreams}
use Rattle.trial_job.proofs.codestreams.codestreams.Given as goal

abbrev pub invariant-loop-i : goal.invariant-loop-i
invariant-loop-i l = l.bytes.items ≡ joined (trial_codestreams l.fn.seed l.i)
