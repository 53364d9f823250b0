use Rattle.stream_model.proofs.CutRuns.{stretches_are_runs}
use Rattle.stream_model.proofs.laws.stretches_are_runs.Goals as goal

pub returns : goal.returns
returns c = stretches_are_runs
