use Rattle.rebuild_job.proofs.Promised.{rebuilt_at_end}
use Rattle.rebuild_job.proofs.laws.rebuilt_at_end.Goals as goal

pub returns : goal.returns
returns c = rebuilt_at_end
