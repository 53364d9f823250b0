use Rattle.rebuild_job.proofs.Promised.{stream_is_rebuilt}
use Rattle.rebuild_job.proofs.laws.stream_is_rebuilt.Goals as goal

pub returns : goal.returns
returns c = stream_is_rebuilt
