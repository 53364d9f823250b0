use Rattle.pack_job.proofs.Promised.{stream_is_packed}
use Rattle.pack_job.proofs.laws.stream_is_packed.Goals as goal

pub returns : goal.returns
returns c = stream_is_packed
