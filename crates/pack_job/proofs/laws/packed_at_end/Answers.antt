use Rattle.pack_job.proofs.Promised.{packed_at_end}
use Rattle.pack_job.proofs.laws.packed_at_end.Goals as goal

pub returns : goal.returns
returns c = packed_at_end
