use Rattle.pack_job.proofs.Promised.{packed_so_far}
use Rattle.pack_job.proofs.laws.packed_so_far.Goals as goal

pub returns : goal.returns
returns c = packed_so_far
