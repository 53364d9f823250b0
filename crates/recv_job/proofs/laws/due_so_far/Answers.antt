use Rattle.recv_job.proofs.Promised.{due_so_far}
use Rattle.recv_job.proofs.laws.due_so_far.Goals as goal

pub returns : goal.returns
returns c = due_so_far
