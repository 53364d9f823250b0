use Rattle.recv_job.proofs.Promised.{due_at_end}
use Rattle.recv_job.proofs.laws.due_at_end.Goals as goal

pub returns : goal.returns
returns c = due_at_end
