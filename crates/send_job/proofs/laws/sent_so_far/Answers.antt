use Rattle.send_job.proofs.Lawful.{sent_so_far}
use Rattle.send_job.proofs.laws.sent_so_far.Goals as goal

pub returns : goal.returns
returns c = sent_so_far c.sending_is_told.ensures
