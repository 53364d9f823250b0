use Rattle.send_job.proofs.Lawful.{sent_at_end}
use Rattle.send_job.proofs.laws.sent_at_end.Goals as goal

pub returns : goal.returns
returns c = sent_at_end c.sending_is_told.ensures
