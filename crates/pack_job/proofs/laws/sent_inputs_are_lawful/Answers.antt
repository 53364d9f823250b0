use Rattle.pack_job.proofs.Lawful.{sent_inputs_are_lawful}
use Rattle.pack_job.proofs.laws.sent_inputs_are_lawful.Goals as goal

pub returns : goal.returns
returns c = sent_inputs_are_lawful
