use Rattle.deliver_job.proofs.Lawful.{delivered_inputs_are_lawful}
use Rattle.deliver_job.proofs.laws.delivered_inputs_are_lawful.Goals as goal

pub returns : goal.returns
returns c = delivered_inputs_are_lawful
