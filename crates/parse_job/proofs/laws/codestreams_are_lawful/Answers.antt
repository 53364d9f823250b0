use Rattle.parse_job.proofs.Lawful.{codestreams_are_lawful}
use Rattle.parse_job.proofs.laws.codestreams_are_lawful.Goals as goal

pub returns : goal.returns
returns c = codestreams_are_lawful
