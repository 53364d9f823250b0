use Rattle.stream_model.proofs.DueLaws.{gives_what_is_due}
use Rattle.stream_model.proofs.run_laws.gives_what_is_due.Goals as goal

pub returns : goal.returns
returns c = gives_what_is_due
