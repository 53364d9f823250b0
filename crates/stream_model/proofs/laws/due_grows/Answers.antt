use Rattle.stream_model.proofs.DueGrows.{due_grows}
use Rattle.stream_model.proofs.laws.due_grows.Goals as goal

pub returns : goal.returns
returns c = due_grows
