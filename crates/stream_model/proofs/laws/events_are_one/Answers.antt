use Rattle.stream_model.proofs.Found.{events_are_one}
use Rattle.stream_model.proofs.laws.events_are_one.Goals as goal

pub returns : goal.returns
returns c = events_are_one
