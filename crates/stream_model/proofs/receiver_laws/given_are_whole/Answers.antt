use Rattle.stream_model.proofs.WholeGiven.{given_are_whole}
use Rattle.stream_model.proofs.receiver_laws.given_are_whole.Goals as goal

pub returns : goal.returns
returns c = given_are_whole
