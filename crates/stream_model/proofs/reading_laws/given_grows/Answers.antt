use Rattle.stream_model.proofs.FrameReceivers.{given_grows}
use Rattle.stream_model.proofs.reading_laws.given_grows.Goals as goal

pub returns : goal.returns
returns c = given_grows
