use Rattle.stream_model.proofs.FrameReceivers.{given_stays}
use Rattle.stream_model.proofs.reading_laws.given_stays.Goals as goal

pub returns : goal.returns
returns c = given_stays
