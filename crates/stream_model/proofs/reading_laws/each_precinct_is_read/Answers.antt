use Rattle.stream_model.proofs.FrameReceivers.{each_precinct_is_read}
use Rattle.stream_model.proofs.reading_laws.each_precinct_is_read.Goals as goal

pub returns : goal.returns
returns c = each_precinct_is_read
