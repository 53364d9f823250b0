use Rattle.stream_model.proofs.FrameKept.{each_release_is_read}
use Rattle.stream_model.proofs.reading_laws.each_release_is_read.Goals as goal

pub returns : goal.returns
returns c = each_release_is_read
