use Rattle.stream_model.proofs.CutStreams.{cut_is_stream}
use Rattle.stream_model.proofs.laws.cut_is_stream.Goals as goal

pub returns : goal.returns
returns c = cut_is_stream
