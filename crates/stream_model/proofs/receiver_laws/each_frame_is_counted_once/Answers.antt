use Rattle.stream_model.proofs.CountedFrames.{each_frame_is_counted_once}
use Rattle.stream_model.proofs.receiver_laws.each_frame_is_counted_once.Goals as goal

pub returns : goal.returns
returns c = each_frame_is_counted_once
