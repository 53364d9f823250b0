use Rattle.stream_model.proofs.CountedFrames.{malformed_frames_are_counted_alone}
use Rattle.stream_model.proofs.receiver_laws.malformed_frames_are_counted_alone.Goals as goal

pub returns : goal.returns
returns c = malformed_frames_are_counted_alone
