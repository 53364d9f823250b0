use Rattle.stream_model.proofs.WindowMaps.{window_of_frames}
use Rattle.stream_model.proofs.receiver_laws.window_of_frames.Goals as goal

pub returns : goal.returns
returns c = window_of_frames
