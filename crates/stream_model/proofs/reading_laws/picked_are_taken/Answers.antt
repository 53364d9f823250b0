use Rattle.stream_model.proofs.FramePicked.{picked_are_taken}
use Rattle.stream_model.proofs.reading_laws.picked_are_taken.Goals as goal

pub returns : goal.returns
returns c = picked_are_taken
