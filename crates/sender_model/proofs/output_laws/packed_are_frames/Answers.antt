use Rattle.sender_model.proofs.Packed.{packed_are_frames}
use Rattle.sender_model.proofs.output_laws.packed_are_frames.Goals as goal

pub returns : goal.returns
returns c = packed_are_frames
