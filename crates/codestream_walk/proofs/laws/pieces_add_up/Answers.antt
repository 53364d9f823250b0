use Rattle.codestream_walk.proofs.Inputs.{pieces_add_up}
use Rattle.codestream_walk.proofs.laws.pieces_add_up.Goals as goal

pub returns : goal.returns
returns c = pieces_add_up
