use Rattle.sender_model.proofs.Packed.{pack_writes_cut}
use Rattle.sender_model.proofs.output_laws.pack_writes_cut.Goals as goal

pub returns : goal.returns
returns c = pack_writes_cut
