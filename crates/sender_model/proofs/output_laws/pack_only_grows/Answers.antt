use Rattle.sender_model.proofs.Packed.{pack_only_grows}
use Rattle.sender_model.proofs.output_laws.pack_only_grows.Goals as goal

pub returns : goal.returns
returns c = pack_only_grows
