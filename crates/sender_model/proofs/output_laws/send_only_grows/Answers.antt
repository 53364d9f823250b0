use Rattle.sender_model.proofs.Packed.{send_only_grows}
use Rattle.sender_model.proofs.output_laws.send_only_grows.Goals as goal

pub returns : goal.returns
returns c = send_only_grows
