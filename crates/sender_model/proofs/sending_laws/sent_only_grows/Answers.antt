use Rattle.sender_model.proofs.Told.{sent_only_grows}
use Rattle.sender_model.proofs.sending_laws.sent_only_grows.Goals as goal

pub returns : goal.returns
returns c = sent_only_grows
