use Rattle.sender_model.proofs.Told.{each_is_counted}
use Rattle.sender_model.proofs.sending_laws.each_is_counted.Goals as goal

pub returns : goal.returns
returns c = each_is_counted
