use Rattle.delivery_model.proofs.Delivered.{captures_are_delivered_or_refused}
use Rattle.delivery_model.proofs.delivering_laws.captures_are_delivered_or_refused.Goals as goal

pub returns : goal.returns
returns c = captures_are_delivered_or_refused
