use Rattle.delivery_model.proofs.Delivered.{delivered_are_listed}
use Rattle.delivery_model.proofs.delivering_laws.delivered_are_listed.Goals as goal

pub returns : goal.returns
returns c = delivered_are_listed
