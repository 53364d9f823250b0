use Rattle.delivery_model.proofs.Delivered.{missing_is_greater}
use Rattle.delivery_model.proofs.delivering_laws.missing_is_greater.Goals as goal

pub returns : goal.returns
returns c = missing_is_greater
