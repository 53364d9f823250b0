use Rattle.delivery_model.proofs.Picked.{thinned_and_picked}
use Rattle.delivery_model.proofs.picking_laws.thinned_and_picked.Goals as goal

pub returns : goal.returns
returns c = thinned_and_picked
