use Rattle.pcrl_order.proofs.Behind.{places_from_one_on}
use Rattle.pcrl_order.proofs.laws.places_from_one_on.Goals as goal

pub returns : goal.returns
returns c = places_from_one_on
