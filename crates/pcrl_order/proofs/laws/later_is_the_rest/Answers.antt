use Rattle.pcrl_order.proofs.Behind.{later_is_the_rest}
use Rattle.pcrl_order.proofs.laws.later_is_the_rest.Goals as goal

pub returns : goal.returns
returns c = later_is_the_rest
