use Rattle.stream_model.proofs.InOrderReceived.{in_order_gives_all}
use Rattle.stream_model.proofs.run_laws.in_order_gives_all.Goals as goal

pub returns : goal.returns
returns c = in_order_gives_all
