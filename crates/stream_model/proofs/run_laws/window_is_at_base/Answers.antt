use Rattle.stream_model.proofs.ReceiverLaws.{window_is_at_base}
use Rattle.stream_model.proofs.run_laws.window_is_at_base.Goals as goal

pub returns : goal.returns
returns c = window_is_at_base
