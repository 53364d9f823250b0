use Rattle.stream_model.proofs.InTime.{repeat_changes_nothing}
use Rattle.stream_model.proofs.laws.repeat_changes_nothing.Goals as goal

pub returns : goal.returns
returns c = repeat_changes_nothing
