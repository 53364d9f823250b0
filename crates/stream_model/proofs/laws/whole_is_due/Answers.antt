use Rattle.stream_model.proofs.WholeStreams.{whole_stream_is_due}
use Rattle.stream_model.proofs.laws.whole_is_due.Goals as goal

pub returns : goal.returns
returns c = whole_stream_is_due
