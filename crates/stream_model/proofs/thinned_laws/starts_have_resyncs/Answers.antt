use Rattle.stream_model.proofs.ThinnedCuts.{starts_have_resyncs}
use Rattle.stream_model.proofs.thinned_laws.starts_have_resyncs.Goals as goal

pub returns : goal.returns
returns c = starts_have_resyncs
