use Rattle.stream_model.proofs.CutRuns.{chunks_are_full}
use Rattle.stream_model.proofs.laws.chunks_are_full.Goals as goal

pub returns : goal.returns
returns c = chunks_are_full
