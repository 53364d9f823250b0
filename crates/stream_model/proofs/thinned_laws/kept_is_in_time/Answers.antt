use Rattle.stream_model.proofs.ThinnedTimes.{kept_is_in_time}
use Rattle.stream_model.proofs.thinned_laws.kept_is_in_time.Goals as goal

pub returns : goal.returns
returns c = kept_is_in_time
