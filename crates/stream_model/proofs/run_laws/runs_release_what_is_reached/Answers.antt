use Rattle.stream_model.proofs.RunLaws.{runs_release}
use Rattle.stream_model.proofs.run_laws.runs_release_what_is_reached.Goals as goal

pub returns : goal.returns
returns c = runs_release
