use Rattle.stream_model.proofs.DueLaws.{each_precinct_is_said}
use Rattle.stream_model.proofs.run_laws.each_precinct_is_said.Goals as goal

pub returns : goal.returns
returns c = each_precinct_is_said
