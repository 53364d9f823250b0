use Rattle.stream_model.proofs.Found.{precinct_is_found}
use Rattle.stream_model.proofs.laws.precinct_is_found.Goals as goal

pub returns : goal.returns
returns c = precinct_is_found
