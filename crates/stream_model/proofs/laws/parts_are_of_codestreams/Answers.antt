use Rattle.stream_model.proofs.CodestreamParts.{parts_are_of_codestreams}
use Rattle.stream_model.proofs.laws.parts_are_of_codestreams.Goals as goal

pub returns : goal.returns
returns c = parts_are_of_codestreams
