use Rattle.trial_model.proofs.ShapeHeads.{shape_headers_are_accepted}
use Rattle.trial_model.proofs.generator_laws.shape_headers_are_accepted.Goals as goal

pub returns : goal.returns
returns c = shape_headers_are_accepted
