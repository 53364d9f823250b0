use Rattle.codestream_model.proofs.StripLaws.{each_component_has_precincts}
use Rattle.codestream_model.proofs.laws.each_component_has_precincts.Goals as goal

pub returns : goal.returns
returns c = each_component_has_precincts
