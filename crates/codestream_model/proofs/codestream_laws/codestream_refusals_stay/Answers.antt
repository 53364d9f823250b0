use Rattle.codestream_model.proofs.Stays.{codestream_refusals_stay}
use Rattle.codestream_model.proofs.codestream_laws.codestream_refusals_stay.Goals as goal

pub returns : goal.returns
returns c = codestream_refusals_stay
