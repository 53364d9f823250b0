use Rattle.codestream_model.proofs.FaultsStay.{faults_stay}
use Rattle.codestream_model.proofs.item_laws.faults_stay.Goals as goal

pub returns : goal.returns
returns c = faults_stay
