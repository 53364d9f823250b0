use Rattle.codestream_model.proofs.Numbers.{pids_are_dense}
use Rattle.codestream_model.proofs.laws.pids_are_dense.Goals as goal

pub returns : goal.returns
returns c = pids_are_dense
