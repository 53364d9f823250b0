use Rattle.stream_model.proofs.ClosedFound.{bytes_fix}
use Rattle.stream_model.proofs.cut_laws.bytes_fix_datagrams.Goals as goal

pub returns : goal.returns
returns c = bytes_fix
