use Rattle.stream_model.proofs.WrittenDatagrams.{written_is_datagram}
use Rattle.stream_model.proofs.laws.written_is_datagram.Goals as goal

pub returns : goal.returns
returns c = written_is_datagram
