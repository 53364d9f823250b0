use Rattle.codestream_model.proofs.OneWayLemmas.{one_header}
use Rattle.codestream_model.proofs.packet_laws.headers_are_read_one_way.Goals as goal

pub returns : goal.returns
returns c = one_header
