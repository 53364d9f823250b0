use Rattle.codestream_model.proofs.LongHeaders.{long_headers_are_refused}
use Rattle.codestream_model.proofs.packet_laws.long_headers_are_refused.Goals as goal

pub returns : goal.returns
returns c = long_headers_are_refused
