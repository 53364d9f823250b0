use Rattle.codestream_model.proofs.HeaderLemmas.{header_read}
use Rattle.codestream_model.proofs.packet_laws.headers_are_read.Goals as goal

pub returns : goal.returns
returns c = header_read
