use Rattle.codestream_model.proofs.WrittenLemmas.{written_is_header}
use Rattle.codestream_model.proofs.packet_laws.written_is_header.Goals as goal

pub returns : goal.returns
returns c = written_is_header
