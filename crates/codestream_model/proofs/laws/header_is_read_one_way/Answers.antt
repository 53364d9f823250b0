use Rattle.codestream_model.proofs.HeaderReads.{header_is_read_one_way}
use Rattle.codestream_model.proofs.laws.header_is_read_one_way.Goals as goal

pub returns : goal.returns
returns c = header_is_read_one_way
