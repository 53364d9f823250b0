use Rattle.wire_model.proofs.PayloadLaws.{payload_is_read_one_way}
use Rattle.wire_model.proofs.laws.payload_is_read_one_way.Goals as goal

pub returns : goal.returns
returns c = payload_is_read_one_way
