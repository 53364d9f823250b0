use Rattle.wire_model.proofs.RtpLaws.{rtp_is_read_one_way}
use Rattle.wire_model.proofs.laws.rtp_is_read_one_way.Goals as goal

pub returns : goal.returns
returns c = rtp_is_read_one_way
