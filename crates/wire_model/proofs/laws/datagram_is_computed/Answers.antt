use Rattle.wire_model.proofs.DatagramLaws.{datagram_is_computed}
use Rattle.wire_model.proofs.RtpLaws.{rtp_is_read_one_way}
use Rattle.wire_model.proofs.PayloadLaws.{payload_is_read_one_way}
use Rattle.wire_model.proofs.laws.datagram_is_computed.Goals as goal

pub returns : goal.returns
returns c = datagram_is_computed rtp_is_read_one_way payload_is_read_one_way
