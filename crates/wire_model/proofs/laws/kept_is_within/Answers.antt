use Rattle.wire_model.proofs.DatagramLaws.{kept_is_within}
use Rattle.wire_model.proofs.RtpLaws.{rtp_is_read_one_way}
use Rattle.wire_model.proofs.PayloadLaws.{payload_is_read_one_way}
use Rattle.wire_model.proofs.RtpFound.{rtp_reads_as_laid_out}
use Rattle.wire_model.proofs.PayloadFound.{payload_reads_as_laid_out}
use Rattle.wire_model.proofs.laws.kept_is_within.Goals as goal

pub returns : goal.returns
returns c = kept_is_within rtp_is_read_one_way payload_is_read_one_way rtp_reads_as_laid_out payload_reads_as_laid_out
