use Rattle.wire_model.proofs.DatagramLaws.{well_formed_is_datagram}
use Rattle.wire_model.proofs.RtpFound.{rtp_reads_as_laid_out}
use Rattle.wire_model.proofs.PayloadFound.{payload_reads_as_laid_out}
use Rattle.wire_model.proofs.laws.well_formed_is_datagram.Goals as goal

pub returns : goal.returns
returns c = well_formed_is_datagram rtp_reads_as_laid_out payload_reads_as_laid_out
