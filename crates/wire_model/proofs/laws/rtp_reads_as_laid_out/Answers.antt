use Rattle.wire_model.proofs.RtpFound.{rtp_reads_as_laid_out}
use Rattle.wire_model.proofs.laws.rtp_reads_as_laid_out.Goals as goal

pub returns : goal.returns
returns c = rtp_reads_as_laid_out
