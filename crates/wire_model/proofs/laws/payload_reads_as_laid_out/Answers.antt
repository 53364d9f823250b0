use Rattle.wire_model.proofs.PayloadFound.{payload_reads_as_laid_out}
use Rattle.wire_model.proofs.laws.payload_reads_as_laid_out.Goals as goal

pub returns : goal.returns
returns c = payload_reads_as_laid_out
