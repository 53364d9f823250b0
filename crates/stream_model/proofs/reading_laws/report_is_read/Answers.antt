use Rattle.stream_model.proofs.FramePicked.{report_is_read}
use Rattle.stream_model.proofs.reading_laws.report_is_read.Goals as goal

pub returns : goal.returns
returns c = report_is_read
