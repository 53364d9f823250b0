use Rattle.stream_model.proofs.FrameKept.{each_precinct_is_kept}
use Rattle.stream_model.proofs.reading_laws.each_precinct_is_kept.Goals as goal

pub returns : goal.returns
returns c = each_precinct_is_kept
