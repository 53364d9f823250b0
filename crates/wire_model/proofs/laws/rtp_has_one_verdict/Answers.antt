use Rattle.wire_model.proofs.VerdictLaws.{rtp_has_one_verdict}
use Rattle.wire_model.proofs.laws.rtp_has_one_verdict.Goals as goal

pub returns : goal.returns
returns c = rtp_has_one_verdict
