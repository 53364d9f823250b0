use Rattle.wire_model.proofs.VerdictLaws.{payload_has_one_verdict}
use Rattle.wire_model.proofs.laws.payload_has_one_verdict.Goals as goal

pub returns : goal.returns
returns c = payload_has_one_verdict
