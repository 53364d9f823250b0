use Rattle.codestream_model.proofs.HeaderLimits.{header_is_within_limits}
use Rattle.codestream_model.proofs.laws.header_is_within_limits.Goals as goal

pub returns : goal.returns
returns c = header_is_within_limits
