use Rattle.codestream_model.proofs.BrokenLemmas.{broken_at_is_first}
use Rattle.codestream_model.proofs.choice_laws.broken_at_is_first.Goals as goal

pub returns : goal.returns
returns c = broken_at_is_first
