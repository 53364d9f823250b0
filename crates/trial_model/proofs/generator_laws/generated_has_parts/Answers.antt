use Rattle.trial_model.proofs.GeneratedParts.{generated_has_parts}
use Rattle.trial_model.proofs.generator_laws.generated_has_parts.Goals as goal

pub returns : goal.returns
returns c = generated_has_parts
