use Rattle.std.proofs.Common.{arith, subst, ◌<◌, ℕ, List}
use Rattle.std.specs.List.{AllByRecursion}
use Rattle.std.proofs.lemmas.Grind.{common_steps}
use Rattle.trial_model.proofs.Trials.{delivered_are_within}
use Rattle.trial_job.proofs.delivering.delivered.Goals as goal

pub returns-clause-within : goal.returns-clause-within
returns-clause-within c =
    let P : List ℕ → Type 0 = λ l. AllByRecursion (λ i. i < c.args.count) l in
    subst P (grind (arith, common_steps)) (delivered_are_within c.args.seed c.args.loss c.args.count)
