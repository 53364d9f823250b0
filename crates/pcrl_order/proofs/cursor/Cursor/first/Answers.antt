use Rattle.std.proofs.Common.{ℕ, List, None, Some, subst}
use Rattle.codestream_model.specs.HeadLimits.{IsWithinLimits}
use Rattle.codestream_model.specs.Precincts.{IsPrecinct}
use Rattle.pcrl_order.specs.Least.{IsLeastOf}
use Rattle.pcrl_order.proofs.Steps.{first_is, first_is_there}
use Rattle.pcrl_order.proofs.cursor.Cursor.first.Goals as goal

pub unreachable-requires : goal.unreachable-requires
unreachable-requires c =
    let P : List ℕ → Type 0 = λ from. IsLeastOf c.args.geometry.now from (IsPrecinct c.args.geometry.now) None in
    first_is_there c.args.geometry.now (subst IsWithinLimits c.head.ensures c.is_within_limits.ensures) (subst P c.least.ensures (rw c.in_default.is at c.least_from.ensures))

pub returns-clause-first : goal.returns-clause-first
returns-clause-first c =
    let P : List ℕ → Type 0 = λ from. IsLeastOf c.args.geometry.now from (IsPrecinct c.args.geometry.now) (Some c.in-Some.first) in
    first_is c.args.geometry.now c.in-Some.first (subst IsWithinLimits c.head.ensures c.is_within_limits.ensures) (subst P c.least.ensures (rw c.in-Some.is at c.least_from.ensures))
