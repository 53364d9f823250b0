use Rattle.std.proofs.Common.{ℕ, List, Some, None, sym, ap, ◌∙◌, length, subst}
use Rattle.codestream_model.specs.HeadLimits.{IsWithinLimits}
use Rattle.codestream_model.specs.Precincts.{IsPrecinct}
use Rattle.pcrl_order.specs.declared.anchored.Anchored.{Anchored}
use Rattle.pcrl_order.specs.Ahead.{IsAhead, numbers_after}
use Rattle.pcrl_order.specs.Least.{IsLeastOf}
use Rattle.pcrl_order.proofs.Candidates.{refilled}
use Rattle.pcrl_order.proofs.Steps.{first_is, first_is_there}
use Rattle.pcrl_order.proofs.walk.OrderWalk.new.Goals as goal

pub unreachable-requires : goal.unreachable-requires
unreachable-requires c =
    let P : List ℕ → Type 0 = λ from. IsLeastOf c.args.geometry from (IsPrecinct c.args.geometry) None in
    first_is_there c.args.geometry (subst IsWithinLimits c.head.ensures c.is_within_limits.ensures) (subst P c.least.ensures (rw c.in_default.is at c.take_next.ensures.least))

pub invariant_of-result : goal.invariant_of-result
invariant_of-result c =
    let P : List Anchored → Type 0 = λ nexts. IsAhead c.args.geometry (numbers_after c.in-Some.here) nexts in
    let count = c.take_next.ensures.count ∙ ap (λ (l : List Anchored). length l) c.deref_mut.ensures.value in
    (c.in-Some.ensures.there, subst P (sym (refilled c.all_first-nexts.result.items c.take_next.new.nexts count)) c.in-Some.ensures.some)

pub returns-clause-first : goal.returns-clause-first
returns-clause-first c =
    let P : List ℕ → Type 0 = λ from. IsLeastOf c.args.geometry from (IsPrecinct c.args.geometry) (Some c.in-Some.here) in
    first_is c.args.geometry c.in-Some.here (subst IsWithinLimits c.head.ensures c.is_within_limits.ensures) (subst P c.least.ensures c.in-Some.ensures.least)
