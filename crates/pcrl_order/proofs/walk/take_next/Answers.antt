use Rattle.std.proofs.Common.{ℕ, List, Option, None, Some, sym, subst}
use Rattle.codestream_model.specs.Precincts.{IsPrecinct}
use Rattle.pcrl_order.specs.declared.anchored.Anchored.{Anchored}
use Rattle.pcrl_order.specs.Ahead.{candidate_at}
use Rattle.pcrl_order.specs.Least.{numbers_in, IsInResolution, IsLeastOf}
use Rattle.pcrl_order.proofs.Candidates.{least_of_all, none_of_all, ahead_replaced, ahead_without}
use Rattle.pcrl_order.proofs.walk.take_next.Goals as goal

pub returns-in_err-index-clause-least : goal.returns-in_err-index-clause-least
returns-in_err-index-clause-least c =
    let P : Option Anchored → Type 0 = λ best. IsLeastOf c.args.geometry.now (numbers_in c.args.from) (IsPrecinct c.args.geometry.now) best in
    subst P (sym c.from_residual.ensures) (none_of_all c.args.geometry.now (numbers_in c.args.from) c.args.nexts.now c.requires (rw c.in_err-index.was at c.least_index.ensures))

pub returns-in-Some-clause-least : goal.returns-in-Some-clause-least
returns-in-Some-clause-least c = least_of_all c.args.geometry.now (numbers_in c.args.from) c.args.nexts.now c.in_ok-index.index c.requires (rw c.in_ok-index.was at c.least_index.ensures)

pub returns-in-Some-clause-some : goal.returns-in-Some-clause-some
returns-in-Some-clause-some c =
    let a = candidate_at c.args.nexts.now c.in_ok-index.index in
    let P : List ℕ → Type 0 = λ from. IsLeastOf c.args.geometry.now from (IsInResolution a.c a.r) (Some c.in-Some.next) in
    ahead_replaced c.args.geometry.now (numbers_in c.args.from) c.args.nexts.now c.in_ok-index.index c.in-Some.next c.requires (rw c.in_ok-index.was at c.least_index.ensures)
    (subst P c.key_after.ensures.numbers c.in-Some.ensures.least)
    c.in-Some.ensures.there
    c.in-Some.ensures.near

pub returns-in_default-clause-least : goal.returns-in_default-clause-least
returns-in_default-clause-least c = least_of_all c.args.geometry.now (numbers_in c.args.from) c.args.nexts.now c.in_ok-index.index c.requires (rw c.in_ok-index.was at c.least_index.ensures)

pub returns-in_default-clause-some : goal.returns-in_default-clause-some
returns-in_default-clause-some c =
    let a = candidate_at c.args.nexts.now c.in_ok-index.index in
    let P : List ℕ → Type 0 = λ from. IsLeastOf c.args.geometry.now from (IsInResolution a.c a.r) None in
    ahead_without c.args.geometry.now (numbers_in c.args.from) c.args.nexts.now c.in_ok-index.index c.requires (rw c.in_ok-index.was at c.least_index.ensures)
    (subst P c.key_after.ensures.numbers (rw c.in_default.is at c.least_in_resolution.ensures.least))
