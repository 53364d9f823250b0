use Rattle.std.proofs.Common.{ℕ, Option, None, Some, sym, subst}
use Rattle.pcrl_order.specs.declared.anchored.Anchored.{Anchored}
use Rattle.pcrl_order.specs.Least.{numbers_in, IsStartIn, IsInResolution, IsLeastOf}
use Rattle.pcrl_order.proofs.Heres.{none_from, least_of_here}
use Rattle.pcrl_order.proofs.cursor.least_in_resolution.Goals as goal

pub returns-in_err-y-clause-least : goal.returns-in_err-y-clause-least
returns-in_err-y-clause-least c =
    let P : ℕ → Type 0 = λ t. IsStartIn c.args.from t c.args.c c.args.r None in
    let Q : Option Anchored → Type 0 = λ best. IsLeastOf c.args.geometry.now (numbers_in c.args.from) (IsInResolution c.args.c c.args.r) best in
    subst Q (sym c.from_residual.ensures) (none_from c.args.geometry.now c.args.from c.args.c c.args.r (subst P c.rank.ensures (rw c.in_err-y.was at c.start_in.ensures.start)))

pub returns-clause-least : goal.returns-clause-least
returns-clause-least c =
    let P : ℕ → Type 0 = λ t. IsStartIn c.args.from t c.args.c c.args.r (Some (c.in_ok-y.y, c.in_ok-y.x)) in
    least_of_here c.args.geometry.now c.args.from c.args.c c.args.r c.in_ok-y.y c.in_ok-y.x c.least_in.result c.requires.component c.requires.resolution (subst P c.rank.ensures (rw c.in_ok-y.was at c.start_in.ensures.start)) c.least_in.ensures.some c.least_in.ensures.none
