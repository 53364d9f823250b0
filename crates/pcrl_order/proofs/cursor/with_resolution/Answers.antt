use Rattle.std.proofs.Common.{Ordering, is_lt, ℕ, sym, ap, subst, ◌∙◌}
use Rattle.pcrl_order.specs.Least.{numbers_in, IsPast}
use Rattle.pcrl_order.proofs.Leasts.{none_more, first_more, less_more, same_more}
use Rattle.pcrl_order.proofs.Heres.{past_more, less_key, not_less_key}
use Rattle.pcrl_order.proofs.cursor.with_resolution.Goals as goal

pub returns-then-is_past : goal.returns-then-is_past
returns-then-is_past c =
    let P : ℕ → Type 0 = λ t. IsPast c.args.best t in
    past_more c.args.geometry.now (numbers_in c.args.from) c.args.c c.args.r c.args.best c.requires.best (subst P c.rank.ensures (c.is_past.ensures c.if-is_past.true))

pub returns-in_default : goal.returns-in_default
returns-in_default c = none_more c.args.geometry.now (numbers_in c.args.from) c.args.c c.args.r c.args.best c.requires.best (rw c.in_default.is at c.least_in_resolution.ensures.least)

pub returns-in_default-best : goal.returns-in_default-best
returns-in_default-best c =
    let here = rw c.in-Some.is at c.least_in_resolution.ensures.least in
    first_more c.args.geometry.now (numbers_in c.args.from) c.args.c c.args.r c.in-Some.one (rw c.in_default-best.is at c.requires.best) here

pub returns-then-is_lt : goal.returns-then-is_lt
returns-then-is_lt c =
    let least = rw c.in-Some-best.is at c.requires.best in
    let here = rw c.in-Some.is at c.least_in_resolution.ensures.least in
    less_more c.args.geometry.now (numbers_in c.args.from) c.args.c c.args.r c.in-Some.one c.in-Some-best.least least here
    (less_key c.args.geometry.now c.in-Some.one c.in-Some-best.least here.anchored least.anchored (ap (λ (o : Ordering). is_lt o) (sym c.cmp.ensures) ∙ sym c.if-is_lt.ensures))

pub returns-else-is_lt : goal.returns-else-is_lt
returns-else-is_lt c =
    let least = rw c.in-Some-best.is at c.requires.best in
    let here = rw c.in-Some.is at c.least_in_resolution.ensures.least in
    same_more c.args.geometry.now (numbers_in c.args.from) c.args.c c.args.r c.in-Some.one c.in-Some-best.least least here
    (not_less_key c.args.geometry.now c.in-Some-best.least c.in-Some.one least.anchored here.anchored (ap (λ (o : Ordering). is_lt o) (sym c.cmp.ensures) ∙ sym c.if-is_lt.ensures))
