use Rattle.std.proofs.Common.{◌-◌, ℕ, List, length, get_or, sym, ◌∙◌, ap, arith}
use Rattle.deliver_job.specs.Items.{ranges_of}
use Rattle.deliver_job.proofs.BoundsLaws.{count_bounds}
use Rattle.deliver_job.proofs.Judged.{is_cut, lacks, delivers}
use Rattle.deliver_job.proofs.delivery.refusal_of.Goals as goal

pub returns-then-end-capture-clause-refused : goal.returns-then-end-capture-clause-refused
returns-then-end-capture-clause-refused c =
    let n : ℕ = length c.args.bounds.now - 1 in
    is_cut (ranges_of c.args.list.now) c.args.capture.now n c.from.result 0 (λ i. omega (arith, c.type_inv.capture i)) c.requires.short
    (omega (arith, count_bounds c.args.capture.now c.args.bounds.now c.requires.bounds)) (c.from.ensures ∙ ap (λ (l : List ℕ). get_or l n 0) c.requires.bounds) (omega (arith, c.from.ensures))

pub returns-in-Some-clause-refused : goal.returns-in-Some-clause-refused
returns-in-Some-clause-refused c =
    let n : ℕ = length c.args.bounds.now - 1 in
    lacks (ranges_of c.args.list.now) c.args.capture.now n _ 0 c.in-Some.position (λ i. omega (arith, c.type_inv.capture i)) c.requires.short
    (omega (arith, count_bounds c.args.capture.now c.args.bounds.now c.requires.bounds)) (ap (λ (l : List ℕ). get_or l n 0) c.requires.bounds) (omega arith) (sym c.in-Some.ensures)

pub returns-in-None-clause-delivered : goal.returns-in-None-clause-delivered
returns-in-None-clause-delivered c = λ e.
    let n : ℕ = length c.args.bounds.now - 1 in
    delivers (ranges_of c.args.list.now) c.args.capture.now n _ 0 (λ i. omega (arith, c.type_inv.capture i)) c.requires.short
    (omega (arith, count_bounds c.args.capture.now c.args.bounds.now c.requires.bounds)) (ap (λ (l : List ℕ). get_or l n 0) c.requires.bounds) (omega arith) (sym c.in-None.ensures)
