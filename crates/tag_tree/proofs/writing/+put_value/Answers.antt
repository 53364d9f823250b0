-- A label is written bit by bit: zeros and a one.
use Rattle.std.proofs.Common.{◌<◌, ◌+◌, Bool, false, List, [], ◌∷◌, sym, subst, arith}
use Rattle.tag_tree.specs.LeafWriting.{Writes, value_step}
use Rattle.tag_tree.proofs.WriteLemmas.{writes_behind, writes_no_more, behind_both, no_zeros, one_zero}
use Rattle.tag_tree.proofs.writing.+put_value.Goals as goal

pub returns-then-label-above-clause-bits : goal.returns-then-label-above-clause-bits
returns-then-label-above-clause-bits t c =
    let P : List Bool → Type 0 = λ l. Writes {A = Unit {0}} l c.args.bits.now c.put.new.self c.args.buf.now c.put.new.buf c.put.result in
    subst P (sym (no_zeros c.args.above c.args.label c.if-label-above.true)) (record { full = c.put.ensures.full; holds = c.put.ensures.writes })

pub returns-in_err-put-clause-bits : goal.returns-in_err-put-clause-bits
returns-in_err-put-clause-bits t c =
    let none = c.in_err-put.ensures in
    let P : List Bool → Type 0 = λ l. Writes {A = Unit {0}} l c.args.bits.now c.put-2.new.self c.args.buf.now c.put-2.new.buf c.from_residual.result in
    let above : c.args.above < c.args.label = omega arith in
    subst P (sym (one_zero c.args.above c.args.label above))
    (writes_no_more (Unit {0}) (Unit {0}) (false ∷ []) (value_step (c.args.above + 1) c.args.label) c.args.bits.now c.put-2.new.self c.args.buf.now c.put-2.new.buf c.in_err-put.field-0.0 c.from_residual.result c.from_residual.ensures.0
    (record { full = none.full; holds = none.writes }))

pub returns-clause-bits : goal.returns-clause-bits
returns-clause-bits t c =
    let one = c.in_ok-put.ensures in
    let P : List Bool → Type 0 = λ l. Writes {A = Unit {0}} l c.args.bits.now c.put_value.new.bits c.args.buf.now c.put_value.new.buf c.put_value.result in
    let above : c.args.above < c.args.label = omega arith in
    subst P (sym (one_zero c.args.above c.args.label above))
    (writes_behind (Unit {0}) (Unit {0}) (false ∷ []) (value_step (c.args.above + 1) c.args.label) c.args.bits.now c.put-2.new.self c.put_value.new.bits c.args.buf.now c.put-2.new.buf c.put_value.new.buf c.in_ok-put.field-0 c.put_value.result c.put-2.auto.buf
    (record { full = one.full; holds = one.writes }) c.put_value.ensures.bits)

pub returns-clause-beyond : goal.returns-clause-beyond
returns-clause-beyond t c = behind_both c.args.buf.now c.put-2.new.buf c.put_value.new.buf c.put-2.new.self.len c.put_value.new.bits.len c.put_value.ensures.onward c.put-2.ensures.beyond c.put_value.ensures.beyond
