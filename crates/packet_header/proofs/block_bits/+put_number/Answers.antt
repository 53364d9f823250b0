-- The greatest bit, and the rest.
use Rattle.std.proofs.Common.{◌-◌, ◌/◌, ◌%◌, ◌^◌, ◌==◌, ◌++◌, [], ◌∷◌, sym}
use Rattle.codestream_model.specs.StuffedBits.{number_bits}
use Rattle.packet_header.proofs.PutSteps.{puts_none, puts_behind, puts_no_more, puts_same, no_number, number_by_bit}
use Rattle.packet_header.proofs.block_bits.+put_number.Goals as goal

pub returns-then-width-eq0 : goal.returns-then-width-eq0
returns-then-width-eq0 t c =
    puts_same (Unit {0}) [] (number_bits c.args.width c.args.number) c.args.bits.now c.args.bits.now c.args.buf.now c.args.buf.now _ (sym (no_number c.args.width c.args.number c.if-width-eq0.true))
    (puts_none (Unit {0}) c.args.bits.now c.args.buf.now tt c.requires.inside)

pub returns-in_err-put : goal.returns-in_err-put
returns-in_err-put t c =
    let none = c.in_err-put.ensures in
    let first = (c.args.number / 2 ^ (c.args.width - 1) % 2 == 1) ∷ [] in
    let more = number_bits (c.args.width - 1) c.args.number in
    puts_same (Unit {0}) (first ++ more) (number_bits c.args.width c.args.number) c.args.bits.now c.put.new.self c.args.buf.now c.put.new.buf c.from_residual.result (sym (number_by_bit c.args.width c.args.number c.if-width-eq0.false))
    (puts_no_more (Unit {0}) (Unit {0}) first more c.args.bits.now c.put.new.self c.args.buf.now c.put.new.buf c.in_err-put.field-0.0 c.from_residual.result c.from_residual.ensures.0
    (record { writes = record { full = none.full; holds = none.writes }; goes = record { onward = none.onward; within = none.within; beyond = none.beyond } }))

pub returns : goal.returns
returns t c =
    let one = c.in_ok-put.ensures in
    let first = (c.args.number / 2 ^ (c.args.width - 1) % 2 == 1) ∷ [] in
    let more = number_bits (c.args.width - 1) c.args.number in
    puts_same (Unit {0}) (first ++ more) (number_bits c.args.width c.args.number) c.args.bits.now c.put_number.new.bits c.args.buf.now c.put_number.new.buf c.put_number.result (sym (number_by_bit c.args.width c.args.number c.if-width-eq0.false))
    (puts_behind (Unit {0}) (Unit {0}) first more c.args.bits.now c.put.new.self c.put_number.new.bits c.args.buf.now c.put.new.buf c.put_number.new.buf c.in_ok-put.field-0 c.put_number.result c.put.auto.buf
    (record { writes = record { full = one.full; holds = one.writes }; goes = record { onward = one.onward; within = one.within; beyond = one.beyond } }) c.put_number.ensures)
