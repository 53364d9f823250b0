-- A one, and the rest.
use Rattle.std.proofs.Common.{◌-◌, ◌++◌, true, false, [], ◌∷◌, sym}
use Rattle.codestream_model.specs.HeaderPieces.{run_of}
use Rattle.packet_header.proofs.PutSteps.{puts_behind, puts_no_more, puts_same, one_more}
use Rattle.packet_header.proofs.block_bits.+put_ones.Goals as goal

pub returns-in_err-put : goal.returns-in_err-put
returns-in_err-put t c =
    let none = c.in_err-put.ensures in
    let more = run_of true (c.args.ones - 1) false in
    puts_same (Unit {0}) ((true ∷ []) ++ more) (run_of true c.args.ones false) c.args.bits.now c.put-2.new.self c.args.buf.now c.put-2.new.buf c.from_residual.result (sym (one_more c.args.ones c.if-ones-eq0.false))
    (puts_no_more (Unit {0}) (Unit {0}) (true ∷ []) more c.args.bits.now c.put-2.new.self c.args.buf.now c.put-2.new.buf c.in_err-put.field-0.0 c.from_residual.result c.from_residual.ensures.0
    (record { writes = record { full = none.full; holds = none.writes }; goes = record { onward = none.onward; within = none.within; beyond = none.beyond } }))

pub returns : goal.returns
returns t c =
    let one = c.in_ok-put.ensures in
    let more = run_of true (c.args.ones - 1) false in
    puts_same (Unit {0}) ((true ∷ []) ++ more) (run_of true c.args.ones false) c.args.bits.now c.put_ones.new.bits c.args.buf.now c.put_ones.new.buf c.put_ones.result (sym (one_more c.args.ones c.if-ones-eq0.false))
    (puts_behind (Unit {0}) (Unit {0}) (true ∷ []) more c.args.bits.now c.put-2.new.self c.put_ones.new.bits c.args.buf.now c.put-2.new.buf c.put_ones.new.buf c.in_ok-put.field-0 c.put_ones.result c.put-2.auto.buf
    (record { writes = record { full = one.full; holds = one.writes }; goes = record { onward = one.onward; within = one.within; beyond = one.beyond } }) c.put_ones.ensures)
