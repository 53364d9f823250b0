-- The zero bit-planes, and then the values.
use Rattle.codestream_model.specs.TagTrees.{Seat}
use Rattle.codestream_model.specs.PacketHeader.{least_lblock}
use Rattle.tag_tree.specs.LeafWriting.{grid_of, leaf_bits, value_step}
use Rattle.tag_tree.proofs.WriteLemmas.{writes_behind, writes_no_more}
use Rattle.packet_header.specs.Answers.{block_of}
use Rattle.packet_header.specs.Puts.{value_bits}
use Rattle.packet_header.proofs.PutSteps.{goes_both}
use Rattle.packet_header.proofs.grids.TagTrees.put_block.Goals as goal

pub returns-in_err-write_value-clause-bits : goal.returns-in_err-write_value-clause-bits
returns-in_err-write_value-clause-bits c = λ labels earlier holds met.
    let b = block_of c.args.block.now in
    let s : Seat = record { band = 0; col = b.col; row = b.row } in
    let none = c.in_err-write_value.ensures.bits labels earlier holds met in
    writes_no_more (Unit {0}) (Unit {0}) (leaf_bits value_step (grid_of c.args.self.now.planes) labels earlier s) (value_bits (least_lblock b) b) c.args.bits.now c.write_value.new.bits c.args.buf.now c.write_value.new.buf c.in_err-write_value.field-0.0 c.from_residual.result c.from_residual.ensures.0 none

pub returns-clause-bits : goal.returns-clause-bits
returns-clause-bits c = λ labels earlier holds met.
    let b = block_of c.args.block.now in
    let s : Seat = record { band = 0; col = b.col; row = b.row } in
    writes_behind (Unit {0}) (Unit {0}) (leaf_bits value_step (grid_of c.args.self.now.planes) labels earlier s) (value_bits (least_lblock b) b) c.args.bits.now c.write_value.new.bits c.put_values.new.bits c.args.buf.now c.write_value.new.buf c.put_values.new.buf
    c.in_ok-write_value.field-0 c.put_values.result c.write_value.auto.buf (c.in_ok-write_value.ensures.bits labels earlier holds met) c.put_values.ensures.writes

pub returns-clause-goes : goal.returns-clause-goes
returns-clause-goes c =
    let one = c.in_ok-write_value.ensures in
    goes_both c.args.bits.now c.write_value.new.bits c.put_values.new.bits c.args.buf.now c.write_value.new.buf c.put_values.new.buf (record { onward = one.onward; within = one.within; beyond = one.beyond }) c.put_values.ensures.goes
