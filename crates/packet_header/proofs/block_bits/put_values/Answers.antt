-- One value after another.
use Rattle.std.proofs.Common.{◌-◌, ◌++◌, ℕ, true, false, ap}
use Rattle.codestream_model.specs.StuffedBits.{number_bits}
use Rattle.codestream_model.specs.HeaderPieces.{passes_code, run_of}
use Rattle.codestream_model.specs.PacketHeader.{least_lblock}
use Rattle.packet_header.specs.Answers.{block_of}
use Rattle.packet_header.specs.Puts.{refine_tail, value_bits}
use Rattle.packet_header.proofs.PutSteps.{puts_behind, puts_no_more, puts_same}
use Rattle.packet_header.proofs.block_bits.put_values.Goals as goal

pub returns-in_err-put_passes : goal.returns-in_err-put_passes
returns-in_err-put_passes c =
    let b = block_of c.args.block.now in
    let n = c.lblock_of-lblock.result in
    puts_same (Unit {0}) (value_bits n b) (value_bits (least_lblock b) b) c.args.bits.now c.put_passes.new.bits c.args.buf.now c.put_passes.new.buf c.from_residual.result (ap (λ (k : ℕ). value_bits k b) c.lblock_of-lblock.ensures.least)
    (puts_no_more (Unit {0}) (Unit {0}) (passes_code b.passes) (run_of true (n - 3) false ++ (number_bits n b.cleanup ++ refine_tail b.passes n b.refine)) c.args.bits.now c.put_passes.new.bits c.args.buf.now c.put_passes.new.buf c.in_err-put_passes.field-0.0 c.from_residual.result c.from_residual.ensures.0 c.in_err-put_passes.ensures)

pub returns-in_err-put_ones : goal.returns-in_err-put_ones
returns-in_err-put_ones c =
    let b = block_of c.args.block.now in
    let n = c.lblock_of-lblock.result in
    let rest = number_bits n b.cleanup ++ refine_tail b.passes n b.refine in
    puts_same (Unit {0}) (value_bits n b) (value_bits (least_lblock b) b) c.args.bits.now c.put_ones.new.bits c.args.buf.now c.put_ones.new.buf c.from_residual-in_err-put_ones.result (ap (λ (k : ℕ). value_bits k b) c.lblock_of-lblock.ensures.least)
    (puts_behind (Unit {0}) (Unit {0}) (passes_code b.passes) (run_of true (n - 3) false ++ rest) c.args.bits.now c.put_passes.new.bits c.put_ones.new.bits c.args.buf.now c.put_passes.new.buf c.put_ones.new.buf c.in_ok-put_passes.field-0 c.from_residual-in_err-put_ones.result c.put_passes.auto.buf c.in_ok-put_passes.ensures
    (puts_no_more (Unit {0}) (Unit {0}) (run_of true (n - 3) false) rest c.put_passes.new.bits c.put_ones.new.bits c.put_passes.new.buf c.put_ones.new.buf c.in_err-put_ones.field-0.0 c.from_residual-in_err-put_ones.result c.from_residual-in_err-put_ones.ensures.0 c.in_err-put_ones.ensures))

pub returns-in_err-put_number : goal.returns-in_err-put_number
returns-in_err-put_number c =
    let b = block_of c.args.block.now in
    let n = c.lblock_of-lblock.result in
    let tail = refine_tail b.passes n b.refine in
    puts_same (Unit {0}) (value_bits n b) (value_bits (least_lblock b) b) c.args.bits.now c.put_number.new.bits c.args.buf.now c.put_number.new.buf c.from_residual-in_err-put_number.result (ap (λ (k : ℕ). value_bits k b) c.lblock_of-lblock.ensures.least)
    (puts_behind (Unit {0}) (Unit {0}) (passes_code b.passes) (run_of true (n - 3) false ++ (number_bits n b.cleanup ++ tail)) c.args.bits.now c.put_passes.new.bits c.put_number.new.bits c.args.buf.now c.put_passes.new.buf c.put_number.new.buf c.in_ok-put_passes.field-0 c.from_residual-in_err-put_number.result c.put_passes.auto.buf c.in_ok-put_passes.ensures
    (puts_behind (Unit {0}) (Unit {0}) (run_of true (n - 3) false) (number_bits n b.cleanup ++ tail) c.put_passes.new.bits c.put_ones.new.bits c.put_number.new.bits c.put_passes.new.buf c.put_ones.new.buf c.put_number.new.buf c.in_ok-put_ones.field-0 c.from_residual-in_err-put_number.result c.put_ones.auto.buf c.in_ok-put_ones.ensures
    (puts_no_more (Unit {0}) (Unit {0}) (number_bits n b.cleanup) tail c.put_ones.new.bits c.put_number.new.bits c.put_ones.new.buf c.put_number.new.buf c.in_err-put_number.field-0.0 c.from_residual-in_err-put_number.result c.from_residual-in_err-put_number.ensures.0 c.in_err-put_number.ensures)))

pub returns : goal.returns
returns c =
    let b = block_of c.args.block.now in
    let n = c.lblock_of-lblock.result in
    let tail = refine_tail b.passes n b.refine in
    puts_same (Unit {0}) (value_bits n b) (value_bits (least_lblock b) b) c.args.bits.now c.put_refine.new.bits c.args.buf.now c.put_refine.new.buf c.put_refine.result (ap (λ (k : ℕ). value_bits k b) c.lblock_of-lblock.ensures.least)
    (puts_behind (Unit {0}) (Unit {0}) (passes_code b.passes) (run_of true (n - 3) false ++ (number_bits n b.cleanup ++ tail)) c.args.bits.now c.put_passes.new.bits c.put_refine.new.bits c.args.buf.now c.put_passes.new.buf c.put_refine.new.buf c.in_ok-put_passes.field-0 c.put_refine.result c.put_passes.auto.buf c.in_ok-put_passes.ensures
    (puts_behind (Unit {0}) (Unit {0}) (run_of true (n - 3) false) (number_bits n b.cleanup ++ tail) c.put_passes.new.bits c.put_ones.new.bits c.put_refine.new.bits c.put_passes.new.buf c.put_ones.new.buf c.put_refine.new.buf c.in_ok-put_ones.field-0 c.put_refine.result c.put_ones.auto.buf c.in_ok-put_ones.ensures
    (puts_behind (Unit {0}) (Unit {0}) (number_bits n b.cleanup) tail c.put_ones.new.bits c.put_number.new.bits c.put_refine.new.bits c.put_ones.new.buf c.put_number.new.buf c.put_refine.new.buf c.in_ok-put_number.field-0 c.put_refine.result c.put_number.auto.buf c.in_ok-put_number.ensures c.put_refine.ensures)))
