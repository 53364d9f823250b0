-- The code of each number of passes.
use Rattle.std.proofs.Common.{◌≡◌, ◌∙◌, ap, sym, arith}
use Rattle.codestream_model.specs.StuffedBits.{number_bits}
use Rattle.codestream_model.specs.HeaderPieces.{passes_code}
use Rattle.packet_header.proofs.PutSteps.{puts_same, one_pass, two_passes, three_passes}
use Rattle.packet_header.proofs.block_bits.put_passes.Goals as goal

pub returns-in-1 : goal.returns-in-1
returns-in-1 c =
    puts_same (Unit {0}) (number_bits 1 0) (passes_code c.args.passes) c.args.bits.now c.put_number.new.bits c.args.buf.now c.put_number.new.buf c.put_number.result (one_pass ∙ ap passes_code (sym c.in-1.is)) c.put_number.ensures

pub returns-in-2 : goal.returns-in-2
returns-in-2 c =
    puts_same (Unit {0}) (number_bits 2 2) (passes_code c.args.passes) c.args.bits.now c.put_number-in-2.new.bits c.args.buf.now c.put_number-in-2.new.buf c.put_number-in-2.result (two_passes ∙ ap passes_code (sym c.in-2.is)) c.put_number-in-2.ensures

pub returns-in_default : goal.returns-in_default
returns-in_default c =
    let e : 3 ≡ c.args.passes = omega arith in
    puts_same (Unit {0}) (number_bits 4 12) (passes_code c.args.passes) c.args.bits.now c.put_number-in_default.new.bits c.args.buf.now c.put_number-in_default.new.buf c.put_number-in_default.result (three_passes ∙ ap passes_code e) c.put_number-in_default.ensures
