-- No bits with one pass, else those of a number.
use Rattle.std.proofs.Common.{[], ℕ, ap, ◌∙◌}
use Rattle.codestream_model.specs.StuffedBits.{number_bits}
use Rattle.packet_header.specs.Puts.{refine_tail}
use Rattle.packet_header.proofs.PutSteps.{puts_none, puts_same, no_refine, some_refine}
use Rattle.packet_header.proofs.block_bits.put_refine.Goals as goal

pub returns-then-block-eq1 : goal.returns-then-block-eq1
returns-then-block-eq1 c =
    let b = c.args.block.now in
    puts_same (Unit {0}) [] (refine_tail b.passes c.args.lblock b.refine) c.args.bits.now c.args.bits.now c.args.buf.now c.args.buf.now _ (no_refine b.passes c.args.lblock b.refine c.if-block-eq1.true)
    (puts_none (Unit {0}) c.args.bits.now c.args.buf.now tt c.requires.inside)

pub returns : goal.returns
returns c =
    let b = c.args.block.now in
    puts_same (Unit {0}) (number_bits c.refine_bits.result b.refine) (refine_tail b.passes c.args.lblock b.refine) c.args.bits.now c.put_number.new.bits c.args.buf.now c.put_number.new.buf c.put_number.result
    (ap (λ (n : ℕ). number_bits n b.refine) c.refine_bits.ensures.width ∙ some_refine b.passes c.args.lblock b.refine c.if-block-eq1.false) c.put_number.ensures
