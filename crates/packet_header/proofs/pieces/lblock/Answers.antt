-- Too many ones, or what follows them.
use Rattle.std.proofs.Common.{◌+◌, refl, sym, ◌∙◌, ap, arith}
use Rattle.std.proofs.lemmas.Result.{err_from_is_err_and}
use Rattle.codestream_model.specs.PacketHeaderReading.{read_lblock}
use Rattle.packet_header.specs.Steps.{block_rest, block_then, by_lblock, position_of}
use Rattle.packet_header.specs.declared.block.Block.{Block}
use Rattle.packet_header.specs.declared.refusal.HeaderWhy.TheVariants as why
use Rattle.packet_header.specs.declared.step.Step.TheVariants.{Lblock, Cleanup}
use Rattle.packet_header.proofs.Moving.{value_err, value_then, moves_bad}
use Rattle.packet_header.proofs.BlockValues.{lblock_answer, lblock_gets, lblock_found, lblock_great}
use Rattle.packet_header.proofs.pieces.lblock.Goals as goal

pub returns-in_err-ones-clause-reads : goal.returns-in_err-ones-clause-reads
returns-in_err-ones-clause-reads c =
    let p = err_from_is_err_and c.from_residual.result c.from_residual.ensures.1 in
    let b = c.args.known in
    let s = position_of b in
    rw (p.1, p.2, c.in_err-ones.ensures.noted) (value_err Block (block_rest s (Lblock b.planes b.passes)) (read_lblock 3) (by_lblock s b.planes b.passes) c.args.source.now c.run.new.source (lblock_answer c.run.result) _ (λ l. refl)
    (lblock_gets c.args.source.now c.run.new.source c.run.result c.run.ensures.gets) (ap lblock_answer (sym c.noted.ensures.same ∙ c.in_err-ones.was)))

pub returns-then-ones-ge-MOST_ONES-clause-reads : goal.returns-then-ones-ge-MOST_ONES-clause-reads
returns-then-ones-ge-MOST_ONES-clause-reads c =
    let b = c.args.known in
    let s = position_of b in
    let here = block_rest s (Lblock b.planes b.passes) in
    moves_bad Block here here (block_rest s c.noted.new.step) c.args.source.now c.run.new.source why.LengthBits
    (value_err Block here (read_lblock 3) (by_lblock s b.planes b.passes) c.args.source.now c.run.new.source (lblock_answer c.run.result) _ (λ l. refl)
    (lblock_gets c.args.source.now c.run.new.source c.run.result c.run.ensures.gets) (lblock_great c.run.result c.in_ok-ones.ones (sym c.noted.ensures.same ∙ c.in_ok-ones.was) (omega arith)))

pub returns-clause-reads : goal.returns-clause-reads
returns-clause-reads c =
    let b = c.args.known in
    let s = position_of b in
    let n = c.in_ok-ones.ones in
    value_then (block_rest s (Lblock b.planes b.passes)) (block_rest s (Cleanup b.planes b.passes (3 + n))) (block_then s c.cleanup.new.step c.cleanup.result) (read_lblock 3) (by_lblock s b.planes b.passes)
    c.args.source.now c.run.new.source c.cleanup.new.source (lblock_answer c.run.result) (3 + n) c.cleanup.result c.run.ensures.piece (λ l. refl)
    (lblock_gets c.args.source.now c.run.new.source c.run.result c.run.ensures.gets) (lblock_found c.run.result n (sym c.noted.ensures.same ∙ c.in_ok-ones.was) (omega arith)) (λ m. refl) c.cleanup.ensures.reads
