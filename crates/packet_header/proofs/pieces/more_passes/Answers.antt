-- By the second bit.
use Rattle.std.proofs.Common.{true, false, Ok, refl, sym, ◌∙◌, ap}
use Rattle.std.proofs.lemmas.Result.{err_from_is_err_and}
use Rattle.codestream_model.specs.PacketHeaderReading.{and_then, read_bit}
use Rattle.packet_header.specs.Steps.{block_rest, block_then, by_passes, position_of}
use Rattle.packet_header.specs.declared.block.Block.{Block}
use Rattle.packet_header.specs.declared.step.Step.TheVariants.{MorePasses, LastPasses, Lblock}
use Rattle.packet_header.proofs.Moving.{value_err, value_then}
use Rattle.packet_header.proofs.BlockValues.{by_second, second_rest}
use Rattle.packet_header.proofs.pieces.more_passes.Goals as goal

pub returns-in_err-noted-clause-reads : goal.returns-in_err-noted-clause-reads
returns-in_err-noted-clause-reads c =
    let p = err_from_is_err_and c.from_residual.result c.from_residual.ensures.1 in
    let b = c.args.known in
    let s = position_of b in
    rw (p.1, p.2, c.in_err-noted.ensures.noted) (value_err Block (block_rest s (MorePasses b.planes)) read_bit (λ x m. and_then (by_second x m) (by_passes s b.planes)) c.args.source.now c.bit.new.source c.bit.result _ (second_rest s b.planes) c.bit.ensures.gets (sym c.noted.ensures.same ∙ c.in_err-noted.was))

pub returns-then-branch-clause-reads : goal.returns-then-branch-clause-reads
returns-then-branch-clause-reads c =
    let b = c.args.known in
    let s = position_of b in
    value_then (block_rest s (MorePasses b.planes)) (block_rest s (LastPasses b.planes)) (block_then s c.last_passes.new.step c.last_passes.result) read_bit (λ x m. and_then (by_second x m) (by_passes s b.planes))
    c.args.source.now c.bit.new.source c.last_passes.new.source c.bit.result true c.last_passes.result c.bit.ensures.piece (second_rest s b.planes) c.bit.ensures.gets (sym c.noted.ensures.same ∙ c.in_ok-noted.was ∙ ap Ok c.if-branch.true) (λ m. refl) c.last_passes.ensures.reads

pub returns-clause-reads : goal.returns-clause-reads
returns-clause-reads c =
    let b = c.args.known in
    let s = position_of b in
    value_then (block_rest s (MorePasses b.planes)) (block_rest s (Lblock b.planes 2)) (block_then s c.lblock.new.step c.lblock.result) read_bit (λ x m. and_then (by_second x m) (by_passes s b.planes))
    c.args.source.now c.bit.new.source c.lblock.new.source c.bit.result false c.lblock.result c.bit.ensures.piece (second_rest s b.planes) c.bit.ensures.gets (sym c.noted.ensures.same ∙ c.in_ok-noted.was ∙ ap Ok c.if-branch.false) (λ m. refl) c.lblock.ensures.reads
