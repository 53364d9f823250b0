-- A length that is too small or too great, or what follows it.
use Rattle.std.proofs.Common.{sym, ◌∙◌, arith}
use Rattle.codestream_model.specs.HeaderPieces as refusal
use Rattle.codestream_model.specs.PacketHeaderReading.{and_then, read_number}
use Rattle.packet_header.specs.Steps.{block_rest, block_then, by_cleanup, position_of}
use Rattle.packet_header.specs.declared.block.Block.{Block}
use Rattle.packet_header.specs.declared.step.Step.TheVariants.{Cleanup, Refine}
use Rattle.packet_header.proofs.Moving.{value_refused, value_then}
use Rattle.packet_header.proofs.BlockValues.{by_length, cleanup_rest, short_length, long_length, good_length}
use Rattle.packet_header.proofs.pieces.cleanup.Goals as goal

pub returns-then-length-lt-LEAST_CLEANUP-clause-reads : goal.returns-then-length-lt-LEAST_CLEANUP-clause-reads
returns-then-length-lt-LEAST_CLEANUP-clause-reads c =
    let b = c.args.known in
    let s = position_of b in
    let n = c.in_ok-length.length in
    let lblock = c.args.lblock in
    value_refused Block (block_rest s (Cleanup b.planes b.passes lblock)) (read_number lblock) (λ n m. and_then (by_length n m) (by_cleanup s b.planes b.passes lblock)) (block_rest s c.noted.new.step) c.args.source.now c.number.new.source c.number.result n refusal.CleanupShort c.number.ensures.piece
    (cleanup_rest s b.planes b.passes lblock) c.number.ensures.gets (sym c.noted.ensures.same ∙ c.in_ok-length.was) (λ l. short_length s b.planes b.passes lblock n l (omega arith))

pub returns-then-length-ge-CLEANUP_END-clause-reads : goal.returns-then-length-ge-CLEANUP_END-clause-reads
returns-then-length-ge-CLEANUP_END-clause-reads c =
    let b = c.args.known in
    let s = position_of b in
    let n = c.in_ok-length.length in
    let lblock = c.args.lblock in
    value_refused Block (block_rest s (Cleanup b.planes b.passes lblock)) (read_number lblock) (λ n m. and_then (by_length n m) (by_cleanup s b.planes b.passes lblock)) (block_rest s c.noted.new.step) c.args.source.now c.number.new.source c.number.result n refusal.CleanupLong c.number.ensures.piece
    (cleanup_rest s b.planes b.passes lblock) c.number.ensures.gets (sym c.noted.ensures.same ∙ c.in_ok-length.was) (λ l. long_length s b.planes b.passes lblock n l (omega arith) (omega arith))

pub returns-clause-reads : goal.returns-clause-reads
returns-clause-reads c =
    let b = c.args.known in
    let s = position_of b in
    let n = c.in_ok-length.length in
    let lblock = c.args.lblock in
    value_then (block_rest s (Cleanup b.planes b.passes lblock)) (block_rest s (Refine b.planes b.passes lblock n)) (block_then s c.refine.new.step c.refine.result) (read_number lblock) (λ n m. and_then (by_length n m) (by_cleanup s b.planes b.passes lblock))
    c.args.source.now c.number.new.source c.refine.new.source c.number.result n c.refine.result c.number.ensures.piece (cleanup_rest s b.planes b.passes lblock) c.number.ensures.gets (sym c.noted.ensures.same ∙ c.in_ok-length.was)
    (λ m. good_length s b.planes b.passes lblock n m (omega arith) (omega arith)) c.refine.ensures.reads
