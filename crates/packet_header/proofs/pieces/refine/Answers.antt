-- A length that is too great.
use Rattle.std.proofs.Common.{sym, ◌∙◌, arith}
use Rattle.codestream_model.specs.HeaderPieces as refusal
use Rattle.codestream_model.specs.PacketHeaderReading.{and_then, read_number}
use Rattle.packet_header.specs.Steps.{block_rest, position_of, refine_rest}
use Rattle.packet_header.specs.declared.block.Block.{Block}
use Rattle.packet_header.proofs.Moving.{value_refused}
use Rattle.packet_header.proofs.BlockValues.{by_last_length, whole_block, refine_by_number, long_refine}
use Rattle.packet_header.proofs.pieces.refine.Goals as goal

pub returns-then-length-ge-REFINE_END-clause-reads : goal.returns-then-length-ge-REFINE_END-clause-reads
returns-then-length-ge-REFINE_END-clause-reads c =
    let b = c.args.known in
    let w = c.refine_bits-width.result in
    value_refused Block (refine_rest b c.args.lblock) (read_number w) (λ n m. and_then (by_last_length n m) (whole_block b)) (block_rest (position_of b) c.noted.new.step) c.args.source.now c.number.new.source c.number.result c.in_ok-length.length refusal.RefineLong c.number.ensures.piece
    (λ l. refine_by_number b c.args.lblock w l (omega arith) c.refine_bits-width.ensures.width) c.number.ensures.gets (sym c.noted.ensures.same ∙ c.in_ok-length.was) (λ l. long_refine b c.in_ok-length.length l (omega arith))
