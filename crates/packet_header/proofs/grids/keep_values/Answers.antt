-- The values of a code-block.
use Rattle.std.proofs.Common.{Result, subst}
use Rattle.std.proofs.lemmas.Result.{err_from_is_err_and}
use Rattle.codestream_model.specs.TagTrees.{Seat}
use Rattle.packet_header.specs.Moves.{Moved}
use Rattle.packet_header.specs.Steps.{block_rest, block_then}
use Rattle.packet_header.specs.declared.block.Block.{Block}
use Rattle.packet_header.specs.declared.refusal.HeaderStop.{HeaderStop}
use Rattle.packet_header.proofs.PositionMoves.{values_read, values_stop}
use Rattle.packet_header.proofs.grids.keep_values.Goals as goal

pub returns-in_err-block-clause-read : goal.returns-in_err-block-clause-read
returns-in_err-block-clause-read c = λ levels nodes others t k before done h.
    let p = err_from_is_err_and c.from_residual.result c.from_residual.ensures.1 in
    let s : Seat = record { band = c.args.at.band; col = c.args.at.col; row = c.args.at.row } in
    let R : Result Block HeaderStop → Type 0 = λ x. Moved (block_rest s c.args.from) (block_then s c.values.new.step x) before done c.args.source.now c.values.new.source x in
    let here = subst R c.in_err-block.was (c.values.ensures.reads before done h) in
    rw (p.1, p.2) (values_stop levels s nodes others t c.args.from c.values.new.step before done c.args.source.now c.values.new.source c.args.blocks.now.items c.in_err-block.field-0.0 c.requires.of_block k (λ n. (c.in_err-block.ensures.fits n).1) here)

pub returns-clause-read : goal.returns-clause-read
returns-clause-read c = λ levels nodes others t k before done h.
    let s : Seat = record { band = c.args.at.band; col = c.args.at.col; row = c.args.at.row } in
    let R : Result Block HeaderStop → Type 0 = λ x. Moved (block_rest s c.args.from) (block_then s c.values.new.step x) before done c.args.source.now c.values.new.source x in
    let here = subst R c.in_ok-block.was (c.values.ensures.reads before done h) in
    values_read levels s nodes others t c.args.from before done c.values.new.source c.args.blocks.now.items c.push_reserved.new.self.items c.in_ok-block.block c.requires.of_block k c.push_reserved.ensures.items here
