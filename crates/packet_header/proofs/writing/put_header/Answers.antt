-- The first bit, and the grids.
use Rattle.std.proofs.Common.{◌++◌, true, [], ◌∷◌, map}
use Rattle.precinct_geometry.specs.Spans.{grid_of}
use Rattle.codestream_model.specs.PacketHeader.{written_bits}
use Rattle.packet_header.specs.Answers.{block_of}
use Rattle.packet_header.proofs.PutSteps.{goes_both}
use Rattle.packet_header.proofs.GridPuts.{fills_ok, fills_full, fills_behind, fills_more, fills_same, grids_bits, bits_of_some, some_left}
use Rattle.packet_header.proofs.writing.put_header.Goals as goal

pub returns-in_err-put-2-clause-bits : goal.returns-in_err-put-2-clause-bits
returns-in_err-put-2-clause-bits c =
    let gs = map grid_of c.args.grids.now in
    let blocks = map block_of c.args.blocks.now in
    let none = c.in_err-put-2.ensures in
    fills_same ((true ∷ []) ++ grids_bits gs blocks) (written_bits gs blocks) c.args.bits.now c.put-2.new.self c.args.buf.now c.put-2.new.buf c.from_residual-in_err-put-2.result
    (bits_of_some gs blocks (some_left block_of c.args.blocks.now c.if-is_empty.ensures))
    (fills_more (true ∷ []) (grids_bits gs blocks) c.args.bits.now c.put-2.new.self c.args.buf.now c.put-2.new.buf c.from_residual-in_err-put-2.result c.from_residual-in_err-put-2.ensures.0
    (fills_full (true ∷ []) c.args.bits.now c.put-2.new.self c.args.buf.now c.put-2.new.buf c.in_err-put-2.field-0.0 c.from_residual-in_err-put-2.result c.from_residual-in_err-put-2.ensures.0 (record { full = none.full; holds = none.writes })))

pub returns-clause-bits : goal.returns-clause-bits
returns-clause-bits c =
    let gs = map grid_of c.args.grids.now in
    let blocks = map block_of c.args.blocks.now in
    let first = c.in_ok-put-2.ensures in
    fills_same ((true ∷ []) ++ grids_bits gs blocks) (written_bits gs blocks) c.args.bits.now c.put_grids.new.bits c.args.buf.now c.put_grids.new.buf c.put_grids.result
    (bits_of_some gs blocks (some_left block_of c.args.blocks.now c.if-is_empty.ensures))
    (fills_behind (true ∷ []) (grids_bits gs blocks) c.args.bits.now c.put-2.new.self c.put_grids.new.bits c.args.buf.now c.put-2.new.buf c.put_grids.new.buf tt c.put_grids.result c.put-2.auto.buf
    (fills_ok (true ∷ []) c.args.bits.now c.put-2.new.self c.args.buf.now c.put-2.new.buf c.in_ok-put-2.field-0 (record { full = first.full; holds = first.writes })) c.put_grids.ensures.bits)

pub returns-clause-goes : goal.returns-clause-goes
returns-clause-goes c =
    let one = c.in_ok-put-2.ensures in
    goes_both c.args.bits.now c.put-2.new.self c.put_grids.new.bits c.args.buf.now c.put-2.new.buf c.put_grids.new.buf (record { onward = one.onward; within = one.within; beyond = one.beyond }) c.put_grids.ensures.goes
