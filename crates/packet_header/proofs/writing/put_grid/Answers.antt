-- A grid is put by its trees.
use Rattle.std.proofs.Common.{[], map, sym}
use Rattle.std.proofs.lemmas.List.{append-nil}
use Rattle.codestream_model.specs.TagTrees.{seats}
use Rattle.precinct_geometry.specs.Spans.{grid_of}
use Rattle.packet_header.specs.Answers.{block_of}
use Rattle.packet_header.specs.Queues.{remaining}
use Rattle.packet_header.specs.PositionsWritten.{Remain, positions_bits}
use Rattle.packet_header.proofs.GridPuts.{fills_ok, fills_full, err_waits}
use Rattle.packet_header.proofs.writing.put_grid.Goals as goal

pub returns-in_err-put_rows-clause-put : goal.returns-in_err-put_rows-clause-put
returns-in_err-put_rows-clause-put c = λ rest waits.
    let g = grid_of c.args.grid in
    let blocks = map block_of c.args.blocks.now in
    let none = c.in_err-put_rows.ensures.bits blocks [] [] rest c.requires.on_grid (sym (append-nil (seats g))) c.in_ok-trees.ensures.written waits in
    record {
      bits = fills_full (positions_bits g blocks (seats g)) c.args.bits.now c.put_rows.new.bits c.args.buf.now c.put_rows.new.buf c.in_err-put_rows.field-0.0 c.from_residual-in_err-put_rows.result c.from_residual-in_err-put_rows.ensures.0 none.bits;
      waits = err_waits (λ x. Remain blocks rest (remaining c.put_rows.new.queue)) c.from_residual-in_err-put_rows.result c.from_residual-in_err-put_rows.ensures.0;
    }

pub returns-clause-put : goal.returns-clause-put
returns-clause-put c = λ rest waits.
    let g = grid_of c.args.grid in
    let blocks = map block_of c.args.blocks.now in
    let all = c.in_ok-put_rows.ensures.bits blocks [] [] rest c.requires.on_grid (sym (append-nil (seats g))) c.in_ok-trees.ensures.written waits in
    record {
      bits = fills_ok (positions_bits g blocks (seats g)) c.args.bits.now c.put_rows.new.bits c.args.buf.now c.put_rows.new.buf c.in_ok-put_rows.field-0 all.bits;
      waits = all.waits;
    }
