-- The code-blocks of the current grid.
use Rattle.std.proofs.Common.{◌+◌, arith}
use Rattle.precinct_geometry.specs.Spans.{grid_of}
use Rattle.packet_header.specs.Blocks.{later_grids, IsInGrid}
use Rattle.packet_header.specs.declared.blocks.BlocksReader.{BlocksReader}
use Rattle.packet_header.proofs.PositionRuns.{grid_kept}
use Rattle.packet_header.proofs.GridMoves.{in_grid, no_positions, grid_took}
use Rattle.packet_header.proofs.blocks.BlocksReader.read_grid.Goals as goal

pub returns-then-own-eq0-clause-whole : goal.returns-then-own-eq0-clause-whole
returns-then-own-eq0-clause-whole c = no_positions (grid_of c.args.own) c.args.self.now.row c.args.self.now.col c.if-own-eq0.true

pub returns-clause-read : goal.returns-clause-read
returns-clause-read c = λ first before t.
    let r = c.args.self.now in
    let g = grid_of c.args.own in
    let later = later_grids (r.grid + 1) r in
    let now : BlocksReader = record r { trees = c.read_grid.new.self; col = c.read_grid.new.col; row = c.read_grid.new.row; step = c.read_grid.new.step; blocks = c.read_grid.new.blocks } in
    let own = in_grid first g later r _ c.args.source.now.bits t c.requires.current.0 in
    let a = c.read_grid.ensures.inclusion in
    let b = c.read_grid.ensures.planes in
    let inside : IsInGrid g later now = record {
      grid = grid_kept r.trees now.trees g.cols g.rows own.grid a b;
      col_in = λ some. c.read_grid.ensures.col_in;
      none = c.read_grid.ensures.none;
      inclusion = omega (arith, own.inclusion, a.leaves);
      planes = omega (arith, own.planes, b.leaves);
      room = omega (arith, own.room, c.read_grid.ensures.few, c.read_grid.ensures.capacity);
    } in
    grid_took first g later r now before c.args.source.now c.read_grid.new.source c.read_grid.result t c.requires.current.0 c.requires.current.0 c.requires.begun c.requires.begun own.grid c.read_grid.ensures.col_in inside c.read_grid.ensures.fits
    (c.read_grid.ensures.read t.nodes t.others t.knows before t.done (record { read = t.read }))
