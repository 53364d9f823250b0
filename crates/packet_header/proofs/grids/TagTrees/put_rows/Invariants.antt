-- The rows before this one are put.
use Rattle.std.proofs.Common.{◌≡◌, length, Ok}
use Rattle.std.specs.List.{AllByRecursion}
use Rattle.codestream_model.specs.PacketHeader.{IsWithinLimits}
use Rattle.precinct_geometry.specs.Spans.{grid_of}
use Rattle.packet_header.specs.Positions.{HasGrid}
use Rattle.packet_header.specs.Queues.{remaining}
use Rattle.packet_header.specs.Puts.{Onward}
use Rattle.packet_header.specs.PositionsWritten.{PutsPositions}
use Rattle.packet_header.proofs.PositionRuns.{rows_of}
use Rattle.packet_header.proofs.grids.TagTrees.put_rows.Given as goal

abbrev pub invariant-loop-row : goal.invariant-loop-row
invariant-loop-row l = record {
  bits : PutsPositions (grid_of l.grid) (rows_of l.grid.band l.grid.cols l.row) l.fn.self l.self (remaining l.fn.queue) (remaining l.queue) l.fn.bits l.bits l.fn.buf l.buf (Ok tt);
  goes : Onward l.fn.bits l.bits l.fn.buf l.buf;
  same : HasGrid l.self l.grid.cols l.grid.rows;
  limits : AllByRecursion IsWithinLimits (remaining l.queue);
  size : length l.buf ≡ length l.fn.buf;
}
