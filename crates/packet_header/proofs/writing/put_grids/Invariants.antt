-- The grids before this one are put.
use Rattle.std.proofs.Common.{◌≡◌, ◌≤◌, map, drop, length}
use Rattle.std.specs.List.{AllByRecursion}
use Rattle.codestream_model.specs.Packet.{block_count}
use Rattle.codestream_model.specs.PacketHeader.{IsWithinLimits}
use Rattle.codestream_model.specs.Values as values
use Rattle.precinct_geometry.specs.Spans.{grid_of}
use Rattle.packet_header.specs.Answers.{block_of}
use Rattle.packet_header.specs.Queues.{remaining}
use Rattle.packet_header.specs.Puts.{Onward}
use Rattle.packet_header.specs.PositionsWritten.{AreOnGrid}
use Rattle.packet_header.proofs.GridPuts.{GridsPut}
use Rattle.packet_header.proofs.writing.put_grids.Given as goal

abbrev pub invariant-loop-grid : goal.invariant-loop-grid
invariant-loop-grid l = record {
  put : GridsPut (map grid_of l.grids) (map grid_of (drop l.grid-index l.grids)) (map block_of l.blocks) (remaining l.queue) l.fn.bits l.bits l.fn.buf l.buf;
  on_grid : AllByRecursion (λ (g : values.Grid). AreOnGrid g (map block_of l.blocks)) (map grid_of (drop l.grid-index l.grids));
  few : block_count (map grid_of (drop l.grid-index l.grids)) ≤ 65536;
  limits : AllByRecursion IsWithinLimits (remaining l.queue);
  goes : Onward l.fn.bits l.bits l.fn.buf l.buf;
  size : length l.buf ≡ length l.fn.buf;
}
