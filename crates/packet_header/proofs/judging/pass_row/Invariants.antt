-- The positions before the column are passed.
use Rattle.std.proofs.Common.{◌≡◌}
use Rattle.packet_header.specs.Positions.{row_seats}
use Rattle.packet_header.specs.Queues.{remaining, passed}
use Rattle.packet_header.proofs.judging.pass_row.Given as goal

abbrev pub invariant-loop-col : goal.invariant-loop-col
invariant-loop-col l = remaining l.queue ≡ passed (row_seats l.grid.band l.col l.row) (remaining l.fn.queue)
