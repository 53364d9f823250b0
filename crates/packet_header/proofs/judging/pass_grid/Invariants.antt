-- The rows before this one are passed.
use Rattle.std.proofs.Common.{◌≡◌}
use Rattle.packet_header.specs.Queues.{remaining, passed}
use Rattle.packet_header.proofs.PositionRuns.{rows_of}
use Rattle.packet_header.proofs.judging.pass_grid.Given as goal

abbrev pub invariant-loop-row : goal.invariant-loop-row
invariant-loop-row l = remaining l.queue ≡ passed (rows_of l.grid.band l.grid.cols l.row) (remaining l.fn.queue)
