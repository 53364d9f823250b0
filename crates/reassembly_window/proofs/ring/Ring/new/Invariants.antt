use Rattle.std.proofs.Common.{◌≡◌, ◌≤◌, length, map, replicate, None, vec_capacity}
use Rattle.reassembly_window.specs.Cells.{slot_of}
use Rattle.reassembly_window.proofs.ring.Ring.new.Given as goal

abbrev pub invariant-loop : goal.invariant-loop
invariant-loop l = record {
  slots : map slot_of l.cells.items ≡ replicate l.counter None;
  many : length l.cells.items ≡ l.counter;
  room : l.size ≤ vec_capacity l.cells;
}
