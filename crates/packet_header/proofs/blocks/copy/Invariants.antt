-- The grids before this one were copied.
use Rattle.std.proofs.Common.{◌≡◌, take}
use Rattle.packet_header.proofs.blocks.copy.Given as goal

abbrev pub invariant-loop-grid : goal.invariant-loop-grid
invariant-loop-grid l = l.to.items ≡ take l.grid-index l.grids
