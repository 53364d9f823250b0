use Rattle.std.proofs.Common.{◌≡◌, ◌≤◌, ◌+◌, take}
use Rattle.codestream_walk.proofs.Sizes.{summed}
use Rattle.codestream_walk.proofs.next_header.body_length.Given as goal

abbrev pub invariant-loop-block : goal.invariant-loop-block
invariant-loop-block l = (l.sum ≡ summed (take l.block-index l.blocks)) × (l.sum + l.header ≤ 16777216)
