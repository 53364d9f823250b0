-- The code-blocks before this one are within their limits.
use Rattle.std.proofs.Common.{map, take}
use Rattle.std.specs.List.{AllByRecursion}
use Rattle.codestream_model.specs.PacketHeader.{IsWithinLimits}
use Rattle.packet_header.specs.Answers.{block_of}
use Rattle.packet_header.proofs.judging.are_within_limits.Given as goal

abbrev pub invariant-loop-block : goal.invariant-loop-block
invariant-loop-block l = AllByRecursion IsWithinLimits (map block_of (take l.block-index l.blocks))
