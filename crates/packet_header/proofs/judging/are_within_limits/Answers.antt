-- One code-block that isn't within its limits.
use Rattle.std.proofs.Common.{rules}
use Rattle.codestream_model.specs.PacketHeader.{IsWithinLimits}
use Rattle.packet_header.specs.Answers.{block_of}
use Rattle.packet_header.proofs.PositionWalks.{each_at}
use Rattle.packet_header.proofs.judging.are_within_limits.Goals as goal

pub returns-then-not-is_within_limits : goal.returns-then-not-is_within_limits
returns-then-not-is_within_limits c = (
  λ t. absurd (search rules),
  λ a. c.if-not-is_within_limits.ensures.1 (each_at IsWithinLimits block_of c.args.blocks.now c.loop-block.block-index (record { band = 0; col = 0; row = 0; planes = 0; passes = 0; cleanup = 0; refine = 0 }) c.loop-block-test.true a),
)
