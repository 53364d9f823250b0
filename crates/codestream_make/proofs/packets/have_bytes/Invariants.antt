use Rattle.std.proofs.Common.{◌≡◌, ◌+◌, map, drop}
use Rattle.codestream_model.specs.Packet.{segment_bytes}
use Rattle.packet_header.specs.Answers.{block_of}
use Rattle.codestream_make.proofs.packets.have_bytes.Given as goal

abbrev pub invariant-loop-block : goal.invariant-loop-block
invariant-loop-block l = l.len + segment_bytes (map block_of (drop l.block-index l.blocks)) ≡ l.left + segment_bytes (map block_of l.blocks)
