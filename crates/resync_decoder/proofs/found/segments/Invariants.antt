use Rattle.std.proofs.Common.{◌≡◌, ◌<◌, ◌+◌, ◌-◌, ◌^◌, min, map, drop}
use Rattle.codestream_model.specs.Packet.{segment_bytes}
use Rattle.packet_header.specs.Answers.{block_of}
use Rattle.resync_decoder.proofs.found.segments.Given as goal

abbrev pub invariant-loop-block : goal.invariant-loop-block
invariant-loop-block l = record {
  fits : l.total < 2 ^ 64;
  rest : min (l.total + segment_bytes (map block_of (drop l.block-index l.blocks))) (2 ^ 64 - 1) ≡ min (segment_bytes (map block_of l.blocks)) (2 ^ 64 - 1);
}
