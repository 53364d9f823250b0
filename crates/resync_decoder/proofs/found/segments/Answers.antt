use Rattle.std.proofs.Common.{◌≡◌, map, drop, ap, arith}
use Rattle.std.proofs.lemmas.List.{drop_all}
use Rattle.codestream_model.specs.Packet.{segment_bytes}
use Rattle.packet_header.specs.Answers.{block_of}
use Rattle.resync_decoder.proofs.found.segments.Goals as goal

pub returns : goal.returns
returns c =
    let z : segment_bytes (map block_of (drop c.loop-block.block-index c.args.blocks.now)) ≡ 0 = ap (λ l. segment_bytes (map block_of l)) (drop_all c.loop-block.block-index c.args.blocks.now c.loop-block-test.false) in
    omega (arith, z, c.loop-block.invariant.fits, c.loop-block.invariant.rest)
