use Rattle.std.proofs.Common.{◌<◌, length, arith}
use Rattle.thinning_relay.specs.Relaying.{receivers_of}
use Rattle.relay_job.proofs.Lists.{lines_more}
use Rattle.relay_job.proofs.lines.lines_of.Goals as goal

pub loop-j-preserved : goal.loop-j-preserved
loop-j-preserved c = let low : c.loop-j.j < length (receivers_of c.args.relay.now) = omega (arith, c.requires.count, c.loop-j-test.true) in lines_more _ _ _ _ _ low c.push_peer.ensures.text c.push_peer.ensures.size c.loop-j.invariant
