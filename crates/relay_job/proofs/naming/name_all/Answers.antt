use Rattle.std.proofs.Common.{◌<◌, length, arith}
use Rattle.relay_job.proofs.Named.{bound_first, bound_not, joined_more, joined_not}
use Rattle.relay_job.proofs.naming.name_all.Goals as goal

pub returns-in-Failed : goal.returns-in-Failed
returns-in-Failed g c = bound_not _ _ _ _ c.local.ensures c.in-Failed.ensures.step

pub loop-j-init : goal.loop-j-init
loop-j-init g c = bound_first _ _ _ _ c.local.ensures c.requires.peers c.in-Bound.ensures.step

pub returns-in-Failed-join : goal.returns-in-Failed-join
returns-in-Failed-join g c = joined_not _ _ _ _ _ _ _ (let low : c.loop-j.j < length c.args.settings.now.targets = omega (arith, c.count-j-end.ensures, c.loop-j-test.true) in low) c.address.ensures c.loop-j.invariant.1 c.in-Failed-join.ensures.step

pub loop-j-preserved : goal.loop-j-preserved
loop-j-preserved g c = joined_more _ _ _ _ _ _ _ (let low : c.loop-j.j < length c.args.settings.now.targets = omega (arith, c.count-j-end.ensures, c.loop-j-test.true) in low) c.address.ensures c.loop-j.invariant.1 c.in-Bound-join.ensures.step
