use Rattle.std.proofs.Common.{◌++◌}
use Rattle.scl_cli.proofs.SoFar.{one_more, moved, ended}
use Rattle.scl_cli.proofs.thin.thin.Goals as goal

pub loop-ending-preserved : goal.loop-ending-preserved
loop-ending-preserved g c =
    let now = c.loop-ending.invariant.so_far in
    let more = c.in-Frame.ensures in
    record { live = (moved _ _ _ _ _ _ more.1).1; so_far = (now.0 ++ more.0, one_more _ _ _ _ _ _ _ _ now.1 more.1) }

pub loop-ending-smaller : goal.loop-ending-smaller
loop-ending-smaller g c = (moved _ _ _ _ _ _ c.in-Frame.ensures.1).0

pub returns-in-Stop : goal.returns-in-Stop
returns-in-Stop g c =
    let now = c.loop-ending.invariant.so_far in
    let more = c.in-Stop.ensures in
    (now.0 ++ more.0, ended _ _ _ _ _ _ _ _ _ now.1 more.1)
