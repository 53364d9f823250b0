use Rattle.std.proofs.Common.{◌+◌, refl, arith}
use Rattle.trial_job.proofs.DeliverySteps.{none_drawn, one_more_drawn}
use Rattle.trial_job.proofs.delivering.draw_arrivals.Goals as goal

pub loop-position-init : goal.loop-position-init
loop-position-init c = none_drawn c.args.loss c.args.seed _ c.new.ensures.items refl

pub loop-position-preserved : goal.loop-position-preserved
loop-position-preserved c =
    one_more_drawn c.args.loss c.loop-position.position c.args.seed (c.loop-position.position + 1) c.loop-position.arrivals c.add.new.self
    c.loop-position.invariant c.in_ok-add.ensures (omega arith)
