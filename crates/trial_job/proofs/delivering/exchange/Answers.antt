use Rattle.std.proofs.Common.{◌+◌, ◌∙◌, arith, refl}
use Rattle.trial_job.proofs.DeliverySteps.{all_left, pair_exchanged, pair_kept, no_pair_left}
use Rattle.trial_job.proofs.delivering.exchange.Goals as goal
use Rattle.trial_job.proofs.delivering.exchange.Goals.{then-below-eq0, else-below-eq0}

pub loop-at-init : goal.loop-at-init
loop-at-init c = record { left = all_left c.args.positions.now c.args.draws.state; within = omega arith }

pub loop-at-preserved : goal.loop-at-preserved
loop-at-preserved c =
    let here = c.loop-at in
    let drawn = c.below.ensures in record {
      left = elim c.if-below-eq0.branch [
        | then-below-eq0 w ↦ pair_exchanged c.args.positions.now here.positions c.if-below-eq0.positions c.args.draws.state here.at (here.at + 2)
            here.draws.state c.below.result c.below.new.self.state here.invariant.left c.loop-at-test.true refl drawn.number w.if-below-eq0.true
            (w.positions-is ∙ w.swap.ensures.after) drawn.state
        | else-below-eq0 w ↦ pair_kept c.args.positions.now here.positions c.if-below-eq0.positions c.args.draws.state here.at (here.at + 2)
            here.draws.state c.below.result c.below.new.self.state here.invariant.left c.loop-at-test.true refl drawn.number w.if-below-eq0.false
            w.positions-is drawn.state
      ];
      within = omega arith;
    }

pub returns : goal.returns
returns c =
    no_pair_left c.args.positions.now c.args.draws.state c.loop-at.at c.loop-at.positions c.loop-at.draws.state c.loop-at.invariant.left
    c.loop-at-test.false
