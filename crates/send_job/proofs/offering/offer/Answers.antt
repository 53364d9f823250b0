use Rattle.send_job.proofs.Offered.{waited_none, waited_more, gone, failed}
use Rattle.send_job.proofs.offering.offer.Goals as goal

pub loop-waited-init : goal.loop-waited-init
loop-waited-init g c = waited_none _ _ _

pub loop-waited-preserved : goal.loop-waited-preserved
loop-waited-preserved g c = waited_more _ _ _ _ _ _ c.loop-waited.invariant c.loop-waited-test.true c.in-NotReady.ensures.step

pub returns-in-Sent : goal.returns-in-Sent
returns-in-Sent g c = gone _ _ _ _ _ _ c.loop-waited.invariant c.loop-waited-test.true c.in-Sent.ensures.step

pub returns-in-Failed : goal.returns-in-Failed
returns-in-Failed g c = failed _ _ _ _ _ _ c.loop-waited.invariant c.loop-waited-test.true c.in-Failed.ensures.step
