use Rattle.relay_job.proofs.Flushed.{waning_none, waning_more, flush_works}
use Rattle.relay_job.proofs.draining.drain.Goals as goal

pub loop-idle-init : goal.loop-idle-init
loop-idle-init g c = waning_none _ _ _ c.requires.peers

pub loop-idle-smaller : goal.loop-idle-smaller
loop-idle-smaller g c = flush_works _ _ _ _ _ _ _ _ c.after_flush-idle.ensures c.loop-idle-test.true c.flush.ensures

pub loop-idle-preserved : goal.loop-idle-preserved
loop-idle-preserved g c = waning_more _ _ _ _ _ _ _ _ _ _ c.after_flush-idle.ensures c.loop-idle-test.true c.loop-idle.invariant c.flush.ensures
