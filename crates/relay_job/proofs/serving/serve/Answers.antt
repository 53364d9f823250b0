use Rattle.std.proofs.Common.{refl}
use Rattle.relay_job.proofs.Served.{going_none, going_more, served_over, served_stopped, all_kept}
use Rattle.relay_job.proofs.Working.{works}
use Rattle.relay_job.proofs.serving.serve.Goals as goal

pub loop-count-init : goal.loop-count-init
loop-count-init g c = going_none _ _ _ c.requires.peers c.requires.few c.requires.idles

pub take_turn-requires-clause-peers : goal.take_turn-requires-clause-peers
take_turn-requires-clause-peers g c = c.loop-count.invariant.peers

pub take_turn-requires-clause-busy : goal.take_turn-requires-clause-busy
take_turn-requires-clause-busy g c = c.loop-count.invariant.busy

pub loop-count-smaller : goal.loop-count-smaller
loop-count-smaller g c = works _ _ _ _ _ _ _ c.loop-count.invariant.few c.requires.most c.loop-count.invariant.busy c.in-On.ensures

pub loop-count-preserved : goal.loop-count-preserved
loop-count-preserved g c = going_more _ _ _ _ _ _ _ _ _ c.requires.most c.loop-count.invariant c.in-On.ensures

pub returns-in-Over-clause-serves : goal.returns-in-Over-clause-serves
returns-in-Over-clause-serves g c = served_over _ _ _ _ _ _ _ _ _ _ c.requires.most refl c.loop-count.invariant c.in-Over.ensures

pub returns-in-Stop-clause-serves : goal.returns-in-Stop-clause-serves
returns-in-Stop-clause-serves g c = served_stopped _ _ _ _ _ _ _ _ _ _ c.requires.most refl c.loop-count.invariant c.in-Stop.ensures

pub returns-in-Over-clause-count : goal.returns-in-Over-clause-count
returns-in-Over-clause-count g c = (all_kept _ _ _ _ _ _ _ _ _ c.loop-count.invariant c.in-Over.ensures).0

pub returns-in-Over-clause-peers : goal.returns-in-Over-clause-peers
returns-in-Over-clause-peers g c = (all_kept _ _ _ _ _ _ _ _ _ c.loop-count.invariant c.in-Over.ensures).1

pub returns-in-Stop-clause-count : goal.returns-in-Stop-clause-count
returns-in-Stop-clause-count g c = (all_kept _ _ _ _ _ _ _ _ _ c.loop-count.invariant c.in-Stop.ensures).0

pub returns-in-Stop-clause-peers : goal.returns-in-Stop-clause-peers
returns-in-Stop-clause-peers g c = (all_kept _ _ _ _ _ _ _ _ _ c.loop-count.invariant c.in-Stop.ensures).1
