use Rattle.thinning_relay.proofs.Taking.{one_takes, none_more, none_at_all}
use Rattle.thinning_relay.proofs.passing.has_taker.Goals as goal

pub returns-then-level-receiver-clause-some : goal.returns-then-level-receiver-clause-some
returns-then-level-receiver-clause-some c = λ e. one_takes c.args.level c.args.receivers.now c.loop-receiver.receiver-index c.receiver-item.result c.loop-receiver-test.true c.receiver-item.is c.if-level-receiver.true

pub loop-receiver-preserved : goal.loop-receiver-preserved
loop-receiver-preserved c = none_more c.args.level c.args.receivers.now c.loop-receiver.receiver-index c.receiver-item.result c.loop-receiver-test.true c.receiver-item.is c.if-level-receiver.false c.loop-receiver.invariant

pub returns-clause-none : goal.returns-clause-none
returns-clause-none c = λ e. none_at_all c.args.level c.args.receivers.now c.loop-receiver.receiver-index c.loop-receiver-test.false c.loop-receiver.invariant
