use Rattle.thinning_relay.proofs.Levels.{formed, not_formed, refused, wanted}
use Rattle.thinning_relay.proofs.passing.accept.Goals as goal

pub returns-in-None : goal.returns-in-None
returns-in-None c = (not_formed c.args.datagram.now c.in-None.ensures.level, refused c.args.datagram.now c.args.receivers.now c.in-None.ensures.level)

pub returns-then-pass : goal.returns-then-pass
returns-then-pass c = (formed c.args.datagram.now c.in-Some.level c.in-Some.ensures.level, c.pass.ensures.passed c.if-pass.true)

pub returns-else-pass : goal.returns-else-pass
returns-else-pass c = (wanted c.args.datagram.now c.in-Some.level c.args.receivers.now c.in-Some.ensures.level (c.pass.ensures.wanted c.if-pass.false), c.pass.ensures.kept c.if-pass.false)
