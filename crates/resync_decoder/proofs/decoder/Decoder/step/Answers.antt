use Rattle.resync_decoder.proofs.Steps.{step_released, step_given, step_waited, step_changed}
use Rattle.resync_decoder.proofs.decoder.Decoder.step.Goals as goal

pub returns-in-Released-clause-rules : goal.returns-in-Released-clause-rules
returns-in-Released-clause-rules c = step_released c.args.self.now.rules c.loop-self.self.rules c.follow.new.self c.loop-self.invariant c.has_bytes.ensures.bytes c.in-Released.ensures

pub returns-in-Released-clause-given : goal.returns-in-Released-clause-given
returns-in-Released-clause-given c = λ e. step_given c.args.self.now.rules c.follow.new.self (returns-in-Released-clause-rules c)

pub returns-in-Waits-clause-rules : goal.returns-in-Waits-clause-rules
returns-in-Waits-clause-rules c = step_waited c.args.self.now.rules c.loop-self.self.rules c.follow.new.self c.loop-self.invariant c.has_bytes.ensures.bytes c.in-Waits.ensures

pub returns-in-Waits-clause-waits : goal.returns-in-Waits-clause-waits
returns-in-Waits-clause-waits c = λ e. (returns-in-Waits-clause-rules c).1

pub loop-self-preserved : goal.loop-self-preserved
loop-self-preserved c = (step_changed c.args.self.now.rules c.loop-self.self.rules c.follow.new.self c.loop-self.invariant c.has_bytes.ensures.bytes c.in-Changed.ensures).0
