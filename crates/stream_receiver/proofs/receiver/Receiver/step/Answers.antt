use Rattle.std.proofs.Common.{◌≡◌, sym, ◌∙◌}
use Rattle.stream_receiver.proofs.Stepping.{step_ready, step_idle, step_moved}
use Rattle.stream_receiver.proofs.receiver.Receiver.step.Goals as goal

pub returns-then-settle-clause-rules : goal.returns-then-settle-clause-rules
returns-then-settle-clause-rules c = step_ready c.args.self.now c.loop-self.self c.settle.new.self c.loop-self.invariant.0 c.if-settle.ensures.rules

pub returns-then-not-advance-clause-rules : goal.returns-then-not-advance-clause-rules
returns-then-not-advance-clause-rules c =
    step_idle c.settle.new.self.pick.window c.args.self.now c.loop-self.self c.settle.new.self c.advance.new.self c.loop-self.invariant.0 c.if-settle.ensures.rules c.is_near-in-loop-self.ensures.near c.if-not-advance.ensures.rules

pub loop-self-preserved : goal.loop-self-preserved
loop-self-preserved c = (
  (step_moved c.settle.new.self.pick.window c.args.self.now c.loop-self.self c.settle.new.self c.advance.new.self c.loop-self.invariant.0 c.if-settle.ensures.rules c.is_near-in-loop-self.ensures.near c.if-not-advance.ensures.rules).0,
  c.advance.ensures.pick ∙ (c.settle.ensures.pick ∙ c.loop-self.invariant.1),
)

pub loop-self-smaller : goal.loop-self-smaller
loop-self-smaller c =
    (step_moved c.settle.new.self.pick.window c.args.self.now c.loop-self.self c.settle.new.self c.advance.new.self c.loop-self.invariant.0 c.if-settle.ensures.rules c.is_near-in-loop-self.ensures.near c.if-not-advance.ensures.rules).1
