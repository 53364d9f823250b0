use Rattle.std.proofs.Common.{arith}
use Rattle.scl_outside.proofs.Received.{counted_arrived}
use Rattle.scl_outside.proofs.inbox.Inbox.keep.Goals as goal

pub invariant_of-self-clause-counted : goal.invariant_of-self-clause-counted
invariant_of-self-clause-counted c =
    let s = c.args.self.now in
    counted_arrived s.entries.items s.answers c.push.new.self c.args.answer c.in-Arrived.field-0 s.arrived c.saturating_add-self.result
    c.in-Arrived.is c.saturating_add-self.ensures (omega (arith, s.answers.reserved, s.answers.items.small)) c.push.ensures.told s.counted
