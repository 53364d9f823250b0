use Rattle.scl_outside.proofs.Received.{datagram_there}
use Rattle.scl_outside.proofs.inbox.Inbox.next_answer.Goals as goal

pub returns-in-Some-Datagram : goal.returns-in-Some-Datagram
returns-in-Some-Datagram c =
    let s = c.args.self.now in
    let found = rw c.deref.ensures.value at c.in-Some-Datagram.ensures.lookup in
    datagram_there s.never_fails s.entries.items s.next c.in-Some-Datagram.field-0.now c.in-Some-Datagram.field-0-0 found.3.0 found.1 c.in-Some-Datagram.field-0-is
