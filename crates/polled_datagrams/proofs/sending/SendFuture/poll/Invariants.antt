use Rattle.std.proofs.Common.{◌≡◌, false, length}
use Rattle.polled_datagrams.specs.Sending.{queue_of, KeepsPeer}
use Rattle.polled_datagrams.proofs.Polling.{IsPolled}
use Rattle.polled_datagrams.proofs.sending.SendFuture.poll.Given as goal

abbrev pub invariant-loop-datagram : goal.invariant-loop-datagram
invariant-loop-datagram g l = record {
  polled : IsPolled l.fn.self.peer (queue_of l.fn.self) (queue_of l.self) l.flushed.sent l.flushed.failed (g.O.Duct.meaning l.fn.out) (g.O.Duct.meaning l.out);
  quiet : l.flushed.pending ≡ false;
  keeps : KeepsPeer l.fn.self l.self;
}

abbrev pub decreases-loop-datagram : goal.decreases-loop-datagram
decreases-loop-datagram g l = length l.self.queue.items
