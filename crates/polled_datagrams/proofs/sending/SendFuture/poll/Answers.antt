use Rattle.std.proofs.Common.{refl, ap, ◌≡◌, false, Bool}
use Rattle.std.specs.Rc.{rc_slice_items}
use Rattle.polled_datagrams.specs.Sending.{KeepsPeer}
use Rattle.polled_datagrams.proofs.Polling.{polled_none, polled_all, sent_first, failed_first, not_ready_first, none_first}
use Rattle.polled_datagrams.specs.declared.sending.Flushed.{Flushed}
use Rattle.polled_datagrams.proofs.sending.SendFuture.poll.Goals as goal
use Rattle.polled_datagrams.proofs.sending.SendFuture.poll.Goals.{in-Sent, in-Failed}

pub loop-datagram-init : goal.loop-datagram-init
loop-datagram-init g c = record { polled = polled_none _ _ _; quiet = refl; keeps = record { peer = refl; depth = refl } }

pub returns-in-NotReady-clause-polled : goal.returns-in-NotReady-clause-polled
returns-in-NotReady-clause-polled g c = not_ready_first rc_slice_items _ _ _ c.loop-datagram.self.queue.items c.in-Some.datagram.now _ _ _ _ _ _ c.loop-datagram.invariant.keeps.peer c.in-Some.ensures c.as_slice.ensures.value c.loop-datagram.invariant.polled c.in-NotReady.ensures.step

pub loop-datagram-preserved-after-send : goal.loop-datagram-preserved-after-send
loop-datagram-preserved-after-send g c =
    let before = c.loop-datagram.invariant in
    let keeps : KeepsPeer c.args.self.now _ = record { peer = before.keeps.peer; depth = rw c.pop_front.ensures.items before.keeps.depth } in
    elim c.match-send.branch [
      | in-Sent w ↦ record {
        polled = rw (c.pop_front.ensures.items, w.flushed-is) (sent_first rc_slice_items _ _ _ c.loop-datagram.self.queue.items c.in-Some.datagram.now _ _ _ _ _ _ before.keeps.peer c.in-Some.ensures c.as_slice.ensures.value before.polled w.in-Sent.ensures.step);
        quiet = rw w.flushed-is before.quiet;
        keeps = keeps;
      }
      | in-Failed w ↦ record {
        polled = rw (c.pop_front.ensures.items, w.flushed-is) (failed_first rc_slice_items _ _ _ c.loop-datagram.self.queue.items c.in-Some.datagram.now _ _ _ _ _ _ before.keeps.peer c.in-Some.ensures c.as_slice.ensures.value before.polled w.in-Failed.ensures.step);
        quiet = rw w.flushed-is before.quiet;
        keeps = keeps;
      }
    ]

-- counts of a poll in which the link was always ready
quiet_counts : (r : Flushed) → r.pending ≡ false → r ≡ record { pending = false; sent = r.sent; failed = r.failed }
quiet_counts r e = ap (λ (b : Bool). record { pending = b; sent = r.sent; failed = r.failed }) e

pub returns-clause-polled : goal.returns-clause-polled
returns-clause-polled g c = polled_all _ _ _ _ _ _ _ c.loop-datagram.flushed (quiet_counts c.loop-datagram.flushed c.loop-datagram.invariant.quiet) (none_first rc_slice_items _ c.in_default.ensures) c.loop-datagram.invariant.polled
