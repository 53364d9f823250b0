use Rattle.std.proofs.Common.{◌≡◌, ◌+◌, ◌++◌, ◌∙◌, ap, refl, nat_lt, ℕ, Bool, arith}
use Rattle.std.proofs.lemmas.Bool.Decides.{nat_tests}
use Rattle.scl_outside.specs.Meaning.{Meaning}
use Rattle.polled_datagrams.specs.Sending.{Polls, KeepsPeer}
use Rattle.polled_datagrams.specs.declared.sending.Flushed.{Flushed}
use Rattle.thinning_relay.specs.Receivers.{FlushesOne, queued, count_after}
use Rattle.thinning_relay.specs.declared.receiver.Receiver.{Receiver}
use Rattle.thinning_relay.proofs.Flushing.{some_moved}
use Rattle.thinning_relay.proofs.receiver.Receiver.flush.Goals as goal

-- a poll of a receiver's queue, and its counts after it
one : (r q : Receiver) (p : Flushed) (b : Bool) (s t : Meaning) → Polls r.queue.peer (queued r) p (queued q) s t → KeepsPeer r.queue q.queue → q.limit ≡ r.limit → q.lost ≡ r.lost
    → q.sent ≡ count_after r.sent p.sent → q.failed ≡ count_after r.failed p.failed → b ≡ nat_lt 0 (p.sent + p.failed) → FlushesOne r b q s t
one r q p b s t polls keeps limit lost sent failed moved = record {
  wire = polls.wire;
  trace = polls.trace;
  given = polls.given;
  offered = polls.offered;
  sent = polls.sent;
  served = record {
    told = λ x more. polls.told x more ∙ ap (λ (n : ℕ). record { tale = record x { sent = x.sent ++ polls.sent; failed = x.failed + n; left = queued q }; answers = more }) polls.failed;
    settled = polls.settled;
    sent_count = sent ∙ ap (λ (n : ℕ). count_after r.sent n) polls.number;
    failed_count = failed ∙ ap (λ (n : ℕ). count_after r.failed n) polls.failed;
    lost = lost;
    keeps = record { limit = limit; queue = keeps };
  };
  replies = polls.replies;
  parcels = polls.parcels;
  peers = polls.peers;
  moved = some_moved polls.given p.sent p.failed b polls.taken moved;
}

pub returns-then-flushed-gt0 : goal.returns-then-flushed-gt0
returns-then-flushed-gt0 g c = one _ _ c.poll-flushed.result _ _ _ c.poll-flushed.ensures.polled c.poll-flushed.ensures.keeps refl refl (omega arith) (omega arith) (grind (arith, nat_tests))

pub returns-else-flushed-gt0 : goal.returns-else-flushed-gt0
returns-else-flushed-gt0 g c = one _ _ c.poll-flushed.result _ _ _ c.poll-flushed.ensures.polled c.poll-flushed.ensures.keeps refl refl (omega arith) (omega arith) (grind (arith, nat_tests))
