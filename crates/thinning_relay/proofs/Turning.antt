-- One receiver in a turn: what came joins its queue, and its queue is polled.
use Rattle.std.proofs.Common.{◌≡◌, ◌+◌, ◌++◌, ℕ, Bool, true, false, List, [], ◌∷◌, Option, Some, None, length, nat_lt, refl, sym, ◌∙◌, ap, add-zero, if◌then◌else◌}
use Rattle.wire_model.specs.LinkAnswers.{LinkAnswer}
use Rattle.wire_model.specs.Thinning.{is_kept}
use Rattle.relay_model.specs.Queue.{Tale, poll, turn, join_queue}
use Rattle.polled_datagrams.specs.Sending.{depth_of}
use Rattle.relay_model.specs.Relays.{failure_count}
use Rattle.thinning_relay.specs.Receivers.{queued, queue_after, missed, Served}
use Rattle.thinning_relay.specs.Passing.{PassedOn, kept_of}
use Rattle.thinning_relay.specs.Relaying.{ServedTurn}
use Rattle.thinning_relay.specs.declared.receiver.Receiver.{Receiver}

joined : (limit depth : ℕ) (given : Option (List ℕ)) (x : Tale)
    → join_queue limit depth x given ≡ record x { left = queue_after depth (kept_of limit given) x.left; lost = x.lost + missed depth (kept_of limit given) x.left }
joined limit depth None x = rw add-zero refl
joined limit depth (Some d) x = by_limit (is_kept limit d) where
  by_room : (c : Bool) → (if c then record x { left = x.left ++ d ∷ [] } else record x { lost = x.lost + 1 }) ≡ record x { left = (if c then x.left ++ d ∷ [] else x.left); lost = x.lost + (if c then 0 else 1) }
  by_room true = rw add-zero refl
  by_room false = refl

  by_limit : (b : Bool) → (if b then (if nat_lt (length x.left) depth then record x { left = x.left ++ d ∷ [] } else record x { lost = x.lost + 1 }) else x)
      ≡ record x { left = queue_after depth (if b then Some d else None) x.left; lost = x.lost + missed depth (if b then Some d else None) x.left }
  by_limit true = by_room (nat_lt (length x.left) depth)
  by_limit false = rw add-zero refl

-- what was given joins, and the queue is polled
pub turned_given : (given : Option (List ℕ)) (r m q : Receiver) (took : List LinkAnswer) (sent : List (List ℕ))
    → PassedOn given r m → Served m q took sent → ServedTurn given r q took sent
turned_given given r m q took sent p v = record {
  told = told;
  settled = v.settled;
  sent_count = rw p.sent at v.sent_count;
  lost_count = v.lost ∙ p.lost;
  failed_count = rw p.failed at v.failed_count;
  keeps = record { limit = v.keeps.limit ∙ p.keeps.limit; queue = record { peer = v.keeps.queue.peer ∙ p.keeps.queue.peer; depth = v.keeps.queue.depth ∙ p.keeps.queue.depth } };
} where
  share : Option (List ℕ)
  share = kept_of r.limit given

  told : (x : Tale) (more : List LinkAnswer) → x.left ≡ queued r → turn r.limit (depth_of r.queue) (record { tale = x; answers = took ++ more }) given
      ≡ record { tale = record { sent = x.sent ++ sent; lost = x.lost + missed (depth_of r.queue) share (queued r); failed = x.failed + failure_count took; left = queued q }; answers = more }
  told x more e =
      let y : Tale = record x { left = queue_after (depth_of r.queue) share x.left; lost = x.lost + missed (depth_of r.queue) share x.left } in
      let z : Tale = record x { left = queued m; lost = x.lost + missed (depth_of r.queue) share (queued r) } in
      let f : join_queue r.limit (depth_of r.queue) x given ≡ y = joined r.limit (depth_of r.queue) given x in
      let h : y ≡ z = ap (λ (l : List (List ℕ)). record x { left = queue_after (depth_of r.queue) share l; lost = x.lost + missed (depth_of r.queue) share l }) e ∙ ap (λ (l : List (List ℕ)). record x { left = l; lost = x.lost + missed (depth_of r.queue) share (queued r) }) (sym p.queue) in
      ap (λ (w : Tale). poll w w.left (took ++ more)) (f ∙ h) ∙ v.told z more
