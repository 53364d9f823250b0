use Rattle.std.proofs.Common.{◌≡◌, ◌<◌, ◌∙◌, sym, ap, subst, ℕ, List, Some, Option, length, get_or, arith, Bool, None, if◌then◌else◌}
use Rattle.std.specs.List.{slice_get}
use Rattle.std.proofs.lemmas.Option.{slice_get_within}
use Rattle.polled_datagrams.specs.Sending.{depth_of, queue_of}
use Rattle.polled_datagrams.specs.declared.sending.SendFuture.{SendFuture}
use Rattle.thinning_relay.specs.Passing.{PassedOn, PassesOn, kept_of, SharesAll, PutsAll, SameReceiver, share_at}
use Rattle.thinning_relay.specs.Receivers.{PutsShare, share_of, queued, queue_after, missed, count_after}
use Rattle.thinning_relay.specs.declared.receiver.Receiver.{Receiver}
use Rattle.thinning_relay.specs.Levels.{IsLevel}
use Rattle.thinning_relay.proofs.Flushing.{get_at}
use Rattle.thinning_relay.proofs.passing.pass.Goals as goal

-- its share is what its limit keeps
share_is : (level : ℕ) (d : List ℕ) (limit : ℕ) → IsLevel d (Some level) → share_at level d limit ≡ kept_of limit (Some d)
share_is level d limit is = ap (λ (b : Bool). if b then Some d else None) (sym (is limit))

passed_one : (level : ℕ) (d : List ℕ) (r m q : Receiver) → IsLevel d (Some level) → SameReceiver r m → share_of m ≡ share_at level d r.limit → PutsShare m q → PassedOn (Some d) r q
passed_one level d r m q is same share p = record {
  queue = p.joins ∙ ap (λ (o : Option (List ℕ)). queue_after (depth_of m.queue) o (queued m)) e ∙ ap (λ (f : SendFuture). queue_after (depth_of f) (kept_of r.limit (Some d)) (queue_of f)) same.queue;
  lost = p.lost ∙ ap (λ (o : Option (List ℕ)). count_after m.lost (missed (depth_of m.queue) o (queued m))) e
      ∙ ap (λ (f : SendFuture). count_after m.lost (missed (depth_of f) (kept_of r.limit (Some d)) (queue_of f))) same.queue
      ∙ ap (λ (n : ℕ). count_after n (missed (depth_of r.queue) (kept_of r.limit (Some d)) (queued r))) same.lost;
  sent = p.sent ∙ same.sent;
  failed = p.failed ∙ same.failed;
  keeps = record {
    limit = p.keeps.limit ∙ same.limit;
    queue = record { peer = p.keeps.queue.peer ∙ ap (λ (f : SendFuture). f.peer) same.queue; depth = p.keeps.queue.depth ∙ ap (λ (f : SendFuture). depth_of f) same.queue };
  };
} where
  e : share_of m ≡ kept_of r.limit (Some d)
  e = share ∙ share_is level d r.limit is

passed : (level : ℕ) (d : List ℕ) (rs ms qs : List Receiver) → IsLevel d (Some level) → SharesAll level d rs ms → PutsAll ms qs → PassesOn (Some d) rs qs
passed level d rs ms qs is shared put = record { count = put.count ∙ shared.same.count; each = each } where
  each : (j : ℕ) (r q : Receiver) → slice_get rs j ≡ Some r → slice_get qs j ≡ Some q → PassedOn (Some d) r q
  each j r q h k =
      let within : j < length ms = (let w = slice_get_within rs j r h in let c = shared.same.count in omega arith) in
      let m = get_or ms j r in
      let at : slice_get ms j ≡ Some m = get_at ms j r within in
      passed_one level d r m q is (shared.same.each j r m h at) (shared.each j r m h at) (put.each j m q at k)

of_copy : (level : ℕ) (d e : List ℕ) (rs ms qs : List Receiver) → e ≡ d → IsLevel d (Some level) → SharesAll level e rs ms → PutsAll ms qs → PassesOn (Some d) rs qs
of_copy level d e rs ms qs same is shared put = let P : List ℕ → Type 0 = λ x. SharesAll level x rs ms in passed level d rs ms qs is (subst P same shared) put

pub returns-in-Ok-share_all-clause-passed : goal.returns-in-Ok-share_all-clause-passed
returns-in-Ok-share_all-clause-passed c = λ e. of_copy c.args.level c.args.datagram.now _ c.args.receivers.now _ _ c.in-Ok.ensures.ok c.requires c.in-Ok-share_all.ensures.shared c.put_all.ensures
