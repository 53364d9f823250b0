-- A datagram that is passed on to receivers.
use Rattle.std.specs.Prelude.{◌≡◌, ℕ, true, false, List, length, nat_le, Option, Some, None, if◌then◌else◌, slice_get}
use Rattle.wire_model.specs.Thinning.{is_kept}
use Rattle.wire_model.specs.Datagram.{is_well_formed}
use Rattle.polled_datagrams.specs.Sending.{depth_of}
use Rattle.thinning_relay.specs.Receivers.{count_after, queued, queue_after, missed, share_of, PutsShare, KeepsReceiver}
use Rattle.thinning_relay.specs.declared.receiver.Receiver.{Receiver}
use Rattle.thinning_relay.specs.declared.passing.Accepted.{Accepted}
use Rattle.thinning_relay.specs.declared.passing.Accepted.TheVariants.{Kept, Refused, NoMemory}

-- Each receiver's share was put into its queue.
pub record PutsAll (rs qs : List Receiver) : Type 0 where
  pub count : length qs ≡ length rs
  pub each : (j : ℕ) (r q : Receiver) → slice_get rs j ≡ Some r → slice_get qs j ≡ Some q → PutsShare r q

-- A receiver with this limit gets this share of a datagram whose least limit this is.
abbrev pub share_at : ℕ → List ℕ → ℕ → Option (List ℕ)
share_at level d limit = if nat_le level limit then Some d else None

-- All of a receiver but its share stays.
pub record SameReceiver (r q : Receiver) : Type 0 where
  pub limit : q.limit ≡ r.limit
  pub queue : q.queue ≡ r.queue
  pub sent : q.sent ≡ r.sent
  pub lost : q.lost ≡ r.lost
  pub failed : q.failed ≡ r.failed

-- All of each receiver but its share stays.
pub record SameButShare (rs qs : List Receiver) : Type 0 where
  pub count : length qs ≡ length rs
  pub each : (j : ℕ) (r q : Receiver) → slice_get rs j ≡ Some r → slice_get qs j ≡ Some q → SameReceiver r q

-- Each receiver got its share, and all else of it stays.
pub record SharesAll (level : ℕ) (d : List ℕ) (rs qs : List Receiver) : Type 0 where
  pub same : SameButShare rs qs
  pub each : (j : ℕ) (r q : Receiver) → slice_get rs j ≡ Some r → slice_get qs j ≡ Some q
      → share_of q ≡ share_at level d r.limit

-- Of what came, a receiver with this limit is given this.
abbrev pub kept_of : ℕ → Option (List ℕ) → Option (List ℕ)
kept_of limit None = None
kept_of limit (Some d) = if is_kept limit d then Some d else None

-- A receiver has what it is given at the end of its queue, or lost it where the queue was full.
pub record PassedOn (given : Option (List ℕ)) (r q : Receiver) : Type 0 where
  pub queue : queued q ≡ queue_after (depth_of r.queue) (kept_of r.limit given) (queued r)
  pub lost : q.lost ≡ count_after r.lost (missed (depth_of r.queue) (kept_of r.limit given) (queued r))
  pub sent : q.sent ≡ r.sent
  pub failed : q.failed ≡ r.failed
  pub keeps : KeepsReceiver r q

-- Each receiver has what it is given.
pub record PassesOn (given : Option (List ℕ)) (rs qs : List Receiver) : Type 0 where
  pub count : length qs ≡ length rs
  pub each : (j : ℕ) (r q : Receiver) → slice_get rs j ≡ Some r → slice_get qs j ≡ Some q → PassedOn given r q

-- Some receiver's limit keeps a datagram with this least limit.
abbrev pub HasTaker : ℕ → List Receiver → Type 0
HasTaker level rs = (j : ℕ) × (r : Receiver) × (slice_get rs j ≡ Some r) × (nat_le level r.limit ≡ true)

-- No receiver's limit keeps a datagram with this least limit.
abbrev pub HasNoTaker : ℕ → List Receiver → Type 0
HasNoTaker level rs = (j : ℕ) (r : Receiver) → slice_get rs j ≡ Some r → nat_le level r.limit ≡ false

-- Some receiver's limit keeps this datagram.
abbrev pub IsKeptBySome : List ℕ → List Receiver → Type 0
IsKeptBySome d rs = (j : ℕ) × (r : Receiver) × (slice_get rs j ≡ Some r) × (is_kept r.limit d ≡ true)

-- A datagram was passed on where it is well formed, refused where it isn't, or there was no memory for a
-- copy that some receiver's limit asks for, and no queue has changed.
abbrev pub Accepts : List ℕ → Accepted → List Receiver → List Receiver → Type 0
Accepts d NoMemory rs qs = IsKeptBySome d rs × SameButShare rs qs
Accepts d Kept rs qs = (is_well_formed d ≡ true) × PassesOn (Some d) rs qs
Accepts d Refused rs qs = (is_well_formed d ≡ false) × PassesOn (Some d) rs qs
