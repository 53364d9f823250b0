-- Laws of the trial.
use Rattle.std.specs.Prelude.{◌≡◌, ◌<◌, ◌≤◌, ◌+◌, ◌*◌, ◌%◌, ◌^◌, ℕ, List, map, length, Some}
use Rattle.std.specs.List.{AllByRecursion, sum_by, range_with_len}
use Rattle.codestream_model.specs.Codestream.{joined}
use Rattle.wire_model.specs.Thinning.{kept}
use Rattle.stream_model.specs.Arrivals.{datagram_at}
use Rattle.stream_model.specs.Stream.{Parts}
use Rattle.stream_model.specs.ThinnedLaws.{CanBeSent, cut_of}
use Rattle.stream_model.specs.Receiver.{Pick, Receiver, received, flushed}
use Rattle.trial_model.specs.Generator.{generated}
use Rattle.trial_model.specs.Trial.{trial_shape, trial_plan, trial_parts, delivered_positions, thinned_positions, counts_of, TrialCounts}

-- What is delivered of a number of datagrams are some of them.
abbrev pub DeliveredAreWithin : Type 0
DeliveredAreWithin =
    (seed loss count : ℕ) → AllByRecursion (λ i. i < count) (delivered_positions seed loss count)

-- The receiver of a trial.
abbrev pub trial_pick : ℕ → Pick
trial_pick window = record { kind = 96; source = Some 1; window = window }

-- The list that is given to the receiver: the delivered datagrams, thinned.
abbrev pub thinned_list : List Parts → ℕ → List ℕ → List (List ℕ)
thinned_list parts limit delivered =
    kept limit (map (datagram_at (cut_of trial_plan parts)) delivered)

-- The numbers that a receiver's end shows are those of the line.
pub record ShowsCounts (c : TrialCounts) (frames : List (List ℕ)) (end : Receiver) : Type 0 where
  pub thinned : length frames ≡ c.thinned
  pub kept : end.kept ≡ c.kept
  pub released : length end.releases ≡ c.released

-- Where its codestreams can be sent, a trial counts what the receiver's rules make of the thinned
-- list.
abbrev pub TrialCountsWhatIsReceived : Type 0
TrialCountsWhatIsReceived =
    (parts : List Parts) (codestreams : List (List ℕ)) (window limit : ℕ) (delivered : List ℕ)
    → CanBeSent trial_plan parts codestreams → 1 ≤ window
    → AllByRecursion (λ i. i < length (cut_of trial_plan parts)) delivered
    → ShowsCounts
    (counts_of parts window delivered (thinned_positions limit (cut_of trial_plan parts) delivered))
    (thinned_list parts limit delivered)
    (flushed (received (trial_pick window) (thinned_list parts limit delivered)))

-- The bytes of the codestreams of a trial, each from the seed after that of the one before it.
abbrev pub trial_codestreams : ℕ → ℕ → List (List ℕ)
trial_codestreams seed count =
    map (λ i. generated trial_shape ((seed + i) % 2 ^ 64)) (range_with_len 0 count)

-- The codestreams of a trial can be sent: they are whole codestreams with these parts, their main
-- headers have room in a datagram, and there are fewer than 2^23 datagrams. They have at most 2^23
-- bytes in all, and 30 precincts each.
pub record IsSendableTrial (seed count : ℕ) : Type 0 where
  pub can_be_sent : CanBeSent trial_plan (trial_parts seed count) (trial_codestreams seed count)
  pub short : length (joined (trial_codestreams seed count)) ≤ 2 ^ 23
  pub precincts : sum_by (λ c. length c.places) (trial_parts seed count) ≡ count * 30

-- So it is with all trials of at most 64 codestreams.
abbrev pub TrialsCanBeSent : Type 0
TrialsCanBeSent = (seed count : ℕ) → count ≤ 64 → IsSendableTrial seed count
