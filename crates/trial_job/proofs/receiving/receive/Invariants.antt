use Rattle.std.proofs.Common.{◌≡◌, ◌≤◌, ◌<◌, ◌++◌, ℕ, List, map}
use Rattle.std.specs.Prelude.{drop, length}
use Rattle.std.specs.List.{AllByRecursion}
use Rattle.wire_model.specs.Thinning.{kept}
use Rattle.stream_model.specs.Arrivals.{datagram_at}
use Rattle.trial_job.specs.Receiving.{HasTaken}
use Rattle.trial_job.proofs.receiving.receive.Given as goal

abbrev pub invariant-loop-position : goal.invariant-loop-position
invariant-loop-position l =
    AllByRecursion (λ i. i < length l.datagrams) (drop l.position-index l.positions)
    × (l.link.thinned ≤ l.position-index)
    × ((frames : List (List ℕ)) × HasTaken l.fn.wanted.window frames l.link
    × (frames ++ kept l.fn.wanted.limit (map (datagram_at l.datagrams) (drop l.position-index l.positions)) ≡ kept l.fn.wanted.limit (map (datagram_at l.datagrams) l.positions)))
