-- The numbers of trials.
use Rattle.std.specs.Prelude.{◌≡◌, List, [], ◌∷◌, refl}
use Rattle.codestream_model.specs.PacketOrder.{sum_below, placed, sorted}
use Rattle.stream_model.specs.Stream.{Parts}
use Rattle.stream_model.specs.ThinnedLaws.{cut_of}
use Rattle.stream_model.proofs.WorkedCuts.{header_of_levels, parts_of_levels}
use Rattle.trial_model.specs.Trial.{trial_plan, thinned_positions, counts_of, trial_counts}

-- four pictures have 120 precincts
pub trial_has_precincts : (trial_counts 7 4 0 64 7).precincts ≡ 120
unfolding sum_below placed sorted
trial_has_precincts = refl

-- two codestreams, each of a packet of resolution 0 and one of resolution 1
abbrev pub two_levels : List Parts
two_levels = parts_of_levels ∷ parts_of_levels ∷ []

-- are six datagrams, of which a limit of 6 keeps the Mains and the Bodies of resolution 0,
pub thinned_two_levels : thinned_positions 6 (cut_of trial_plan two_levels) (0 ∷ 1 ∷ 2 ∷ 3 ∷ 4 ∷ 5 ∷ []) ≡ 0 ∷ 1 ∷ 3 ∷ 4 ∷ []
unfolding sum_below header_of_levels
thinned_two_levels = refl

-- and through which the packets of resolution 0 are reached,
pub counts_of_two_levels : counts_of two_levels 64 (0 ∷ 1 ∷ 2 ∷ 3 ∷ 4 ∷ 5 ∷ []) (0 ∷ 1 ∷ 3 ∷ 4 ∷ []) ≡
    record { datagrams = 6; delivered = 6; thinned = 4; kept = 4; precincts = 4; released = 2 }
unfolding sum_below header_of_levels
counts_of_two_levels = refl

-- or only that of the second where the first Main comes late, and its Body twice
pub counts_of_exchanged : counts_of two_levels 64 (1 ∷ 1 ∷ 0 ∷ 3 ∷ 4 ∷ []) (1 ∷ 1 ∷ 0 ∷ 3 ∷ 4 ∷ []) ≡
    record { datagrams = 6; delivered = 5; thinned = 5; kept = 3; precincts = 4; released = 1 }
unfolding sum_below header_of_levels
counts_of_exchanged = refl
