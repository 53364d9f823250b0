-- What a trial counts are the numbers of its line.
use Rattle.std.proofs.Common.{◌≡◌, ◌≤◌, ◌*◌, ℕ, List, map, length, refl, sym, ◌∙◌, ap, subst, arith}
use Rattle.wire_model.specs.Thinning.{kept}
use Rattle.stream_model.specs.Arrivals.{datagram_at}
use Rattle.stream_model.specs.ThinnedLaws.{cut_of}
use Rattle.trial_model.specs.Trial.{trial_plan, trial_parts, delivered_positions, thinned_positions, trial_counts, TrialCounts}
use Rattle.trial_model.specs.TrialLaws.{trial_codestreams, thinned_list}
use Rattle.trial_model.proofs.Trials.{delivered_are_within, trial_counts_what_is_received}
use Rattle.trial_model.proofs.SentTrials.{trials_can_be_sent}
use Rattle.trial_job.specs.declared.counting.Counts.{Counts}
use Rattle.trial_job.specs.declared.receiving.Received.{Received}
use Rattle.trial_job.specs.Counting.{counts_as}
use Rattle.trial_job.specs.Receiving.{HasCounted}
use Rattle.trial_job.proofs.Few.{released_few}

-- The numbers are the same where each is.
same_counts : (c : Counts) (d : TrialCounts) → c.datagrams ≡ d.datagrams → c.delivered ≡ d.delivered → c.thinned ≡ d.thinned → c.kept ≡ d.kept → c.precincts ≡ d.precincts → c.released ≡ d.released → counts_as c ≡ d
same_counts c d a b e f g h = rw (a, b, e, f, g, h) refl

-- What was counted of the cut of a trial.
of_cut : (seed count loss window limit : ℕ) (r : Received) (c : Counts) → count ≤ 64 → 1 ≤ window
    → HasCounted window (thinned_list (trial_parts seed count) limit (delivered_positions seed loss (length (cut_of trial_plan (trial_parts seed count))))) r
    → c.datagrams ≡ length (cut_of trial_plan (trial_parts seed count)) → c.delivered ≡ length (delivered_positions seed loss (length (cut_of trial_plan (trial_parts seed count))))
    → c.thinned ≡ r.thinned → c.kept ≡ r.kept → c.precincts ≡ count * 30 → c.released ≡ r.released → counts_as c ≡ trial_counts seed count loss window limit
of_cut seed count loss window limit r c few some h datagrams delivered thinned held precincts released =
    let parts = trial_parts seed count in
    let cut = cut_of trial_plan parts in
    let positions = delivered_positions seed loss (length cut) in
    let t = trials_can_be_sent seed count few in
    let shows = trial_counts_what_is_received parts (trial_codestreams seed count) window limit positions t.can_be_sent some (delivered_are_within seed loss (length cut)) in
    let most = released_few trial_plan parts (trial_codestreams seed count) window (thinned_positions limit cut positions) t.can_be_sent.are_parts in
    let all = t.precincts in
    same_counts c (trial_counts seed count loss window limit) datagrams delivered
    (thinned ∙ (h.thinned ∙ shows.thinned))
    (held ∙ (h.kept ∙ shows.kept))
    (precincts ∙ sym all)
    (released ∙ omega (arith, h.released, shows.released, most, all, few))

pub counted_trial : (seed count loss window limit : ℕ) (datagrams : List (List ℕ)) (positions : List ℕ) (r : Received) (c : Counts) → count ≤ 64 → 1 ≤ window → datagrams ≡ cut_of trial_plan (trial_parts seed count)
    → positions ≡ delivered_positions seed loss (length datagrams) → HasCounted window (kept limit (map (datagram_at datagrams) positions)) r
    → c.datagrams ≡ length datagrams → c.delivered ≡ length positions → c.thinned ≡ r.thinned → c.kept ≡ r.kept → c.precincts ≡ count * 30 → c.released ≡ r.released
    → counts_as c ≡ trial_counts seed count loss window limit
counted_trial seed count loss window limit datagrams positions r c few some is at h n m thinned held precincts released =
    let cut = cut_of trial_plan (trial_parts seed count) in
    let all : positions ≡ delivered_positions seed loss (length cut) = at ∙ ap (λ (l : List (List ℕ)). delivered_positions seed loss (length l)) is in
    let P : List ℕ → Type 0 = λ l. HasCounted window (kept limit (map (datagram_at datagrams) l)) r in
    let Q : List (List ℕ) → Type 0 = λ l. HasCounted window (kept limit (map (datagram_at l) (delivered_positions seed loss (length cut)))) r in
    of_cut seed count loss window limit r c few some (subst Q is (subst P all h)) (n ∙ ap (λ (l : List (List ℕ)). length l) is) (m ∙ ap (λ (l : List ℕ). length l) all) thinned held precincts released
