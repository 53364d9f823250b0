-- The trial: generated codestreams are packed, lost, repeated, exchanged, thinned and received, and
-- one line says how many datagrams and precincts there were at each step.
use Rattle.std.specs.Prelude.{◌+◌, ◌%◌, ◌^◌, ◌==◌, ◌++◌, ℕ, zero, suc, true, false, List, [], ◌∷◌, map, length, nat_lt, codes, decimal, if◌then◌else◌}
use Rattle.std.specs.List.{filter, sum_by, range_with_len}
use Rattle.wire_model.specs.Thinning.{is_kept}
use Rattle.stream_model.specs.Arrivals.{datagram_at, positions_in_time}
use Rattle.stream_model.specs.Reached.{due_at_end}
use Rattle.stream_model.specs.Stream.{Parts, carried}
use Rattle.stream_model.specs.Cut.{Plan, sent_by}
use Rattle.stream_model.specs.ThinnedLaws.{cut_of}
use Rattle.trial_model.specs.Draws.{next_state, drawn, Drawn, item_before}
use Rattle.trial_model.specs.Generator.{Shape, generated_parts}

-- The pictures of a trial: 640 by 480, three components, 4:2:2, five decomposition levels, PCRL.
abbrev pub trial_shape : Shape
trial_shape = record {
  width = 640;
  height = 480;
  components = 3;
  chroma = record { x = 2; y = 1 };
  levels = 5;
  order = 3;
  eph = false;
}

-- How a trial packs.
abbrev pub trial_plan : Plan
trial_plan = record {
  mtu = 1400;
  split = true;
  kind = 96;
  source = 1;
  number = 16777000;
  stamp = 0;
  step = 3600;
}

-- The codestreams of a trial, each from the seed after that of the one before it.
abbrev pub trial_parts : ℕ → ℕ → List Parts
trial_parts seed count =
    map (λ i. generated_parts trial_shape ((seed + i) % 2 ^ 64)) (range_with_len 0 count)

-- A position once, or twice, before the arrivals after it.
abbrev pub arrives : ℕ → ℕ → Drawn (List ℕ) → Drawn (List ℕ)
arrives position twice later =
    if twice == 0
    then item_before position (item_before position later)
    else item_before position later

-- Which of the datagrams from a position on come: a datagram is lost where a draw of 1,000 is below
-- `loss`, and else comes once, or twice where a draw of 8 is 0.
unfoldable pub not_lost : ℕ → ℕ → ℕ → ℕ → Drawn (List ℕ)
not_lost loss position zero state = record { value = []; state = state }
not_lost loss position (suc n) state =
    let first = next_state state in
    let second = next_state first in
    if nat_lt (drawn 1000 first) loss
    then not_lost loss (position + 1) n first
    else arrives position (drawn 8 second) (not_lost loss (position + 1) n second)

-- Each pair of neighbours is exchanged where a draw of 4 is 0.
unfoldable pub exchanged_pairs : List ℕ → ℕ → List ℕ
exchanged_pairs [] state = []
exchanged_pairs (a ∷ []) state = a ∷ []
exchanged_pairs (a ∷ b ∷ more) state =
    let first = next_state state in
    if drawn 4 first == 0
    then b ∷ a ∷ exchanged_pairs more first
    else a ∷ b ∷ exchanged_pairs more first

-- The first item stays, and the pairs after it are exchanged so.
abbrev pub first_kept : List ℕ → ℕ → List ℕ
first_kept [] state = []
first_kept (a ∷ more) state = a ∷ exchanged_pairs more state

-- The same of a list that was drawn.
abbrev pub exchanged : Drawn (List ℕ) → List ℕ
exchanged list = first_kept list.value list.state

-- What a trial delivers of a number of datagrams: their positions, in the order in which they come.
abbrev pub delivered_positions : ℕ → ℕ → ℕ → List ℕ
delivered_positions seed loss count = exchanged (not_lost loss 0 count seed)

-- What thinning keeps of datagrams that come in this order.
abbrev pub thinned_positions : ℕ → List (List ℕ) → List ℕ → List ℕ
thinned_positions limit datagrams positions =
    filter (λ i. is_kept limit (datagram_at datagrams i)) positions

-- The numbers of the line of a trial.
pub record TrialCounts : Type 0 where
  pub datagrams : ℕ
  pub delivered : ℕ
  pub thinned : ℕ
  pub kept : ℕ
  pub precincts : ℕ
  pub released : ℕ

-- The numbers of a trial with these codestreams, by which datagrams were delivered and which of
-- them thinning kept.
abbrev pub counts_of : List Parts → ℕ → List ℕ → List ℕ → TrialCounts
counts_of parts window delivered thinned = record {
  datagrams = length (cut_of trial_plan parts);
  delivered = length delivered;
  thinned = length thinned;
  kept = length (positions_in_time thinned window);
  precincts = sum_by (λ c. length c.places) parts;
  released = length (due_at_end thinned window (carried (sent_by trial_plan parts)));
}

-- The numbers of the trial of a seed.
abbrev pub trial_counts : ℕ → ℕ → ℕ → ℕ → ℕ → TrialCounts
trial_counts seed count loss window limit =
    let parts = trial_parts seed count in
    let datagrams = cut_of trial_plan parts in
    let delivered = delivered_positions seed loss (length datagrams) in
    counts_of parts window delivered (thinned_positions limit datagrams delivered)

-- The line of a trial.
abbrev pub trial_line : TrialCounts → List ℕ
trial_line c =
    codes "TRIAL datagrams=" ++ decimal c.datagrams
    ++ codes " delivered=" ++ decimal c.delivered
    ++ codes " thinned=" ++ decimal c.thinned
    ++ codes " kept=" ++ decimal c.kept
    ++ codes " precincts=" ++ decimal c.precincts
    ++ codes " released=" ++ decimal c.released
    ++ codes "\n"
