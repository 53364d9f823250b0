-- What a receiver has counted of a stream at the end.
use Rattle.std.specs.Prelude.{◌-◌, ℕ, List, length}
use Rattle.stream_model.specs.Arrivals.{positions_in_time}
use Rattle.stream_model.specs.Report.{Counts}

-- Kept is the number of positions in time, old are the other arrivals, refused the frames that aren't picked, and
-- nothing of a stream is unsupported, disagrees or is broken; `events` are the positions of the picked frames.
abbrev pub end_counts : List (List ℕ) → List ℕ → ℕ → Counts
end_counts frames events window = record {
  kept = length (positions_in_time events window);
  old = length events - length (positions_in_time events window);
  refused = length frames - length events;
  unsupported = 0;
  disagreed = 0;
  broken = 0;
}
