-- Laws of the frames that a receiver of any source picks.
use Rattle.std.specs.Prelude.{◌≡◌, ℕ, true, List, Option}
use Rattle.std.specs.List.{AllByRecursion}
use Rattle.wire_model.specs.Thinning.{kept}
use Rattle.stream_model.specs.Arrivals.{is_of_kind, source_of, picked}

-- The well-formed frames of this payload type have this source.
abbrev pub HaveOneSource : ℕ → ℕ → List (List ℕ) → Type 0
HaveOneSource kind source frames =
    AllByRecursion (λ f. is_of_kind kind f ≡ true → source_of f ≡ source) frames

-- Of frames of one source the same are picked and kept, whether they are thinned first or picked
-- first, and whether that source is asked for or any.
abbrev pub ThinnedAndPicked : Type 0
ThinnedAndPicked =
    (limit kind source : ℕ) (asked : Option ℕ) (frames : List (List ℕ))
    → HaveOneSource kind source frames
    → picked kind asked (kept limit frames) ≡ kept limit (picked kind asked frames)
