-- What the words of `relay` add to its settings.
use Rattle.std.specs.Prelude.{◌≡◌, ◌≤◌, ◌++◌, ℕ, Bool, true, List, [], ◌∷◌, length, drop, decimal}
use Rattle.std.specs.List.{AllByRecursion}
use Rattle.relay_job.specs.Settings.{Target, Settings, IsTarget}
use Rattle.scl_cli.specs.Commands.{target_words}

-- These words begin with those of a receiver, which was added.
abbrev pub AddsSpelt : List (List ℕ) → Settings → Settings → Type 0
AddsSpelt words s t =
    (r : Target) × IsTarget r × (words ≡ r.address ∷ decimal r.limit ∷ decimal r.depth ∷ drop 3 words)
    × (t ≡ record s { targets = s.targets ++ r ∷ [] })

-- Where these words begin with those of a receiver, it was added.
abbrev pub AddsAll : List (List ℕ) → Settings → Bool → Settings → Type 0
AddsAll words s result t =
    (r : Target) (rest : List (List ℕ)) → IsTarget r → words ≡ r.address ∷ decimal r.limit ∷ decimal r.depth ∷ rest → result ≡ true

-- These words are those of receivers, at most 64, which are all that was added.
pub record SpeltTargets (words : List (List ℕ)) (s t : Settings) : Type 0 where
  pub words_are : words ≡ target_words t.targets
  pub each : AllByRecursion IsTarget t.targets
  pub few : length t.targets ≤ 64
  pub kept : t ≡ record s { targets = t.targets }

-- Where these words are those of receivers, at most 64, these were added.
abbrev pub FindsTargets : List (List ℕ) → Bool → Settings → Type 0
FindsTargets words result t =
    (targets : List Target) → AllByRecursion IsTarget targets → length targets ≤ 64 → words ≡ target_words targets
    → (result ≡ true) × (t.targets ≡ targets)
