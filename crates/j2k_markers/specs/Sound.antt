-- What is known of the content of a segment of which no condition is met.
use Rattle.std.specs.Prelude.{◌≡◌, ◌≤◌, ◌+◌, ◌*◌, ◌==◌, ◌||◌, ℕ, false, List, length, slice_index, if◌then◌else◌}
use Rattle.std.specs.List.{list_any}
use Rattle.codestream_model.specs.SegmentTests.{most_components, csiz, siz_steps, cod_levels, has_sizes}

-- SIZ has one to sixteen components, is as long as their number says, and has no step of 0
pub record IsSoundSiz (c : List ℕ) : Type 0 where
  pub long : 39 ≤ length c
  pub few : csiz c ≤ most_components
  pub whole : length c ≡ 36 + 3 * csiz c
  pub steps : list_any (λ step. step.x == 0 || step.y == 0) (siz_steps c) ≡ false

-- COD has at most 15 levels, and is as long as their number says
pub record IsWholeCod (c : List ℕ) : Type 0 where
  pub long : 10 ≤ length c
  pub few : cod_levels c ≤ 15
  pub whole : length c ≡ (if has_sizes c then 11 + cod_levels c else 10)

-- and code-blocks of at most 1024 by 1024
pub record IsSoundCod (c : List ℕ) : Type 0 where
  pub is_whole : IsWholeCod c
  pub wide : slice_index c 6 ≤ 8
  pub high : slice_index c 7 ≤ 8
