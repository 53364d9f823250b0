-- The strips of the precincts of a resolution, one after another in one direction.
use Rattle.std.specs.Prelude.{◌≤◌, ◌<◌, ◌↔◌, ◌+◌, ◌*◌, ◌^◌, ℕ, max}
use Rattle.precinct_geometry.specs.declared.course.Course.{Course}

-- The anchor of a strip: where it begins on the reference grid, or where the image does if that is later.
abbrev pub corner_of : Course → ℕ → ℕ
corner_of s i = max s.start ((s.first + i) * s.width)

-- The values of a course are small enough for 64 bits.
pub record IsCourse (s : Course) : Type 0 where
  pub some : 1 ≤ s.width
  pub narrow : s.width < 2 ^ 62
  pub early : s.start < 2 ^ 31
  pub few : s.count < 2 ^ 31
  pub near : s.first < 2 ^ 31
  pub within : (i : ℕ) → i < s.count → (s.first + i) * s.width < 2 ^ 54

-- `first` is the first strip whose anchor isn't before a place.
abbrev pub IsFirstFrom : Course → ℕ → ℕ → Type 0
IsFirstFrom s place first = (i : ℕ) → (place ≤ corner_of s i) ↔ (first ≤ i)
