-- The grids from an index on.
use Rattle.std.proofs.Common.{◌≡◌, ◌≤◌, ◌<◌, ◌+◌, ℕ, suc, List, [], ◌∷◌, map, length, drop, get_or, drop-cons, ◌∙◌, ap, arith}
use Rattle.std.proofs.Math.ListN.{drop_of_length-le}
use Rattle.precinct_geometry.specs.Spans.{grid_of}
use Rattle.precinct_geometry.specs.declared.place.Grid.{Grid}

-- the grids from a place on
pub grids_from : (all : List Grid) (i : ℕ) (d : Grid) → i < length all → map grid_of (drop i all) ≡ grid_of (get_or all i d) ∷ map grid_of (drop (i + 1) all)
grids_from all i d h = ap (map grid_of) (drop-cons all i d h ∙ (let e : suc i ≡ i + 1 = omega arith in ap (λ (n : ℕ). get_or all i d ∷ drop n all) e))

pub no_grids_from : (all : List Grid) (i : ℕ) → length all ≤ i → map grid_of (drop i all) ≡ []
no_grids_from all i h = ap (map grid_of) (drop_of_length-le all h)
