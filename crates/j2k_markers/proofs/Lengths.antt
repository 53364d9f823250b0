-- How long the contents are that the writer lays out.
use Rattle.std.proofs.Common.{◌≡◌, ◌*◌, ℕ, List, [], ◌∷◌, length, refl, arith}
use Rattle.std.specs.List.{flat_map}
use Rattle.j2k_markers.specs.Layout.{step_bytes, precinct_byte}

-- three bytes for each component
pub length_steps : (steps : List (ℕ × ℕ)) → length (flat_map step_bytes steps) ≡ 3 * length steps
length_steps [] = refl
length_steps (x ∷ steps) = omega (arith, length_steps steps)

-- one for each resolution
pub length_precincts : (precincts : List (ℕ × ℕ)) → length (flat_map precinct_byte precincts) ≡ length precincts
length_precincts [] = refl
length_precincts (x ∷ precincts) = omega (arith, length_precincts precincts)
