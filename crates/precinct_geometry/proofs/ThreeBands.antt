-- The bands of a precinct above the lowest resolution, put one after another.
use Rattle.std.proofs.Common.{◌≡◌, ◌==◌, Bool, false, List, [], ◌∷◌, ◌++◌, map, ℕ, ◌+◌, ◌*◌, refl, sym, ap, ◌∙◌, arith, if◌then◌else◌}
use Rattle.std.proofs.lemmas.Bool.Decides.{nat_tests}
use Rattle.codestream_model.specs.Values as values
use Rattle.codestream_model.specs.Values.{Head, Place}
use Rattle.codestream_model.specs.Packet.{block_count}
use Rattle.codestream_model.specs.Precincts as precincts
use Rattle.precinct_geometry.specs.declared.place.Grid.{Grid}
use Rattle.precinct_geometry.specs.Spans.{grid_of}

-- a choice that isn't the first
otherwise : (b : Bool) (xs ys : List values.Grid) → b ≡ false → (if b then xs else ys) ≡ ys
otherwise b xs ys e = rw e refl

pub three_bands : (h : Head) (p : Place) (none one two three : List Grid) (a b c : Grid)
    → (p.r ≡ 0 → ⊥)
    → none ≡ []
    → one ≡ none ++ a ∷ []
    → two ≡ one ++ b ∷ []
    → three ≡ two ++ c ∷ []
    → grid_of a ≡ precincts.grid h p 1
    → grid_of b ≡ precincts.grid h p 2
    → grid_of c ≡ precincts.grid h p 3
    → map grid_of three ≡ precincts.grids h p
three_bands h p none one two three a b c upper e1 e2 e3 e4 first second third = rw (e4, e3, e2, e1, first, second, third) (sym (otherwise (p.r == 0) _ _ above)) where
  above : (p.r == 0) ≡ false
  above = grind (arith, nat_tests)

pub three_counts : (h : Head) (p : Place) (a b c : ℕ)
    → (p.r ≡ 0 → ⊥)
    → a ≡ (precincts.grid h p 1).cols * (precincts.grid h p 1).rows
    → b ≡ (precincts.grid h p 2).cols * (precincts.grid h p 2).rows
    → c ≡ (precincts.grid h p 3).cols * (precincts.grid h p 3).rows
    → a + b + c ≡ block_count (precincts.grids h p)
three_counts h p a b c upper first second third = counted ∙ sym (ap block_count (otherwise (p.r == 0) _ _ above)) where
  above : (p.r == 0) ≡ false
  above = grind (arith, nat_tests)

  counted : a + b + c ≡ block_count (precincts.grid h p 1 ∷ precincts.grid h p 2 ∷ precincts.grid h p 3 ∷ [])
  counted = omega (arith, first, second, third)
