-- The code's keys as those of the definitions.
use Rattle.std.specs.Prelude.{ℕ, List, [], ◌∷◌}
use Rattle.codestream_rebuild.specs.declared.key.Key.{Key}

-- A key as the list of numbers by which it is compared.
abbrev pub numbers_in : Key → List ℕ
numbers_in a = a.rank ∷ a.y ∷ a.x ∷ a.c ∷ a.r ∷ []
