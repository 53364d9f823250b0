use Rattle.std.proofs.Common.{◌≡◌, ◌<◌, ℕ, length}
use Rattle.codestream_model.specs.HeadLimits.{IsWithinLimits}
use Rattle.precinct_geometry.specs.declared.geometry.Area.{Area}
use Rattle.precinct_geometry.specs.Components.{IsComponentAt}
use Rattle.precinct_geometry.proofs.geometry.Geometry.new.Given as goal

-- the areas of the components so far
abbrev pub invariant-loop-c : goal.invariant-loop-c
invariant-loop-c l = IsWithinLimits l.head × (length l.components.items ≡ l.c) × ((c : ℕ) (d : Area) → c < length l.components.items → IsComponentAt l.head l.components.items c d)
