-- The areas of an image's components, as its geometry keeps them.
use Rattle.std.specs.Prelude.{◌≡◌, ◌<◌, ℕ, List, length, slice_index_or}
use Rattle.codestream_model.specs.Values.{Head}
use Rattle.codestream_model.specs.Areas.{component_area}
use Rattle.codestream_model.specs.HeadLimits.{IsWithinLimits}
use Rattle.precinct_geometry.specs.declared.geometry.Area.{Area}
use Rattle.precinct_geometry.specs.Spans.{area_of, IsWithin}

-- The area at an index is that of the component.
pub record IsComponentAt (h : Head) (components : List Area) (c : ℕ) (d : Area) : Type 0 where
  pub area : area_of (slice_index_or components c d) ≡ component_area h c
  pub within : IsWithin (slice_index_or components c d)

-- A header's values are within the limits, and these are the areas of its components.
pub record IsLaidOut (h : Head) (components : List Area) : Type 0 where
  pub limits : IsWithinLimits h
  pub count : length components ≡ length h.steps
  pub each : (c : ℕ) (d : Area) → c < length components → IsComponentAt h components c d
