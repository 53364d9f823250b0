-- The code's stretches, areas, precincts and grids as those of the definitions.
use Rattle.std.specs.Prelude.{◌<◌, ◌^◌}
use Rattle.codestream_model.specs.Areas as areas
use Rattle.codestream_model.specs.Values as values
use Rattle.precinct_geometry.specs.declared.areas.Span.{Span}
use Rattle.precinct_geometry.specs.declared.geometry.Area.{Area}
use Rattle.precinct_geometry.specs.declared.place.Place.{Place}
use Rattle.precinct_geometry.specs.declared.place.Grid.{Grid}

abbrev pub span_of : Span → areas.Span
span_of s = record { from = s.from; to = s.to }

abbrev pub area_of : Area → areas.Area
area_of a = record { x = span_of a.x; y = span_of a.y }

abbrev pub place_of : Place → values.Place
place_of p = record { c = p.c; r = p.r; k = p.k }

abbrev pub grid_of : Grid → values.Grid
grid_of g = record { band = g.band; cols = g.cols; rows = g.rows }

-- no place of an area is as far as 2^31
pub record IsWithin (a : Area) : Type 0 where
  pub x_from : a.x.from < 2 ^ 31
  pub x_to : a.x.to < 2 ^ 31
  pub y_from : a.y.from < 2 ^ 31
  pub y_to : a.y.to < 2 ^ 31
