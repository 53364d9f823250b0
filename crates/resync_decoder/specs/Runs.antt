-- The precincts of a run, by the precinct that comes next.
use Rattle.std.specs.Prelude.{List, ◌∷◌, Option, Some, None}
use Rattle.codestream_model.specs.Values as values
use Rattle.precinct_geometry.specs.Spans.{place_of}
use Rattle.precinct_geometry.specs.declared.place.Place.{Place}
use Rattle.pcrl_order.specs.Later.{later}

-- The run from a precinct to the last of the packet order; None where there is no next precinct.
abbrev pub run_from : values.Head → Option Place → Option (List values.Place)
run_from h None = None
run_from h (Some p) = Some (place_of p ∷ later h (place_of p))
