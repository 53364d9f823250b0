-- What reads took are bytes.
use Rattle.std.specs.Prelude.{◌++◌, List}
use Rattle.wire_model.specs.Bytes.{IsBytes}
use Rattle.scl_outside.specs.Meaning.{Meaning}
use Rattle.scl_outside.specs.Events.{Event}
use Rattle.scl_outside.specs.Effects.{effects}
use Rattle.scl_outside.specs.Traces.{Trace}

-- What the first calls of a list took of the input are bytes, wherever one stops.
abbrev pub ReadsAreBytes : Type 0
ReadsAreBytes =
    (s t : Meaning) (before after : List Event) → Trace s (before ++ after) t → IsBytes (effects before).read
