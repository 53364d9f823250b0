-- The reasons of the program as those of the definitions, and the other way round.
use Rattle.std.specs.Prelude.{Option, Some, None, Result, Ok, Err}
use Rattle.codestream_model.specs.Values.{Head}
use Rattle.codestream_model.specs.HeadRefusals as refusal
use Rattle.codestream_model.specs.HeadRefusals.{HeadRefusal}
use Rattle.codestream_model.specs.MainHeaderReading.{Refused}
use Rattle.j2k_markers.specs.declared.head.HeadWhy.{HeadWhy}
use Rattle.j2k_markers.specs.declared.head.HeadWhy.TheVariants as why
use Rattle.j2k_markers.specs.declared.head.HeadFault.{HeadFault}

-- the definitions' reason
abbrev pub refusal_of : HeadWhy → HeadRefusal
refusal_of why.Cut = refusal.Cut
refusal_of why.NoSoc = refusal.NoSoc
refusal_of why.NoSiz = refusal.NoSiz
refusal_of (why.Marker m) = refusal.Marker m
refusal_of why.Length = refusal.Length
refusal_of (why.Twice m) = refusal.Twice m
refusal_of (why.Missing m) = refusal.Missing m
refusal_of why.Tiles = refusal.Tiles
refusal_of why.Components = refusal.Components
refusal_of why.Step = refusal.Step
refusal_of why.Area = refusal.Area
refusal_of why.Rsiz = refusal.Rsiz
refusal_of why.Cap = refusal.Cap
refusal_of why.Order = refusal.Order
refusal_of why.Layers = refusal.Layers
refusal_of why.Levels = refusal.Levels
refusal_of why.Blocks = refusal.Blocks
refusal_of why.Style = refusal.Style
refusal_of why.Precinct = refusal.Precinct
refusal_of why.Quant = refusal.Quant
refusal_of why.Sop = refusal.Sop
refusal_of why.TileHeader = refusal.TileHeader
refusal_of why.Ids = refusal.Ids
refusal_of why.TooLong = refusal.TooLong

-- the program's reason
abbrev pub why_of : HeadRefusal → HeadWhy
why_of refusal.Cut = why.Cut
why_of refusal.NoSoc = why.NoSoc
why_of refusal.NoSiz = why.NoSiz
why_of (refusal.Marker m) = why.Marker m
why_of refusal.Length = why.Length
why_of (refusal.Twice m) = why.Twice m
why_of (refusal.Missing m) = why.Missing m
why_of refusal.Tiles = why.Tiles
why_of refusal.Components = why.Components
why_of refusal.Step = why.Step
why_of refusal.Area = why.Area
why_of refusal.Rsiz = why.Rsiz
why_of refusal.Cap = why.Cap
why_of refusal.Order = why.Order
why_of refusal.Layers = why.Layers
why_of refusal.Levels = why.Levels
why_of refusal.Blocks = why.Blocks
why_of refusal.Style = why.Style
why_of refusal.Precinct = why.Precinct
why_of refusal.Quant = why.Quant
why_of refusal.Sop = why.Sop
why_of refusal.TileHeader = why.TileHeader
why_of refusal.Ids = why.Ids
why_of refusal.TooLong = why.TooLong

-- what a judge answers where conditions were judged so: the first that is met, or that none is
abbrev pub judged : Option HeadRefusal → Result (Unit {0}) HeadWhy
judged None = Ok tt
judged (Some r) = Err (why_of r)

-- what the reader answers where a header was read so
abbrev pub read_as : Result Head Refused → Result Head HeadFault
read_as (Ok h) = Ok h
read_as (Err r) = Err (record { at = r.at; why = why_of r.why })

-- an answer without its value
abbrev pub without_value : {T : Type 0} → Result T HeadWhy → Result (Unit {0}) HeadWhy
without_value (Ok x) = Ok tt
without_value (Err e) = Err e
