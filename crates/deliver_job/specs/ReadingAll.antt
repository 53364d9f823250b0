-- What reading a whole capture does.
use Rattle.std.specs.Prelude.{◌≡◌, ◌≤◌, ◌+◌, ℕ, List, length}
use Rattle.scl_outside.specs.Meaning.{Meaning}
use Rattle.scl_outside.specs.Events.{Event}
use Rattle.scl_outside.specs.Effects.{Effects, nothing, only_read, read_to_end, read_until_failed}
use Rattle.scl_outside.specs.Traces.{Trace, AtReads}
use Rattle.delivery_model.specs.Delivering.{most_delivered}
use Rattle.scl_run.specs.declared.ending.Reason.TheVariants.{CaptureTooLong}
use Rattle.scl_run.specs.declared.ending.Ending.{Ending}
use Rattle.scl_run.specs.declared.ending.Ending.TheVariants.{ReadFault, Refused, NoMemory}

-- So far only reads were made, of no more bytes than may be delivered.
abbrev pub IsReading : Effects → Type 0
IsReading f = (f ≡ only_read f.read) × (length f.read ≤ most_delivered)

-- These calls read, each while no more bytes than may be delivered were read.
pub record Reads (s t : Meaning) (es : List Event) : Type 0 where
  pub trace : Trace s es t
  pub within : AtReads IsReading nothing es

-- The whole capture was read.
abbrev pub ReadsAll : List ℕ → Effects → Type 0
ReadsAll capture f = (length capture ≤ most_delivered) × (f ≡ read_to_end capture)

-- What was read by the end of a run that stopped reading.
abbrev pub StopsReading : Ending → Effects → Type 0
StopsReading ReadFault f = (length f.read ≤ most_delivered) × (f ≡ read_until_failed f.read)
StopsReading NoMemory f = (length f.read ≤ most_delivered + 1) × (f ≡ only_read f.read)
StopsReading (Refused r) f =
    (length f.read ≡ most_delivered + 1) × (f ≡ only_read f.read)
    × (r ≡ record { at = most_delivered; reason = CaptureTooLong })
StopsReading ending f = ⊥
