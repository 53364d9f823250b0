-- What looking for a main header at the front of the input does.
use Rattle.std.specs.Prelude.{◌≡◌, ◌≤◌, ℕ, Bool, true, List, length, take, Result, Ok, Err}
use Rattle.codestream_model.specs.Values.{Head}
use Rattle.codestream_model.specs.MainHeader.{SpellsHead}
use Rattle.codestream_model.specs.MainHeaderReading.{Refused as NoHeader, head_of}
use Rattle.scl_outside.specs.Meaning.{Meaning}
use Rattle.scl_outside.specs.Events.{Event}
use Rattle.scl_outside.specs.Effects.{Effects, nothing, only_read, read_until_failed, effects}
use Rattle.scl_outside.specs.Traces.{Trace, AtReads}
use Rattle.scl_run.specs.declared.ending.Ending.{Ending}
use Rattle.scl_run.specs.declared.ending.Ending.TheVariants.{ReadFault, Refused}
use Rattle.scl_run.specs.declared.ending.Refusal.{Refusal}
use Rattle.scl_run.specs.HeaderInput.{LacksHeader, WantsHeaderBytes, header_input}

-- no main header is whole at the front of these bytes
abbrev pub HasNoHead : List ℕ → Type 0
HasNoHead bytes = (refused : NoHeader) × (head_of bytes ≡ Err refused)

-- so far only reads were made, no main header is whole and none is refused but for missing bytes
abbrev pub IsLooking : Effects → Type 0
IsLooking f = (f ≡ only_read f.read) × HasNoHead f.read × WantsHeaderBytes f.read

-- only reads were made, and the input's end was met where it shows the refusal
abbrev pub ReadsFor : Refusal → Effects → Type 0
ReadsFor r f = (ended : Bool) × (f ≡ record (only_read f.read) { ended = ended }) × (header_input.RefusesAtEnd r.reason → ended ≡ true)

-- why there is no main header: a read failed before one was whole, or the front of the input is refused
abbrev pub FindsNone : Ending → Effects → Type 0
FindsNone ReadFault f = (f ≡ read_until_failed f.read) × HasNoHead f.read
FindsNone (Refused r) f = ReadsFor r f × HasNoHead f.read × LacksHeader f.read r
FindsNone ending f = ⊥

-- what was read: bytes with a main header at their front, or bytes without one
abbrev pub FindGives : Result Head Ending → Effects → Type 0
FindGives (Ok h) f = (f ≡ only_read f.read) × (head_of f.read ≡ Ok h) × SpellsHead h (take h.length f.read)
FindGives (Err ending) f = FindsNone ending f

-- the input is read until the main header at its front is whole or refused: at most 8,192 bytes, and only reads
pub record Finds (s t : Meaning) (result : Result Head Ending) (es : List Event) : Type 0 where
  pub trace : Trace s es t
  pub within : AtReads IsLooking nothing es
  pub gives : FindGives result (effects es)
  pub enough : length (effects es).read ≤ 8192
