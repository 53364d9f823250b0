-- What the answers of a duct say.
use Rattle.std.specs.Prelude.{◌≡◌, ◌≤◌, ℕ, List, ◌++◌, take}
use Rattle.scl_outside.specs.Meaning.{Meaning}
use Rattle.scl_outside.specs.Events.{Event, Took, Ended, ReadFailed, Wrote, WriteFailed}
use Rattle.scl_outside.specs.Steps.{Step}
use Rattle.scl_outside.specs.declared.duct.ReadOut.{ReadOut}
use Rattle.scl_outside.specs.declared.duct.ReadOut.TheVariants.{Got, End, Failed}
use Rattle.scl_outside.specs.declared.duct.WriteOut.{WriteOut}
use Rattle.scl_outside.specs.declared.duct.WriteOut.TheVariants.{Done}
use Rattle.scl_outside.specs.declared.duct.WriteOut.TheVariants.{Failed as NotWritten}

-- A read that got bytes got at least one, and no more than the buffer holds.
abbrev pub FitsBuffer : ReadOut → ℕ → Type 0
FitsBuffer (Got n) room = (1 ≤ n) × (n ≤ room)
FitsBuffer End room = Unit {0}
FitsBuffer Failed room = Unit {0}

-- A read with this answer is this call, with the bytes that it took at the front of the buffer.
abbrev pub read_event : ReadOut → List ℕ → Event
read_event (Got n) buf = Took (take n buf)
read_event End buf = Ended
read_event Failed buf = ReadFailed

-- A write put all its bytes out in order, or a prefix of them before it failed.
abbrev pub Writes : Meaning → WriteOut → List ℕ → Meaning → Type 0
Writes s Done bytes t = Step s (Wrote bytes) t
Writes s NotWritten bytes t =
    (front : List ℕ) × (rest : List ℕ) × (bytes ≡ front ++ rest) × Step s (WriteFailed front) t
