-- What a list of calls did.
use Rattle.std.specs.Prelude.{◌≡◌, ℕ, Bool, true, false, ◌||◌, List, [], ◌∷◌, ◌++◌}
use Rattle.std.specs.List.{flat_map}
use Rattle.wire_model.specs.Receptions.{Reception}
use Rattle.scl_outside.specs.Meaning.{Parcel, Reply}
use Rattle.scl_outside.specs.Events.{Event, WireEvent, Took, Ended, ReadFailed, Wrote, WriteFailed, Noted, OnWire, receptions_by, arrivals_by, parcels_by, answers_by, wire_fails, name_fails}

-- Calls did all this together: what was read, written and noted, what was done on the wire, whether the
-- input's end was met, and whether a read or a write failed.
pub record Effects : Type 0 where
  pub read : List ℕ
  pub written : List ℕ
  pub noted : List ℕ
  pub wire : List WireEvent
  pub ended : Bool
  pub read_failed : Bool
  pub write_failed : Bool

-- No call was made, or none that did anything.
abbrev pub nothing : Effects
nothing = record {
  read = [];
  written = [];
  noted = [];
  wire = [];
  ended = false;
  read_failed = false;
  write_failed = false;
}

-- Reads took these bytes, and nothing else was done.
abbrev pub only_read : List ℕ → Effects
only_read bytes = record nothing { read = bytes }

-- Reads took these bytes and met the end of the input.
abbrev pub read_to_end : List ℕ → Effects
read_to_end bytes = record nothing { read = bytes; ended = true }

-- Reads took these bytes, and one failed.
abbrev pub read_until_failed : List ℕ → Effects
read_until_failed bytes = record nothing { read = bytes; read_failed = true }

-- Writes put these bytes out, and nothing else was done.
abbrev pub only_written : List ℕ → Effects
only_written bytes = record nothing { written = bytes }

-- Writes put these bytes out, and one failed.
abbrev pub written_until_failed : List ℕ → Effects
written_until_failed bytes = record nothing { written = bytes; write_failed = true }

-- A line was given to the user, and nothing else was done.
abbrev pub only_noted : List ℕ → Effects
only_noted line = record nothing { noted = line }

-- One call did this.
abbrev pub effect_of : Event → Effects
effect_of (Took bytes) = only_read bytes
effect_of Ended = read_to_end []
effect_of ReadFailed = read_until_failed []
effect_of (Wrote bytes) = only_written bytes
effect_of (WriteFailed bytes) = written_until_failed bytes
effect_of (Noted line) = only_noted line
effect_of (OnWire w) = record nothing { wire = w ∷ [] }

-- First these effects came, and then those.
abbrev pub and_then : Effects → Effects → Effects
and_then f g = record {
  read = f.read ++ g.read;
  written = f.written ++ g.written;
  noted = f.noted ++ g.noted;
  wire = f.wire ++ g.wire;
  ended = f.ended || g.ended;
  read_failed = f.read_failed || g.read_failed;
  write_failed = f.write_failed || g.write_failed;
}

-- A list of calls did this.
abbrev pub effects : List Event → Effects
effects [] = nothing
effects (e ∷ es) = and_then (effect_of e) (effects es)

-- Calls for a datagram gave these answers.
abbrev pub receptions : List WireEvent → List Reception
receptions ws = flat_map receptions_by ws

-- Calls for a datagram brought these in.
abbrev pub arrivals : List WireEvent → List (List ℕ)
arrivals ws = flat_map arrivals_by ws

-- Calls of the wire sent these datagrams.
abbrev pub parcels : List WireEvent → List Parcel
parcels ws = flat_map parcels_by ws

-- The links of peers gave these answers.
abbrev pub answers : List WireEvent → List Reply
answers ws = flat_map answers_by ws

-- One of these calls failed, those to peers left out.
abbrev pub wire_failed : List WireEvent → Bool
wire_failed [] = false
wire_failed (w ∷ ws) = wire_fails w || wire_failed ws

-- No call failed, those to peers left out.
pub record HasPassed (f : Effects) : Type 0 where
  pub reads : f.read_failed ≡ false
  pub writes : f.write_failed ≡ false
  pub on_wire : wire_failed f.wire ≡ false

-- One of these calls failed to name an address.
abbrev pub name_failed : List WireEvent → Bool
name_failed [] = false
name_failed (w ∷ ws) = name_fails w || name_failed ws

-- No call failed but one for a datagram, those to peers left out.
pub record HasPassedButReceiving (f : Effects) : Type 0 where
  pub reads : f.read_failed ≡ false
  pub writes : f.write_failed ≡ false
  pub names : name_failed f.wire ≡ false
