-- What an object in memory tells, and what each call of it does.
use Rattle.std.specs.Prelude.{◌≡◌, ◌+◌, ◌-◌, ◌^◌, ◌↔◌, ℕ, List, [], ◌∷◌, Option, Some, IsSome, MatchBool, Contains, take, drop, length, min, unwrap_or}
use Rattle.scl_outside.specs.declared.memory.DuctMem.{DuctMem}
use Rattle.scl_outside.specs.declared.outside_mem.OutsideMem.{OutsideMem}
use Rattle.scl_outside.specs.declared.never_fails.NeverFails.{NeverFails}
use Rattle.scl_outside.specs.declared.duct.Mark.{Mark}
use Rattle.scl_outside.specs.declared.duct.ReadOut.{ReadOut}
use Rattle.scl_outside.specs.declared.duct.ReadOut.TheVariants.{Got, End, Failed}
use Rattle.scl_outside.specs.declared.duct.WriteOut.{WriteOut}
use Rattle.scl_outside.specs.declared.duct.WriteOut.TheVariants.{Done}
use Rattle.scl_outside.specs.declared.duct.WriteOut.TheVariants.{Failed as NotWritten}
use Rattle.scl_outside.specs.Meaning.{Meaning, Parcel, no_wire}
use Rattle.scl_outside.specs.Events.{taken_by, is_end, read_fails}
use Rattle.scl_outside.specs.Steps.{IsMarkOf, Moves, Loses, Counts, IsOver}
use Rattle.scl_outside.specs.Answers.{read_event}
use Rattle.scl_outside.specs.Record.{told_of, kept_of, room_of, with_room}
use Rattle.scl_outside.specs.Texts.{kept_texts}
use Rattle.scl_outside.specs.WireMemory.{wire_of, TellsWire}
use Rattle.scl_outside.specs.Chunks.{chunk_for}

-- An object over this input, at this offset of it, with these records and counts and no wire.
abbrev pub memory_meaning : List ℕ → ℕ → Option (List ℕ) → Option (List ℕ) → Option (List Mark) → ℕ → ℕ
    → Meaning
memory_meaning input at written noted marks read_faults write_faults = record {
  read = Some (take at input);
  left = Some (drop at input);
  written = written;
  noted = noted;
  marks = marks;
  wire = no_wire;
  read_faults = read_faults;
  write_faults = write_faults;
}

-- A new object over this input tells this: nothing was read, written, noted or marked, and nothing failed.
abbrev pub new_meaning : List ℕ → Meaning
new_meaning input = memory_meaning input 0 (Some []) (Some []) (Some []) 0 0

-- A duct in memory tells this.
abbrev pub meaning_of : DuctMem → Meaning
meaning_of d =
    memory_meaning d.input.items d.at (told_of d.written) (told_of d.noted) (told_of d.marks) d.read_faults d.write_faults

-- An outside in memory tells what its duct tells, and its wire.
abbrev pub outside_meaning : OutsideMem → Meaning
outside_meaning o = record (meaning_of o.duct) { wire = wire_of o.wire }

-- The same meaning with counts of faults that are the constant 0.
abbrev pub without_faults : Meaning → Meaning
without_faults s = record s {
  wire = record (s.wire) { faults = 0; peer_faults = λ peer. 0 };
  read_faults = 0;
  write_faults = 0;
}

-- An object that never fails tells this: its counts are the constant 0.
abbrev pub sure_meaning : NeverFails → Meaning
sure_meaning d = without_faults (outside_meaning d.inner)

-- All that was written, noted and marked is told.
abbrev pub TellsDuct : Meaning → Type 0
TellsDuct m = IsSome m.written × IsSome m.noted × IsSome m.marks

-- All of an object's records are told.
abbrev pub TellsAll : Meaning → Type 0
TellsAll m = TellsDuct m × TellsWire m.wire

-- These bytes are in the record of those written, told or not.
abbrev pub kept_written : DuctMem → List ℕ
kept_written d = kept_of d.written

-- These bytes are in the record of those noted, told or not.
abbrev pub kept_noted : DuctMem → List ℕ
kept_noted d = kept_of d.noted

-- These datagrams are in the record of those sent, told or not.
abbrev pub kept_sent : OutsideMem → List Parcel
kept_sent o = kept_texts o.wire.links.sent

-- The record of what was written has room for this number of bytes.
abbrev pub room_for_written : DuctMem → ℕ
room_for_written d = room_of d.written

-- The record of what was noted has room for this number of bytes.
abbrev pub room_for_noted : DuctMem → ℕ
room_for_noted d = room_of d.noted

-- The record of marks has room for this number of them.
abbrev pub room_for_marks : DuctMem → ℕ
room_for_marks d = room_of d.marks

-- Each record of a duct has room for this number of items.
pub record HasDuctRoom (d : DuctMem) (len : ℕ) : Type 0 where
  pub written : room_for_written d ≡ len
  pub noted : room_for_noted d ≡ len
  pub marks : room_for_marks d ≡ len

-- Reads with these numbers are to fail.
abbrev pub reads_to_fail : DuctMem → List ℕ
reads_to_fail d = d.bad_reads.items

-- Writes with these numbers are to fail.
abbrev pub writes_to_fail : DuctMem → List ℕ
writes_to_fail d = d.bad_writes.items

-- Each read may give this number of bytes.
abbrev pub chunks_of : DuctMem → List ℕ
chunks_of d = d.chunks.items

-- The next read has this number.
abbrev pub next_read : DuctMem → ℕ
next_read d = d.reads

-- The next write has this number.
abbrev pub next_write : DuctMem → ℕ
next_write d = d.writes

-- A read that got bytes got as many as its chunk, the buffer and the rest of the input allow.
abbrev pub GivesChunk : ReadOut → DuctMem → ℕ → Type 0
GivesChunk (Got n) d room =
    n ≡ min (min (chunk_for (chunks_of d) (next_read d)) room) (length d.input.items - d.at)
GivesChunk End d room = Unit {0}
GivesChunk Failed d room = Unit {0}

-- What was planned for an object stays: which reads and writes fail, how much a read gives, and the rooms
-- of its records.
pub record KeepsPlan (d e : DuctMem) : Type 0 where
  pub reads : reads_to_fail e ≡ reads_to_fail d
  pub writes : writes_to_fail e ≡ writes_to_fail d
  pub chunks : chunks_of e ≡ chunks_of d
  pub room_written : room_for_written e ≡ room_for_written d
  pub room_noted : room_for_noted e ≡ room_for_noted d
  pub room_marks : room_for_marks e ≡ room_for_marks d

-- A record that is told keeps what it tells. One that isn't stays as it was.
pub record KeepsRecords (d e : DuctMem) : Type 0 where
  pub written : kept_written e ≡ unwrap_or (told_of e.written) (kept_written d)
  pub noted : kept_noted e ≡ unwrap_or (told_of e.noted) (kept_noted d)

-- The numbers of the next read and the next write stay.
pub record KeepsNumbers (d e : DuctMem) : Type 0 where
  pub reads : next_read e ≡ next_read d
  pub writes : next_write e ≡ next_write d

-- A read in memory gives what is planned for its number, and adds a mark.
pub record ReadsInMemory (d : DuctMem) (result : ReadOut) (room : ℕ) (e : DuctMem) : Type 0 where
  pub gives : GivesChunk result d room
  pub fails : (result ≡ Failed) ↔ Contains (reads_to_fail d) (next_read d)
  pub reads : next_read e ≡ min (next_read d + 1) (2 ^ 64 - 1)
  pub writes : next_write e ≡ next_write d
  pub marks : (m : Mark) × (told_of e.marks ≡ with_room (room_for_marks d) (told_of d.marks) (m ∷ []))
  pub plan : KeepsPlan d e
  pub kept : KeepsRecords d e

-- A write leaves this in the record: all its bytes, or none where it fails.
abbrev pub written_after : WriteOut → DuctMem → List ℕ → Option (List ℕ)
written_after Done d bytes = with_room (room_for_written d) (told_of d.written) bytes
written_after NotWritten d bytes = told_of d.written

-- A write in memory fails where that is planned for its number, and else keeps all its bytes.
pub record WritesInMemory (d : DuctMem) (result : WriteOut) (bytes : List ℕ) (e : DuctMem) : Type 0 where
  pub fails : (result ≡ NotWritten) ↔ Contains (writes_to_fail d) (next_write d)
  pub reads : next_read e ≡ next_read d
  pub writes : next_write e ≡ min (next_write d + 1) (2 ^ 64 - 1)
  pub written : told_of e.written ≡ written_after result d bytes
  pub plan : KeepsPlan d e
  pub kept : KeepsRecords d e

-- A note in memory is kept.
pub record NotesInMemory (d : DuctMem) (line : List ℕ) (e : DuctMem) : Type 0 where
  pub numbers : KeepsNumbers d e
  pub noted : told_of e.noted ≡ with_room (room_for_noted d) (told_of d.noted) line
  pub plan : KeepsPlan d e
  pub kept : KeepsRecords d e

-- A mark is added with these numbers of datagrams, and nothing else changes.
pub record AddsMark (d : DuctMem) (received sent : ℕ) (e : DuctMem) : Type 0 where
  pub mark : Mark
  pub read : mark.read ≡ d.at
  pub received_is : mark.received ≡ received
  pub written : mark.written ≡ length (kept_written d)
  pub sent_is : mark.sent ≡ sent
  pub marks : told_of e.marks ≡ with_room (room_for_marks d) (told_of d.marks) (mark ∷ [])
  pub same : meaning_of e ≡ record (meaning_of d) { marks = told_of e.marks }
  pub input : e.input ≡ d.input
  pub at : e.at ≡ d.at
  pub numbers : KeepsNumbers d e
  pub plan : KeepsPlan d e
  pub kept : KeepsRecords d e

-- A read without a mark: as `ReadsInMemory`, with the marks as they were.
pub record TakesInMemory (d : DuctMem) (result : ReadOut) (buf : List ℕ) (e : DuctMem) : Type 0 where
  pub gives : GivesChunk result d (length buf)
  pub fails : (result ≡ Failed) ↔ Contains (reads_to_fail d) (next_read d)
  pub reads : next_read e ≡ min (next_read d + 1) (2 ^ 64 - 1)
  pub writes : next_write e ≡ next_write d
  pub read : Moves (meaning_of d).read (meaning_of e).read (taken_by (read_event result buf))
  pub left : Loses (meaning_of d).left (meaning_of e).left (taken_by (read_event result buf))
  pub over : MatchBool (is_end (read_event result buf)) (IsOver (meaning_of e)) (Unit {0})
  pub written : told_of e.written ≡ told_of d.written
  pub noted : told_of e.noted ≡ told_of d.noted
  pub marks : told_of e.marks ≡ told_of d.marks
  pub read_faults : Counts (read_fails (read_event result buf)) d.read_faults e.read_faults
  pub write_faults : e.write_faults ≡ d.write_faults
  pub plan : KeepsPlan d e
  pub kept : KeepsRecords d e

-- Before a call that asks for input an object adds a mark, and nothing else of its duct changes.
pub record MarksInMemory (d e : DuctMem) : Type 0 where
  pub marks : (m : Mark) × (told_of e.marks ≡ with_room (room_for_marks d) (told_of d.marks) (m ∷ []))
  pub numbers : KeepsNumbers d e
  pub plan : KeepsPlan d e
  pub kept : KeepsRecords d e

-- Before a call that asks for input an outside adds a mark of how far it is, and nothing else changes.
pub record MarksOutside (o p : OutsideMem) : Type 0 where
  pub mark : Mark
  pub is : IsMarkOf (outside_meaning o) mark
  pub marks : told_of p.duct.marks ≡ with_room (room_for_marks o.duct) (told_of o.duct.marks) (mark ∷ [])
  pub same : meaning_of p.duct ≡ record (meaning_of o.duct) { marks = told_of p.duct.marks }
  pub input : p.duct.input ≡ o.duct.input
  pub at : p.duct.at ≡ o.duct.at
  pub numbers : KeepsNumbers o.duct p.duct
  pub plan : KeepsPlan o.duct p.duct
  pub kept : KeepsRecords o.duct p.duct
  pub wire : p.wire ≡ o.wire
