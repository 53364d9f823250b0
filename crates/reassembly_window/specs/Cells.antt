-- The slots of a ring of cells.
use Rattle.std.specs.Prelude.{◌-◌, ℕ, zero, suc, List, [], length, map, Option, Some, None, slice_get, if◌then◌else◌}
use Rattle.reassembly_window.specs.declared.cell.Cell.{Cell}
use Rattle.reassembly_window.specs.Slots.{Slots, rotated}

-- The datagram that a cell holds.
abbrev pub slot_of : Cell → Option (List ℕ)
slot_of c = if c.filled then Some c.bytes.items else None

-- The bytes that are in a cell, held or not.
abbrev pub bytes_of : Option Cell → List ℕ
bytes_of None = []
bytes_of (Some c) = c.bytes.items

-- The index before one in a ring of `len` cells.
abbrev pub before : ℕ → ℕ → ℕ
before len zero = len - 1
before len (suc at) = at

-- The slots of a ring, from the cell at `head` on.
abbrev pub slots_of : ℕ → List Cell → Slots
slots_of head cells = record {
  slots = map slot_of (rotated head cells);
  passed = bytes_of (slice_get cells (before (length cells) head));
}
