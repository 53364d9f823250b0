-- A record of bounded room.
use Rattle.std.specs.Prelude.{ℕ, ◌+◌, List, ◌++◌, Option, Some, None, if◌then◌else◌, length, nat_le}
use Rattle.scl_outside.specs.declared.record.Record.{Record}

-- A record tells its items as long as all of them fitted.
abbrev pub told_of : {T : Type 0} → Record T → Option (List T)
told_of r = if r.told then Some r.items.items else None

-- These items are in a record, told or not.
abbrev pub kept_of : {T : Type 0} → Record T → List T
kept_of r = r.items.items

-- This is the number of items that a record has room for.
abbrev pub room_of : {T : Type 0} → Record T → ℕ
room_of r = r.room

-- After more items came, all of them are told where all fit, and nothing from then on where they don't.
abbrev pub with_room : {T : Type 0} → ℕ → Option (List T) → List T → Option (List T)
with_room room None more = None
with_room room (Some was) more = if nat_le (length was + length more) room then Some (was ++ more) else None
