-- What is answered to bytes, test by test in the order of the faults.
use Rattle.std.specs.Prelude.{◌+◌, ◌-◌, ◌*◌, ◌&&◌, ℕ, List, length, slice_index, nat_le, nat_lt, if◌then◌else◌, Result, Ok, Err}
use Rattle.wire_model.specs.Payload.{Main as MainValues, Body as BodyValues, xtrac_at, pos_at}
use Rattle.wire_model.specs.PayloadReading.{is_main, main_fields, body_fields}
use Rattle.scl_payload.specs.Heads.{read_as}
use Rattle.scl_payload.specs.declared.head.Payload.{Payload}
use Rattle.scl_payload.specs.declared.head.PayloadFault.{PayloadFault}
use Rattle.scl_payload.specs.declared.head.PayloadFault.TheVariants.{Short, Extension, Pos}

-- what is answered to a Main of eight bytes or more
abbrev pub judged_main : List ℕ → Result (Payload × ℕ) PayloadFault
judged_main b = if nat_lt (length b) (8 + 4 * xtrac_at b) then Err Extension else Ok (read_as (MainValues (main_fields b)) (8 + 4 * xtrac_at b))

-- what is answered to a Body of eight bytes or more
abbrev pub judged_body : List ℕ → Result (Payload × ℕ) PayloadFault
judged_body b = if nat_le 128 (slice_index b 1) && nat_le (length b - 8) (pos_at b) then Err Pos else Ok (read_as (BodyValues (body_fields b)) 8)

-- what is answered to any bytes
abbrev pub judged : List ℕ → Result (Payload × ℕ) PayloadFault
judged b = if nat_lt (length b) 8 then Err Short else (if is_main b then judged_main b else judged_body b)
