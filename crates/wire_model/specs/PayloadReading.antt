-- The payload's layout read by computing. The law `PayloadReadsAsLaidOut` says that it is the layout.
use Rattle.std.specs.Prelude.{◌+◌, ◌-◌, ◌*◌, ◌%◌, ◌&&◌, ℕ, Bool, true, List, length, slice_index, nat_le, nat_lt, if◌then◌else◌}
use Rattle.wire_model.specs.Payload.{MainFields, BodyFields, PayloadFields, Main, Body, xtrac_at, pos_at}

-- Whether the payload is a Main: MH isn't 0.
abbrev pub is_main : List ℕ → Bool
is_main b = nat_le 64 (slice_index b 0)

-- The values of a Main header, each read at its offset.
abbrev pub main_fields : List ℕ → MainFields
main_fields b = record { ordh = slice_index b 0 % 8; eseq = slice_index b 3; xtrac = xtrac_at b }

-- The values of a Body header, each read at its offset.
abbrev pub body_fields : List ℕ → BodyFields
body_fields b = record {
  res = slice_index b 0 % 8;
  eseq = slice_index b 3;
  ordb = nat_le 128 (slice_index b 1);
  pos = pos_at b;
  pid = slice_index b 5 % 16 * 65536 + slice_index b 6 * 256 + slice_index b 7;
}

-- The values of a payload header, each read at its offset.
abbrev pub payload_fields : List ℕ → PayloadFields
payload_fields b = if is_main b then Main (main_fields b) else Body (body_fields b)

-- The offset at which the codestream bytes start.
abbrev pub codestream_start : List ℕ → ℕ
codestream_start b = if is_main b then 8 + 4 * xtrac_at b else 8

-- POS is below the number of codestream bytes, where ORDB is 1.
abbrev pub is_mark_within : List ℕ → Bool
is_mark_within b = if nat_le 128 (slice_index b 1) then nat_lt (pos_at b) (length b - 8) else true

-- The bytes are a payload.
abbrev pub is_payload : List ℕ → Bool
is_payload b = nat_le 8 (length b) && (if is_main b then nat_le (8 + 4 * xtrac_at b) (length b) else is_mark_within b)
