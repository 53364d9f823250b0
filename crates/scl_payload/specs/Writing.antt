-- The payload headers as this sender writes them, and the numbers in them.
use Rattle.std.specs.Prelude.{◌+◌, ◌-◌, ◌*◌, ◌/◌, ◌%◌, ℕ, List, [], ◌∷◌, Option, Some, None, nat_lt, if◌then◌else◌}
use Rattle.wire_model.specs.Bytes.{bit}
use Rattle.wire_model.specs.Payload.{BodyFields}

-- A Main header with MH 3, ORDH and ESEQ; all other fields are 0.
abbrev pub main_header : ℕ → ℕ → List ℕ
main_header eseq ordh = (192 + ordh) ∷ 0 ∷ 0 ∷ eseq ∷ 0 ∷ 0 ∷ 0 ∷ 0 ∷ []

-- A Body header with RES, ORDB, ESEQ, POS and PID; all other fields are 0.
abbrev pub body_header : BodyFields → List ℕ
body_header h = h.res ∷ (bit h.ordb * 128) ∷ 0 ∷ h.eseq ∷ (h.pos / 16) ∷ (h.pos % 16 * 16 + h.pid / 65536) ∷ (h.pid / 256 % 256) ∷ (h.pid % 256) ∷ []

-- How far `n` is ahead of `base` modulo 2^24; none where that is 2^23 or more.
abbrev pub ahead : ℕ → ℕ → Option ℕ
ahead base n = if nat_lt ((n + 16777216 - base) % 16777216) 8388608 then Some ((n + 16777216 - base) % 16777216) else None
