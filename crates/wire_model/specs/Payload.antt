-- The payload of a datagram: a Main or a Body header, and codestream bytes (this project's profile after RFC 9828).
use Rattle.std.specs.Prelude.{◌≡◌, ◌<◌, ◌≤◌, ◌+◌, ◌-◌, ◌*◌, ◌/◌, ◌%◌, ◌^◌, ℕ, Bool, true, List, ◌∷◌, ◌++◌, length, slice_index}
use Rattle.wire_model.specs.Bytes.{bit}

-- The values of a Main header that are read or written: ORDH, ESEQ and XTRAC.
pub record MainFields : Type 0 where
  pub ordh : ℕ
  pub eseq : ℕ
  pub xtrac : ℕ

-- The values of a Body header that are read: RES, ESEQ, ORDB, POS and PID.
pub record BodyFields : Type 0 where
  pub res : ℕ
  pub eseq : ℕ
  pub ordb : Bool
  pub pos : ℕ
  pub pid : ℕ

-- The values of a payload header of either kind.
pub data PayloadFields : Type 0 where
  Main : MainFields → PayloadFields
  Body : BodyFields → PayloadFields

-- The bytes are a Main: MH 2 (not 0), TP 3, ORDH 3, P 1, XTRAC 3, PTSTAMP 12, ESEQ 8, R 1, S 1, C 1, RSVD 4, RANGE 1,
-- PRIMS 8, TRANS 8, MAT 8 bits; XTRAC times four bytes that are skipped; and the codestream bytes.
pub record IsMain (h : MainFields) (codestream bytes : List ℕ) : Type 0 where
  pub mh : ℕ
  pub tp : ℕ
  pub p : ℕ
  pub ptstamp : ℕ
  pub colour : List ℕ
  pub extra : List ℕ
  pub is_main : 1 ≤ mh
  pub mh_fits : mh < 2 ^ 2
  pub tp_fits : tp < 2 ^ 3
  pub ordh_fits : h.ordh < 2 ^ 3
  pub p_fits : p < 2
  pub xtrac_fits : h.xtrac < 2 ^ 3
  pub ptstamp_fits : ptstamp < 2 ^ 12
  pub eseq_fits : h.eseq < 2 ^ 8
  pub is_colour : length colour ≡ 4
  pub is_extra : length extra ≡ 4 * h.xtrac
  pub whole : bytes ≡
      (mh * 64 + tp * 8 + h.ordh)
      ∷ (p * 128 + h.xtrac * 16 + ptstamp / 256)
      ∷ (ptstamp % 256)
      ∷ h.eseq
      ∷ (colour ++ (extra ++ codestream))

-- The bytes are a Body: MH 2 (0), TP 3, RES 3, ORDB 1, QUAL 3, PTSTAMP 12, ESEQ 8, POS 12, PID 20 bits, and the
-- codestream bytes. With ORDB = 1 the byte at POS is one of them.
pub record IsBody (h : BodyFields) (codestream bytes : List ℕ) : Type 0 where
  pub tp : ℕ
  pub qual : ℕ
  pub ptstamp : ℕ
  pub tp_fits : tp < 2 ^ 3
  pub qual_fits : qual < 2 ^ 3
  pub ptstamp_fits : ptstamp < 2 ^ 12
  pub res_fits : h.res < 2 ^ 3
  pub eseq_fits : h.eseq < 2 ^ 8
  pub pos_fits : h.pos < 2 ^ 12
  pub pid_fits : h.pid < 2 ^ 20
  pub whole : bytes ≡
      (tp * 8 + h.res)
      ∷ (bit h.ordb * 128 + qual * 16 + ptstamp / 256)
      ∷ (ptstamp % 256)
      ∷ h.eseq
      ∷ (h.pos / 16)
      ∷ (h.pos % 16 * 16 + h.pid / 65536)
      ∷ (h.pid / 256 % 256)
      ∷ (h.pid % 256)
      ∷ codestream
  pub marked : h.ordb ≡ true → h.pos < length codestream

-- The bytes are a payload of either kind.
abbrev pub IsPayload : PayloadFields → List ℕ → List ℕ → Type 0
IsPayload (Main h) codestream bytes = IsMain h codestream bytes
IsPayload (Body h) codestream bytes = IsBody h codestream bytes

-- XTRAC, where a Main header has it.
abbrev pub xtrac_at : List ℕ → ℕ
xtrac_at b = slice_index b 1 / 16 % 8

-- POS, where a Body header has it.
abbrev pub pos_at : List ℕ → ℕ
pos_at b = slice_index b 4 * 16 + slice_index b 5 / 16

-- The bytes are no payload, as they are fewer than eight.
abbrev pub IsShortOfPayload : List ℕ → Type 0
IsShortOfPayload b = length b < 8

-- The bytes are no payload, as they begin a Main whose skipped bytes pass the end.
abbrev pub IsPastExtension : List ℕ → Type 0
IsPastExtension b = (8 ≤ length b) × (64 ≤ slice_index b 0) × (length b < 8 + 4 * xtrac_at b)

-- The bytes are no payload, as they begin a Body with ORDB = 1 whose POS isn't below the number of codestream bytes.
abbrev pub IsPastPos : List ℕ → Type 0
IsPastPos b = (8 ≤ length b) × (slice_index b 0 < 64) × (128 ≤ slice_index b 1) × (length b - 8 ≤ pos_at b)
