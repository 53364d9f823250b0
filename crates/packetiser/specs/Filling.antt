-- The payload that a sender is filling, what is put into it, and the Body that it makes.
use Rattle.std.specs.Prelude.{◌≤◌, ◌<◌, ◌/◌, ◌^◌, ◌++◌, ℕ, min, Bool, true, false, List, [], length, Option, Some, None, IfSome}
use Rattle.wire_model.specs.Rtp.{RtpFields, fixed_header}
use Rattle.wire_model.specs.Payload.{BodyFields, Body}
use Rattle.wire_model.specs.Datagram.{Datagram}
use Rattle.scl_payload.specs.Writing.{body_header}
use Rattle.stream_model.specs.Cut.{Plan, number_at, rtp_at, resolution_code}

-- The bytes of a payload so far; the offset in it and the PID of the first packet that starts in it; and the lowest
-- resolution of the packets that have a byte in it.
pub record Filling : Type 0 where
  pub payload : List ℕ
  pub mark : Option (ℕ × ℕ)
  pub lowest : Option ℕ

-- A payload that has no bytes yet.
abbrev pub empty : Filling
empty = record { payload = []; mark = None; lowest = None }

-- The mark after bytes at an offset: the first mark stays, and else it is that of a packet with this PID, if one starts
-- there.
abbrev pub marked : Option (ℕ × ℕ) → Option ℕ → ℕ → Option (ℕ × ℕ)
marked (Some m) begins at = Some m
marked None (Some id) at = Some (at, id)
marked None None at = None

-- The lower of two resolutions, where there is a first one.
abbrev pub lowered : Option ℕ → ℕ → Option ℕ
lowered None r = Some r
lowered (Some s) r = Some (min s r)

-- Bytes of a packet of this resolution are put in; `begins` is its PID where they are its first.
abbrev pub put : ℕ → Option ℕ → List ℕ → Filling → Filling
put r begins bytes f = record {
  payload = f.payload ++ bytes;
  mark = marked f.mark begins (length f.payload);
  lowest = lowered f.lowest r;
}

-- Bytes of EOC are put in.
abbrev pub put_eoc : List ℕ → Filling → Filling
put_eoc bytes f = record f { payload = f.payload ++ bytes }

-- RES of a payload in a codestream with this number of decomposition levels.
abbrev pub filled_res : ℕ → Option ℕ → ℕ
filled_res levels None = 0
filled_res levels (Some r) = resolution_code r levels

-- The Body header of a payload with this mark.
abbrev pub filled_header : ℕ → ℕ → Option (ℕ × ℕ) → BodyFields
filled_header eseq res None = record { res = res; eseq = eseq; ordb = false; pos = 0; pid = 0 }
filled_header eseq res (Some m) = record { res = res; eseq = eseq; ordb = true; pos = m.0; pid = m.1 }

-- The datagram with this RTP header and this payload header.
abbrev pub datagram_with : RtpFields → List ℕ → List ℕ → List ℕ
datagram_with rtp header payload = fixed_header rtp false false 0 ++ (header ++ payload)

-- The bytes of the Body that a payload makes.
abbrev pub body_bytes : RtpFields → ℕ → ℕ → Filling → List ℕ
body_bytes rtp eseq levels f = datagram_with rtp (body_header (filled_header eseq (filled_res levels f.lowest) f.mark)) f.payload

-- The Body that a payload makes, at a position of the stream.
abbrev pub body_of : Plan → ℕ → ℕ → ℕ → Bool → Filling → Datagram
body_of p levels stamp position marker f = record {
  rtp = rtp_at p stamp position marker;
  payload = Body (filled_header (number_at p position / 2 ^ 16) (filled_res levels f.lowest) f.mark);
  codestream = f.payload;
}

-- The mark of a payload is in the range of POS and PID.
abbrev pub IsMark : Option (ℕ × ℕ) → Type 0
IsMark mark = IfSome mark (λ m. (m.0 ≤ 4095) × (m.1 < 2 ^ 20))

-- The buffer of a sender: the payload that it is filling, and the datagram that it made last, which is there until more
-- is put in.
pub record Buffer : Type 0 where
  pub filling : Filling
  pub shown : List ℕ
