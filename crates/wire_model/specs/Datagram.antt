-- A datagram of a stream: RTP, then a Main or Body header, then codestream bytes.
use Rattle.std.specs.Prelude.{◌≤◌, ◌&&◌, ℕ, Bool, List, length, drop, slice_range, nat_le}
use Rattle.wire_model.specs.Rtp.{RtpFields, IsRtp, header_length}
use Rattle.wire_model.specs.RtpReading.{is_rtp, rtp_fields, payload_end}
use Rattle.wire_model.specs.Payload.{PayloadFields, IsPayload}
use Rattle.wire_model.specs.PayloadReading.{is_payload, payload_fields, codestream_start}

-- What is read of a datagram.
pub record Datagram : Type 0 where
  pub rtp : RtpFields
  pub payload : PayloadFields
  pub codestream : List ℕ

-- The bytes, at most 9,000 of them, are this datagram.
pub record IsDatagram (x : Datagram) (bytes : List ℕ) : Type 0 where
  pub header : List ℕ
  pub body : List ℕ
  pub some : 1 ≤ length bytes
  pub short : length bytes ≤ 9000
  pub is_rtp : IsRtp x.rtp header body bytes
  pub is_payload : IsPayload x.payload x.codestream body

-- The bytes are a well-formed datagram.
abbrev pub IsWellFormed : List ℕ → Type 0
IsWellFormed bytes = (x : Datagram) × IsDatagram x bytes

-- RTP's payload, computed.
abbrev pub rtp_payload : List ℕ → List ℕ
rtp_payload b = slice_range b (header_length b) (payload_end b)

-- Whether the bytes are a datagram, computed.
abbrev pub is_well_formed : List ℕ → Bool
is_well_formed b = nat_le 1 (length b) && nat_le (length b) 9000 && is_rtp b && is_payload (rtp_payload b)

-- The datagram that the bytes are, computed.
abbrev pub datagram_of : List ℕ → Datagram
datagram_of b = record {
  rtp = rtp_fields b;
  payload = payload_fields (rtp_payload b);
  codestream = drop (codestream_start (rtp_payload b)) (rtp_payload b);
}
