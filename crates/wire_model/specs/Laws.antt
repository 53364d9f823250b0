-- What is promised of the definitions: the computed readings are the layouts, and no bytes can be read in two ways.
use Rattle.std.specs.Prelude.{◌≡◌, ◌↔◌, ◌+◌, ℕ, true, List, length, take, drop, slice_range}
use Rattle.wire_model.specs.Bytes.{IsBytes}
use Rattle.wire_model.specs.Framing.{framing, Splits, whole_frames}
use Rattle.wire_model.specs.Rtp.{RtpFields, IsRtp, header_length}
use Rattle.wire_model.specs.RtpReading.{is_rtp, rtp_fields, payload_end}
use Rattle.wire_model.specs.Payload.{PayloadFields, IsPayload}
use Rattle.wire_model.specs.PayloadReading.{is_payload, payload_fields, codestream_start}
use Rattle.wire_model.specs.Datagram.{Datagram, IsDatagram, datagram_of, is_well_formed}
use Rattle.wire_model.specs.Thinning.{IsKept, is_kept}

-- The frames of bytes are those that are computed, and what is left is the rest.
abbrev pub FramesAreComputed : Type 0
FramesAreComputed = (bytes : List ℕ) (frames : List (List ℕ)) (rest : List ℕ) → Splits bytes frames rest → (frames ≡ whole_frames bytes) × (rest ≡ drop (length (framing (whole_frames bytes))) bytes)

-- Any bytes are the frames that are computed, and a rest.
abbrev pub BytesSplit : Type 0
BytesSplit = (bytes : List ℕ) → IsBytes bytes → Splits bytes (whole_frames bytes) (drop (length (framing (whole_frames bytes))) bytes)

-- An RTP datagram is read as it is laid out.
abbrev pub RtpIsReadOneWay : Type 0
RtpIsReadOneWay = (h : RtpFields) (header payload b : List ℕ) → IsRtp h header payload b → (is_rtp b ≡ true) × (h ≡ rtp_fields b) × (header ≡ take (header_length b) b) × (payload ≡ slice_range b (header_length b) (payload_end b)) × (length header + length payload ≡ payload_end b) × (header_length b ≡ length header)

-- What is read as an RTP datagram is laid out as it is read.
abbrev pub RtpReadsAsLaidOut : Type 0
RtpReadsAsLaidOut = (b : List ℕ) → IsBytes b → is_rtp b ≡ true → IsRtp (rtp_fields b) (take (header_length b) b) (slice_range b (header_length b) (payload_end b)) b

-- A payload is read as it is laid out.
abbrev pub PayloadIsReadOneWay : Type 0
PayloadIsReadOneWay = (h : PayloadFields) (codestream b : List ℕ) → IsPayload h codestream b → (is_payload b ≡ true) × (h ≡ payload_fields b) × (codestream ≡ drop (codestream_start b) b)

-- What is read as a payload is laid out as it is read.
abbrev pub PayloadReadsAsLaidOut : Type 0
PayloadReadsAsLaidOut = (b : List ℕ) → IsBytes b → is_payload b ≡ true → IsPayload (payload_fields b) (drop (codestream_start b) b) b

-- The datagram of bytes is the one that is computed.
abbrev pub DatagramIsComputed : Type 0
DatagramIsComputed = (x : Datagram) (b : List ℕ) → IsDatagram x b → (is_well_formed b ≡ true) × (x ≡ datagram_of b)

-- What is read as a well-formed datagram is the datagram that is computed.
abbrev pub WellFormedIsDatagram : Type 0
WellFormedIsDatagram = (b : List ℕ) → IsBytes b → is_well_formed b ≡ true → IsDatagram (datagram_of b) b

-- What thinning keeps is what serves the receiver.
abbrev pub KeptIsWithin : Type 0
KeptIsWithin = (limit : ℕ) (b : List ℕ) → IsBytes b → (is_kept limit b ≡ true) ↔ IsKept limit b
