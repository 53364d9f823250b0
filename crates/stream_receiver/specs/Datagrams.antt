-- What is read of a datagram, and why a frame is refused.
use Rattle.std.specs.Prelude.{◌≡◌, ◌≢◌, ◌<◌, ◌≤◌, ◌^◌, ℕ, true, false, List, length, Result, Ok, Err}
use Rattle.wire_model.specs.Rtp.{RtpFields, IsRtp, IsShortOfRtp, IsOtherVersion, IsBadlyPadded}
use Rattle.wire_model.specs.Payload.{PayloadFields, Main, Body, IsShortOfPayload, IsPastExtension, IsPastPos}
use Rattle.wire_model.specs.Datagram.{datagram_of}
use Rattle.stream_model.specs.Stream.{extended_number}
use Rattle.stream_model.specs.Arrivals.{is_of_kind}
use Rattle.rtp_header.specs.declared.header.RtpFault.{RtpFault}
use Rattle.rtp_header.specs.declared.header.RtpFault.TheVariants as rtp
use Rattle.scl_payload.specs.Heads.{fields_of, head_of}
use Rattle.scl_payload.specs.declared.head.PayloadFault.{PayloadFault}
use Rattle.scl_payload.specs.declared.head.PayloadFault.TheVariants as payload
use Rattle.stream_receiver.specs.declared.datagram.Read.{Read}
use Rattle.stream_receiver.specs.declared.datagram.DatagramFault.{DatagramFault}
use Rattle.stream_receiver.specs.declared.datagram.DatagramFault.TheVariants.{Oversize, Rtp, Kind, Payload, Source}

-- With ORDB = 1 POS is less than the number of codestream bytes.
abbrev pub IsMarked : PayloadFields → List ℕ → Type 0
IsMarked (Main h) codestream = Unit {0}
IsMarked (Body h) codestream = h.ordb ≡ true → h.pos < length codestream

-- What is read of a frame is what its datagram says, and it is of this payload type.
pub record IsRead (kind : ℕ) (b : List ℕ) (d : Read) : Type 0 where
  pub is : is_of_kind kind b ≡ true
  pub stamp : (datagram_of b).rtp.stamp ≡ d.stamp
  pub source : (datagram_of b).rtp.source ≡ d.source
  pub number : extended_number (datagram_of b) ≡ d.number
  pub payload : d.payload ≡ head_of (datagram_of b).payload
  pub codestream : (datagram_of b).codestream ≡ d.codestream.now
  pub low : d.number < 2 ^ 24
  pub fits : length b ≤ 9000
  pub few : length d.codestream.now ≤ 9000
  pub marked : IsMarked (fields_of d.payload) d.codestream.now

-- The condition of each fault of the RTP layout.
abbrev pub RtpFaults : RtpFault → List ℕ → Type 0
RtpFaults rtp.Short b = IsShortOfRtp b
RtpFaults rtp.Version b = IsOtherVersion b
RtpFaults rtp.Padding b = IsBadlyPadded b

-- The condition of each fault of the payload's layout.
abbrev pub PayloadFaults : PayloadFault → List ℕ → Type 0
PayloadFaults payload.Short b = IsShortOfPayload b
PayloadFaults payload.Extension b = IsPastExtension b
PayloadFaults payload.Pos b = IsPastPos b

-- The condition of each fault of a frame, where no earlier one in their order holds; the source
-- isn't judged here.
abbrev pub IsFault : ℕ → List ℕ → DatagramFault → Type 0
IsFault kind b Oversize = 9000 < length b
IsFault kind b (Rtp why) = (length b ≤ 9000) × RtpFaults why b
IsFault kind b Kind =
    (length b ≤ 9000) × (h : RtpFields) × (header : List ℕ) × (body : List ℕ) × IsRtp h header body b × (h.kind ≢ kind)
IsFault kind b (Payload why) =
    (length b ≤ 9000) × (h : RtpFields) × (header : List ℕ) × (body : List ℕ) × IsRtp h header body b × (h.kind ≡ kind)
    × PayloadFaults why body
IsFault kind b Source = ⊥

-- A frame is read as a datagram of this payload type, or it isn't one and has this fault.
abbrev pub Reads : ℕ → List ℕ → Result Read DatagramFault → Type 0
Reads kind b (Ok d) = IsRead kind b d
Reads kind b (Err why) = (is_of_kind kind b ≡ false) × IsFault kind b why
