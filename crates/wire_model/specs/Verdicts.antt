-- Of any bytes just one thing is true: they are laid out, or they have one fault.
use Rattle.std.specs.Prelude.{◌≡◌, List, ℕ}
use Rattle.wire_model.specs.Bytes.{IsBytes}
use Rattle.wire_model.specs.Rtp.{RtpFields, IsRtp, IsShortOfRtp, IsOtherVersion, IsBadlyPadded}
use Rattle.wire_model.specs.Payload.{PayloadFields, IsPayload, IsShortOfPayload, IsPastExtension, IsPastPos}

-- What bytes can be as an RTP datagram.
pub data RtpVerdict : Type 0 where
  SoundRtp : RtpVerdict
  ShortRtp : RtpVerdict
  OtherVersion : RtpVerdict
  BadPadding : RtpVerdict

-- An RTP verdict is true of bytes.
abbrev pub IsRtpVerdict : List ℕ → RtpVerdict → Type 0
IsRtpVerdict b SoundRtp =
    (h : RtpFields) × (header : List ℕ) × (payload : List ℕ) × IsRtp h header payload b
IsRtpVerdict b ShortRtp = IsShortOfRtp b
IsRtpVerdict b OtherVersion = IsOtherVersion b
IsRtpVerdict b BadPadding = IsBadlyPadded b

-- What bytes can be as a payload.
pub data PayloadVerdict : Type 0 where
  SoundPayload : PayloadVerdict
  ShortPayload : PayloadVerdict
  PastExtension : PayloadVerdict
  PastPos : PayloadVerdict

-- A payload verdict is true of bytes.
abbrev pub IsPayloadVerdict : List ℕ → PayloadVerdict → Type 0
IsPayloadVerdict b SoundPayload =
    (h : PayloadFields) × (codestream : List ℕ) × IsPayload h codestream b
IsPayloadVerdict b ShortPayload = IsShortOfPayload b
IsPayloadVerdict b PastExtension = IsPastExtension b
IsPayloadVerdict b PastPos = IsPastPos b

-- Of any bytes just one RTP verdict is true.
abbrev pub RtpHasOneVerdict : Type 0
RtpHasOneVerdict =
    (b : List ℕ) → IsBytes b
    → (v : RtpVerdict) × IsRtpVerdict b v × ((w : RtpVerdict) → IsRtpVerdict b w → w ≡ v)

-- Of any bytes just one payload verdict is true.
abbrev pub PayloadHasOneVerdict : Type 0
PayloadHasOneVerdict =
    (b : List ℕ) → IsBytes b
    → (v : PayloadVerdict) × IsPayloadVerdict b v
    × ((w : PayloadVerdict) → IsPayloadVerdict b w → w ≡ v)
