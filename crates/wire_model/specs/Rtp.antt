-- The RTP fixed header with its optional parts (RFC 3550 section 5.1).
use Rattle.std.specs.Prelude.{◌≡◌, ◌≢◌, ◌<◌, ◌≤◌, ◌+◌, ◌-◌, ◌*◌, ◌/◌, ◌%◌, ◌^◌, ◌⊎◌, ◌==◌, ℕ, Bool, true, false, List, [], ◌∷◌, ◌++◌, length, slice_index, if◌then◌else◌}
use Rattle.wire_model.specs.Bytes.{bit, two_bytes, four_bytes, two_at}

-- The values that are read: M, PT, the sequence number, the timestamp and SSRC.
pub record RtpFields : Type 0 where
  pub marker : Bool
  pub kind : ℕ
  pub number : ℕ
  pub stamp : ℕ
  pub source : ℕ

-- Each value fits its field.
pub record FitRtp (h : RtpFields) : Type 0 where
  pub kind : h.kind < 2 ^ 7
  pub number : h.number < 2 ^ 16
  pub stamp : h.stamp < 2 ^ 32
  pub source : h.source < 2 ^ 32

-- The twelve fixed bytes: V = 2, P, X, CC, M, PT, and the three numbers.
abbrev pub fixed_header : RtpFields → Bool → Bool → ℕ → List ℕ
fixed_header h padded extended sources =
    (128 + bit padded * 32 + bit extended * 16 + sources) ∷ (bit h.marker * 128 + h.kind) ∷ []
    ++ two_bytes h.number ++ four_bytes h.stamp ++ four_bytes h.source

-- The header extension, with X = 1: 16 bits of the profile's own, the number of 32-bit words in 16 bits, and these
-- words.
abbrev pub IsExtension : Bool → List ℕ → Type 0
IsExtension false extension = extension ≡ []
IsExtension true extension =
    (profile : List ℕ) × (high : ℕ) × (low : ℕ) × (words : List ℕ)
    × (length profile ≡ 2) × (length words ≡ 4 * (high * 256 + low))
    × (extension ≡ profile ++ high ∷ low ∷ words)

-- The padding, with P = 1: at least one byte, the last of which is the number of them all.
abbrev pub IsPadding : Bool → List ℕ → Type 0
IsPadding false padding = padding ≡ []
IsPadding true padding = (front : List ℕ) × (padding ≡ front ++ (length front + 1) ∷ [])

-- The bytes are an RTP datagram: this header with these values, this payload, and padding.
pub record IsRtp (h : RtpFields) (header payload bytes : List ℕ) : Type 0 where
  pub padded : Bool
  pub extended : Bool
  pub sources : ℕ
  pub csrc : List ℕ
  pub extension : List ℕ
  pub padding : List ℕ
  pub fit : FitRtp h
  pub few_sources : sources < 16
  pub is_csrc : length csrc ≡ 4 * sources
  pub is_extension : IsExtension extended extension
  pub is_padding : IsPadding padded padding
  pub is_header : header ≡ fixed_header h padded extended sources ++ (csrc ++ extension)
  pub whole : bytes ≡ header ++ (payload ++ padding)

-- V, the version.
abbrev pub version : List ℕ → ℕ
version b = slice_index b 0 / 64

-- The offset at which the CSRC list ends, by CC.
abbrev pub csrc_end : List ℕ → ℕ
csrc_end b = 12 + 4 * (slice_index b 0 % 16)

-- The header's length, as CC and X and the extension's own length say; it may pass the end of the bytes.
abbrev pub header_length : List ℕ → ℕ
header_length b = if slice_index b 0 / 16 % 2 == 0 then csrc_end b else csrc_end b + 4 + 4 * two_at b (csrc_end b + 2)

-- The last byte, which counts the padding where P is 1.
abbrev pub last_byte : List ℕ → ℕ
last_byte b = slice_index b (length b - 1)

-- The bytes are no RTP datagram, as there are fewer than twelve, or fewer than the header has.
abbrev pub IsShortOfRtp : List ℕ → Type 0
IsShortOfRtp b = (length b < 12) ⊎ ((12 ≤ length b) × (version b ≡ 2) × (length b < header_length b))

-- The bytes are no RTP datagram of version 2.
abbrev pub IsOtherVersion : List ℕ → Type 0
IsOtherVersion b = (12 ≤ length b) × (version b ≢ 2)

-- The bytes are no RTP datagram, as the whole header is there, but its padding is no byte, or more than follow the
-- header.
abbrev pub IsBadlyPadded : List ℕ → Type 0
IsBadlyPadded b =
    (12 ≤ length b) × (version b ≡ 2) × (header_length b ≤ length b)
    × (slice_index b 0 / 32 % 2 ≡ 1)
    × ((last_byte b ≡ 0) ⊎ (length b - header_length b < last_byte b))
