-- The RTP layout read by computing. The law `RtpReadsAsLaidOut` says that it is the layout.
use Rattle.std.specs.Prelude.{◌-◌, ◌/◌, ◌%◌, ◌==◌, ◌&&◌, ℕ, Bool, true, List, length, slice_index, nat_le, if◌then◌else◌}
use Rattle.wire_model.specs.Bytes.{two_at, four_at}
use Rattle.wire_model.specs.Rtp.{RtpFields, version, header_length, last_byte}

-- The values of an RTP header, each read at its offset.
abbrev pub rtp_fields : List ℕ → RtpFields
rtp_fields b = record {
  marker = nat_le 128 (slice_index b 1);
  kind = slice_index b 1 % 128;
  number = two_at b 2;
  stamp = four_at b 4;
  source = four_at b 8;
}

-- P, whether there is padding.
abbrev pub is_padded : List ℕ → Bool
is_padded b = slice_index b 0 / 32 % 2 == 1

-- The padding is there, where P says that it is.
abbrev pub is_padding_sound : List ℕ → Bool
is_padding_sound b = if is_padded b then nat_le 1 (last_byte b) && nat_le (last_byte b) (length b - header_length b) else true

-- The bytes are an RTP datagram.
abbrev pub is_rtp : List ℕ → Bool
is_rtp b = nat_le 12 (length b) && (version b == 2) && nat_le (header_length b) (length b) && is_padding_sound b

-- The offset at which the payload ends.
abbrev pub payload_end : List ℕ → ℕ
payload_end b = if is_padded b then length b - last_byte b else length b
