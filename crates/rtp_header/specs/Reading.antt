-- What the reader of an RTP header answers.
use Rattle.std.specs.Prelude.{◌==◌, ℕ, List, length, nat_lt, nat_le, if◌then◌else◌, Result, Ok, Err}
use Rattle.wire_model.specs.Rtp.{RtpFields, version, header_length}
use Rattle.wire_model.specs.RtpReading.{rtp_fields, is_padding_sound, payload_end}
use Rattle.rtp_header.specs.declared.header.Rtp.{Rtp}
use Rattle.rtp_header.specs.declared.header.RtpFault.{RtpFault}
use Rattle.rtp_header.specs.declared.header.RtpFault.TheVariants.{Short, Version, Padding}

-- the values of an answer, without the payload's range
abbrev pub fields_of : Rtp → RtpFields
fields_of r = record { marker = r.marker; kind = r.kind; number = r.number; stamp = r.stamp; source = r.source }

-- the answer with these values and this range
abbrev pub read_as : RtpFields → ℕ → ℕ → Rtp
read_as h from to = record { marker = h.marker; kind = h.kind; number = h.number; stamp = h.stamp; source = h.source; body_from = from; body_to = to }

-- the answer to a datagram: the first fault in the order of judging, else its values and its payload's range
abbrev pub judged : List ℕ → Result Rtp RtpFault
judged b =
    if nat_lt (length b) 12 then Err Short
    else (if version b == 2 then
    (if nat_le (header_length b) (length b) then
    (if is_padding_sound b then Ok (read_as (rtp_fields b) (header_length b) (payload_end b)) else Err Padding)
    else Err Short)
    else Err Version)
