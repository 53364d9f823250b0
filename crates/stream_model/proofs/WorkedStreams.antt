-- Two captures as streams: of one codestream of one packet, and of one of three packets.
use Rattle.std.specs.Prelude.{◌≡◌, ◌+◌, ℕ, Bool, true, false, List, [], ◌∷◌, replicate, slice_range}
use Rattle.std.proofs.Common.{refl}
use Rattle.wire_model.specs.Payload.{Main, Body}
use Rattle.wire_model.specs.Datagram.{Datagram}
use Rattle.wire_model.proofs.Captures.{main_header, main_header_of_three, codestream_of_b, packet}
use Rattle.codestream_model.proofs.WorkedPacketHeaders.{block}
use Rattle.codestream_model.proofs.WorkedGeometry.{one_sample, three_samples}
use Rattle.codestream_model.proofs.WorkedPackets.{precinct}
use Rattle.stream_model.specs.Stream.{Parts, Sent, carried}
use Rattle.stream_model.proofs.WorkedReached.{three_packets}

-- the codestream of one packet
abbrev pub parts_of_one : Parts
parts_of_one = record {
  head = one_sample;
  header = main_header;
  places = precinct 0 ∷ [];
  content = record { blocks = block 2 1 2 0 ∷ []; bytes = 170 ∷ 187 ∷ [] } ∷ [];
  packets = (200 ∷ 128 ∷ 170 ∷ 187 ∷ []) ∷ [];
}

-- the Body of the first capture
abbrev pub body_of_one : Datagram
body_of_one = record { rtp = record { marker = true; kind = 96; number = 1; stamp = 0; source = 1 }; payload = Body (record { res = 7; eseq = 0; ordb = true; pos = 0; pid = 0 }); codestream = 200 ∷ 128 ∷ 170 ∷ 187 ∷ 255 ∷ 217 ∷ [] }

-- and what this capture sends of the codestream
abbrev pub sent_of_one : Sent
sent_of_one = record {
  parts = parts_of_one;
  stamp = 0;
  main = record { rtp = record { marker = false; kind = 96; number = 0; stamp = 0; source = 1 }; payload = Main (record { ordh = 4; eseq = 0; xtrac = 0 }); codestream = main_header };
  bodies = body_of_one ∷ [];
}

-- its packet is in the Body
pub carried_of_one : carried (sent_of_one ∷ []) ≡ record {
  stamp = 0;
  main = 0;
  packets = record { first = 1; last = 1 } ∷ [];
  resyncs = record { at = 0; precinct = 0 } ∷ record { at = 1; precinct = 0 } ∷ [];
} ∷ []
carried_of_one = refl

-- the codestream of three packets
abbrev pub parts_of_three : Parts
parts_of_three = record {
  head = three_samples;
  header = main_header_of_three;
  places = precinct 0 ∷ precinct 1 ∷ precinct 2 ∷ [];
  content =
      record { blocks = block 0 1 100 0 ∷ []; bytes = replicate 100 17 }
      ∷ record { blocks = block 0 1 100 0 ∷ []; bytes = replicate 100 34 }
      ∷ record { blocks = block 0 1 100 0 ∷ []; bytes = replicate 100 51 }
      ∷ [];
  packets = packet 17 ∷ packet 34 ∷ packet 51 ∷ [];
}

-- a datagram of the second capture
abbrev pub body_of_three : Bool → ℕ → ℕ → Bool → ℕ → ℕ → List ℕ → Datagram
body_of_three marker stamp number ordb pos pid payload = record {
  rtp = record { marker = marker; kind = 96; number = number; stamp = stamp; source = 1 };
  payload = Body (record { res = 7; eseq = 0; ordb = ordb; pos = pos; pid = pid });
  codestream = payload;
}

-- what the second capture sends of it, with this stamp and from this number on
abbrev pub sent_of_three : ℕ → ℕ → Sent
sent_of_three stamp number = record {
  parts = parts_of_three;
  stamp = stamp;
  main = record { rtp = record { marker = false; kind = 96; number = number; stamp = stamp; source = 1 }; payload = Main (record { ordh = 4; eseq = 0; xtrac = 0 }); codestream = main_header_of_three };
  bodies =
      body_of_three false stamp (number + 1) true 0 0 (slice_range codestream_of_b 90 180)
      ∷ body_of_three false stamp (number + 2) true 12 1 (slice_range codestream_of_b 180 270)
      ∷ body_of_three false stamp (number + 3) true 24 2 (slice_range codestream_of_b 270 360)
      ∷ body_of_three true stamp (number + 4) false 0 0 (slice_range codestream_of_b 360 398)
      ∷ [];
}

-- the first packet is in the first and the second Body, and so on; each of the first three has a resync point
pub carried_of_three : carried (sent_of_three 0 0 ∷ []) ≡ three_packets 0 0 ∷ []
unfolding codestream_of_b main_header_of_three
carried_of_three = refl

-- and twice in a row
pub carried_twice : carried (sent_of_three 0 0 ∷ sent_of_three 3600 5 ∷ []) ≡ three_packets 0 0 ∷ three_packets 3600 5 ∷ []
unfolding codestream_of_b main_header_of_three
carried_twice = refl
