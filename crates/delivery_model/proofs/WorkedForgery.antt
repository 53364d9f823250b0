-- An empty packet that a forged mark makes is a reading of the datagrams that came.
use Rattle.std.specs.Prelude.{ℕ, true, List, [], ◌∷◌, ◌++◌, take, drop, refl}
use Rattle.std.proofs.Common.{sym, inl, arith}
use Rattle.wire_model.specs.Datagram.{datagram_of}
use Rattle.wire_model.proofs.DatagramLaws.{well_formed_is_datagram}
use Rattle.wire_model.proofs.RtpFound.{rtp_reads_as_laid_out}
use Rattle.wire_model.proofs.PayloadFound.{payload_reads_as_laid_out}
use Rattle.wire_model.proofs.Captures.{main_header_of_three, codestream_of_b, main_of_b, first_body_of_b, second_body_of_b, third_body_of_b, last_body_of_b}
use Rattle.codestream_model.specs.Packet.{Content, SpellsPacket}
use Rattle.codestream_model.proofs.EmptyLemmas.{empty_packet}
use Rattle.codestream_model.specs.Precincts.{grids}
use Rattle.codestream_model.proofs.WorkedGeometry.{three_samples}
use Rattle.codestream_model.proofs.WorkedPackets.{precinct, second_packet_of_three}
use Rattle.stream_model.specs.Reading.{IsReading}
use Rattle.stream_model.proofs.CapturesAreStreams.{are_bytes}
use Rattle.stream_model.proofs.WorkedHeads.{header_of_three_samples_spells, order_of_three, second_pid_of_three}

-- the second Body with POS 13 where 12 is right
abbrev pub forged_body : List ℕ
forged_body = take 16 second_body_of_b ++ (0 ∷ 208 ∷ []) ++ drop 18 second_body_of_b

-- the datagrams that came
abbrev pub forged_frames : List (List ℕ)
forged_frames = main_of_b ∷ first_body_of_b ∷ forged_body ∷ third_body_of_b ∷ last_body_of_b ∷ []

-- the byte at the mark is an empty packet
abbrev pub no_content : Content
no_content = record { blocks = []; bytes = [] }

empty_at_mark : SpellsPacket three_samples (precinct 1) no_content (100 ∷ [])
empty_at_mark = record {
  header = 100 ∷ [];
  few_blocks = second_packet_of_three.few_blocks;
  is_header = record { header = 100 ∷ []; is_header = (empty_packet (grids three_samples (precinct 1)) 100 [] (omega arith)).1; whole = refl };
  segments = refl;
  whole = refl;
  short = omega arith;
}

pub forged_mark_is_a_reading : IsReading forged_frames 0 (precinct 1) no_content
unfolding main_header_of_three codestream_of_b main_of_b second_body_of_b
forged_mark_is_a_reading = record {
  main = datagram_of main_of_b;
  first = datagram_of forged_body;
  others = [];
  head = three_samples;
  before = precinct 0 ∷ [];
  start = precinct 1;
  places = [];
  after = precinct 2 ∷ [];
  said = [];
  at = 13;
  skipped = take 13 (datagram_of forged_body).codestream;
  packets = 100 ∷ [];
  rest = drop 14 (datagram_of forged_body).codestream;
  main_came = (main_of_b, (0, omega arith, refl), well_formed_is_datagram rtp_reads_as_laid_out payload_reads_as_laid_out main_of_b (are_bytes main_of_b refl) refl);
  is_main = tt;
  main_stamp = refl;
  is_head = header_of_three_samples_spells;
  each_came = ((forged_body, (2, omega arith, refl), well_formed_is_datagram rtp_reads_as_laid_out payload_reads_as_laid_out forged_body (are_bytes forged_body refl) refl), tt);
  each_body = (tt, tt);
  each_stamp = (refl, tt);
  consecutive = (refl, tt);
  order = order_of_three;
  starts = inl (record { res = 7; eseq = 0; ordb = true; pos = 13; pid = 1 }, refl, refl, refl, sym second_pid_of_three);
  first_place = ([], refl);
  joined = refl;
  from = refl;
  are_packets = (100 ∷ [], [], empty_at_mark, refl, refl);
}
