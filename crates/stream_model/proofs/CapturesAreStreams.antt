-- The two captures are streams of their codestreams.
use Rattle.std.specs.Prelude.{◌≡◌, ℕ, zero, suc, true, false, List, [], ◌∷◌, ◌++◌, slice_range, nat_lt}
use Rattle.std.specs.List.{list_all, IsDistinct}
use Rattle.std.proofs.Common.{refl, inl, arith, subst}
use Rattle.std.proofs.lemmas.Bool.{ltb-true}
use Rattle.wire_model.specs.Bytes.{IsBytes}
use Rattle.wire_model.specs.Datagram.{Datagram, IsDatagram, datagram_of, is_well_formed}
use Rattle.wire_model.proofs.DatagramLaws.{well_formed_is_datagram}
use Rattle.wire_model.proofs.RtpFound.{rtp_reads_as_laid_out}
use Rattle.wire_model.proofs.PayloadFound.{payload_reads_as_laid_out}
use Rattle.wire_model.proofs.Captures.{main_header, main_header_of_three, main_of_a, body_of_a, codestream_of_b, main_of_b, first_body_of_b, second_body_of_b, third_body_of_b, last_body_of_b}
use Rattle.wire_model.proofs.WorkedCaptures.{main_of_a_is_well_formed, main_of_a_is_read, body_of_a_is_well_formed, body_of_a_is_read, main_of_b_is_well_formed, main_of_b_is_read, first_body_of_b_is_well_formed, first_body_of_b_is_read, second_body_of_b_is_well_formed, second_body_of_b_is_read, third_body_of_b_is_well_formed, third_body_of_b_is_read, last_body_of_b_is_well_formed, last_body_of_b_is_read}
use Rattle.codestream_model.specs.MainHeader.{SpellsHead}
use Rattle.codestream_model.specs.PacketOrder.{pid, IsPacketOrder}
use Rattle.codestream_model.proofs.WorkedGeometry.{one_sample, three_samples}
use Rattle.codestream_model.proofs.WorkedPackets.{precinct, packet_of_one, first_packet_of_three, second_packet_of_three, third_packet_of_three}
use Rattle.stream_model.specs.Stream.{ArePartsOf, Carries, Carry, IsStream}
use Rattle.stream_model.proofs.InTime.{both}
use Rattle.stream_model.proofs.WorkedHeads.{header_of_one_spells, header_of_three_samples_spells, order_of_one, order_of_three, pid_of_one, first_pid_of_three, second_pid_of_three, third_pid_of_three}
use Rattle.stream_model.proofs.WorkedStreams.{parts_of_one, body_of_one, sent_of_one, parts_of_three, body_of_three, sent_of_three}

-- bytes by computing
pub are_bytes : (b : List ℕ) → list_all (λ a. nat_lt a 256) b ≡ true → IsBytes b
are_bytes [] h i = omega arith
are_bytes (a ∷ b) h zero = ltb-true a 256 (both (nat_lt a 256) (list_all (λ a. nat_lt a 256) b) h).0
are_bytes (a ∷ b) h (suc i) = are_bytes b (both (nat_lt a 256) (list_all (λ a. nat_lt a 256) b) h).1 i

-- what is read of well-formed bytes is their datagram
pub read_as : (x : Datagram) (b : List ℕ) → list_all (λ a. nat_lt a 256) b ≡ true → is_well_formed b ≡ true → datagram_of b ≡ x → IsDatagram x b
read_as x b bytes formed same = let P : Datagram → Type 0 = λ y. IsDatagram y b in subst P same (well_formed_is_datagram rtp_reads_as_laid_out payload_reads_as_laid_out b (are_bytes b bytes) formed)

-- the codestream of one packet, from SOC to EOC
abbrev pub codestream_of_one : List ℕ
codestream_of_one = main_header ++ 200 ∷ 128 ∷ 170 ∷ 187 ∷ 255 ∷ 217 ∷ []

-- where its main header is one, and has one precinct with PID 0, its parts are these,
pub parts_are_of_one : SpellsHead one_sample main_header → IsPacketOrder one_sample (precinct 0 ∷ []) → ArePartsOf parts_of_one codestream_of_one
parts_are_of_one head order = record {
  is_head = head;
  order = order;
  are_packets = (packet_of_one, tt);
  psot = inl refl;
  whole = refl;
}

-- the first capture carries it,
one_is_carried : 0 ≡ pid one_sample (precinct 0) → Carries sent_of_one
one_is_carried names = record {
  main = tt;
  header = refl;
  bodies = (tt, tt);
  bytes = refl;
  stamps = (refl, (refl, tt));
  marks = (record { precinct = 0; place = precinct 0; has = refl; starts = refl; names = names }, tt);
}

-- and is a stream
first_capture : SpellsHead one_sample main_header → IsPacketOrder one_sample (precinct 0 ∷ []) → 0 ≡ pid one_sample (precinct 0) → Carry (sent_of_one ∷ []) (codestream_of_one ∷ []) (main_of_a ∷ body_of_a ∷ [])
unfolding IsDistinct main_header main_of_a body_of_a
first_capture head order names = record {
  source = 1;
  kind = 96;
  number = 0;
  are_parts = (parts_are_of_one head order, tt);
  each = (one_is_carried names, tt);
  apart = (tt, tt);
  are_datagrams = (
    read_as sent_of_one.main main_of_a refl main_of_a_is_well_formed main_of_a_is_read,
    (read_as (body_of_one) body_of_a refl body_of_a_is_well_formed body_of_a_is_read, tt),
  );
  few = omega arith;
  one_source = ((refl, refl), ((refl, refl), tt));
  numbers = refl;
}

pub first_capture_is_a_stream : IsStream (codestream_of_one ∷ []) (main_of_a ∷ body_of_a ∷ [])
unfolding main_header
first_capture_is_a_stream = (sent_of_one ∷ [], first_capture header_of_one_spells order_of_one pid_of_one)

-- the codestream of three packets,
pub parts_are_of_three : SpellsHead three_samples main_header_of_three → IsPacketOrder three_samples (precinct 0 ∷ precinct 1 ∷ precinct 2 ∷ []) → ArePartsOf parts_of_three codestream_of_b
unfolding codestream_of_b
parts_are_of_three head order = record {
  is_head = head;
  order = order;
  are_packets = (first_packet_of_three, (second_packet_of_three, (third_packet_of_three, tt)));
  psot = inl refl;
  whole = refl;
}

-- which the second capture carries,
three_are_carried : 0 ≡ pid three_samples (precinct 0) → 1 ≡ pid three_samples (precinct 1) → 2 ≡ pid three_samples (precinct 2) → Carries (sent_of_three 0 0)
unfolding codestream_of_b main_header_of_three
three_are_carried first second third = record {
  main = tt;
  header = refl;
  bodies = (tt, (tt, (tt, (tt, tt))));
  bytes = refl;
  stamps = (refl, (refl, (refl, (refl, (refl, tt)))));
  marks = (
    record { precinct = 0; place = precinct 0; has = refl; starts = refl; names = first },
    (
      record { precinct = 1; place = precinct 1; has = refl; starts = refl; names = second },
      (record { precinct = 2; place = precinct 2; has = refl; starts = refl; names = third }, tt),
    ),
  );
}

-- and which is a stream
second_capture : ArePartsOf parts_of_three codestream_of_b → Carries (sent_of_three 0 0) → Carry (sent_of_three 0 0 ∷ []) (codestream_of_b ∷ []) (main_of_b ∷ first_body_of_b ∷ second_body_of_b ∷ third_body_of_b ∷ last_body_of_b ∷ [])
unfolding IsDistinct main_header_of_three codestream_of_b main_of_b first_body_of_b second_body_of_b third_body_of_b last_body_of_b
second_capture parts carries = record {
  source = 1;
  kind = 96;
  number = 0;
  are_parts = (parts, tt);
  each = (carries, tt);
  apart = (tt, tt);
  are_datagrams = (
    read_as (sent_of_three 0 0).main main_of_b refl main_of_b_is_well_formed main_of_b_is_read,
    (
      read_as (body_of_three false 0 1 true 0 0 (slice_range codestream_of_b 90 180)) first_body_of_b refl first_body_of_b_is_well_formed first_body_of_b_is_read,
      (
        read_as (body_of_three false 0 2 true 12 1 (slice_range codestream_of_b 180 270)) second_body_of_b refl second_body_of_b_is_well_formed second_body_of_b_is_read,
        (
          read_as (body_of_three false 0 3 true 24 2 (slice_range codestream_of_b 270 360)) third_body_of_b refl third_body_of_b_is_well_formed third_body_of_b_is_read,
          (read_as (body_of_three true 0 4 false 0 0 (slice_range codestream_of_b 360 398)) last_body_of_b refl last_body_of_b_is_well_formed last_body_of_b_is_read, tt),
        ),
      ),
    ),
  );
  few = omega arith;
  one_source = ((refl, refl), ((refl, refl), ((refl, refl), ((refl, refl), ((refl, refl), tt)))));
  numbers = refl;
}

pub second_capture_is_a_stream : IsStream (codestream_of_b ∷ []) (main_of_b ∷ first_body_of_b ∷ second_body_of_b ∷ third_body_of_b ∷ last_body_of_b ∷ [])
unfolding main_header_of_three
second_capture_is_a_stream = (sent_of_three 0 0 ∷ [], second_capture (parts_are_of_three header_of_three_samples_spells order_of_three) (three_are_carried first_pid_of_three second_pid_of_three third_pid_of_three))
