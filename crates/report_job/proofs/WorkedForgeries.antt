-- Readings of two forged captures, written out, and precincts that are no reading of them.
use Rattle.std.proofs.Common.{◌≡◌, ◌==◌, ◌++◌, ℕ, Bool, true, false, List, [], ◌∷◌, take, drop, replicate, get_or, refl, sym, ◌∙◌, ap, inl, inr, arith, true≢false}
use Rattle.std.specs.List.{list_any}
use Rattle.std.proofs.lemmas.List.Folds.{list_any_at}
use Rattle.std.proofs.lemmas.Bool.{eq-eqb}
use Rattle.codestream_model.specs.Packet.{Content, SpellsPacket}
use Rattle.codestream_model.specs.StuffedBits.{number_bits, number_of, carried_after, sound_after, bytes_of_bits}
use Rattle.codestream_model.specs.TagTrees.{halvings, levels_from}
use Rattle.codestream_model.specs.PacketHeaderReading.{Done, header_of, read_bits}
use Rattle.codestream_model.proofs.OwnBands.{own_bands}
use Rattle.codestream_model.proofs.SoundLemmas.{header_sound}
use Rattle.codestream_model.proofs.WorkedGeometry.{three_samples}
use Rattle.codestream_model.proofs.WorkedPackets.{precinct, first_packet_of_three}
use Rattle.codestream_model.proofs.WorkedPacketHeaders.{one_grid, block}
use Rattle.codestream_model.proofs.WorkedRelations.{bytes_if_tested}
use Rattle.wire_model.specs.Datagram.{datagram_of}
use Rattle.wire_model.proofs.Captures.{main_of_b, first_body_of_b, second_body_of_b, third_body_of_b, last_body_of_b, codestream_of_b, main_header_of_three}
use Rattle.stream_model.specs.Report.{Precinct}
use Rattle.stream_model.specs.Reading.{IsAmong}
use Rattle.stream_model.specs.ReadingLaws.{IsRead}
use Rattle.stream_model.proofs.FrameReceivers.{frame_came}
use Rattle.stream_model.proofs.WorkedHeads.{header_of_three_samples_spells, order_of_three, first_pid_of_three, second_pid_of_three}
use Rattle.report_job.proofs.SaidBytes.{IsByteOf, said_bytes_came}

-- a precinct of the image of three samples, with this code-block or none
abbrev said : ℕ → Content → Precinct
said k x = record { stamp = 0; pid = k; place = precinct k; blocks = x.blocks; bytes = x.bytes }

-- nothing, and a code-block of a hundred bytes that are all the same
abbrev nothing : Content
nothing = record { blocks = []; bytes = [] }

abbrev hundred : ℕ → Content
hundred byte = record { blocks = block 0 1 100 0 ∷ []; bytes = replicate 100 byte }

-- the capture with POS 13 in the second Body, where 12 is right
abbrev body_with_mark_at_13 : List ℕ
body_with_mark_at_13 = take 16 second_body_of_b ++ (0 ∷ 208 ∷ []) ++ drop 18 second_body_of_b

abbrev pub with_mark_at_13 : List (List ℕ)
with_mark_at_13 = main_of_b ∷ first_body_of_b ∷ body_with_mark_at_13 ∷ third_body_of_b ∷ last_body_of_b ∷ []

-- the capture with PID 3 in the first Body, which no precinct has
abbrev body_with_pid_3 : List ℕ
body_with_pid_3 = take 19 first_body_of_b ++ 3 ∷ drop 20 first_body_of_b

abbrev pub with_pid_3 : List (List ℕ)
with_pid_3 = main_of_b ∷ body_with_pid_3 ∷ second_body_of_b ∷ third_body_of_b ∷ last_body_of_b ∷ []

-- the Main came in both
main_among : IsAmong with_mark_at_13 (datagram_of main_of_b)
unfolding main_of_b main_header_of_three
main_among = (frame_came with_mark_at_13 main_of_b (0, omega arith, refl) (bytes_if_tested main_of_b refl) refl).0

main_among_others : IsAmong with_pid_3 (datagram_of main_of_b)
unfolding main_of_b main_header_of_three
main_among_others = (frame_came with_pid_3 main_of_b (0, omega arith, refl) (bytes_if_tested main_of_b refl) refl).0

marked_among : IsAmong with_mark_at_13 (datagram_of body_with_mark_at_13)
unfolding second_body_of_b codestream_of_b main_header_of_three
marked_among = (frame_came with_mark_at_13 body_with_mark_at_13 (2, omega arith, refl) (bytes_if_tested body_with_mark_at_13 refl) refl).0

first_among : IsAmong with_pid_3 (datagram_of body_with_pid_3)
unfolding first_body_of_b codestream_of_b main_header_of_three
first_among = (frame_came with_pid_3 body_with_pid_3 (1, omega arith, refl) (bytes_if_tested body_with_pid_3 refl) refl).0

second_among : IsAmong with_pid_3 (datagram_of second_body_of_b)
unfolding second_body_of_b codestream_of_b main_header_of_three
second_among = (frame_came with_pid_3 second_body_of_b (2, omega arith, refl) (bytes_if_tested second_body_of_b refl) refl).0

-- the byte 100, whose first bit is 0, is an empty packet
empty_header_is_read : header_of one_grid (100 ∷ []) ≡ Done 1 []
unfolding header_of read_bits carried_after sound_after bytes_of_bits number_bits number_of halvings levels_from
empty_header_is_read = refl

empty_packet : SpellsPacket three_samples (precinct 1) nothing (100 ∷ [])
empty_packet = record {
  header = 100 ∷ [];
  few_blocks = omega arith;
  is_header = record {
    header = 100 ∷ [];
    is_header = header_sound one_grid (100 ∷ []) 1 [] (bytes_if_tested (100 ∷ []) refl) (own_bands three_samples (precinct 1)) empty_header_is_read;
    whole = refl;
  };
  segments = refl;
  whole = refl;
  short = omega arith;
}

-- at the forged mark the second precinct is read, and has no code-block
pub read_at_the_mark : IsRead with_mark_at_13 (said 1 nothing)
unfolding main_of_b second_body_of_b codestream_of_b main_header_of_three
read_at_the_mark = (
  record {
    main = datagram_of main_of_b;
    first = datagram_of body_with_mark_at_13;
    others = [];
    head = three_samples;
    before = precinct 0 ∷ [];
    start = precinct 1;
    places = [];
    after = precinct 2 ∷ [];
    said = [];
    at = 13;
    skipped = replicate 12 17 ++ 239 ∷ [];
    packets = 100 ∷ [];
    rest = replicate 76 34;
    main_came = main_among;
    is_main = tt;
    main_stamp = refl;
    is_head = header_of_three_samples_spells;
    each_came = (marked_among, tt);
    each_body = (tt, tt);
    each_stamp = (refl, tt);
    consecutive = (refl, tt);
    order = order_of_three;
    starts = inl (record { res = 7; eseq = 0; ordb = true; pos = 13; pid = 1 }, refl, refl, refl, sym second_pid_of_three);
    first_place = ([], refl);
    joined = refl;
    from = refl;
    are_packets = (100 ∷ [], [], empty_packet, refl, refl);
  },
  second_pid_of_three,
)

-- from the Main on the first precinct is read past the unknown PID, over two Bodies
pub read_from_the_main : IsRead with_pid_3 (said 0 (hundred 17))
unfolding main_of_b first_body_of_b second_body_of_b codestream_of_b main_header_of_three
read_from_the_main = (
  record {
    main = datagram_of main_of_b;
    first = datagram_of body_with_pid_3;
    others = datagram_of second_body_of_b ∷ [];
    head = three_samples;
    before = [];
    start = precinct 0;
    places = [];
    after = precinct 1 ∷ precinct 2 ∷ [];
    said = [];
    at = 0;
    skipped = [];
    packets = 239 ∷ 100 ∷ replicate 100 17;
    rest = 239 ∷ 100 ∷ replicate 76 34;
    main_came = main_among_others;
    is_main = tt;
    main_stamp = refl;
    is_head = header_of_three_samples_spells;
    each_came = (first_among, (second_among, tt));
    each_body = (tt, (tt, tt));
    each_stamp = (refl, (refl, tt));
    consecutive = (refl, (refl, tt));
    order = order_of_three;
    starts = inr (refl, refl, (precinct 1 ∷ precinct 2 ∷ [], refl));
    first_place = ([], refl);
    joined = refl;
    from = refl;
    are_packets = (239 ∷ 100 ∷ replicate 100 17, [], first_packet_of_three, refl, refl);
  },
  first_pid_of_three,
)

-- a byte that isn't in any frame
abbrev has_byte : ℕ → List ℕ → Bool
has_byte b f = list_any (λ y. y == b) f

not_there : (frames : List (List ℕ)) (b : ℕ) → list_any (has_byte b) frames ≡ false → IsByteOf frames b → ⊥
not_there frames b none (f, has, (i, lt, at)) =
    let inside : has_byte b f ≡ true = list_any_at (λ (y : ℕ). y == b) f i b lt (eq-eqb (get_or f i b) b at) in
    absurd (true≢false (sym (list_any_at (has_byte b) frames has.0 f has.1 (ap (has_byte b) has.2 ∙ inside)) ∙ none))

-- no datagram has a byte 68, so no reading says one, be it of PID 1 at the mark or of any other precinct
pub no_other_bytes : (k : ℕ) → IsRead with_mark_at_13 (said k (hundred 68)) → ⊥
unfolding main_of_b first_body_of_b second_body_of_b third_body_of_b last_body_of_b codestream_of_b main_header_of_three
no_other_bytes k (r, is) = not_there with_mark_at_13 68 refl (said_bytes_came with_mark_at_13 0 (precinct k) (hundred 68) 68 r (0, omega arith, refl))
