-- Packets byte by byte: those of a codestream of one sample and of one of three samples in precincts of their own.
use Rattle.std.proofs.Common.{◌≡◌, ◌<◌, ◌≤◌, ℕ, Bool, true, false, List, [], ◌∷◌, ◌++◌, replicate, refl, sym, subst, inl, inr, arith}
use Rattle.codestream_model.specs.Values.{Head, Place, Grid}
use Rattle.codestream_model.specs.Bytes.{IsBytes}
use Rattle.codestream_model.specs.StuffedBits.{IsStuffed, Packs, number_bits, carried_after}
use Rattle.codestream_model.specs.TagTrees.{halvings, levels_from}
use Rattle.codestream_model.specs.PacketHeader.{SpellsHeader}
use Rattle.codestream_model.specs.MarkedHeader.{end_marker}
use Rattle.codestream_model.specs.Packet.{block_count, SpellsPacket}
use Rattle.codestream_model.specs.Codestream.{SpellsCodestream}
use Rattle.codestream_model.specs.MainHeader.{SpellsHead}
use Rattle.codestream_model.specs.Precincts.{grids}
use Rattle.codestream_model.specs.PacketOrder.{IsPacketOrder}
use Rattle.codestream_model.proofs.WorkedGeometry.{one_sample, three_samples}
use Rattle.codestream_model.proofs.WorkedPacketHeaders.{one_grid, block}
use Rattle.codestream_model.proofs.PackingLemmas.{bytes-cons, bytes-nil, stuffed-cons, stuffed-nil}
use Rattle.codestream_model.proofs.OneBlock.{one_block}

-- the precinct of this number of the lowest resolution
abbrev pub precinct : ℕ → Place
precinct k = record { c = 0; r = 0; k = k }

-- two bytes that aren't FF are stuffed
two_bytes : (a b : ℕ) → a < 255 → b < 255 → IsBytes (a ∷ b ∷ []) × IsStuffed (a ∷ b ∷ [])
two_bytes a b h t = (
  bytes-cons a (b ∷ []) (omega arith) (bytes-cons b [] (omega arith) bytes-nil),
  stuffed-cons a (b ∷ []) (λ e. omega arith) (stuffed-cons b [] (λ e. absurd (omega arith)) stuffed-nil),
)

-- the bits 1, 1, 001, 0, 0, 010 in the bytes C8 80
packs_one : Packs (true ∷ true ∷ false ∷ false ∷ true ∷ false ∷ false ∷ false ∷ true ∷ false ∷ []) (200 ∷ 128 ∷ [])
unfolding number_bits carried_after
packs_one =
    let t = two_bytes 200 128 (omega arith) (omega arith) in
    record {
      front = 200 ∷ [];
      last = 128;
      pad = replicate 6 false;
      closing = [];
      whole = refl;
      each = t.0;
      stuffed = t.1;
      filled = refl;
      needed = omega arith;
      closed = refl;
    }

-- C8 80 is the header of a code-block of 2 zero bit-planes, 1 pass and 2 bytes
pub header_of_one_block : SpellsHeader one_grid (block 2 1 2 0 ∷ []) (200 ∷ 128 ∷ [])
unfolding halvings levels_from number_bits
header_of_one_block = record {
  bits = true ∷ true ∷ false ∷ false ∷ true ∷ false ∷ false ∷ false ∷ true ∷ false ∷ [];
  is_header = inr (one_block 2 1 2 0 3 (true ∷ true ∷ false ∷ false ∷ true ∷ false ∷ false ∷ false ∷ true ∷ false ∷ [])
      (record { planes = omega arith; some_passes = omega arith; few_passes = omega arith; some_cleanup = omega arith; short_cleanup = omega arith; short_refine = omega arith; no_refine = λ e. refl })
      (record { least = omega arith; cleanup = omega arith; refine = λ e. omega arith; none = λ e. omega arith }) (omega arith) refl);
  packs = packs_one;
  short = omega arith;
}

-- the packet of one sample: C8 80, and the bytes AA BB
pub packet_of_one : SpellsPacket one_sample (precinct 0) (record { blocks = block 2 1 2 0 ∷ []; bytes = 170 ∷ 187 ∷ [] }) (200 ∷ 128 ∷ 170 ∷ 187 ∷ [])
packet_of_one = record {
  header = 200 ∷ 128 ∷ [];
  few_blocks = omega arith;
  is_header = record { header = 200 ∷ 128 ∷ []; is_header = header_of_one_block; whole = refl };
  segments = refl;
  whole = refl;
  short = omega arith;
}

-- the bits 1, 1, 1, 0, 11110, 1100100 in the bytes EF 64
packs_long : Packs (true ∷ true ∷ true ∷ false ∷ true ∷ true ∷ true ∷ true ∷ false ∷ true ∷ true ∷ false ∷ false ∷ true ∷ false ∷ false ∷ []) (239 ∷ 100 ∷ [])
unfolding number_bits carried_after
packs_long =
    let t = two_bytes 239 100 (omega arith) (omega arith) in
    record {
      front = 239 ∷ [];
      last = 100;
      pad = [];
      closing = [];
      whole = refl;
      each = t.0;
      stuffed = t.1;
      filled = refl;
      needed = omega arith;
      closed = refl;
    }

-- EF 64 is the header of a code-block of no zero bit-planes, 1 pass and 100 bytes
pub header_of_long_block : SpellsHeader one_grid (block 0 1 100 0 ∷ []) (239 ∷ 100 ∷ [])
unfolding halvings levels_from number_bits
header_of_long_block = record {
  bits = true ∷ true ∷ true ∷ false ∷ true ∷ true ∷ true ∷ true ∷ false ∷ true ∷ true ∷ false ∷ false ∷ true ∷ false ∷ false ∷ [];
  is_header = inr (one_block 0 1 100 0 7 (true ∷ true ∷ true ∷ false ∷ true ∷ true ∷ true ∷ true ∷ false ∷ true ∷ true ∷ false ∷ false ∷ true ∷ false ∷ false ∷ [])
      (record { planes = omega arith; some_passes = omega arith; few_passes = omega arith; some_cleanup = omega arith; short_cleanup = omega arith; short_refine = omega arith; no_refine = λ e. refl })
      (record { least = omega arith; cleanup = omega arith; refine = λ e. omega arith; none = λ e. omega arith }) (omega arith) refl);
  packs = packs_long;
  short = omega arith;
}

-- a packet of a precinct of one code-block: EF 64, and a hundred bytes that are all the same
long_packet : (h : Head) (p : Place) (byte : ℕ) → h.eph ≡ false → grids h p ≡ one_grid → SpellsPacket h p (record { blocks = block 0 1 100 0 ∷ []; bytes = replicate 100 byte }) (239 ∷ 100 ∷ replicate 100 byte)
long_packet h p byte no_eph e = record {
  header = 239 ∷ 100 ∷ [];
  few_blocks = let P : List Grid → Type 0 = λ gs. block_count gs ≤ 65536 in subst P (sym e) (omega arith);
  is_header = record {
    header = 239 ∷ 100 ∷ [];
    is_header = let P : List Grid → Type 0 = λ gs. SpellsHeader gs (block 0 1 100 0 ∷ []) (239 ∷ 100 ∷ []) in subst P (sym e) header_of_long_block;
    whole = let P : Bool → Type 0 = λ b. 239 ∷ 100 ∷ [] ≡ (239 ∷ 100 ∷ []) ++ end_marker b in subst P (sym no_eph) refl;
  };
  segments = refl;
  whole = refl;
  short = omega arith;
}

-- the packets of three samples, of bytes 11, 22 and 33
pub first_packet_of_three : SpellsPacket three_samples (precinct 0) (record { blocks = block 0 1 100 0 ∷ []; bytes = replicate 100 17 }) (239 ∷ 100 ∷ replicate 100 17)
first_packet_of_three = long_packet three_samples (precinct 0) 17 refl refl

pub second_packet_of_three : SpellsPacket three_samples (precinct 1) (record { blocks = block 0 1 100 0 ∷ []; bytes = replicate 100 34 }) (239 ∷ 100 ∷ replicate 100 34)
second_packet_of_three = long_packet three_samples (precinct 1) 34 refl refl

pub third_packet_of_three : SpellsPacket three_samples (precinct 2) (record { blocks = block 0 1 100 0 ∷ []; bytes = replicate 100 51 }) (239 ∷ 100 ∷ replicate 100 51)
third_packet_of_three = long_packet three_samples (precinct 2) 51 refl refl

-- these packets one after another
abbrev pub three_packets : List ℕ
three_packets = (239 ∷ 100 ∷ replicate 100 17) ++ ((239 ∷ 100 ∷ replicate 100 34) ++ ((239 ∷ 100 ∷ replicate 100 51) ++ []))

-- the codestream of three samples: its header, the three packets and EOC, if that is its header and these are its precincts
pub codestream_of_three : (head : List ℕ) → SpellsHead three_samples head → IsPacketOrder three_samples (precinct 0 ∷ precinct 1 ∷ precinct 2 ∷ [])
    → SpellsCodestream three_samples
    (record { blocks = block 0 1 100 0 ∷ []; bytes = replicate 100 17 } ∷ record { blocks = block 0 1 100 0 ∷ []; bytes = replicate 100 34 } ∷ record { blocks = block 0 1 100 0 ∷ []; bytes = replicate 100 51 } ∷ [])
    (head ++ (three_packets ++ 255 ∷ 217 ∷ []))
codestream_of_three head is order = record {
  head = head;
  places = precinct 0 ∷ precinct 1 ∷ precinct 2 ∷ [];
  packets = three_packets;
  is_head = is;
  order = order;
  are_packets = (
    239 ∷ 100 ∷ replicate 100 17,
    (239 ∷ 100 ∷ replicate 100 34) ++ ((239 ∷ 100 ∷ replicate 100 51) ++ []),
    first_packet_of_three,
    (
      239 ∷ 100 ∷ replicate 100 34,
      (239 ∷ 100 ∷ replicate 100 51) ++ [],
      second_packet_of_three,
      (239 ∷ 100 ∷ replicate 100 51, [], third_packet_of_three, refl, refl),
      refl,
    ),
    refl,
  );
  psot = inl refl;
  whole = refl;
}
