-- Bytes that are no header of one code-block: why, or that more are needed.
use Rattle.std.proofs.Common.{◌<◌, ℕ, true, false, [], ◌∷◌, ◌++◌, replicate, refl, inl, inr, arith}
use Rattle.codestream_model.specs.Bytes.{IsBytes}
use Rattle.codestream_model.specs.StuffedBits.{IsStuffed, number_bits, carried_after}
use Rattle.codestream_model.specs.TagTrees.{halvings, levels_from}
use Rattle.codestream_model.specs.HeaderPieces.{Stuffed, Passes, CleanupShort, InclusionPiece, PlanesPiece, PassesPiece, LblockPiece, CleanupPiece, RefinePiece}
use Rattle.codestream_model.specs.PacketHeader.{WantsMore, NeedsHeaderBytes, RefusesHeader}
use Rattle.codestream_model.proofs.PackingLemmas.{bytes-cons, bytes-nil, stuffed-cons, stuffed-nil}
use Rattle.codestream_model.proofs.WorkedPacketHeaders.{one_grid, block}
use Rattle.codestream_model.proofs.OneBlock.{one_choice, one_can_say, one_block}

-- one byte that isn't FF is stuffed
one_byte : (a : ℕ) → a < 255 → IsBytes (a ∷ []) × IsStuffed (a ∷ [])
one_byte a h = (bytes-cons a [] (omega arith) bytes-nil, stuffed-cons a [] (λ e. absurd (omega arith)) stuffed-nil)

-- FA has the bits 1, 1, 1, 1101: no zero bit-planes, and four passes
pub four_passes_are_refused : RefusesHeader one_grid (250 ∷ []) Passes
unfolding halvings levels_from number_bits carried_after
four_passes_are_refused = record {
  front = 250 ∷ [];
  back = [];
  whole = refl;
  short = omega arith;
  each = (one_byte 250 (omega arith)).0;
  stuffed = (one_byte 250 (omega arith)).1;
  fault = record {
    blocks = block 0 4 0 0 ∷ [];
    choices = one_choice 0 3;
    can_say = one_can_say 0 4 0 0 3 (omega arith) (omega arith) (record { least = omega arith; cleanup = omega arith; refine = λ e. omega arith; none = λ e. omega arith });
    before = InclusionPiece true ∷ PlanesPiece (record { from = 0; to = 0 }) ∷ [];
    piece = PassesPiece 4;
    after = LblockPiece 3 ∷ CleanupPiece 3 0 ∷ RefinePiece 4 0 ∷ [];
    pieces = refl;
    sound = (refl, (refl, tt));
    fault = refl;
    rest = false ∷ [];
    whole = refl;
  };
}

-- E1 has the bits 1, 1, 1, 0, 0, 001: one pass, Lblock 3, and a cleanup length of 1
pub a_short_cleanup_is_refused : RefusesHeader one_grid (225 ∷ []) CleanupShort
unfolding halvings levels_from number_bits carried_after
a_short_cleanup_is_refused = record {
  front = 225 ∷ [];
  back = [];
  whole = refl;
  short = omega arith;
  each = (one_byte 225 (omega arith)).0;
  stuffed = (one_byte 225 (omega arith)).1;
  fault = record {
    blocks = block 0 1 1 0 ∷ [];
    choices = one_choice 0 3;
    can_say = one_can_say 0 1 1 0 3 (omega arith) (omega arith) (record { least = omega arith; cleanup = omega arith; refine = λ e. omega arith; none = λ e. omega arith });
    before = InclusionPiece true ∷ PlanesPiece (record { from = 0; to = 0 }) ∷ PassesPiece 1 ∷ LblockPiece 3 ∷ [];
    piece = CleanupPiece 3 1;
    after = [];
    pieces = refl;
    sound = (refl, (refl, (refl, (refl, tt))));
    fault = refl;
    rest = [];
    whole = refl;
  };
}

-- EF FF has the bits 1, 1, 1, 0 and twelve ones of Lblock
wants_more : WantsMore one_grid (239 ∷ 255 ∷ [])
unfolding halvings levels_from number_bits carried_after
wants_more = record {
  each = bytes-cons 239 (255 ∷ []) (omega arith) (bytes-cons 255 [] (omega arith) bytes-nil);
  stuffed = stuffed-cons 239 (255 ∷ []) (λ e. absurd (omega arith)) (stuffed-cons 255 [] (λ e. omega arith) stuffed-nil);
  unfinished = inr (inl (record {
    blocks = block 0 1 2 0 ∷ [];
    choices = one_choice 0 15;
    can_say = one_can_say 0 1 2 0 15 (omega arith) (omega arith) (record { least = omega arith; cleanup = omega arith; refine = λ e. omega arith; none = λ e. omega arith });
    before = InclusionPiece true ∷ PlanesPiece (record { from = 0; to = 0 }) ∷ PassesPiece 1 ∷ [];
    piece = LblockPiece 15;
    after = CleanupPiece 15 2 ∷ [];
    pieces = refl;
    sound = (refl, (refl, (refl, tt)));
    part = replicate 12 true;
    rest = false ∷ [];
    undecided = refl;
    more = omega arith;
    whole = refl;
  }));
}

-- so it needs a byte,
pub an_unfinished_header_needs_bytes : NeedsHeaderBytes one_grid (239 ∷ 255 ∷ [])
an_unfinished_header_needs_bytes = record { wants = wants_more; short = omega arith }

-- and a byte with a top bit 1 breaks the stuffing
pub a_top_bit_after_ff_is_refused : RefusesHeader one_grid (239 ∷ 255 ∷ 128 ∷ []) Stuffed
a_top_bit_after_ff_is_refused = record {
  front = 239 ∷ [];
  byte = 128;
  back = [];
  whole = refl;
  high = omega arith;
  short = omega arith;
  wants = wants_more;
}

-- EF F0 FF has all bits of a header, 1, 1, 1, 0, 111111110, 00011111111, and lacks the byte that closes it
wants_closing : WantsMore one_grid (239 ∷ 240 ∷ 255 ∷ [])
unfolding halvings levels_from number_bits carried_after
wants_closing = record {
  each = bytes-cons 239 (240 ∷ 255 ∷ []) (omega arith) (bytes-cons 240 (255 ∷ []) (omega arith) (bytes-cons 255 [] (omega arith) bytes-nil));
  stuffed = stuffed-cons 239 (240 ∷ 255 ∷ []) (λ e. absurd (omega arith)) (stuffed-cons 240 (255 ∷ []) (λ e. absurd (omega arith)) (stuffed-cons 255 [] (λ e. omega arith) stuffed-nil));
  unfinished = inr (inr (record {
    blocks = block 0 1 255 0 ∷ [];
    bits = true ∷ true ∷ true ∷ false ∷ replicate 8 true ++ replicate 4 false ++ replicate 8 true;
    is_header = inr (one_block 0 1 255 0 11 (true ∷ true ∷ true ∷ false ∷ replicate 8 true ++ replicate 4 false ++ replicate 8 true)
        (record { planes = omega arith; some_passes = omega arith; few_passes = omega arith; some_cleanup = omega arith; short_cleanup = omega arith; short_refine = omega arith; no_refine = λ e. refl })
        (record { least = omega arith; cleanup = omega arith; refine = λ e. omega arith; none = λ e. omega arith }) (omega arith) refl);
    front = 239 ∷ 240 ∷ [];
    pad = [];
    whole = refl;
    filled = refl;
    needed = omega arith;
  }));
}

-- so it needs it,
pub an_unclosed_header_needs_a_byte : NeedsHeaderBytes one_grid (239 ∷ 240 ∷ 255 ∷ [])
an_unclosed_header_needs_a_byte = record { wants = wants_closing; short = omega arith }

-- and a byte with a top bit 1 breaks the stuffing
pub a_top_bit_that_closes_is_refused : RefusesHeader one_grid (239 ∷ 240 ∷ 255 ∷ 128 ∷ []) Stuffed
a_top_bit_that_closes_is_refused = record {
  front = 239 ∷ 240 ∷ [];
  byte = 128;
  back = [];
  whole = refl;
  high = omega arith;
  short = omega arith;
  wants = wants_closing;
}
