-- An empty packet is read.
use Rattle.std.proofs.Common.{◌≡◌, ◌<◌, ◌/◌, ◌^◌, ◌%◌, ◌==◌, ℕ, Bool, false, List, [], ◌∷◌, refl, ◌∙◌, ap, inl, inr, arith}
use Rattle.std.proofs.lemmas.Bool.Decides.{eqb_tells}
use Rattle.std.proofs.lemmas.List.{append-nil}
use Rattle.codestream_model.specs.Values.{Grid}
use Rattle.codestream_model.specs.StuffedBits.{number_bits, carried_after, closing_after}
use Rattle.codestream_model.specs.PacketHeader.{SpellsHeader}
use Rattle.codestream_model.specs.PacketHeaderReading.{read_bits}
use Rattle.codestream_model.specs.PacketLaws.{EmptyPacketIsRead}
use Rattle.codestream_model.proofs.PackingLemmas.{bytes-cons, bytes-nil, stuffed-cons, stuffed-nil}
use Rattle.codestream_model.proofs.HeaderLemmas.{header_read_by}

-- a byte below 128 has 0 as its first bit
first_bit : (byte : ℕ) → byte < 128 → ((byte / 2 ^ 7) % 2 == 1) ≡ false
first_bit byte h =
    let e : byte / 128 ≡ 0 = omega arith in
    ap (λ (n : ℕ). (n % 2) == 1) e

-- and isn't FF
not_ff : (byte : ℕ) → byte < 128 → 0 ≡ closing_after byte
not_ff byte h = elim (eqb_tells byte 255) [ inl t ↦ absurd (omega (arith, t.1)) | inr t ↦ rw t.0 refl ]

-- so it is a header that says nothing
empty_header : (gs : List Grid) (byte : ℕ) → byte < 128 → SpellsHeader gs [] (byte ∷ [])
unfolding number_bits carried_after
empty_header gs byte h = record {
  bits = false ∷ [];
  is_header = inl (refl, refl);
  packs = record {
    front = [];
    last = byte;
    pad = number_bits 7 byte;
    closing = [];
    whole = refl;
    each = bytes-cons byte [] (omega arith) bytes-nil;
    stuffed = stuffed-cons byte [] (λ e. omega arith) stuffed-nil;
    filled = append-nil (number_bits 8 byte) ∙ ap (λ (b : Bool). b ∷ number_bits 7 byte) (first_bit byte h);
    needed = omega arith;
    closed = not_ff byte h;
  };
  short = omega arith;
}

-- and is read so
pub empty_packet : EmptyPacketIsRead
unfolding read_bits empty_header
empty_packet gs byte more h = (header_read_by gs [] (byte ∷ []) more (empty_header gs byte h) (λ rest. refl), empty_header gs byte h)
