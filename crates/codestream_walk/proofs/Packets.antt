-- What bytes are where a packet or EOC should.
use Rattle.std.proofs.Common.{◌≡◌, ◌<◌, ◌≤◌, ◌+◌, ℕ, Bool, true, false, List, [], ◌∷◌, length, take, drop, slice_index, refl, sym, ap, subst, arith}
use Rattle.std.proofs.lemmas.List.{take-append-drop, length-take, length-append}
use Rattle.codestream_model.specs.Values.{Head, Place, Grid, Block}
use Rattle.codestream_model.specs.Precincts.{grids}
use Rattle.codestream_model.specs.MarkedHeader.{end_marker, SpellsMarkedHeader}
use Rattle.codestream_model.specs.Packet.{HasFewBlocks, segment_bytes, BeginsPacket, IsPacketTooLong}
use Rattle.codestream_model.specs.Codestream.{IsOther}
use Rattle.packet_header.specs.Answers.{why_of}
use Rattle.packet_header.specs.declared.refusal.HeaderWhy.{HeaderWhy}
use Rattle.packet_header.specs.declared.refusal.HeaderWhy.TheVariants as why
use Rattle.packet_header.specs.declared.refusal.HeaderOut.TheVariants.{Done}
use Rattle.codestream_walk.specs.Faults.{header_refusal}

pub why_back : (w : HeaderWhy) → w ≡ why_of (header_refusal w)
why_back why.Stuffed = refl
why_back why.Passes = refl
why_back why.LengthBits = refl
why_back why.CleanupShort = refl
why_back why.CleanupLong = refl
why_back why.RefineLong = refl
why_back why.ZeroPlanes = refl
why_back why.TooLong = refl
why_back why.NoEph = refl

pub used_by : (used n : ℕ) → Done used ≡ Done n → used ≡ n
used_by used n e = cc

pub within_bytes : (used : ℕ) (bytes : List ℕ) → used ≡ length (take used bytes) → used ≤ length bytes
within_bytes used bytes e = omega (arith, length-take used bytes)

-- EPH has two bytes
marker_size : (eph : Bool) → length (end_marker eph) ≤ 2
marker_size true = omega arith
marker_size false = omega arith

pub short_header : (gs : List Grid) (eph : Bool) (blocks : List Block) (used : ℕ) (bytes : List ℕ) → SpellsMarkedHeader gs eph blocks (take used bytes) → used ≡ length (take used bytes) → used ≤ 65538
short_header gs eph blocks used bytes s e = omega (arith, e, s.is_header.short, ap length s.whole, length-append s.header (end_marker eph), marker_size eph)

pub begins : (own : List Grid) (eph : Bool) (h : Head) (p : Place) (blocks : List Block) (used : ℕ) (bytes : List ℕ) → own ≡ grids h p → eph ≡ h.eph → HasFewBlocks h p → SpellsMarkedHeader own eph blocks (take used bytes) → BeginsPacket h p blocks (take used bytes) (drop used bytes) bytes
begins own eph h p blocks used bytes e f few s =
    let P : List Grid → Type 0 = λ x. SpellsMarkedHeader x eph blocks (take used bytes) in
    let Q : Bool → Type 0 = λ x. SpellsMarkedHeader (grids h p) x blocks (take used bytes) in
    record { few_blocks = few; is_header = subst Q f (subst P e s); whole = sym (take-append-drop used bytes) }

pub too_long : (h : Head) (p : Place) (blocks : List Block) (used : ℕ) (bytes : List ℕ) → BeginsPacket h p blocks (take used bytes) (drop used bytes) bytes → used ≡ length (take used bytes) → 16777216 < used + segment_bytes blocks → IsPacketTooLong h p bytes
too_long h p blocks used bytes b e long = record { blocks = blocks; header = take used bytes; rest = drop used bytes; begins = b; long = omega arith }

pub is_other : (bytes : List ℕ) → 2 ≤ length bytes → (slice_index bytes 0 ≡ 255 → slice_index bytes 1 ≡ 217 → ⊥) → IsOther bytes
is_other [] p d = absurd (omega arith)
is_other (a ∷ []) p d = absurd (omega arith)
is_other (a ∷ b ∷ more) p d = (a, b, more, refl, λ e. d e.0 e.1)
