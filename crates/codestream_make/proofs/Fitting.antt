-- A packet header that our writer gives code-blocks, and which packets have it.
use Rattle.std.proofs.Common.{◌≡◌, ◌≤◌, ◌<◌, ◌+◌, ◌++◌, ℕ, Bool, true, false, List, [], ◌∷◌, length, refl, sym, ◌∙◌, ap, subst, arith, length-append, inl, inr}
use Rattle.std.specs.Prelude.{filter}
use Rattle.std.specs.List.{flat_map}
use Rattle.codestream_model.specs.Values.{Head, Place, Grid, Block}
use Rattle.codestream_model.specs.Precincts.{grids}
use Rattle.codestream_model.specs.TagTrees.{Seat, seats}
use Rattle.codestream_model.specs.PacketHeader.{HaveOwnBands, AreBlocks, is_included, SpellsHeader, written_bits, written_header}
use Rattle.codestream_model.specs.MarkedHeader.{SpellsMarkedHeader, written_marked_header, end_marker}
use Rattle.codestream_model.specs.Packet.{Content, HasFewBlocks, segment_bytes}
use Rattle.codestream_model.proofs.OwnBands.{own_bands}
use Rattle.codestream_model.proofs.WrittenLemmas.{written_is_header}
use Rattle.codestream_model.proofs.PackingLemmas.{packing_packs}
use Rattle.packet_header.specs.declared.fault.PutFault.{PutFault}
use Rattle.packet_header.specs.declared.fault.PutFault.TheVariants as put
use Rattle.codestream_make.specs.declared.fault.MakeFault.TheVariants as fault
use Rattle.codestream_make.specs.Faults.{of_put}
use Rattle.codestream_make.specs.HeaderLengths.{most_header}
use Rattle.codestream_make.specs.Making.{Fits}

length-marked : (gs : List Grid) (eph : Bool) (blocks : List Block) → length (written_marked_header gs eph blocks) ≡ length (written_header gs blocks) + length (end_marker eph)
length-marked gs eph blocks = length-append (written_header gs blocks) (end_marker eph)

is_short : (gs : List Grid) (eph : Bool) (blocks : List Block) → length (written_marked_header gs eph blocks) ≤ most_header eph → length (written_header gs blocks) ≤ 65536
is_short gs true blocks short = let n = length-marked gs true blocks in let two : length (end_marker true) ≡ 2 = refl in omega (arith, short, n, two)
is_short gs false blocks short = let n = length-marked gs false blocks in omega (arith, short, n)

some_bits : (gs : List Grid) (blocks : List Block) → 1 ≤ length (written_bits gs blocks)
some_bits gs [] = omega arith
some_bits gs (b ∷ more) = omega arith

-- A written header that isn't too long is one of the profile.
pub written_is_spelled : (gs : List Grid) (eph : Bool) (blocks : List Block) → HaveOwnBands gs → AreBlocks gs blocks
    → length (written_marked_header gs eph blocks) ≤ most_header eph → SpellsMarkedHeader gs eph blocks (written_marked_header gs eph blocks)
written_is_spelled gs eph blocks own are short = record {
  header = written_header gs blocks;
  is_header = record {
    bits = written_bits gs blocks;
    is_header = written_is_header gs blocks own are;
    packs = packing_packs (written_bits gs blocks) (some_bits gs blocks);
    short = is_short gs eph blocks short;
  };
  whole = refl;
}

none_included : (seats : List Seat) → [] ≡ filter (is_included []) seats
none_included [] = refl
none_included (s ∷ seats) = none_included seats

no_blocks : (gs : List Grid) → AreBlocks gs []
no_blocks gs = record { seated = none_included (flat_map seats gs); limits = tt }

-- What a header says are the code-blocks of a packet.
pub header_has_blocks : (gs : List Grid) (blocks : List Block) (bytes : List ℕ) → SpellsHeader gs blocks bytes → AreBlocks gs blocks
header_has_blocks gs blocks bytes s = elim s.is_header [
  | inl none ↦ subst (AreBlocks gs) (sym none.1) (no_blocks gs)
  | inr filled ↦ record { seated = filled.can_say.seated; limits = filled.limits }
]

-- The bytes before others that are the same.
same_front : (xs ys zs : List ℕ) → xs ++ zs ≡ ys ++ zs → xs ≡ ys
same_front [] [] zs e = refl
same_front [] (y ∷ ys) zs e = absurd (let n = ap (λ (l : List ℕ). length l) e in let m = length-append (y ∷ ys) zs in omega (arith, n, m))
same_front (x ∷ xs) [] zs e = absurd (let n = ap (λ (l : List ℕ). length l) e in let m = length-append (x ∷ xs) zs in omega (arith, n, m))
same_front (x ∷ xs) (y ∷ ys) zs e =
    let same : x ≡ y = cc in
    let rest : xs ++ zs ≡ ys ++ zs = cc in
    ap (λ (b : ℕ). b ∷ xs) same ∙ ap (λ (l : List ℕ). y ∷ l) (same_front xs ys zs rest)

-- The header of a packet that fits is the one that our writer gives.
pub fits_header : (h : Head) (p : Place) (x : Content) → Fits h p x → SpellsMarkedHeader (grids h p) h.eph x.blocks (written_marked_header (grids h p) h.eph x.blocks)
fits_header h p x f =
    let same : written_marked_header (grids h p) h.eph x.blocks ≡ f.header = same_front (written_marked_header (grids h p) h.eph x.blocks) f.header x.bytes f.whole in
    subst (SpellsMarkedHeader (grids h p) h.eph x.blocks) (sym same) f.is_header

pub fits_blocks : (h : Head) (p : Place) (x : Content) → Fits h p x → AreBlocks (grids h p) x.blocks
fits_blocks h p x f = header_has_blocks (grids h p) x.blocks f.is_header.header f.is_header.is_header

marked_is_short : (eph : Bool) (header marked : List ℕ) → length header ≤ 65536 → marked ≡ header ++ end_marker eph → length marked ≤ most_header eph
marked_is_short true header marked short is = let n = ap (λ (l : List ℕ). length l) is ∙ length-append header (end_marker true) in let two : length (end_marker true) ≡ 2 = refl in omega (arith, short, n, two)
marked_is_short false header marked short is = let n = ap (λ (l : List ℕ). length l) is ∙ length-append header (end_marker false) in omega (arith, short, n)

pub fits_short : (h : Head) (p : Place) (x : Content) → Fits h p x → length (written_marked_header (grids h p) h.eph x.blocks) ≤ most_header h.eph
fits_short h p x f =
    let s = fits_header h p x f in
    marked_is_short h.eph s.header (written_marked_header (grids h p) h.eph x.blocks) s.is_header.short s.whole

most_is : (eph : Bool) → most_header eph ≤ 65538
most_is true = omega arith
most_is false = omega arith

-- Why a header isn't written, if it isn't for memory: no packet that fits has these code-blocks.
pub content_cause : (h : Head) (p : Place) (blocks : List Block) (gs : List Grid) (eph : Bool) (room : ℕ) (e : PutFault) → gs ≡ grids h p → eph ≡ h.eph → room ≡ 65538
    → (e ≡ put.Blocks → AreBlocks gs blocks → ⊥)
    → (e ≡ put.Full → room < length (written_marked_header gs eph blocks))
    → fault.Content ≡ of_put e → (bytes : List ℕ) → Fits h p (record { blocks = blocks; bytes = bytes }) → ⊥
content_cause h p blocks gs eph room put.Full same marked size unblocked full is bytes f =
    let n = full refl in
    let m = fits_short h p (record { blocks = blocks; bytes = bytes }) f in
    let most = most_is h.eph in
    let e = ap (λ (l : List Grid). length (written_marked_header l eph blocks)) same ∙ ap (λ (b : Bool). length (written_marked_header (grids h p) b blocks)) marked in
    omega (arith, n, m, most, e, size)
content_cause h p blocks gs eph room put.Blocks same marked size unblocked full is bytes f =
    unblocked refl (subst (λ l. AreBlocks l blocks) (sym same) (fits_blocks h p (record { blocks = blocks; bytes = bytes }) f))
content_cause h p blocks gs eph room put.NoMemory same marked size unblocked full is bytes f = absurd (cc)

-- A header that is too long: no packet that fits has these code-blocks.
pub long_cause : (h : Head) (p : Place) (blocks : List Block) (gs : List Grid) (eph : Bool) (n : ℕ) → gs ≡ grids h p → eph ≡ h.eph
    → n ≡ length (written_marked_header gs eph blocks) → most_header eph < n → (bytes : List ℕ) → Fits h p (record { blocks = blocks; bytes = bytes }) → ⊥
long_cause h p blocks gs eph n same marked size long bytes f =
    let m = fits_short h p (record { blocks = blocks; bytes = bytes }) f in
    let e = ap (λ (l : List Grid). length (written_marked_header l eph blocks)) same ∙ ap (λ (b : Bool). length (written_marked_header (grids h p) b blocks)) marked in
    let k = ap (λ (b : Bool). most_header b) marked in
    omega (arith, m, e, k, size, long)

-- A header that isn't too long is that of a packet.
pub short_is_spelled : (h : Head) (p : Place) (blocks : List Block) (gs : List Grid) (eph : Bool) (n : ℕ) → gs ≡ grids h p → eph ≡ h.eph
    → AreBlocks gs blocks → n ≡ length (written_marked_header gs eph blocks) → n ≤ most_header eph
    → SpellsMarkedHeader (grids h p) h.eph blocks (written_marked_header (grids h p) h.eph blocks)
short_is_spelled h p blocks gs eph n same marked are size short =
    let e = ap (λ (l : List Grid). length (written_marked_header l eph blocks)) same ∙ ap (λ (b : Bool). length (written_marked_header (grids h p) b blocks)) marked in
    let k = ap (λ (b : Bool). most_header b) marked in
    written_is_spelled (grids h p) h.eph blocks (own_bands h p) (subst (λ l. AreBlocks l blocks) same are) (omega (arith, e, k, size, short))

-- A packet of which header and segments were judged.
pub fits_all : (h : Head) (p : Place) (blocks : List Block) (bytes : List ℕ) (n : ℕ) → HasFewBlocks h p
    → SpellsMarkedHeader (grids h p) h.eph blocks (written_marked_header (grids h p) h.eph blocks) → n ≡ length (written_marked_header (grids h p) h.eph blocks)
    → length bytes ≡ segment_bytes blocks → n + length bytes ≤ 16777216 → Fits h p (record { blocks = blocks; bytes = bytes })
fits_all h p blocks bytes n few spelled size segments short = record {
  header = written_marked_header (grids h p) h.eph blocks;
  few_blocks = few;
  is_header = spelled;
  segments = segments;
  whole = refl;
  short = (let m = length-append (written_marked_header (grids h p) h.eph blocks) bytes in omega (arith, m, size, short));
}
