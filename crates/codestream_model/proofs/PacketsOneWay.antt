-- Packets are read in one way.
use Rattle.std.proofs.Common.{◌≡◌, ℕ, List, [], ◌∷◌, ◌++◌, length, refl, sym, ◌∙◌, ap, append_assoc}
use Rattle.codestream_model.specs.PacketHeaderReading.{Done}
use Rattle.codestream_model.specs.MarkedHeader.{marked_header_of}
use Rattle.codestream_model.specs.Precincts.{grids}
use Rattle.codestream_model.specs.Packet.{segment_bytes}
use Rattle.codestream_model.specs.MarkedLaws.{MarkedHeadersAreReadOneWay}
use Rattle.codestream_model.specs.PacketLaws.{PacketsAreReadOneWay, PacketRunsAreReadOneWay}
use Rattle.codestream_model.proofs.Marked.{marked_read}
use Rattle.codestream_model.proofs.OneWayLemmas.{same_front, done_parts}
use Rattle.codestream_model.proofs.OwnBands.{own_bands}

-- headers with their EPH
pub one_marked : MarkedHeadersAreReadOneWay
one_marked gs eph blocks others header other more rest bands a b e =
    let r : Done (length header) blocks ≡ Done (length other) others =
    sym (marked_read gs eph blocks header more bands a) ∙ (ap (marked_header_of gs eph) e ∙ marked_read gs eph others other rest bands b) in
    let parts = done_parts (length header) (length other) blocks others r in
    ((same_front header other more rest parts.0 e).0, parts.1)

-- packets
pub one_packet : PacketsAreReadOneWay
one_packet h p x y packet other more rest a b e =
    let split : a.header ++ (x.bytes ++ more) ≡ b.header ++ (y.bytes ++ rest) =
    sym (append_assoc a.header x.bytes more) ∙ (ap (λ (l : List ℕ). l ++ more) (sym a.whole) ∙ (e ∙ (ap (λ (l : List ℕ). l ++ rest) b.whole ∙ append_assoc b.header y.bytes rest))) in
    let headers = one_marked (grids h p) h.eph x.blocks y.blocks a.header b.header (x.bytes ++ more) (y.bytes ++ rest) (own_bands h p) a.is_header b.is_header split in
    let behind = (same_front a.header b.header (x.bytes ++ more) (y.bytes ++ rest) (ap length headers.0) split).1 in
    let size : length x.bytes ≡ length y.bytes = a.segments ∙ (ap segment_bytes headers.1 ∙ sym b.segments) in
    let bytes : x.bytes ≡ y.bytes = (same_front x.bytes y.bytes more rest size behind).0 in
    let blocks : x.blocks ≡ y.blocks = headers.1 in
    (a.whole ∙ (ap (λ (l : List ℕ). l ++ x.bytes) headers.0 ∙ (ap (λ (l : List ℕ). b.header ++ l) bytes ∙ sym b.whole)), rw (blocks, bytes) refl)

-- runs of packets
pub one_run : PacketRunsAreReadOneWay
one_run h [] [] [] packets other more rest a b e = (a ∙ sym b, refl)
one_run h [] [] (y ∷ others) packets other more rest a b e = absurd b
one_run h [] (x ∷ content) others packets other more rest a b e = absurd a
one_run h (p ∷ places) [] others packets other more rest a b e = absurd a
one_run h (p ∷ places) (x ∷ content) [] packets other more rest a b e = absurd b
one_run h (p ∷ places) (x ∷ content) (y ∷ others) packets other more rest a b e =
    let split : a.0 ++ (a.1 ++ more) ≡ b.0 ++ (b.1 ++ rest) =
    sym (append_assoc a.0 a.1 more) ∙ (ap (λ (l : List ℕ). l ++ more) (sym a.4) ∙ (e ∙ (ap (λ (l : List ℕ). l ++ rest) b.4 ∙ append_assoc b.0 b.1 rest))) in
    let first = one_packet h p x y a.0 b.0 (a.1 ++ more) (b.1 ++ rest) a.2 b.2 split in
    let behind = (same_front a.0 b.0 (a.1 ++ more) (b.1 ++ rest) (ap length first.0) split).1 in
    let next = one_run h places content others a.1 b.1 more rest a.3 b.3 behind in
    let head : x ≡ y = first.1 in
    (a.4 ∙ (ap (λ (l : List ℕ). l ++ a.1) first.0 ∙ (ap (λ (l : List ℕ). b.0 ++ l) next.0 ∙ sym b.4)), rw (head, next.1) refl)
