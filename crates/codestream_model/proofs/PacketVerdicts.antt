-- The verdict on bytes where a packet should begin, computed.
use Rattle.std.proofs.Common.{◌≡◌, ◌<◌, ◌+◌, ℕ, Bool, true, false, List, ◌++◌, length, take, drop, nat_le, nat_lt, refl, sym, ◌∙◌, ap, inl, inr, arith, append_assoc, if◌then◌else◌}
use Rattle.std.proofs.lemmas.Bool.{cases_lt, le-leb, lt-leb}
use Rattle.std.proofs.lemmas.List.{length-append, length-take, take-append-drop}
use Rattle.codestream_model.specs.Values.{Head, Place, Block}
use Rattle.codestream_model.specs.Bytes.{IsBytes}
use Rattle.codestream_model.specs.Precincts.{grids}
use Rattle.codestream_model.specs.HeaderPieces.{HeaderRefusal}
use Rattle.codestream_model.specs.PacketHeaderReading.{HeaderReading, Done, Need, Bad}
use Rattle.codestream_model.specs.MarkedHeader.{RefusesMarkedHeader, marked_header_of}
use Rattle.codestream_model.specs.Packet.{Content, HasFewBlocks, block_count, segment_bytes, SpellsPacket, BeginsPacket, IsPacketTooLong, NeedsPacketBytes}
use Rattle.codestream_model.specs.Codestream.{WalkRefusal, TooManyBlocks, HeaderRefused, PacketTooLong}
use Rattle.codestream_model.proofs.Marked.{marked_read, marked_sound, marked_refusal_read, marked_refusal_sound, marked_needs_read, marked_needs_sound}
use Rattle.codestream_model.proofs.OwnBands.{own_bands}

-- a packet of n bytes is there, or it is refused, or more bytes are needed
pub data Step : Type 0 where
  Fits : ℕ → Step
  Faulty : WalkRefusal → Step
  Short : Step

-- by the size of the packet,
abbrev pub size_step : List ℕ → ℕ → Step
size_step bytes size = if nat_lt 16777216 size then Faulty PacketTooLong else if nat_le size (length bytes) then Fits size else Short

-- by its header,
abbrev pub header_step : List ℕ → HeaderReading → Step
header_step bytes (Done used blocks) = size_step bytes (used + segment_bytes blocks)
header_step bytes Need = Short
header_step bytes (Bad why) = Faulty (HeaderRefused why)

-- and by the number of its code-blocks
abbrev pub packet_step : Head → Place → List ℕ → Step
packet_step h p bytes = if nat_lt 65536 (block_count (grids h p)) then Faulty TooManyBlocks else header_step bytes (marked_header_of (grids h p) h.eph bytes)

-- with few code-blocks the header decides
by_header : (h : Head) (p : Place) (bytes : List ℕ) (r : HeaderReading) → HasFewBlocks h p → marked_header_of (grids h p) h.eph bytes ≡ r → packet_step h p bytes ≡ header_step bytes r
by_header h p bytes r few e =
    let not_many : nat_lt 65536 (block_count (grids h p)) ≡ false = lt-leb 65537 (block_count (grids h p)) (omega (arith, few)) in
    ap (λ (b : Bool). if b then Faulty TooManyBlocks else header_step bytes (marked_header_of (grids h p) h.eph bytes)) not_many ∙ ap (header_step bytes) e

-- bytes that begin with a header are read so
begun : (h : Head) (p : Place) (bytes header rest : List ℕ) (blocks : List Block) → BeginsPacket h p blocks header rest bytes → marked_header_of (grids h p) h.eph bytes ≡ Done (length header) blocks
begun h p bytes header rest blocks b = ap (marked_header_of (grids h p) h.eph) b.whole ∙ marked_read (grids h p) h.eph blocks header rest (own_bands h p) b.is_header

-- a packet fits
pub step_fits : (h : Head) (p : Place) (x : Content) (packet rest : List ℕ) → SpellsPacket h p x packet → packet_step h p (packet ++ rest) ≡ Fits (length packet)
step_fits h p x packet rest s =
    let split : packet ++ rest ≡ s.header ++ (x.bytes ++ rest) = ap (λ (l : List ℕ). l ++ rest) s.whole ∙ append_assoc s.header x.bytes rest in
    let header : marked_header_of (grids h p) h.eph (packet ++ rest) ≡ Done (length s.header) x.blocks =
    ap (marked_header_of (grids h p) h.eph) split ∙ marked_read (grids h p) h.eph x.blocks s.header (x.bytes ++ rest) (own_bands h p) s.is_header in
    let size : length s.header + segment_bytes x.blocks ≡ length packet = omega (arith, s.segments, ap length s.whole, length-append s.header x.bytes) in
    let short : nat_lt 16777216 (length packet) ≡ false = lt-leb 16777217 (length packet) (omega (arith, s.short)) in
    let there : nat_le (length packet) (length (packet ++ rest)) ≡ true = le-leb (length packet) (length (packet ++ rest)) (omega (arith, length-append packet rest)) in
    by_header h p (packet ++ rest) (Done (length s.header) x.blocks) s.few_blocks header
    ∙ (ap (size_step (packet ++ rest)) size ∙ rw (short, there) refl)

-- too many code-blocks
pub step_many : (h : Head) (p : Place) (bytes : List ℕ) → 65536 < block_count (grids h p) → packet_step h p bytes ≡ Faulty TooManyBlocks
step_many h p bytes many =
    let e : nat_lt 65536 (block_count (grids h p)) ≡ true = le-leb 65537 (block_count (grids h p)) (omega arith) in
    ap (λ (b : Bool). if b then Faulty TooManyBlocks else header_step bytes (marked_header_of (grids h p) h.eph bytes)) e

-- a refused header
pub step_refused : (h : Head) (p : Place) (bytes : List ℕ) (why : HeaderRefusal) → HasFewBlocks h p → RefusesMarkedHeader (grids h p) h.eph bytes why → packet_step h p bytes ≡ Faulty (HeaderRefused why)
step_refused h p bytes why few r = by_header h p bytes (Bad why) few (marked_refusal_read (grids h p) h.eph bytes why (own_bands h p) r)

-- a packet that would be too long
pub step_long : (h : Head) (p : Place) (bytes : List ℕ) → IsPacketTooLong h p bytes → packet_step h p bytes ≡ Faulty PacketTooLong
step_long h p bytes t =
    let size = length t.header + segment_bytes t.blocks in
    let long : nat_lt 16777216 size ≡ true = le-leb 16777217 size (omega (arith, t.long)) in
    by_header h p bytes (Done (length t.header) t.blocks) t.begins.few_blocks (begun h p bytes t.header t.rest t.blocks t.begins) ∙ rw long refl

-- bytes that end inside a packet
pub step_short : (h : Head) (p : Place) (bytes : List ℕ) → NeedsPacketBytes h p bytes → packet_step h p bytes ≡ Short
step_short h p bytes n = elim n.unfinished [
  | inl t ↦ by_header h p bytes Need n.few_blocks (marked_needs_read (grids h p) h.eph bytes (own_bands h p) t)
  | inr t ↦
      let size = length t.header + segment_bytes t.blocks in
      let short : nat_lt 16777216 size ≡ false = lt-leb 16777217 size (omega (arith, t.fits)) in
      let lacks : nat_le size (length bytes) ≡ false = lt-leb size (length bytes) (omega (arith, t.lacks, ap length t.begins.whole, length-append t.header t.rest)) in
      by_header h p bytes (Done (length t.header) t.blocks) n.few_blocks (begun h p bytes t.header t.rest t.blocks t.begins) ∙ rw (short, lacks) refl
]

-- What there is where a packet should begin: a packet; more code-blocks than a packet may have; a refused header; the header of a
-- packet that would be too long; or a prefix of a packet.
pub data Stands (h : Head) (p : Place) (bytes : List ℕ) : Type 0 where
  IsThere : (x : Content) → (packet : List ℕ) → (more : List ℕ) → SpellsPacket h p x packet → bytes ≡ packet ++ more → Stands h p bytes
  HasMany : 65536 < block_count (grids h p) → Stands h p bytes
  IsRefused : (why : HeaderRefusal) → HasFewBlocks h p → RefusesMarkedHeader (grids h p) h.eph bytes why → Stands h p bytes
  IsLong : IsPacketTooLong h p bytes → Stands h p bytes
  IsShort : NeedsPacketBytes h p bytes → Stands h p bytes

-- after a header
segments_stand : (h : Head) (p : Place) (bytes : List ℕ) (used : ℕ) (own : List Block) → IsBytes bytes → HasFewBlocks h p → marked_header_of (grids h p) h.eph bytes ≡ Done used own → Stands h p bytes
segments_stand h p bytes used own fits few done =
    let head = take used bytes in
    let behind = drop used bytes in
    let is_header = marked_sound (grids h p) h.eph bytes used own fits (own_bands h p) done in
    let split : bytes ≡ head ++ behind = sym (take-append-drop used bytes) in
    let begins : BeginsPacket h p own head behind bytes = record { few_blocks = few; is_header = is_header; whole = split } in
    elim (cases_lt 16777216 (length head + segment_bytes own)) [
      | inl long ↦ IsLong (record { blocks = own; header = head; rest = behind; begins = begins; long = long })
      | inr short ↦ elim (cases_lt (length behind) (segment_bytes own)) [
        | inl lacks ↦ IsShort (record { few_blocks = few; unfinished = inr (record { blocks = own; header = head; rest = behind; begins = begins; fits = short; lacks = lacks }) })
        | inr there ↦
            let body = take (segment_bytes own) behind in
            let rest = drop (segment_bytes own) behind in
            let size : length body ≡ segment_bytes own = omega (arith, length-take (segment_bytes own) behind) in
            let whole : bytes ≡ (head ++ body) ++ rest = split ∙ (ap (λ (l : List ℕ). head ++ l) (sym (take-append-drop (segment_bytes own) behind)) ∙ sym (append_assoc head body rest)) in
            let x : Content = record { blocks = own; bytes = body } in
            let s : SpellsPacket h p x (head ++ body) = record { header = head; few_blocks = few; is_header = is_header; segments = size; whole = refl; short = omega (arith, size, length-append head body) } in
            IsThere x (head ++ body) rest s whole
      ]
    ]

-- by the answer to the header
header_stands : (h : Head) (p : Place) (bytes : List ℕ) (r : HeaderReading) → IsBytes bytes → HasFewBlocks h p → marked_header_of (grids h p) h.eph bytes ≡ r → Stands h p bytes
header_stands h p bytes (Done used own) fits few e = segments_stand h p bytes used own fits few e
header_stands h p bytes Need fits few e = IsShort (record { few_blocks = few; unfinished = inl (marked_needs_sound (grids h p) h.eph bytes fits (own_bands h p) e) })
header_stands h p bytes (Bad why) fits few e = IsRefused why few (marked_refusal_sound (grids h p) h.eph bytes why fits (own_bands h p) e)

-- one of these is there
pub what_stands : (h : Head) (p : Place) (bytes : List ℕ) → IsBytes bytes → Stands h p bytes
what_stands h p bytes fits = elim (cases_lt 65536 (block_count (grids h p))) [
  | inl many ↦ HasMany many
  | inr few ↦ header_stands h p bytes (marked_header_of (grids h p) h.eph bytes) fits few refl
]
