-- What `parse` finds where a packet should be: a whole one exactly where the bytes begin with one.
use Rattle.std.proofs.Common.{◌≡◌, ◌≤◌, ◌+◌, ◌-◌, ℕ, Bool, true, false, List, [], ◌∷◌, ◌++◌, length, take, drop, nat_le, nat_lt, subst, refl, sym, ◌∙◌, ap, inl, inr, arith, append_assoc, if◌then◌else◌}
use Rattle.std.proofs.lemmas.Bool.{cases_lt, le-leb, lt-leb}
use Rattle.std.proofs.lemmas.List.{length-append, length-take, take_at, drop_at, take-append-drop}
use Rattle.codestream_model.specs.MarkedHeader.{marked_header_of}
use Rattle.codestream_model.proofs.Marked.{marked_read, marked_needs_read, marked_refusal_read, marked_needs_sound, marked_refusal_sound, marked_sound}
use Rattle.codestream_model.specs.Values.{Head, Place, Grid, Block}
use Rattle.codestream_model.specs.Bytes.{IsBytes}
use Rattle.codestream_model.specs.Precincts.{grids}
use Rattle.codestream_model.specs.PacketHeader.{HaveOwnBands}
use Rattle.codestream_model.specs.PacketHeaderReading.{HeaderReading, Done, Need, Bad}
use Rattle.codestream_model.specs.Packet.{Content, HasFewBlocks, block_count, segment_bytes, SpellsPacket, BeginsPacket, NeedsPacketBytes}
use Rattle.codestream_model.proofs.OwnBands.{own_bands}
use Rattle.stream_model.specs.Decoder.{Found, Whole, Part, Other, found_segments, found_header, found_packet}
use Rattle.codestream_model.specs.ItemLaws.{BeginsWithPacket}
use Rattle.stream_model.specs.ReceiverLaws.{FoundIs, FoundIsWhatStands}
use Rattle.stream_model.proofs.Found.{packet_has_bytes}

-- what is found in some bytes
pub found_some : (h : Head) (p : Place) (bytes : List ℕ) → 1 ≤ length bytes → found_packet h p bytes ≡ (if nat_lt 65536 (block_count (grids h p)) then Other else found_header bytes (marked_header_of (grids h p) h.eph bytes))
unfolding found_packet
found_some h p [] some = absurd (omega arith)
found_some h p (b ∷ bytes) some = refl

-- the parts of a packet at the front of bytes
packet_split : (h : Head) (p : Place) (x : Content) (packet rest : List ℕ) (s : SpellsPacket h p x packet) → packet ++ rest ≡ s.header ++ (x.bytes ++ rest)
packet_split h p x packet rest s = ap (λ (l : List ℕ). l ++ rest) s.whole ∙ append_assoc s.header x.bytes rest

-- a packet is found,
pub packet_found : (h : Head) (p : Place) (x : Content) (packet rest : List ℕ) (s : SpellsPacket h p x packet) → found_packet h p (packet ++ rest) ≡ Whole x.blocks (length s.header) (length packet)
packet_found h p x packet rest s =
    let some : 1 ≤ length (packet ++ rest) = omega (arith, packet_has_bytes h p x packet s, length-append packet rest) in
    let few : nat_lt 65536 (block_count (grids h p)) ≡ false = lt-leb 65537 (block_count (grids h p)) (omega (arith, s.few_blocks)) in
    let header : marked_header_of (grids h p) h.eph (packet ++ rest) ≡ Done (length s.header) x.blocks = ap (marked_header_of (grids h p) h.eph) (packet_split h p x packet rest s) ∙ marked_read (grids h p) h.eph x.blocks s.header (x.bytes ++ rest) (own_bands h p) s.is_header in
    let size : length s.header + segment_bytes x.blocks ≡ length packet = omega (arith, s.segments, ap length s.whole, length-append s.header x.bytes) in
    let short : nat_lt 16777216 (length packet) ≡ false = lt-leb 16777217 (length packet) (omega (arith, s.short)) in
    let there : nat_le (length packet) (length (packet ++ rest)) ≡ true = le-leb (length packet) (length (packet ++ rest)) (omega (arith, length-append packet rest)) in
    found_some h p (packet ++ rest) some
    ∙ (ap (λ (b : Bool). if b then Other else found_header (packet ++ rest) (marked_header_of (grids h p) h.eph (packet ++ rest))) few
    ∙ (ap (found_header (packet ++ rest)) header
    ∙ (ap (λ (n : ℕ). found_segments (packet ++ rest) x.blocks (length s.header) n) size
    ∙ rw (short, there) refl)))

-- its segments are taken, and the bytes after it are left
pub segments_taken : (h : Head) (p : Place) (x : Content) (packet rest : List ℕ) (s : SpellsPacket h p x packet)
    → (take (length packet - length s.header) (drop (length s.header) (packet ++ rest)) ≡ x.bytes) × (drop (length packet) (packet ++ rest) ≡ rest)
segments_taken h p x packet rest s =
    let behind : drop (length s.header) (packet ++ rest) ≡ x.bytes ++ rest = ap (drop (length s.header)) (packet_split h p x packet rest s) ∙ drop_at s.header (x.bytes ++ rest) (length s.header) refl in
    let size : length packet - length s.header ≡ length x.bytes = omega (arith, ap length s.whole, length-append s.header x.bytes) in (
      ap (λ (n : ℕ). take n (drop (length s.header) (packet ++ rest))) size ∙ (ap (take (length x.bytes)) behind ∙ take_at x.bytes rest (length x.bytes) refl),
      drop_at packet rest (length packet) refl,
    )

-- what is found by the answer to its header
found_by : (h : Head) (p : Place) (bytes : List ℕ) (r : HeaderReading) → 1 ≤ length bytes → HasFewBlocks h p → marked_header_of (grids h p) h.eph bytes ≡ r → found_packet h p bytes ≡ found_header bytes r
found_by h p bytes r some few e =
    let not_many : nat_lt 65536 (block_count (grids h p)) ≡ false = lt-leb 65537 (block_count (grids h p)) (omega (arith, few)) in
    found_some h p bytes some ∙ (ap (λ (b : Bool). if b then Other else found_header bytes (marked_header_of (grids h p) h.eph bytes)) not_many ∙ ap (found_header bytes) e)

-- bytes that begin with a header are read so
begun : (h : Head) (p : Place) (bytes header rest : List ℕ) (blocks : List Block) → BeginsPacket h p blocks header rest bytes → marked_header_of (grids h p) h.eph bytes ≡ Done (length header) blocks
begun h p bytes header rest blocks b = ap (marked_header_of (grids h p) h.eph) b.whole ∙ marked_read (grids h p) h.eph blocks header rest (own_bands h p) b.is_header

-- where there is less than a packet it is found,
part_found : (h : Head) (p : Place) (bytes : List ℕ) → 1 ≤ length bytes → NeedsPacketBytes h p bytes → found_packet h p bytes ≡ Part
part_found h p bytes some n = elim n.unfinished [
  | inl t ↦ found_by h p bytes Need some n.few_blocks (marked_needs_read (grids h p) h.eph bytes (own_bands h p) t)
  | inr t ↦
      let size = length t.header + segment_bytes t.blocks in
      let short : nat_lt 16777216 size ≡ false = lt-leb 16777217 size (omega (arith, t.fits)) in
      let lacks : nat_le size (length bytes) ≡ false = lt-leb size (length bytes) (omega (arith, t.lacks, ap length t.begins.whole, length-append t.header t.rest)) in
      found_by h p bytes (Done (length t.header) t.blocks) some n.few_blocks (begun h p bytes t.header t.rest t.blocks t.begins) ∙ rw (short, lacks) refl
]

-- and so is something else
other_found : (h : Head) (p : Place) (bytes : List ℕ) → FoundIs h p bytes Other → found_packet h p bytes ≡ Other
other_found h p bytes (some, inl many) =
    let too_many : nat_lt 65536 (block_count (grids h p)) ≡ true = le-leb 65537 (block_count (grids h p)) (omega arith) in
    found_some h p bytes some ∙ ap (λ (b : Bool). if b then Other else found_header bytes (marked_header_of (grids h p) h.eph bytes)) too_many
other_found h p bytes (some, inr (few, inl (why, r))) = found_by h p bytes (Bad why) some few (marked_refusal_read (grids h p) h.eph bytes why (own_bands h p) r)
other_found h p bytes (some, inr (few, inr t)) =
    let size = length t.header + segment_bytes t.blocks in
    let long : nat_lt 16777216 size ≡ true = le-leb 16777217 size (omega (arith, t.long)) in
    found_by h p bytes (Done (length t.header) t.blocks) some few (begun h p bytes t.header t.rest t.blocks t.begins) ∙ rw long refl

-- what is there is found
pub stands_found : (h : Head) (p : Place) (bytes : List ℕ) (f : Found) → FoundIs h p bytes f → found_packet h p bytes ≡ f
unfolding found_packet
stands_found h p bytes (Whole blocks header size) (x, packet, more, s, e, b, n, m) =
    ap (found_packet h p) e ∙ (packet_found h p x packet more s ∙ rw (b, n, m) refl)
stands_found h p bytes Part (inl none) = ap (found_packet h p) none
stands_found h p [] Part (inr n) = refl
stands_found h p (b ∷ bytes) Part (inr n) = part_found h p (b ∷ bytes) (omega arith) n
stands_found h p bytes Other t = other_found h p bytes t

-- what is after a header
segments_stand : (h : Head) (p : Place) (bytes : List ℕ) (used : ℕ) (own : List Block) → IsBytes bytes → 1 ≤ length bytes → HasFewBlocks h p → marked_header_of (grids h p) h.eph bytes ≡ Done used own → (f : Found) × FoundIs h p bytes f
segments_stand h p bytes used own fits some few done =
    let head = take used bytes in
    let behind = drop used bytes in
    let is_header = marked_sound (grids h p) h.eph bytes used own fits (own_bands h p) done in
    let split : bytes ≡ head ++ behind = sym (take-append-drop used bytes) in
    let begins : BeginsPacket h p own head behind bytes = record { few_blocks = few; is_header = is_header; whole = split } in
    elim (cases_lt 16777216 (length head + segment_bytes own)) [
      | inl long ↦ (Other, (some, inr (few, inr (record { blocks = own; header = head; rest = behind; begins = begins; long = long }))))
      | inr short ↦ elim (cases_lt (length behind) (segment_bytes own)) [
        | inl lacks ↦ (Part, inr (record { few_blocks = few; unfinished = inr (record { blocks = own; header = head; rest = behind; begins = begins; fits = short; lacks = lacks }) }))
        | inr there ↦
            let body = take (segment_bytes own) behind in
            let rest = drop (segment_bytes own) behind in
            let size : length body ≡ segment_bytes own = omega (arith, length-take (segment_bytes own) behind) in
            let whole : bytes ≡ (head ++ body) ++ rest = split ∙ (ap (λ (l : List ℕ). head ++ l) (sym (take-append-drop (segment_bytes own) behind)) ∙ sym (append_assoc head body rest)) in
            let x : Content = record { blocks = own; bytes = body } in
            let s : SpellsPacket h p x (head ++ body) = record { header = head; few_blocks = few; is_header = is_header; segments = size; whole = refl; short = omega (arith, size, length-append head body) } in
            (Whole own (length head) (length (head ++ body)), (x, head ++ body, rest, s, whole, refl, refl, refl))
      ]
    ]

-- what is there, by the answer to its header,
header_stands : (h : Head) (p : Place) (bytes : List ℕ) (r : HeaderReading) → IsBytes bytes → 1 ≤ length bytes → HasFewBlocks h p → marked_header_of (grids h p) h.eph bytes ≡ r → (f : Found) × FoundIs h p bytes f
header_stands h p bytes (Done used own) fits some few e = segments_stand h p bytes used own fits some few e
header_stands h p bytes Need fits some few e = (Part, inr (record { few_blocks = few; unfinished = inl (marked_needs_sound (grids h p) h.eph bytes fits (own_bands h p) e) }))
header_stands h p bytes (Bad why) fits some few e = (Other, (some, inr (few, inl (why, marked_refusal_sound (grids h p) h.eph bytes why fits (own_bands h p) e))))

-- and what is at all
what_stands : (h : Head) (p : Place) (bytes : List ℕ) → IsBytes bytes → (f : Found) × FoundIs h p bytes f
what_stands h p [] fits = (Part, inl refl)
what_stands h p (b ∷ bytes) fits = elim (cases_lt 65536 (block_count (grids h p))) [
  | inl many ↦ (Other, (omega arith, inl many))
  | inr few ↦ header_stands h p (b ∷ bytes) (marked_header_of (grids h p) h.eph (b ∷ bytes)) fits (omega arith) few refl
]

-- what is found is what is there
pub found_is : FoundIsWhatStands
found_is h p bytes f fits = (
  λ e.
      let w = what_stands h p bytes fits in
      let P : Found → Type 0 = λ g. FoundIs h p bytes g in
      subst P (sym (stands_found h p bytes w.0 w.1) ∙ e) w.1,
  λ is. stands_found h p bytes f is,
)

-- so a whole packet that is found is one
pub found_sound : (h : Head) (p : Place) (bytes : List ℕ) (blocks : List Block) (header size : ℕ) → IsBytes bytes → found_packet h p bytes ≡ Whole blocks header size → BeginsWithPacket h p bytes
found_sound h p bytes blocks header size fits e =
    let w = (found_is h p bytes (Whole blocks header size) fits).0 e in
    (w.0, w.1, w.2, w.3, w.4)
