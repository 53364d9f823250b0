-- What is there of a codestream's packets is found, and so is its end.
use Rattle.std.proofs.Common.{◌≡◌, ◌⊎◌, ◌+◌, ◌-◌, ◌≤◌, ℕ, Bool, true, false, List, [], ◌∷◌, ◌++◌, length, take, drop, subst, refl, sym, ◌∙◌, ap, inl, inr, arith, append_assoc, if◌then◌else◌}
use Rattle.std.proofs.lemmas.List.{length-append, take_at, drop_at}
use Rattle.codestream_model.specs.Values.{Head, Place, Block}
use Rattle.codestream_model.specs.Bytes.{IsBytes}
use Rattle.codestream_model.specs.Precincts.{grids}
use Rattle.codestream_model.specs.PacketOrder.{pid}
use Rattle.codestream_model.specs.PacketHeaderReading.{Need}
use Rattle.codestream_model.specs.MarkedHeader.{marked_header_of}
use Rattle.codestream_model.specs.Packet.{Content, SpellsPacket}
use Rattle.codestream_model.specs.Codestream.{TooManyBlocks, HeaderRefused, PacketTooLong, IsPsotRight, joined}
use Rattle.codestream_model.proofs.Marked.{marked_read, marked_needs_read}
use Rattle.codestream_model.proofs.OwnBands.{own_bands}
use Rattle.codestream_model.proofs.TreeLemmas.{either}
use Rattle.codestream_model.proofs.PacketVerdicts.{IsThere, HasMany, IsRefused, IsLong, IsShort, what_stands, step_many, step_refused, step_long, step_short}
use Rattle.codestream_model.proofs.CodestreamsJudged.{bytes_back}
use Rattle.stream_model.specs.Decoder.{Whole, Part, Other, found_packet}
use Rattle.stream_model.specs.Commands.{Walked, stopped, is_end, with_precinct, walk}
use Rattle.stream_model.specs.Stream.{ArePackets}
use Rattle.stream_model.specs.Cut.{Piece, pieces_of, IsOpened}
use Rattle.stream_model.proofs.PacketsFound.{packet_found, stands_found}
use Rattle.stream_model.proofs.ParsedPackets.{end_there}
use Rattle.stream_model.proofs.ClosedFound.{refused_opens, unfinished_opens}
use Rattle.sender_model.specs.Closing.{opened_by, pieces_at}

-- a whole packet is passed,
pieces_whole : (h : Head) (p : Place) (places : List Place) (bytes : List ℕ) (blocks : List Block) (header size : ℕ) → found_packet h p bytes ≡ Whole blocks header size
    → pieces_at h (p ∷ places) bytes ≡ record { place = p; bytes = take size bytes } ∷ pieces_at h places (drop size bytes)
unfolding pieces_at
pieces_whole h p places bytes blocks header size e = rw (e, pieces_at) refl

-- of one that isn't whole there is what its header opens,
pieces_part : (h : Head) (p : Place) (places : List Place) (bytes : List ℕ) → found_packet h p bytes ≡ Part
    → pieces_at h (p ∷ places) bytes ≡ opened_by p bytes (marked_header_of (grids h p) h.eph bytes)
unfolding pieces_at
pieces_part h p places bytes e = rw (e, pieces_at) refl

-- and of anything else nothing
pieces_other : (h : Head) (p : Place) (places : List Place) (bytes : List ℕ) → found_packet h p bytes ≡ Other → pieces_at h (p ∷ places) bytes ≡ []
unfolding pieces_at
pieces_other h p places bytes e = rw (e, pieces_at) refl

-- a walk passes a whole packet
walk_passes : (h : Head) (stamp at : ℕ) (p : Place) (places : List Place) (bytes : List ℕ) (blocks : List Block) (header size : ℕ) → found_packet h p bytes ≡ Whole blocks header size
    → walk h stamp at (p ∷ places) bytes ≡ with_precinct (record { stamp = stamp; pid = pid h p; place = p; blocks = blocks; bytes = take (size - header) (drop header bytes) }) (walk h stamp (at + size) places (drop size bytes))
unfolding walk
walk_passes h stamp at p places bytes blocks header size e = rw (e, walk) refl

-- and stops where there is none
walk_part : (h : Head) (stamp at : ℕ) (p : Place) (places : List Place) (bytes : List ℕ) → found_packet h p bytes ≡ Part → walk h stamp at (p ∷ places) bytes ≡ stopped bytes
unfolding walk
walk_part h stamp at p places bytes e = rw (e, walk) refl

walk_other : (h : Head) (stamp at : ℕ) (p : Place) (places : List Place) (bytes : List ℕ) → found_packet h p bytes ≡ Other → walk h stamp at (p ∷ places) bytes ≡ stopped bytes
unfolding walk
walk_other h stamp at p places bytes e = rw (e, walk) refl

-- How a walk ended: with EOC after all packets, as Psot has it, or before that.
abbrev pub Ends : Head → ℕ → List Place → List Piece → List ℕ → Walked → Type 0
Ends h at later opened rest w =
    ((w.whole ≡ true) × (later ≡ []) × (opened ≡ []) × IsPsotRight h at × (rest ≡ 255 ∷ 217 ∷ w.rest)) ⊎ (w.whole ≡ false)

-- The packets at the front of bytes that are whole, what is there of the next, and how the walk over them ends.
pub record Opens (h : Head) (at : ℕ) (places : List Place) (bytes : List ℕ) : Type 0 where
  pub before : List Place
  pub later : List Place
  pub content : List Content
  pub packets : List (List ℕ)
  pub rest : List ℕ
  pub opened : List Piece
  pub order : places ≡ before ++ later
  pub are : ArePackets h before content packets
  pub whole : bytes ≡ joined packets ++ rest
  pub is_opened : IsOpened h later rest opened
  pub pieces : pieces_at h places bytes ≡ pieces_of before packets ++ opened
  pub ends : Ends h (at + length (joined packets)) later opened rest (walk h 0 at places bytes)

-- at the end of the packets
after_packets : (h : Head) (at : ℕ) (bytes : List ℕ) → Ends h (at + 0) [] [] bytes (walk h 0 at [] bytes)
unfolding walk
after_packets h at bytes = elim (either (is_end h at bytes)) [
  | inl t ↦
      let b = end_there h at bytes t in
      let P : ℕ → Type 0 = λ n. IsPsotRight h n in
      let same : at ≡ at + 0 = omega arith in
      let w : walk h 0 at [] bytes ≡ record { precincts = []; whole = true; rest = drop 2 bytes } =
      ap (λ (c : Bool). if c then record { precincts = []; whole = true; rest = drop 2 bytes } else stopped bytes) t in
      let left : drop 2 bytes ≡ b.1.0 = ap (drop 2) b.1.1 in
      inl (ap (λ (v : Walked). v.whole) w, refl, refl, subst P same b.0, b.1.1 ∙ ap (λ (l : List ℕ). 255 ∷ 217 ∷ l) (sym (ap (λ (v : Walked). v.rest) w ∙ left)))
  | inr t ↦ inr (ap (λ (c : Bool). (if c then record { precincts = []; whole = true; rest = drop 2 bytes } else stopped bytes).whole) t)
]

-- where no packet more is whole
stops_at : (h : Head) (at : ℕ) (p : Place) (places : List Place) (bytes : List ℕ) (opened : List Piece) → IsOpened h (p ∷ places) bytes opened → pieces_at h (p ∷ places) bytes ≡ opened → walk h 0 at (p ∷ places) bytes ≡ stopped bytes
    → Opens h at (p ∷ places) bytes
stops_at h at p places bytes opened o e w = record {
  before = [];
  later = p ∷ places;
  content = [];
  packets = [];
  rest = bytes;
  opened = opened;
  order = refl;
  are = tt;
  whole = refl;
  is_opened = o;
  pieces = e;
  ends = inr (ap (λ (v : Walked). v.whole) w);
}

-- no bytes begin no header
none_needed : (h : Head) (p : Place) → marked_header_of (grids h p) h.eph [] ≡ Need
none_needed h p = marked_needs_read (grids h p) h.eph [] (own_bands h p)
    (inl (record { wants = record { each = λ i. omega arith; stuffed = λ i e. omega arith; unfinished = inl refl }; short = omega arith }))

-- where a packet is refused
refused_stops : (h : Head) (at : ℕ) (p : Place) (places : List Place) (bytes : List ℕ) → IsOpened h (p ∷ places) bytes [] → (1 ≤ length bytes → found_packet h p bytes ≡ Other) → Opens h at (p ∷ places) bytes
unfolding found_packet
refused_stops h at p places [] o e = stops_at h at p places [] [] o (pieces_part h p places [] refl ∙ ap (opened_by p []) (none_needed h p)) (walk_part h 0 at p places [] refl)
refused_stops h at p places (b ∷ bytes) o e =
    let other = e (omega arith) in
    stops_at h at p places (b ∷ bytes) [] o (pieces_other h p places (b ∷ bytes) other) (walk_other h 0 at p places (b ∷ bytes) other)

-- where one more packet is whole
ends_behind : (h : Head) (n m : ℕ) (later : List Place) (opened : List Piece) (rest : List ℕ) (v w : Walked) → n ≡ m → w.whole ≡ v.whole → w.rest ≡ v.rest → Ends h n later opened rest v → Ends h m later opened rest w
ends_behind h n m later opened rest v w e f g (inl (a, b, c, d, k)) =
    let P : ℕ → Type 0 = λ i. IsPsotRight h i in
    inl (f ∙ a, b, c, subst P e d, k ∙ ap (λ (l : List ℕ). 255 ∷ 217 ∷ l) (sym g))
ends_behind h n m later opened rest v w e f g (inr a) = inr (f ∙ a)

-- a packet before those that are whole
one_more : (h : Head) (at : ℕ) (p : Place) (places : List Place) (bytes : List ℕ) (x : Content) (packet more : List ℕ) → SpellsPacket h p x packet → bytes ≡ packet ++ more → Opens h (at + length packet) places more
    → Opens h at (p ∷ places) bytes
one_more h at p places bytes x packet more s e r =
    let found : found_packet h p bytes ≡ Whole x.blocks (length s.header) (length packet) = ap (found_packet h p) e ∙ packet_found h p x packet more s in
    let taken : take (length packet) bytes ≡ packet = ap (take (length packet)) e ∙ take_at packet more (length packet) refl in
    let left : drop (length packet) bytes ≡ more = ap (drop (length packet)) e ∙ drop_at packet more (length packet) refl in
    let walked = walk_passes h 0 at p places bytes x.blocks (length s.header) (length packet) found in
    let size : (at + length packet) + length (joined r.packets) ≡ at + length (packet ++ joined r.packets) = omega (arith, length-append packet (joined r.packets)) in
    record {
      before = p ∷ r.before;
      later = r.later;
      content = x ∷ r.content;
      packets = packet ∷ r.packets;
      rest = r.rest;
      opened = r.opened;
      order = ap (λ l. p ∷ l) r.order;
      are = (s, r.are);
      whole = e ∙ (ap (λ (l : List ℕ). packet ++ l) r.whole ∙ sym (append_assoc packet (joined r.packets) r.rest));
      is_opened = r.is_opened;
      pieces = pieces_whole h p places bytes x.blocks (length s.header) (length packet) found ∙ rw (taken, left, r.pieces) refl;
      ends = ends_behind h ((at + length packet) + length (joined r.packets)) (at + length (packet ++ joined r.packets)) r.later r.opened r.rest (walk h 0 (at + length packet) places more) (walk h 0 at (p ∷ places) bytes) size
          (ap (λ (v : Walked). v.whole) walked ∙ ap (λ (l : List ℕ). (walk h 0 (at + length packet) places l).whole) left)
          (ap (λ (v : Walked). v.rest) walked ∙ ap (λ (l : List ℕ). (walk h 0 (at + length packet) places l).rest) left)
          r.ends;
    }

-- the packets of these precincts
pub opens : (h : Head) (at : ℕ) (places : List Place) (bytes : List ℕ) → IsBytes bytes → Opens h at places bytes
unfolding pieces_at
opens h at [] bytes fits = record {
  before = [];
  later = [];
  content = [];
  packets = [];
  rest = bytes;
  opened = [];
  order = refl;
  are = tt;
  whole = refl;
  is_opened = refl;
  pieces = refl;
  ends = after_packets h at bytes;
}
opens h at (p ∷ places) bytes fits = elim (what_stands h p bytes fits) [
  | IsThere x packet more s e ↦
      let P : List ℕ → Type 0 = λ l. IsBytes l in
      one_more h at p places bytes x packet more s e (opens h (at + length packet) places more (bytes_back packet more (subst P e fits)))
  | HasMany many ↦ refused_stops h at p places bytes (refused_opens h p places bytes TooManyBlocks (step_many h p bytes many)) (λ some. stands_found h p bytes Other (some, inl many))
  | IsRefused why few t ↦ refused_stops h at p places bytes (refused_opens h p places bytes (HeaderRefused why) (step_refused h p bytes why few t)) (λ some. stands_found h p bytes Other (some, inr (few, inl (why, t))))
  | IsLong t ↦ refused_stops h at p places bytes (refused_opens h p places bytes PacketTooLong (step_long h p bytes t)) (λ some. stands_found h p bytes Other (some, inr (t.begins.few_blocks, inr t)))
  | IsShort n ↦ elim n.unfinished [
    | inl t ↦ stops_at h at p places bytes [] (unfinished_opens h p places bytes t (step_short h p bytes n))
        (pieces_part h p places bytes (stands_found h p bytes Part (inr n)) ∙ ap (opened_by p bytes) (marked_needs_read (grids h p) h.eph bytes (own_bands h p) t)) (walk_part h 0 at p places bytes (stands_found h p bytes Part (inr n)))
    | inr t ↦ stops_at h at p places bytes (record { place = p; bytes = bytes } ∷ []) (inl (t, refl))
        (pieces_part h p places bytes (stands_found h p bytes Part (inr n)) ∙ ap (opened_by p bytes) (ap (marked_header_of (grids h p) h.eph) t.begins.whole ∙ marked_read (grids h p) h.eph t.blocks t.header t.rest (own_bands h p) t.begins.is_header))
        (walk_part h 0 at p places bytes (stands_found h p bytes Part (inr n)))
  ]
]

-- the packets of a whole codestream are its pieces
pub packets_are_pieces : (h : Head) (places : List Place) (content : List Content) (packets : List (List ℕ)) (rest : List ℕ) → ArePackets h places content packets → pieces_at h places (joined packets ++ rest) ≡ pieces_of places packets
unfolding pieces_at
packets_are_pieces h [] [] [] rest a = refl
packets_are_pieces h [] [] (b ∷ packets) rest a = absurd a
packets_are_pieces h [] (x ∷ content) packets rest a = absurd a
packets_are_pieces h (p ∷ places) [] packets rest a = absurd a
packets_are_pieces h (p ∷ places) (x ∷ content) [] rest a = absurd a
packets_are_pieces h (p ∷ places) (x ∷ content) (b ∷ packets) rest a =
    let more = joined packets ++ rest in
    let s = a.0 in
    let taken : take (length b) (b ++ more) ≡ b = take_at b more (length b) refl in
    let left : drop (length b) (b ++ more) ≡ more = drop_at b more (length b) refl in
    ap (pieces_at h (p ∷ places)) (append_assoc b (joined packets) rest)
    ∙ (pieces_whole h p places (b ++ more) x.blocks (length s.header) (length b) (packet_found h p x b more s)
    ∙ rw (taken, left, packets_are_pieces h places content packets rest a.1) refl)
