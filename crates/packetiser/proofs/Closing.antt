-- What a sender knows of the bytes in hand is all that they fix, where they fix no further item.
use Rattle.std.proofs.Common.{◌≡◌, ◌⊎◌, ◌<◌, ◌≤◌, ◌+◌, ℕ, false, List, [], ◌∷◌, ◌++◌, length, refl, sym, subst, ap, ◌∙◌, inl, inr, arith, append_assoc}
use Rattle.std.proofs.lemmas.List.{append-nil, length-append}
use Rattle.codestream_model.specs.Values.{Head, Place, Block}
use Rattle.codestream_model.specs.HeadRefusals.{Cut as HeadCut}
use Rattle.codestream_model.specs.RefusedHeader.{RefusesHead}
use Rattle.codestream_model.specs.Packet.{SpellsPacketHeader, BeginsPacket, LacksSegments}
use Rattle.codestream_model.specs.Codestream.{WalkRefusal, HeadRefused, Cut, TooManyBlocks, HeaderRefused, PacketTooLong, Psot, NoEoc, InputTooLong, TooManyFrames, joined, BeginsCodestream, RefusesPacket, RefusesCodestream, NeedsCodestreamBytes}
use Rattle.codestream_model.proofs.HeaderJudged.{header_is_not_refused}
use Rattle.codestream_model.proofs.PacketVerdicts.{step_many, step_refused, step_long, step_short}
use Rattle.codestream_model.proofs.CodestreamsJudged.{codestream_verdict}
use Rattle.stream_model.specs.Stream.{Parts}
use Rattle.stream_model.specs.Cut.{Piece, Known, IsOpened, Begins, HasNoCodestream, HasNoHead, IsNext}
use Rattle.stream_model.proofs.CodestreamParts.{packets_join}
use Rattle.stream_model.proofs.ClosedFound.{refused_opens, unfinished_opens}
use Rattle.stream_model.proofs.ClosedGrown.{nothing_next, each_is}
use Rattle.codestream_walk.specs.Items.{RefusesHeadItem}
use Rattle.codestream_walk.specs.Walking.{Stage, AtStart, AtNext, InBody, AtEnd, Walking, WantsIn, RefusesIn}
use Rattle.codestream_walk.specs.Inputs.{IsGiven, WereGiven}
use Rattle.codestream_walk.proofs.Refusals.{needs_codestream, in_codestream}
use Rattle.codestream_model.proofs.ItemsJudged.{packets_judged, eoc_judged}
use Rattle.stream_model.proofs.Found.{packet_has_bytes}
use Rattle.packetiser.proofs.CodestreamsGrow.{AreThere}
use Rattle.codestream_model.specs.MarkedHeader.{end_marker}
use Rattle.packetiser.specs.Knowing.{HasPackets, IsKnown, Knows}

-- what is known was given
begun : (h : Head) (later : List Place) (size : ℕ) (bytes header : List ℕ) (pieces : List Piece) → size ≡ length bytes → HasPackets h later bytes header pieces → BeginsCodestream h later size [] bytes
begun h later size bytes header pieces e b = record {
  head = header;
  before = b.before;
  content = b.content;
  packets = joined b.packets;
  is_head = b.is_head;
  order = b.order;
  are_packets = packets_join h b.before b.content b.packets b.are_packets;
  place = e ∙ (ap length b.whole ∙ length-append header (joined b.packets));
  whole = b.whole ∙ ap (λ (l : List ℕ). header ++ l) (sym (append-nil (joined b.packets)));
}

pub is_given : (stage : Stage) (front : List ℕ) (known : List Known) → IsKnown stage front known → IsGiven stage front
is_given AtStart front known k = k.0
is_given (AtNext h later size) front known (header, pieces, e, b, is) = begun h later size front header pieces e b
is_given (InBody h p blocks later size left) front known (header, pieces, e, b, is) = (
  e,
  record {
    at = length b.before;
    before = b.before;
    header = b.start;
    part = b.segments;
    begins = begun h (p ∷ later) (length b.before) b.before header b.earlier refl b.packets;
    few_blocks = b.few_blocks;
    is_header = b.is_header;
    some = b.some;
    segments = b.length_is;
    fits = b.fits;
    whole = b.whole;
  },
)
is_given AtEnd front known k = absurd k

-- so these bytes were given
pub knows_given : (consumed : List ℕ) (w : Walking) (parts : List Parts) (known : List Known) → Knows consumed w parts known → WereGiven consumed w
knows_given consumed w parts known k = record {
  codestreams = k.codestreams;
  front = k.front;
  whole = k.whole;
  each = each_is parts k.codestreams k.are_parts;
  count = k.count;
  few = k.few;
  room = k.room;
  offset = k.offset;
  given = is_given w.stage k.front known k.is_known;
}

-- no codestream stands whole at the front of bytes that are unfinished or refused
unfinished_none : (rest : List ℕ) → NeedsCodestreamBytes rest → HasNoCodestream rest
unfinished_none rest n codestream more c e = (codestream_verdict rest).not_unfinished (codestream, more, c, e) n

pub refused_none : (rest : List ℕ) (at : ℕ) (why : WalkRefusal) → RefusesCodestream rest at why → HasNoCodestream rest
refused_none rest at why r codestream more c e = (codestream_verdict rest).not_refused (codestream, more, c, e) at why r

no_head : (rest : List ℕ) (at : ℕ) (r : RefusesHead rest at HeadCut) → HasNoHead rest
no_head rest at r h header more s e = let P : List ℕ → Type 0 = λ l. RefusesHead l at HeadCut in header_is_not_refused h header more at HeadCut s (subst P e r)

pub refused_head : (rest : List ℕ) (at : ℕ) (why : WalkRefusal) → RefusesHeadItem rest at why → HasNoHead rest
refused_head rest at (HeadRefused why) r h header more s e = let P : List ℕ → Type 0 = λ l. RefusesHead l at why in header_is_not_refused h header more at why s (subst P e r.0)
refused_head rest at TooManyBlocks r h header more s e = absurd r
refused_head rest at (HeaderRefused why) r h header more s e = absurd r
refused_head rest at PacketTooLong r h header more s e = absurd r
refused_head rest at Cut r h header more s e = absurd r
refused_head rest at Psot r h header more s e = absurd r
refused_head rest at NoEoc r h header more s e = absurd r
refused_head rest at InputTooLong r h header more s e = absurd r
refused_head rest at TooManyFrames r h header more s e = absurd r

pub refused_packet : (h : Head) (p : Place) (later : List Place) (hand : List ℕ) (why : WalkRefusal) → RefusesPacket h p hand why → IsOpened h (p ∷ later) hand []
refused_packet h p later hand TooManyBlocks r = refused_opens h p later hand TooManyBlocks (step_many h p hand r)
refused_packet h p later hand (HeaderRefused why) r = refused_opens h p later hand (HeaderRefused why) (step_refused h p hand why r.0 r.1)
refused_packet h p later hand PacketTooLong r = refused_opens h p later hand PacketTooLong (step_long h p hand r)
refused_packet h p later hand (HeadRefused why) r = absurd r
refused_packet h p later hand Cut r = absurd r
refused_packet h p later hand Psot r = absurd r
refused_packet h p later hand NoEoc r = absurd r
refused_packet h p later hand InputTooLong r = absurd r
refused_packet h p later hand TooManyFrames r = absurd r

-- what is there of a codestream after its whole packets
opens_with : (h : Head) (later : List Place) (front hand header : List ℕ) (pieces opened : List Piece) (b : HasPackets h later front header pieces) → IsOpened h later hand opened → Begins (record { head = h; header = header; pieces = pieces ++ opened; ended = false }) (front ++ hand)
opens_with h later front hand header pieces opened b o = record {
  before = b.before;
  later = later;
  content = b.content;
  packets = b.packets;
  rest = hand;
  opened = opened;
  is_head = b.is_head;
  order = b.order;
  are_packets = b.are_packets;
  whole = ap (λ (l : List ℕ). l ++ hand) b.whole ∙ append_assoc header (joined b.packets) hand;
  is_opened = o;
  pieces = ap (λ l. l ++ opened) b.are_pieces;
  unended = refl;
}

next_known : (h : Head) (later : List Place) (n : ℕ) (front hand header : List ℕ) (pieces : List Piece) (known : List Known) → n < 65536 → HasNoCodestream (front ++ hand) → HasPackets h later front header pieces → IsOpened h later hand []
    → known ≡ record { head = h; header = header; pieces = pieces; ended = false } ∷ [] → IsNext n (front ++ hand) known
next_known h later n front hand header pieces known few none b o e =
    let K : List Piece → Known = λ l. record { head = h; header = header; pieces = l; ended = false } in
    inr (few, none, inl (K (pieces ++ []), opens_with h later front hand header pieces [] b o, e ∙ ap (λ l. K l ∷ []) (sym (append-nil pieces))))

-- the bytes in hand fix no item: more are wanted, or they are refused
abbrev pub IsStill : Stage → ℕ → List ℕ → Type 0
IsStill stage codestreams hand = WantsIn stage codestreams hand ⊎ ((at : ℕ) × (why : WalkRefusal) × RefusesIn stage codestreams hand at why)

nothing_at : (n : ℕ) (front hand : List ℕ) (known : List Known) → n ≤ 65536 → front ≡ [] → known ≡ [] → IsNext n hand [] → IsNext n (front ++ hand) known
nothing_at n front hand known few e f i =
    let P : List ℕ → Type 0 = λ l. IsNext n (l ++ hand) known in
    let Q : List Known → Type 0 = λ l. IsNext n hand l in
    subst P (sym e) (subst Q (sym f) i)

pub next_is : (stage : Stage) (n : ℕ) (front hand : List ℕ) (known : List Known) → n ≤ 65536 → (front ≡ []) ⊎ (n < 65536) →
    IsKnown stage front known → (2 ≤ length front) ⊎ (front ≡ []) → IsStill stage n hand → IsNext n (front ++ hand) known
next_is AtStart n front hand known few room k long (inl (inl none)) =
    let P : List ℕ → Type 0 = λ l. IsNext n l [] in nothing_at n front hand known few k.0 k.1 (subst P (sym none) (nothing_next n few))
next_is AtStart n front hand known few room k long (inl (inr (fewer, (at, r)))) =
    nothing_at n front hand known few k.0 k.1 (inr (fewer, unfinished_none hand (at, inl r), inr (no_head hand at r, refl)))
next_is AtStart n front hand known few room k long (inr (at, why, (some, inl r))) = nothing_at n front hand known few k.0 k.1 (inl (r.0, refl))
next_is AtStart n front hand known few room k long (inr (at, why, (some, inr r))) =
    let P : List ℕ → Type 0 = λ l. HasNoCodestream l in
    nothing_at n front hand known few k.0 k.1 (inr (r.0, subst P (append-nil hand) (refused_none (hand ++ []) (0 + at) why (in_codestream AtStart n [] hand [] at why r.0 refl (some, inr r))), inr (refused_head hand at why r.1, refl)))
next_is (AtNext h later size) n front hand known few (inl e) k (inl long) still = absurd (omega (arith, long, ap length e))
next_is (AtNext h later size) n front hand known few room k (inr e) still = absurd (omega (arith, ap length e, ap length k.3.whole, ap length k.3.is_head.whole, length-append k.0 (joined k.3.packets)))
next_is (AtNext h [] size) n front hand known few (inr fewer) (header, pieces, e, b, is) (inl long) (inl w) =
    next_known h [] n front hand header pieces known fewer (unfinished_none (front ++ hand) (needs_codestream (AtNext h [] size) n front hand (begun h [] size front header pieces e b) w (λ t. differ t.0))) b refl is
  where
    differ : AtNext h [] size ≡ AtStart → ⊥
    differ e = cc
next_is (AtNext h (p ∷ later) size) n front hand known few (inr fewer) (header, pieces, e, b, is) (inl long) (inl w) =
    next_known h (p ∷ later) n front hand header pieces known fewer (unfinished_none (front ++ hand) (needs_codestream (AtNext h (p ∷ later) size) n front hand (begun h (p ∷ later) size front header pieces e b) w (λ t. differ t.0))) b
    (unfinished_opens h p later hand w.1 (step_short h p hand (record { few_blocks = w.0; unfinished = inl w.1 }))) is
  where
    differ : AtNext h (p ∷ later) size ≡ AtStart → ⊥
    differ e = cc
next_is (AtNext h [] size) n front hand known few (inr fewer) (header, pieces, e, b, is) (inl long) (inr (at, why, r)) =
    let P : List ℕ → Type 0 = λ l. HasNoCodestream (front ++ l) in
    next_known h [] n front hand header pieces known fewer (subst P (append-nil hand) (refused_none (front ++ (hand ++ [])) (length front + at) why (in_codestream (AtNext h [] size) n front hand [] at why fewer (begun h [] size front header pieces e b) r))) b refl is
next_is (AtNext h (p ∷ later) size) n front hand known few (inr fewer) (header, pieces, e, b, is) (inl long) (inr (at, why, r)) =
    let P : List ℕ → Type 0 = λ l. HasNoCodestream (front ++ l) in
    next_known h (p ∷ later) n front hand header pieces known fewer (subst P (append-nil hand) (refused_none (front ++ (hand ++ [])) (length front + at) why (in_codestream (AtNext h (p ∷ later) size) n front hand [] at why fewer (begun h (p ∷ later) size front header pieces e b) r))) b
    (refused_packet h p later hand why r.0) is
next_is (InBody h p blocks later size left) n front hand known few (inl e) k (inl long) still = absurd (omega (arith, long, ap length e))
next_is (InBody h p blocks later size left) n front hand known few room k (inr e) still = absurd (omega (arith, ap length e, ap length k.3.whole, length-append k.3.before (k.3.start ++ k.3.segments), ap length k.3.packets.whole, ap length k.3.packets.is_head.whole, length-append k.0 (joined k.3.packets.packets)))
next_is (InBody h p blocks later size left) n front hand known few (inr fewer) (header, pieces, e, b, is) (inl long) (inr (at, why, r)) = absurd r
next_is (InBody h p blocks later size left) n front hand known few (inr fewer) (header, pieces, e, b, is) (inl long) (inl none) =
    let K : List Piece → Known = λ l. record { head = h; header = header; pieces = l; ended = false } in
    let opened : List Piece = record { place = p; bytes = b.start ++ b.segments } ∷ [] in
    let begins : BeginsPacket h p blocks b.start b.segments (b.start ++ b.segments) = record { few_blocks = b.few_blocks; is_header = b.is_header; whole = refl } in
    let lacks : LacksSegments h p (b.start ++ b.segments) = record { blocks = blocks; header = b.start; rest = b.segments; begins = begins; fits = b.fits; lacks = omega (arith, b.length_is, b.some) } in
    let g = is_given (InBody h p blocks later size left) front known (header, pieces, e, b, is) in
    let P : List ℕ → Type 0 = λ l. Begins (K (b.earlier ++ opened)) l in
    let all : front ++ hand ≡ b.before ++ (b.start ++ b.segments) = ap (λ (l : List ℕ). front ++ l) none ∙ (append-nil front ∙ b.whole) in
    inr (
      fewer,
      unfinished_none (front ++ hand) (needs_codestream (InBody h p blocks later size left) n front hand g none (λ t. differ t.0)),
      inl (K (b.earlier ++ opened), subst P (sym all) (opens_with h (p ∷ later) b.before (b.start ++ b.segments) header b.earlier opened b.packets (inl (lacks, refl))), is ∙ ap (λ l. K l ∷ []) b.are_pieces),
    )
  where
    differ : InBody h p blocks later size left ≡ AtStart → ⊥
    differ e = cc
next_is AtEnd n front hand known few room k long still = absurd k

-- a reader that has given bytes is at the start of a codestream, or has given a main header
long_or : (s : Stage) (front : List ℕ) (known : List Known) → IsKnown s front known → (2 ≤ length front) ⊎ (front ≡ [])
long_or AtStart front known k = inr k.0
long_or (AtNext h later size) front known k = inl (omega (arith, ap length k.3.whole, ap length k.3.is_head.whole, length-append k.0 (joined k.3.packets)))
long_or (InBody h p blocks later size left) front known k = inl (omega (arith, ap length k.3.whole, length-append k.3.before (k.3.start ++ k.3.segments), ap length k.3.packets.whole, ap length k.3.packets.is_head.whole, length-append k.0 (joined k.3.packets.packets)))
long_or AtEnd front known k = absurd k

-- what is known is all that is there of the bytes read
pub there_in_hand : (consumed : List ℕ) (w : Walking) (parts : List Parts) (known : List Known) (hand : List ℕ) → Knows consumed w parts known → IsStill w.stage w.codestreams hand → AreThere (consumed ++ hand) parts known
there_in_hand consumed w parts known hand k still = record {
  codestreams = k.codestreams;
  rest = k.front ++ hand;
  whole = ap (λ (l : List ℕ). l ++ hand) k.whole ∙ append_assoc (joined k.codestreams) k.front hand;
  are_parts = k.are_parts;
  few = omega (arith, k.count, k.few);
  is_next = (let N : ℕ → Type 0 = λ n. IsNext n (k.front ++ hand) known in subst N k.count (next_is w.stage w.codestreams k.front hand known k.few k.room k.is_known (long_or w.stage k.front known k.is_known) still));
}

-- a packet's header isn't empty
some_bytes : (xs : List ℕ) (y : ℕ) (ys : List ℕ) → 1 ≤ length (xs ++ y ∷ ys)
some_bytes xs y ys = omega (arith, length-append xs (y ∷ ys))

pub header_has_bytes : (h : Head) (p : Place) (blocks : List Block) (header : List ℕ) → SpellsPacketHeader h p blocks header → 1 ≤ length header
header_has_bytes h p blocks header s =
    let packs = s.is_header.packs in
    let P : List ℕ → Type 0 = λ ys. 1 ≤ length ys in
    let some : 1 ≤ length s.header = subst P (sym packs.whole) (some_bytes packs.front packs.last packs.closing) in
    omega (arith, some, ap length s.whole, length-append s.header (end_marker h.eph))

-- where a packet or EOC is next and nothing is in hand, more is wanted or an item is refused whatever follows
none_in_hand : (stage : Stage) (n : ℕ) (front : List ℕ) (known : List Known) → IsKnown stage front known → IsStill stage n []
none_in_hand AtStart n front known k = inl (inl refl)
none_in_hand (AtNext h [] size) n front known k = elim (eoc_judged h size []) [
  | inl t ↦ absurd (omega (arith, ap length t.1.1))
  | inr (inl (why, r)) ↦ inr (0, why, (r, refl))
  | inr (inr t) ↦ inl t
]
none_in_hand (AtNext h (p ∷ later) size) n front known k = elim (packets_judged h p [] (λ i. omega arith)) [
  | inl (x, packet, more, s, f) ↦ absurd (omega (arith, packet_has_bytes h p x packet s, ap length f, length-append packet more))
  | inr (inl (why, r)) ↦ inr (0, why, (r, refl))
  | inr (inr t) ↦ elim t.unfinished [
    | inl u ↦ inl (t.few_blocks, u)
    | inr u ↦ absurd (omega (arith, header_has_bytes h p u.blocks u.header u.begins.is_header, ap length u.begins.whole, length-append u.header u.rest))
  ]
]
none_in_hand (InBody h p blocks later size left) n front known k = inl refl
none_in_hand AtEnd n front known k = absurd k

-- so it is all that is there of the bytes given
pub there_so_far : (consumed : List ℕ) (w : Walking) (parts : List Parts) (known : List Known) → Knows consumed w parts known → AreThere consumed parts known
there_so_far consumed w parts known k =
    let P : List ℕ → Type 0 = λ l. AreThere l parts known in
    subst P (append-nil consumed) (there_in_hand consumed w parts known [] k (none_in_hand w.stage w.codestreams k.front known k.is_known))
