-- What a sender knows grows by what a reader gives.
use Rattle.std.proofs.Common.{◌≡◌, ◌<◌, ◌≤◌, ◌+◌, ◌-◌, ◌==◌, ℕ, Bool, true, false, List, [], ◌∷◌, ◌++◌, length, Option, refl, sym, subst, ap, ◌∙◌, inl, inr, arith, append_assoc, if◌then◌else◌}
use Rattle.std.proofs.lemmas.List.{append-nil, length-append}
use Rattle.codestream_model.specs.Values.{Head, Place, Block}
use Rattle.codestream_model.specs.PacketOrder.{IsPacketOrder}
use Rattle.codestream_model.specs.Packet.{SpellsPacketHeader, Content, HasFewBlocks, segment_bytes, SpellsPacket}
use Rattle.codestream_model.specs.Codestream.{IsPsotRight, joined}
use Rattle.stream_model.specs.Stream.{Parts, ArePackets, ArePartsOf}
use Rattle.stream_model.specs.Cut.{Piece, Known, known_of, pieces_of}
use Rattle.stream_model.proofs.ClosedFound.{zip_push}
use Rattle.stream_model.proofs.CutBodies.{as_many}
use Rattle.stream_model.proofs.CutPayloads.{joined-append}
use Rattle.codestream_walk.specs.Walking.{Stage, AtStart, AtNext, InBody, Walking, Seen, stage_after, passing, GivesHead, GivesStart, GivesMore, GivesEoc}
use Rattle.codestream_walk.proofs.Inputs.{is_open}
use Rattle.packetiser.specs.Knowing.{HasPackets, IsKnown, Knows}
use Rattle.packetiser.specs.Filled.{part, whole}

-- the stages of readers
known_by : (s t : Stage) (front : List ℕ) (known : List Known) → s ≡ t → IsKnown s front known → IsKnown t front known
known_by s t front known e k = let P : Stage → Type 0 = λ x. IsKnown x front known in subst P e k

-- where these bytes are given and this is known by then
moved : (consumed : List ℕ) (w : Walking) (v : Seen) (parts : List Parts) (known now : List Known) (front rest : List ℕ) (stage : Stage) (t : Knows consumed w parts known) → v.walk ≡ passing w front rest stage → v.given ≡ front → w.codestreams < 65536 → IsKnown stage (t.front ++ front) now
    → Knows (consumed ++ v.given) v.walk parts now
moved consumed w v parts known now front rest stage t after given few is =
    let P : Walking → Type 0 = λ x. Knows (consumed ++ v.given) x parts now in
    let Q : List ℕ → Type 0 = λ l. Knows (consumed ++ l) (passing w front rest stage) parts now in
    let m : Knows (consumed ++ front) (passing w front rest stage) parts now = record {
      codestreams = t.codestreams;
      front = t.front ++ front;
      whole = ap (λ (l : List ℕ). l ++ front) t.whole ∙ append_assoc (joined t.codestreams) t.front front;
      are_parts = t.are_parts;
      count = t.count;
      few = t.few;
      room = inr few;
      offset = omega (arith, t.offset, length-append consumed front);
      is_known = is;
    } in
    subst P (sym after) (subst Q (sym given) m)

-- a main header
pub knows_head : (consumed : List ℕ) (w : Walking) (v : Seen) (parts : List Parts) (known : List Known) → Knows consumed w parts known → (g : GivesHead w v)
    → (known ≡ []) × Knows (consumed ++ v.given) v.walk parts (part g.head g.front [] ∷ [])
knows_head consumed w v parts known t g =
    let k = known_by w.stage AtStart t.front known g.stage t.is_known in
    let H : List ℕ → Type 0 = λ l. HasPackets g.head g.order (l ++ g.front) g.front [] in
    let h : HasPackets g.head g.order g.front g.front [] = record { before = []; content = []; packets = []; is_head = g.is_head; order = g.is_order; are_packets = tt; whole = sym (append-nil g.front); are_pieces = refl } in
    let size : length g.front ≡ length (t.front ++ g.front) = ap (λ (l : List ℕ). length (l ++ g.front)) (sym k.0) in
    (k.1, moved consumed w v parts known (part g.head g.front [] ∷ []) g.front g.rest (AtNext g.head g.order (length g.front)) t g.now g.given g.few (g.front, [], size, subst H (sym k.0) h, refl))

-- one packet more
packets_push : (h : Head) (places : List Place) (content : List Content) (packets : List (List ℕ)) (p : Place) (x : Content) (packet : List ℕ) → ArePackets h places content packets → SpellsPacket h p x packet → ArePackets h (places ++ p ∷ []) (content ++ x ∷ []) (packets ++ packet ∷ [])
packets_push h [] [] [] p x packet a s = (s, tt)
packets_push h [] [] (b ∷ packets) p x packet a s = absurd a
packets_push h [] (y ∷ content) packets p x packet a s = absurd a
packets_push h (q ∷ places) [] packets p x packet a s = absurd a
packets_push h (q ∷ places) (y ∷ content) [] p x packet a s = absurd a
packets_push h (q ∷ places) (y ∷ content) (b ∷ packets) p x packet a s = (a.0, packets_push h places content packets p x packet a.1 s)

pieces_push : (places : List Place) (packets : List (List ℕ)) (p : Place) (packet : List ℕ) → length places ≡ length packets → pieces_of (places ++ p ∷ []) (packets ++ packet ∷ []) ≡ pieces_of places packets ++ record { place = p; bytes = packet } ∷ []
pieces_push [] [] p packet e = refl
pieces_push [] (b ∷ packets) p packet e = absurd (omega arith)
pieces_push (q ∷ places) [] p packet e = absurd (omega arith)
pieces_push (q ∷ places) (b ∷ packets) p packet e = ap (λ l. record { place = q; bytes = b } ∷ l) (pieces_push places packets p packet (omega arith))

none_left : (k : ℕ) → (k == 0) ≡ true → k ≡ 0
none_left k e = grind arith

some_left : (k : ℕ) → (k == 0) ≡ false → 1 ≤ k
some_left k e = grind arith

-- the header of a packet and a part of its segments, or all of them
part_known : (t : Bool) (h : Head) (p : Place) (blocks : List Block) (later : List Place) (size left : ℕ) (before header start segments bytes : List ℕ) (earlier : List Piece) → (left == 0) ≡ t
    → HasPackets h (p ∷ later) before header earlier → HasFewBlocks h p → SpellsPacketHeader h p blocks start → length segments + left ≡ segment_bytes blocks → length start + segment_bytes blocks ≤ 16777216 → bytes ≡ before ++ (start ++ segments) → size ≡ length bytes
    → IsKnown (if t then AtNext h later size else InBody h p blocks later size left) bytes (part h header (earlier ++ record { place = p; bytes = start ++ segments } ∷ []) ∷ [])
part_known true h p blocks later size left before header start segments bytes earlier none b few is_header sum fits is size_is =
    let zero_left : left ≡ 0 = none_left left none in
    let x : Content = record { blocks = blocks; bytes = segments } in
    let packet : List ℕ = start ++ segments in
    let s : SpellsPacket h p x packet = record { header = start; few_blocks = few; is_header = is_header; segments = omega arith; whole = refl; short = omega (arith, length-append start segments) } in
    let O : List Place → Type 0 = λ l. IsPacketOrder h l in
    let all : joined (b.packets ++ packet ∷ []) ≡ joined b.packets ++ packet = joined-append b.packets (packet ∷ []) ∙ ap (λ (l : List ℕ). joined b.packets ++ l) (append-nil packet) in (
      header,
      earlier ++ record { place = p; bytes = packet } ∷ [],
      size_is,
      record {
        before = b.before ++ p ∷ [];
        content = b.content ++ x ∷ [];
        packets = b.packets ++ packet ∷ [];
        is_head = b.is_head;
        order = subst O (sym (append_assoc b.before (p ∷ []) later)) b.order;
        are_packets = packets_push h b.before b.content b.packets p x packet b.are_packets s;
        whole = is ∙ (ap (λ (l : List ℕ). l ++ packet) b.whole ∙ (append_assoc header (joined b.packets) packet ∙ ap (λ (l : List ℕ). header ++ l) (sym all)));
        are_pieces = ap (λ l. l ++ record { place = p; bytes = packet } ∷ []) b.are_pieces ∙ sym (pieces_push b.before b.packets p packet (as_many h b.before b.content b.packets b.are_packets));
      },
      refl,
    )
part_known false h p blocks later size left before header start segments bytes earlier some b few is_header sum fits is size_is = (
  header,
  earlier ++ record { place = p; bytes = start ++ segments } ∷ [],
  size_is,
  record { before = before; earlier = earlier; packets = b; start = start; segments = segments; few_blocks = few; is_header = is_header; some = some_left left some; length_is = sum; fits = fits; whole = is; are_pieces = refl },
  refl,
)

-- a packet's header
pub knows_start : (consumed : List ℕ) (w : Walking) (before : Option Head) (v : Seen) (parts : List Parts) (known : List Known) → Knows consumed w parts known → (g : GivesStart w before v)
    → (header : List ℕ) × (pieces : List Piece) × (known ≡ part g.head header pieces ∷ []) × Knows (consumed ++ v.given) v.walk parts (part g.head header (pieces ++ record { place = g.place; bytes = g.front } ∷ []) ∷ [])
knows_start consumed w before v parts known t g =
    let k = known_by w.stage (AtNext g.head (g.place ∷ g.later) g.size) t.front known g.stage t.is_known in
    let few = is_open t.front w.codestreams t.room (omega (arith, ap length k.3.whole, ap length k.3.is_head.whole, length-append k.0 (joined k.3.packets))) in
    let size : g.size + length g.front ≡ length (t.front ++ g.front) = omega (arith, k.2, length-append t.front g.front) in
    let stage : Stage = stage_after g.head g.place g.blocks g.later (g.size + length g.front) (segment_bytes g.blocks) in
    let I : List ℕ → Type 0 = λ l. IsKnown stage (t.front ++ g.front) (part g.head k.0 (k.1 ++ record { place = g.place; bytes = l } ∷ []) ∷ []) in
    let is : I (g.front ++ []) = part_known (segment_bytes g.blocks == 0) g.head g.place g.blocks g.later (g.size + length g.front) (segment_bytes g.blocks) t.front k.0 g.front [] (t.front ++ g.front) k.1 refl k.3 g.begins.few_blocks g.begins.is_header (omega arith) g.fits (ap (λ (l : List ℕ). t.front ++ l) (sym (append-nil g.front))) size in
    (k.0, k.1, k.4, moved consumed w v parts known (part g.head k.0 (k.1 ++ record { place = g.place; bytes = g.front } ∷ []) ∷ []) g.front g.rest stage t g.now g.given few (subst I (append-nil g.front) is))

-- more of its segments
pub knows_more : (consumed : List ℕ) (w : Walking) (before : Option Head) (v : Seen) (parts : List Parts) (known : List Known) → Knows consumed w parts known → (g : GivesMore w before v)
    → (header : List ℕ) × (earlier : List Piece) × (bytes : List ℕ) × (known ≡ part g.head header (earlier ++ record { place = g.place; bytes = bytes } ∷ []) ∷ [])
    × Knows (consumed ++ v.given) v.walk parts (part g.head header (earlier ++ record { place = g.place; bytes = bytes ++ g.front } ∷ []) ∷ [])
knows_more consumed w before v parts known t g =
    let k = known_by w.stage (InBody g.head g.place g.blocks g.later g.size g.left) t.front known g.stage t.is_known in
    let b = k.3 in
    let few = is_open t.front w.codestreams t.room (omega (arith, ap length b.whole, length-append b.before (b.start ++ b.segments), ap length b.packets.whole, ap length b.packets.is_head.whole, length-append k.0 (joined b.packets.packets))) in
    let size : g.size + length g.front ≡ length (t.front ++ g.front) = omega (arith, k.2, length-append t.front g.front) in
    let left : length (b.segments ++ g.front) + (g.left - length g.front) ≡ segment_bytes g.blocks = omega (arith, b.length_is, g.within, length-append b.segments g.front) in
    let all : t.front ++ g.front ≡ b.before ++ (b.start ++ (b.segments ++ g.front)) =
    ap (λ (l : List ℕ). l ++ g.front) b.whole ∙ (append_assoc b.before (b.start ++ b.segments) g.front ∙ ap (λ (l : List ℕ). b.before ++ l) (append_assoc b.start b.segments g.front)) in
    let stage : Stage = stage_after g.head g.place g.blocks g.later (g.size + length g.front) (g.left - length g.front) in
    let I : List ℕ → Type 0 = λ l. IsKnown stage (t.front ++ g.front) (part g.head k.0 (b.earlier ++ record { place = g.place; bytes = l } ∷ []) ∷ []) in
    let is : I (b.start ++ (b.segments ++ g.front)) = part_known (g.left - length g.front == 0) g.head g.place g.blocks g.later (g.size + length g.front) (g.left - length g.front) b.before k.0 b.start (b.segments ++ g.front) (t.front ++ g.front) b.earlier refl b.packets b.few_blocks b.is_header left b.fits all size in (
      k.0,
      b.earlier,
      b.start ++ b.segments,
      k.4 ∙ ap (λ l. part g.head k.0 l ∷ []) b.are_pieces,
      moved consumed w v parts known (part g.head k.0 (b.earlier ++ record { place = g.place; bytes = (b.start ++ b.segments) ++ g.front } ∷ []) ∷ []) g.front g.rest stage t g.now g.given few (subst I (sym (append_assoc b.start b.segments g.front)) is),
    )

-- and EOC
pub knows_eoc : (consumed : List ℕ) (w : Walking) (before : Option Head) (v : Seen) (parts : List Parts) (known : List Known) → Knows consumed w parts known → (g : GivesEoc w before v)
    → (header : List ℕ) × (pieces : List Piece) × (d : Parts) × (known ≡ part g.head header pieces ∷ []) × (known_of d ≡ whole g.head header pieces) × Knows (consumed ++ v.given) v.walk (parts ++ d ∷ []) []
knows_eoc consumed w before v parts known t g =
    let k = known_by w.stage (AtNext g.head [] g.size) t.front known g.stage t.is_known in
    let b = k.3 in
    let few = is_open t.front w.codestreams t.room (omega (arith, ap length b.whole, ap length b.is_head.whole, length-append k.0 (joined b.packets))) in
    let eoc = 255 ∷ 217 ∷ [] in
    let after = record (passing w eoc g.rest AtStart) { codestreams = w.codestreams + 1 } in
    let d : Parts = record { head = g.head; header = k.0; places = b.before; content = b.content; packets = b.packets } in
    let O : List Place → Type 0 = λ l. IsPacketOrder g.head l in
    let S : ℕ → Type 0 = λ n. IsPsotRight g.head n in
    let are : ArePartsOf d (t.front ++ eoc) = record {
      is_head = b.is_head;
      order = subst O (append-nil b.before) b.order;
      are_packets = b.are_packets;
      psot = subst S (k.2 ∙ (ap length b.whole ∙ length-append k.0 (joined b.packets))) g.psot;
      whole = ap (λ (l : List ℕ). l ++ eoc) b.whole ∙ append_assoc k.0 (joined b.packets) eoc;
    } in
    let P : Walking → Type 0 = λ x. Knows (consumed ++ v.given) x (parts ++ d ∷ []) [] in
    let Q : List ℕ → Type 0 = λ l. Knows (consumed ++ l) after (parts ++ d ∷ []) [] in
    let all : joined (t.codestreams ++ (t.front ++ eoc) ∷ []) ≡ joined t.codestreams ++ (t.front ++ eoc) = joined-append t.codestreams ((t.front ++ eoc) ∷ []) ∙ ap (λ (l : List ℕ). joined t.codestreams ++ l) (append-nil (t.front ++ eoc)) in
    let m : Knows (consumed ++ eoc) after (parts ++ d ∷ []) [] = record {
      codestreams = t.codestreams ++ (t.front ++ eoc) ∷ [];
      front = [];
      whole = ap (λ (l : List ℕ). l ++ eoc) t.whole ∙ (append_assoc (joined t.codestreams) t.front eoc ∙ (sym all ∙ sym (append-nil (joined (t.codestreams ++ (t.front ++ eoc) ∷ [])))));
      are_parts = zip_push parts t.codestreams d (t.front ++ eoc) t.are_parts are;
      count = omega (arith, t.count, length-append t.codestreams ((t.front ++ eoc) ∷ []));
      few = omega (arith, few);
      room = inl refl;
      offset = omega (arith, t.offset, length-append consumed eoc);
      is_known = (refl, refl);
    } in
    (k.0, k.1, d, k.4, ap (λ l. whole g.head k.0 l) (sym b.are_pieces), subst P (sym g.now) (subst Q (sym g.given) m))
