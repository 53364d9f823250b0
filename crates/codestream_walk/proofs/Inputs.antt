-- What a reader gave, and what follows.
use Rattle.std.proofs.Common.{◌≡◌, ◌<◌, ◌≤◌, ◌⊎◌, ◌+◌, ◌-◌, ◌==◌, ℕ, Bool, true, false, List, [], ◌∷◌, ◌++◌, length, Option, refl, sym, subst, ◌∙◌, ap, inl, inr, arith, append_assoc, if◌then◌else◌}
use Rattle.std.proofs.lemmas.List.{append-nil, length-append}
use Rattle.std.proofs.lemmas.Grind.{flat_map-append}
use Rattle.codestream_model.specs.Values.{Head, Place, Block}
use Rattle.codestream_model.specs.MainHeader.{SpellsHead}
use Rattle.codestream_model.specs.PacketOrder.{IsPacketOrder}
use Rattle.codestream_model.specs.Packet.{SpellsPacketHeader, Content, HasFewBlocks, segment_bytes, SpellsPacket}
use Rattle.codestream_model.specs.Codestream.{SpellsPackets, IsPsotRight, IsCodestream, joined, BeginsCodestream}
use Rattle.codestream_model.proofs.HeaderSteps.{each_append}
use Rattle.codestream_walk.specs.Walking.{Stage, AtStart, AtNext, InBody, Walking, Seen, stage_after, passing, GivesHead, GivesStart, GivesMore, GivesEoc}
use Rattle.codestream_walk.specs.Inputs.{BeginsBody, IsGiven, WereGiven, PiecesAddUp}
use Rattle.codestream_walk.specs.declared.fault.PieceOut.TheVariants as out

-- one more packet
packets_push : (h : Head) (places : List Place) (content : List Content) (packets : List ℕ) (p : Place) (x : Content) (packet : List ℕ) → SpellsPackets h places content packets → SpellsPacket h p x packet
    → SpellsPackets h (places ++ p ∷ []) (content ++ x ∷ []) (packets ++ packet)
packets_push h [] [] packets p x packet s t = (packet, [], t, refl, ap (λ (l : List ℕ). l ++ packet) s ∙ sym (append-nil packet))
packets_push h [] (y ∷ content) packets p x packet s t = absurd s
packets_push h (q ∷ places) [] packets p x packet s t = absurd s
packets_push h (q ∷ places) (y ∷ content) packets p x packet (front, back, first, more, e) t =
    (front, back ++ packet, first, packets_push h places content back p x packet more t, ap (λ (l : List ℕ). l ++ packet) e ∙ append_assoc front back packet)

-- after a whole packet
pub begun_further : (h : Head) (p : Place) (later : List Place) (at : ℕ) (front : List ℕ) (x : Content) (packet : List ℕ) → BeginsCodestream h (p ∷ later) at [] front → SpellsPacket h p x packet → BeginsCodestream h later (at + length packet) [] (front ++ packet)
begun_further h p later at front x packet b s =
    let P : List Place → Type 0 = λ l. IsPacketOrder h l in
    let whole : front ≡ b.head ++ b.packets = b.whole ∙ ap (λ (l : List ℕ). b.head ++ l) (append-nil b.packets) in
    record {
      head = b.head;
      before = b.before ++ p ∷ [];
      content = b.content ++ x ∷ [];
      packets = b.packets ++ packet;
      is_head = b.is_head;
      order = subst P (sym (append_assoc b.before (p ∷ []) later)) b.order;
      are_packets = packets_push h b.before b.content b.packets p x packet b.are_packets s;
      place = omega (arith, b.place, length-append b.packets packet);
      whole = ap (λ (l : List ℕ). l ++ packet) whole ∙ (append_assoc b.head b.packets packet ∙ ap (λ (l : List ℕ). b.head ++ l) (sym (append-nil (b.packets ++ packet))));
    }

-- what follows the bytes that were given
abbrev pub begun_more : (h : Head) (later : List Place) (at : ℕ) (front rest : List ℕ) → BeginsCodestream h later at [] front → BeginsCodestream h later at rest (front ++ rest)
begun_more h later at front rest b =
    let whole : front ≡ b.head ++ b.packets = b.whole ∙ ap (λ (l : List ℕ). b.head ++ l) (append-nil b.packets) in
    record {
      head = b.head;
      before = b.before;
      content = b.content;
      packets = b.packets;
      is_head = b.is_head;
      order = b.order;
      are_packets = b.are_packets;
      place = b.place;
      whole = ap (λ (l : List ℕ). l ++ rest) whole ∙ append_assoc b.head b.packets rest;
    }

-- as many bytes as are given
pub begun_size : (h : Head) (later : List Place) (at : ℕ) (front : List ℕ) → BeginsCodestream h later at [] front → at ≡ length front
begun_size h later at front b = omega (arith, b.place, ap length b.whole, length-append b.head (b.packets ++ []), length-append b.packets [])

-- a main header alone
abbrev pub begun_head : (h : Head) (order : List Place) (front : List ℕ) → SpellsHead h front → IsPacketOrder h order → BeginsCodestream h order (length front) [] front
begun_head h order front s o = record { head = front; before = []; content = []; packets = []; is_head = s; order = o; are_packets = refl; place = omega arith; whole = sym (append-nil front) }

none_left : (k : ℕ) → (k == 0) ≡ true → k ≡ 0
none_left k e = grind arith

some_left : (k : ℕ) → (k == 0) ≡ false → 1 ≤ k
some_left k e = grind arith

-- a header and a part of its segments
pub body_given : (t : Bool) (h : Head) (p : Place) (blocks : List Block) (later : List Place) (at size left : ℕ) (before header part bytes : List ℕ) → (left == 0) ≡ t
    → BeginsCodestream h (p ∷ later) at [] before → HasFewBlocks h p → SpellsPacketHeader h p blocks header → length part + left ≡ segment_bytes blocks → length header + segment_bytes blocks ≤ 16777216 → bytes ≡ before ++ (header ++ part) → size ≡ length bytes
    → IsGiven (if t then AtNext h later size else InBody h p blocks later size left) bytes
body_given true h p blocks later at size left before header part bytes none b few is_header segments fits whole size_is =
    let zero_left : left ≡ 0 = none_left left none in
    let x : Content = record { blocks = blocks; bytes = part } in
    let s : SpellsPacket h p x (header ++ part) = record { header = header; few_blocks = few; is_header = is_header; segments = omega arith; whole = refl; short = omega (arith, length-append header part) } in
    let P : ℕ → Type 0 = λ n. BeginsCodestream h later n [] bytes in
    let Q : List ℕ → Type 0 = λ l. BeginsCodestream h later (at + length (header ++ part)) [] l in
    let place : at + length (header ++ part) ≡ size = omega (arith, begun_size h (p ∷ later) at before b, ap length whole, length-append before (header ++ part)) in
    subst P place (subst Q (sym whole) (begun_further h p later at before x (header ++ part) b s))
body_given false h p blocks later at size left before header part bytes some b few is_header segments fits whole size_is =
    (size_is, record { at = at; before = before; header = header; part = part; begins = b; few_blocks = few; is_header = is_header; some = some_left left some; segments = segments; fits = fits; whole = whole })

-- a codestream to its end
pub ended : (h : Head) (size : ℕ) (front : List ℕ) → BeginsCodestream h [] size [] front → IsPsotRight h size → IsCodestream (front ++ 255 ∷ 217 ∷ [])
ended h size front b psot =
    let P : List Place → Type 0 = λ l. IsPacketOrder h l in
    let Q : ℕ → Type 0 = λ n. IsPsotRight h n in
    let whole : front ≡ b.head ++ b.packets = b.whole ∙ ap (λ (l : List ℕ). b.head ++ l) (append-nil b.packets) in
    (h, b.content, record { head = b.head; places = b.before; packets = b.packets; is_head = b.is_head; order = subst P (append-nil b.before) b.order; are_packets = b.are_packets; psot = subst Q b.place psot; whole = ap (λ (l : List ℕ). l ++ 255 ∷ 217 ∷ []) whole ∙ append_assoc b.head b.packets (255 ∷ 217 ∷ []) })

-- the stages of readers
stage_by : (s t : Stage) (front : List ℕ) → s ≡ t → IsGiven s front → IsGiven t front
stage_by s t front e g = let P : Stage → Type 0 = λ x. IsGiven x front in subst P e g

-- where these bytes are given and this is given of the codestream by then
given_more : (consumed : List ℕ) (w : Walking) (v : Seen) (front rest : List ℕ) (stage : Stage) (t : WereGiven consumed w) → v.walk ≡ passing w front rest stage → v.given ≡ front → w.codestreams < 65536 → IsGiven stage (t.front ++ front) → WereGiven (consumed ++ v.given) v.walk
given_more consumed w v front rest stage t now given few is =
    let P : Walking → Type 0 = λ x. WereGiven (consumed ++ v.given) x in
    let Q : List ℕ → Type 0 = λ l. WereGiven (consumed ++ l) (passing w front rest stage) in
    let moved : WereGiven (consumed ++ front) (passing w front rest stage) = record {
      codestreams = t.codestreams;
      front = t.front ++ front;
      whole = ap (λ (l : List ℕ). l ++ front) t.whole ∙ append_assoc (joined t.codestreams) t.front front;
      each = t.each;
      count = t.count;
      few = t.few;
      room = inr few;
      offset = omega (arith, t.offset, length-append consumed front);
      given = is;
    } in
    subst P (sym now) (subst Q (sym given) moved)

-- a main header isn't empty, nor is what was given where one was
head_long : (h : Head) (b : List ℕ) → SpellsHead h b → 2 ≤ length b
head_long h b s = omega (arith, ap length s.whole)

pub begun_long : (h : Head) (later : List Place) (at : ℕ) (front : List ℕ) → BeginsCodestream h later at [] front → 2 ≤ length front
begun_long h later at front b = omega (arith, head_long h b.head b.is_head, ap length b.whole, length-append b.head (b.packets ++ []))

pub body_long : (h : Head) (p : Place) (blocks : List Block) (later : List Place) (left : ℕ) (front : List ℕ) → BeginsBody h p blocks later left front → 2 ≤ length front
body_long h p blocks later left front b = omega (arith, begun_long h (p ∷ later) b.at b.before b.begins, ap length b.whole, length-append b.before (b.header ++ b.part))

pub is_open : (front : List ℕ) (codestreams : ℕ) → (front ≡ []) ⊎ (codestreams < 65536) → 2 ≤ length front → codestreams < 65536
is_open front codestreams (inl e) long = absurd (omega (arith, ap length e))
is_open front codestreams (inr few) long = few

-- a main header is given
pub head_adds : (consumed : List ℕ) (w : Walking) (v : Seen) → WereGiven consumed w → GivesHead w v → WereGiven (consumed ++ v.given) v.walk
head_adds consumed w v t g =
    let none : t.front ≡ [] = stage_by w.stage AtStart t.front g.stage t.given in
    let P : List ℕ → Type 0 = λ l. BeginsCodestream g.head g.order (length g.front) [] (l ++ g.front) in
    given_more consumed w v g.front g.rest (AtNext g.head g.order (length g.front)) t g.now g.given g.few (subst P (sym none) (begun_head g.head g.order g.front g.is_head g.is_order))

-- a packet's header is given
pub start_adds : (consumed : List ℕ) (w : Walking) (before : Option Head) (v : Seen) → WereGiven consumed w → GivesStart w before v → WereGiven (consumed ++ v.given) v.walk
start_adds consumed w before v t g =
    let b : BeginsCodestream g.head (g.place ∷ g.later) g.size [] t.front = stage_by w.stage (AtNext g.head (g.place ∷ g.later) g.size) t.front g.stage t.given in
    let few = is_open t.front w.codestreams t.room (begun_long g.head (g.place ∷ g.later) g.size t.front b) in
    let size : g.size + length g.front ≡ length (t.front ++ g.front) = omega (arith, begun_size g.head (g.place ∷ g.later) g.size t.front b, length-append t.front g.front) in
    given_more consumed w v g.front g.rest (stage_after g.head g.place g.blocks g.later (g.size + length g.front) (segment_bytes g.blocks)) t g.now g.given few
    (body_given (segment_bytes g.blocks == 0) g.head g.place g.blocks g.later g.size (g.size + length g.front) (segment_bytes g.blocks) t.front g.front [] (t.front ++ g.front) refl b g.begins.few_blocks g.begins.is_header (omega arith) g.fits (ap (λ (l : List ℕ). t.front ++ l) (sym (append-nil g.front))) size)

-- more of its segments is given
pub more_adds : (consumed : List ℕ) (w : Walking) (before : Option Head) (v : Seen) → WereGiven consumed w → GivesMore w before v → WereGiven (consumed ++ v.given) v.walk
more_adds consumed w before v t g =
    let b = stage_by w.stage (InBody g.head g.place g.blocks g.later g.size g.left) t.front g.stage t.given in
    let few = is_open t.front w.codestreams t.room (body_long g.head g.place g.blocks g.later g.left t.front b.1) in
    let size : g.size + length g.front ≡ length (t.front ++ g.front) = omega (arith, b.0, length-append t.front g.front) in
    let left : length (b.1.part ++ g.front) + (g.left - length g.front) ≡ segment_bytes g.blocks = omega (arith, b.1.segments, g.within, length-append b.1.part g.front) in
    let whole : t.front ++ g.front ≡ b.1.before ++ (b.1.header ++ (b.1.part ++ g.front)) =
    ap (λ (l : List ℕ). l ++ g.front) b.1.whole ∙ (append_assoc b.1.before (b.1.header ++ b.1.part) g.front ∙ ap (λ (l : List ℕ). b.1.before ++ l) (append_assoc b.1.header b.1.part g.front)) in
    given_more consumed w v g.front g.rest (stage_after g.head g.place g.blocks g.later (g.size + length g.front) (g.left - length g.front)) t g.now g.given few
    (body_given (g.left - length g.front == 0) g.head g.place g.blocks g.later b.1.at (g.size + length g.front) (g.left - length g.front) b.1.before b.1.header (b.1.part ++ g.front) (t.front ++ g.front) refl b.1.begins b.1.few_blocks b.1.is_header left b.1.fits whole size)

joined_push : (xs : List (List ℕ)) (x : List ℕ) → joined (xs ++ x ∷ []) ≡ joined xs ++ x
joined_push xs x = flat_map-append (λ (l : List ℕ). l) xs (x ∷ []) ∙ ap (λ (l : List ℕ). joined xs ++ l) (append-nil x)

-- EOC is given
pub eoc_adds : (consumed : List ℕ) (w : Walking) (before : Option Head) (v : Seen) → WereGiven consumed w → GivesEoc w before v → WereGiven (consumed ++ v.given) v.walk
eoc_adds consumed w before v t g =
    let b : BeginsCodestream g.head [] g.size [] t.front = stage_by w.stage (AtNext g.head [] g.size) t.front g.stage t.given in
    let few = is_open t.front w.codestreams t.room (begun_long g.head [] g.size t.front b) in
    let eoc = 255 ∷ 217 ∷ [] in
    let after = record (passing w eoc g.rest AtStart) { codestreams = w.codestreams + 1 } in
    let P : Walking → Type 0 = λ x. WereGiven (consumed ++ v.given) x in
    let Q : List ℕ → Type 0 = λ l. WereGiven (consumed ++ l) after in
    let all : joined (t.codestreams ++ (t.front ++ eoc) ∷ []) ≡ joined t.codestreams ++ (t.front ++ eoc) = joined_push t.codestreams (t.front ++ eoc) in
    let moved : WereGiven (consumed ++ eoc) after = record {
      codestreams = t.codestreams ++ (t.front ++ eoc) ∷ [];
      front = [];
      whole = ap (λ (l : List ℕ). l ++ eoc) t.whole ∙ (append_assoc (joined t.codestreams) t.front eoc ∙ (sym all ∙ sym (append-nil (joined (t.codestreams ++ (t.front ++ eoc) ∷ [])))));
      each = each_append IsCodestream t.codestreams ((t.front ++ eoc) ∷ []) t.each (ended g.head g.size t.front b g.psot, tt);
      count = omega (arith, t.count, length-append t.codestreams ((t.front ++ eoc) ∷ []));
      few = omega (arith, few);
      room = inl refl;
      offset = omega (arith, t.offset, length-append consumed eoc);
      given = refl;
    } in
    subst P (sym g.now) (subst Q (sym g.given) moved)

pub pieces_add_up : PiecesAddUp
pieces_add_up out.Head consumed w before v t g = inl (head_adds consumed w v t g)
pieces_add_up out.Start consumed w before v t g = inl (start_adds consumed w before v t g)
pieces_add_up out.More consumed w before v t g = inl (more_adds consumed w before v t g)
pieces_add_up out.FrameEnd consumed w before v t g = inl (eoc_adds consumed w before v t g)
pieces_add_up (out.Refused fault) consumed w before v t g = inr g.1.stage
pieces_add_up out.End consumed w before v t g = absurd g
pieces_add_up out.ReadFault consumed w before v t g = absurd g
