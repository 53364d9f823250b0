-- What was read of an input of codestreams, and the precincts of its whole packets, as a walk goes on.
use Rattle.std.proofs.Common.{◌≡◌, ◌<◌, ◌≤◌, ◌⊎◌, ◌+◌, ℕ, suc, List, [], ◌∷◌, ◌++◌, length, refl, sym, subst, ◌∙◌, ap, inl, inr, arith, append_assoc}
use Rattle.std.proofs.lemmas.List.{append-nil, length-append, take_at}
use Rattle.std.proofs.lemmas.Grind.{flat_map-append}
use Rattle.codestream_model.specs.Values.{Head, Place}
use Rattle.codestream_model.specs.Bytes.{IsBytes}
use Rattle.codestream_model.specs.PacketOrder.{IsPacketOrder, pid, packet_order}
use Rattle.codestream_model.specs.Packet.{Content, SpellsPacket}
use Rattle.codestream_model.specs.Codestream.{SpellsPackets, SpellsCodestream, IsPsotRight, joined, BeginsCodestream}
use Rattle.stream_model.specs.Report.{Precinct}
use Rattle.stream_model.specs.CommandLaws.{Said, AreCodestreams, precincts_of, precincts_from, stamp_of}
use Rattle.stream_model.proofs.ParsedPackets.{order_is}
use Rattle.codestream_model.proofs.CodestreamsJudged.{bytes_back}
use Rattle.codestream_model.proofs.SegmentBytes.{bytes-take}
use Rattle.codestream_walk.specs.Walking.{Stage, AtStart, AtNext, InBody, AtEnd, Walking}
use Rattle.codestream_walk.specs.Walks.{Walked, BeginsNext, GivesPacket, GivesEnd}
use Rattle.codestream_walk.proofs.Inputs.{begun_head, begun_long, is_open}

-- by the stage of a walk, these bytes of a codestream were given, and these precincts are those of all packets in them
abbrev pub AreWhole : ℕ → Stage → List ℕ → List Precinct → Type 0
AreWhole stamp AtStart front xs = (front ≡ []) × (xs ≡ [])
AreWhole stamp (AtNext h later size) front xs = (b : BeginsCodestream h later size [] front) × (xs ≡ precincts_of h stamp b.before b.content)
AreWhole stamp (InBody h p blocks later size left) front xs = ⊥
AreWhole stamp AtEnd front xs = ⊥

-- these bytes of an input were given, and these precincts are those of all packets in them
pub record Tells (stamp step : ℕ) (consumed : List ℕ) (w : Walking) (xs : List Precinct) : Type 0 where
  pub said : List Said
  pub codestreams : List (List ℕ)
  pub front : List ℕ
  pub last : List Precinct
  pub whole : consumed ≡ joined codestreams ++ front
  pub are : AreCodestreams said codestreams
  pub count : w.codestreams ≡ length codestreams
  pub few : w.codestreams ≤ 65536
  pub room : (front ≡ []) ⊎ (w.codestreams < 65536)
  pub offset : w.offset ≡ length consumed
  pub given : AreWhole (stamp_of stamp step (length codestreams)) w.stage front last
  pub all : xs ≡ precincts_from stamp step 0 said ++ last

-- one packet more
packets_push : (h : Head) (stamp : ℕ) (places : List Place) (content : List Content) (packets : List ℕ) (p : Place) (x : Content) (packet : List ℕ) → SpellsPackets h places content packets → SpellsPacket h p x packet
    → SpellsPackets h (places ++ p ∷ []) (content ++ x ∷ []) (packets ++ packet)
    × (precincts_of h stamp (places ++ p ∷ []) (content ++ x ∷ []) ≡ precincts_of h stamp places content ++ record { stamp = stamp; pid = pid h p; place = p; blocks = x.blocks; bytes = x.bytes } ∷ [])
packets_push h stamp [] [] packets p x packet s t = ((packet, [], t, refl, ap (λ (l : List ℕ). l ++ packet) s ∙ sym (append-nil packet)), refl)
packets_push h stamp [] (y ∷ content) packets p x packet s t = absurd s
packets_push h stamp (q ∷ places) [] packets p x packet s t = absurd s
packets_push h stamp (q ∷ places) (y ∷ content) packets p x packet (front, back, first, more, e) t =
    let k = packets_push h stamp places content back p x packet more t in
    let one : Precinct = record { stamp = stamp; pid = pid h q; place = q; blocks = y.blocks; bytes = y.bytes } in (
      (front, back ++ packet, first, k.0, ap (λ (l : List ℕ). l ++ packet) e ∙ append_assoc front back packet),
      ap (λ (l : List Precinct). one ∷ l) k.1,
    )

-- packets of these precincts are next, and these are the precincts of those before
abbrev pub Opened : ℕ → Head → List Place → ℕ → List ℕ → List Precinct → Type 0
Opened stamp h later size front xs = (b : BeginsCodestream h later size [] front) × (xs ≡ precincts_of h stamp b.before b.content)

-- where they are next,
pub opened_by : (stamp : ℕ) (s : Stage) (h : Head) (later : List Place) (size : ℕ) (front : List ℕ) (xs : List Precinct) → s ≡ AtNext h later size → AreWhole stamp s front xs → Opened stamp h later size front xs
opened_by stamp s h later size front xs e g = let P : Stage → Type 0 = λ t. AreWhole stamp t front xs in subst P e g

pub start_by : (stamp : ℕ) (s : Stage) (front : List ℕ) (xs : List Precinct) → s ≡ AtStart → AreWhole stamp s front xs → (front ≡ []) × (xs ≡ [])
start_by stamp s front xs e g = let P : Stage → Type 0 = λ t. AreWhole stamp t front xs in subst P e g

pub opened : (stamp : ℕ) (w : Walking) (h : Head) (later : List Place) (size : ℕ) (header front : List ℕ) (xs : List Precinct) → BeginsNext w h later size header → AreWhole stamp w.stage front xs → Opened stamp h later size (front ++ header) xs
opened stamp w h later size header front xs (inl (next, none)) g =
    let P : List ℕ → Type 0 = λ l. Opened stamp h later size l xs in
    let same : front ≡ front ++ header = sym (append-nil front) ∙ ap (λ (l : List ℕ). front ++ l) (sym none) in
    subst P same (opened_by stamp w.stage h later size front xs next g)
opened stamp w h later size header front xs (inr (start, few, spells, order, size_is)) g =
    let k = start_by stamp w.stage front xs start g in
    let P : List ℕ → Type 0 = λ l. Opened stamp h later size (l ++ header) xs in
    let Q : ℕ → Type 0 = λ n. Opened stamp h later n header xs in
    subst P (sym k.0) (subst Q (sym size_is) (begun_head h later header spells order, k.1))

-- after a packet
behind_packet : (stamp : ℕ) (h : Head) (p : Place) (later : List Place) (size : ℕ) (front : List ℕ) (xs : List Precinct) (x : Content) (packet : List ℕ) → Opened stamp h (p ∷ later) size front xs → SpellsPacket h p x packet
    → Opened stamp h later (size + length packet) (front ++ packet) (xs ++ record { stamp = stamp; pid = pid h p; place = p; blocks = x.blocks; bytes = x.bytes } ∷ [])
behind_packet stamp h p later size front xs x packet (b, is) s =
    let P : List Place → Type 0 = λ l. IsPacketOrder h l in
    let one : Precinct = record { stamp = stamp; pid = pid h p; place = p; blocks = x.blocks; bytes = x.bytes } in
    let whole : front ≡ b.head ++ b.packets = b.whole ∙ ap (λ (l : List ℕ). b.head ++ l) (append-nil b.packets) in
    let k = packets_push h stamp b.before b.content b.packets p x packet b.are_packets s in (
      record {
        head = b.head;
        before = b.before ++ p ∷ [];
        content = b.content ++ x ∷ [];
        packets = b.packets ++ packet;
        is_head = b.is_head;
        order = subst P (sym (append_assoc b.before (p ∷ []) later)) b.order;
        are_packets = k.0;
        place = omega (arith, b.place, length-append b.packets packet);
        whole = ap (λ (l : List ℕ). l ++ packet) whole ∙ (append_assoc b.head b.packets packet ∙ ap (λ (l : List ℕ). b.head ++ l) (sym (append-nil (b.packets ++ packet))));
      },
      ap (λ (l : List Precinct). l ++ one ∷ []) is ∙ sym k.1,
    )

-- fewer codestreams than may be
pub open_by : (stamp : ℕ) (w : Walking) (h : Head) (later : List Place) (size : ℕ) (header front : List ℕ) (xs : List Precinct) → BeginsNext w h later size header → AreWhole stamp w.stage front xs → (front ≡ []) ⊎ (w.codestreams < 65536) → w.codestreams < 65536
open_by stamp w h later size header front xs (inl (next, none)) g room = is_open front w.codestreams room (begun_long h later size front (opened_by stamp w.stage h later size front xs next g).0)
open_by stamp w h later size header front xs (inr n) g room = n.1

-- a packet more is a precinct more
pub packets_tell : (stamp step : ℕ) (consumed : List ℕ) (w : Walking) (v : Walked) (xs : List Precinct) → Tells stamp step consumed w xs → (g : GivesPacket w v)
    → Tells stamp step (consumed ++ (g.header ++ g.packet)) v.walk (xs ++ record { stamp = stamp_of stamp step w.codestreams; pid = pid g.head v.place; place = v.place; blocks = v.content.blocks; bytes = v.content.bytes } ∷ [])
packets_tell stamp step consumed w v xs t g =
    let s = stamp_of stamp step (length t.codestreams) in
    let here = opened s w g.head (g.place ∷ g.later) g.size g.header t.front t.last g.next t.given in
    let more = behind_packet s g.head g.place g.later g.size (t.front ++ g.header) t.last g.content g.packet here g.is_packet in
    let one : Precinct = record { stamp = s; pid = pid g.head g.place; place = g.place; blocks = g.content.blocks; bytes = g.content.bytes } in
    let shown : Precinct = record { stamp = stamp_of stamp step w.codestreams; pid = pid g.head v.place; place = v.place; blocks = v.content.blocks; bytes = v.content.bytes } in
    let same : shown ≡ one = rw (g.shown_place, g.shown_content, t.count) refl in
    let after : Walking = record w { hand = g.rest; offset = w.offset + length (g.header ++ g.packet); stage = AtNext g.head g.later (g.size + length g.packet) } in
    let few = open_by s w g.head (g.place ∷ g.later) g.size g.header t.front t.last g.next t.given t.room in
    let P : Walking → Type 0 = λ x. Tells stamp step (consumed ++ (g.header ++ g.packet)) x (xs ++ shown ∷ []) in
    let Q : List ℕ → Type 0 = λ l. Opened s g.head g.later (g.size + length g.packet) l (t.last ++ one ∷ []) in
    let moved : Tells stamp step (consumed ++ (g.header ++ g.packet)) after (xs ++ shown ∷ []) = record {
      said = t.said;
      codestreams = t.codestreams;
      front = t.front ++ (g.header ++ g.packet);
      last = t.last ++ one ∷ [];
      whole = ap (λ (l : List ℕ). l ++ (g.header ++ g.packet)) t.whole ∙ append_assoc (joined t.codestreams) t.front (g.header ++ g.packet);
      are = t.are;
      count = t.count;
      few = t.few;
      room = inr few;
      offset = omega (arith, t.offset, length-append consumed (g.header ++ g.packet));
      given = subst Q (append_assoc t.front g.header g.packet) more;
      all = ap (λ (l : List Precinct). l ++ shown ∷ []) t.all ∙ (append_assoc (precincts_from stamp step 0 t.said) t.last (shown ∷ []) ∙ ap (λ (x : Precinct). precincts_from stamp step 0 t.said ++ (t.last ++ x ∷ [])) same);
    } in
    subst P (sym g.now) moved

-- one codestream more
zip_push : (said : List Said) (codestreams : List (List ℕ)) (x : Said) (codestream : List ℕ) → AreCodestreams said codestreams → SpellsCodestream x.head x.content codestream → AreCodestreams (said ++ x ∷ []) (codestreams ++ codestream ∷ [])
zip_push [] [] x codestream a s = (s, tt)
zip_push [] (c ∷ codestreams) x codestream a s = absurd a
zip_push (y ∷ said) [] x codestream a s = absurd a
zip_push (y ∷ said) (c ∷ codestreams) x codestream a s = (a.0, zip_push said codestreams x codestream a.1 s)

pub zip_size : (said : List Said) (codestreams : List (List ℕ)) → AreCodestreams said codestreams → length said ≡ length codestreams
zip_size [] [] a = refl
zip_size [] (c ∷ codestreams) a = absurd a
zip_size (y ∷ said) [] a = absurd a
zip_size (y ∷ said) (c ∷ codestreams) a = let k = zip_size said codestreams a.1 in omega arith

from_push : (stamp step i : ℕ) (said : List Said) (x : Said) → precincts_from stamp step i (said ++ x ∷ []) ≡ precincts_from stamp step i said ++ precincts_of x.head (stamp_of stamp step (i + length said)) (packet_order x.head) x.content
from_push stamp step i [] x =
    let z : i ≡ i + 0 = omega arith in
    append-nil (precincts_of x.head (stamp_of stamp step i) (packet_order x.head) x.content) ∙ ap (λ (n : ℕ). precincts_of x.head (stamp_of stamp step n) (packet_order x.head) x.content) z
from_push stamp step i (y ∷ said) x =
    let here = precincts_of y.head (stamp_of stamp step i) (packet_order y.head) y.content in
    let z : i + 1 + length said ≡ i + suc (length said) = omega arith in
    ap (λ (l : List Precinct). here ++ l) (from_push stamp step (i + 1) said x ∙ ap (λ (n : ℕ). precincts_from stamp step (i + 1) said ++ precincts_of x.head (stamp_of stamp step n) (packet_order x.head) x.content) z)
    ∙ sym (append_assoc here (precincts_from stamp step (i + 1) said) (precincts_of x.head (stamp_of stamp step (i + suc (length said))) (packet_order x.head) x.content))

joined_push : (xs : List (List ℕ)) (x : List ℕ) → joined (xs ++ x ∷ []) ≡ joined xs ++ x
joined_push xs x = flat_map-append (λ (l : List ℕ). l) xs (x ∷ []) ∙ ap (λ (l : List ℕ). joined xs ++ l) (append-nil x)

bytes_front : (xs ys : List ℕ) → IsBytes (xs ++ ys) → IsBytes xs
bytes_front xs ys fits = let P : List ℕ → Type 0 = λ l. IsBytes l in subst P (take_at xs ys (length xs) refl) (bytes-take (length xs) (xs ++ ys) fits)

-- EOC is none
pub ends_tell : (stamp step : ℕ) (consumed : List ℕ) (w : Walking) (v : Walked) (xs : List Precinct) → Tells stamp step consumed w xs → IsBytes (consumed ++ w.hand) → (g : GivesEnd w v)
    → Tells stamp step (consumed ++ (g.header ++ 255 ∷ 217 ∷ [])) v.walk xs
ends_tell stamp step consumed w v xs t fits g =
    let s = stamp_of stamp step (length t.codestreams) in
    let here = opened s w g.head [] g.size g.header t.front t.last g.next t.given in
    let b = here.0 in
    let few = open_by s w g.head [] g.size g.header t.front t.last g.next t.given t.room in
    let eoc = 255 ∷ 217 ∷ [] in
    let codestream = (t.front ++ g.header) ++ eoc in
    let O : List Place → Type 0 = λ l. IsPacketOrder g.head l in
    let Q : ℕ → Type 0 = λ n. IsPsotRight g.head n in
    let B : List ℕ → Type 0 = λ l. IsBytes l in
    let order : IsPacketOrder g.head b.before = subst O (append-nil b.before) b.order in
    let open_whole : t.front ++ g.header ≡ b.head ++ b.packets = b.whole ∙ ap (λ (l : List ℕ). b.head ++ l) (append-nil b.packets) in
    let spells : SpellsCodestream g.head b.content codestream = record { head = b.head; places = b.before; packets = b.packets; is_head = b.is_head; order = order; are_packets = b.are_packets; psot = subst Q b.place g.psot; whole = ap (λ (l : List ℕ). l ++ eoc) open_whole ∙ append_assoc b.head b.packets eoc } in
    let all_bytes : consumed ++ w.hand ≡ joined t.codestreams ++ (b.head ++ (b.packets ++ (255 ∷ 217 ∷ g.rest))) =
    ap (λ (l : List ℕ). consumed ++ l) g.whole
    ∙ (ap (λ (l : List ℕ). l ++ (g.header ++ (255 ∷ 217 ∷ g.rest))) t.whole
    ∙ (append_assoc (joined t.codestreams) t.front (g.header ++ (255 ∷ 217 ∷ g.rest))
    ∙ ap (λ (l : List ℕ). joined t.codestreams ++ l) (sym (append_assoc t.front g.header (255 ∷ 217 ∷ g.rest)) ∙ (ap (λ (l : List ℕ). l ++ (255 ∷ 217 ∷ g.rest)) open_whole ∙ append_assoc b.head b.packets (255 ∷ 217 ∷ g.rest))))) in
    let head_bytes = bytes_front b.head (b.packets ++ (255 ∷ 217 ∷ g.rest)) (bytes_back (joined t.codestreams) (b.head ++ (b.packets ++ (255 ∷ 217 ∷ g.rest))) (subst B all_bytes fits)) in
    let places : packet_order g.head ≡ b.before = order_is g.head b.head b.before b.is_head head_bytes order in
    let x : Said = record { head = g.head; content = b.content } in
    let number : 0 + length t.said ≡ length t.codestreams = omega (arith, zip_size t.said t.codestreams t.are) in
    let last : precincts_of g.head (stamp_of stamp step (0 + length t.said)) (packet_order g.head) b.content ≡ t.last = ap (λ (n : ℕ). precincts_of g.head (stamp_of stamp step n) (packet_order g.head) b.content) number ∙ (ap (λ (l : List Place). precincts_of g.head s l b.content) places ∙ sym here.1) in
    let after : Walking = record w { hand = g.rest; offset = w.offset + length (g.header ++ eoc); codestreams = w.codestreams + 1; stage = AtStart } in
    let P : Walking → Type 0 = λ y. Tells stamp step (consumed ++ (g.header ++ eoc)) y xs in
    let all : joined (t.codestreams ++ codestream ∷ []) ≡ joined t.codestreams ++ codestream = joined_push t.codestreams codestream in
    let moved : Tells stamp step (consumed ++ (g.header ++ eoc)) after xs = record {
      said = t.said ++ x ∷ [];
      codestreams = t.codestreams ++ codestream ∷ [];
      front = [];
      last = [];
      whole = ap (λ (l : List ℕ). l ++ (g.header ++ eoc)) t.whole ∙ (append_assoc (joined t.codestreams) t.front (g.header ++ eoc) ∙ (ap (λ (l : List ℕ). joined t.codestreams ++ l) (sym (append_assoc t.front g.header eoc)) ∙ (sym all ∙ sym (append-nil (joined (t.codestreams ++ codestream ∷ []))))));
      are = zip_push t.said t.codestreams x codestream t.are spells;
      count = omega (arith, t.count, length-append t.codestreams (codestream ∷ []));
      few = omega (arith, few);
      room = inl refl;
      offset = omega (arith, t.offset, length-append consumed (g.header ++ eoc));
      given = (refl, refl);
      all = t.all ∙ (ap (λ (l : List Precinct). precincts_from stamp step 0 t.said ++ l) (sym last) ∙ (sym (from_push stamp step 0 t.said x) ∙ sym (append-nil (precincts_from stamp step 0 (t.said ++ x ∷ [])))));
    } in
    subst P (sym g.now) moved
