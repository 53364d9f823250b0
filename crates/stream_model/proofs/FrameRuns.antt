-- What a run of the decoder has read of frames, be they forged or not: the Bodies that it has, and the packets in them.
use Rattle.std.proofs.Common.{◌≡◌, ◌≤◌, ◌+◌, ◌-◌, ◌%◌, ◌^◌, ℕ, true, List, [], ◌∷◌, ◌++◌, length, drop, Option, Some, None, subst, refl, sym, ◌∙◌, ap, inr, arith, append_assoc}
use Rattle.std.specs.List.{AllByRecursion, flat_map}
use Rattle.std.proofs.lemmas.List.{append-nil, length-append, length-drop, drop-drop, drop-append-le}
use Rattle.std.proofs.lemmas.List.Concat.{flat_map-append}
use Rattle.wire_model.specs.Payload.{BodyFields}
use Rattle.wire_model.specs.Datagram.{Datagram}
use Rattle.codestream_model.specs.Values.{Head, Place}
use Rattle.codestream_model.specs.MainHeader.{SpellsHead}
use Rattle.codestream_model.specs.PacketOrder.{pid, IsPacketOrder}
use Rattle.codestream_model.specs.Packet.{Content, SpellsPacket}
use Rattle.codestream_model.specs.Codestream.{SpellsPackets}
use Rattle.stream_model.specs.Stream.{IsMainPayload, IsBodyPayload, extended_number}
use Rattle.stream_model.specs.Reading.{IsAmong, IsBodyWith, FollowFrom, StartsAt}
use Rattle.stream_model.specs.ReadingLaws.{IsReleased}
use Rattle.stream_model.specs.Decoder.{Current, Mark, run_of, mark_behind}
use Rattle.stream_model.proofs.Found.{packet_has_bytes}
use Rattle.stream_model.proofs.CutPayloads.{all-append}
use Rattle.stream_model.specs.RunLaws.{release_of}

-- the codestream bytes of datagrams, joined
abbrev pub bytes_of : List Datagram → List ℕ
bytes_of xs = flat_map (λ x. x.codestream) xs

-- the number after datagrams that have consecutive numbers from this one on
abbrev pub number_behind : ℕ → List Datagram → ℕ
number_behind number [] = number
number_behind number (x ∷ xs) = number_behind ((number + 1) % 2 ^ 24) xs

-- Bodies of a stamp among the frames, with consecutive numbers from this one on, and the number after them
pub record AreBodies (frames : List (List ℕ)) (stamp number next : ℕ) (xs : List Datagram) : Type 0 where
  pub each_came : AllByRecursion (IsAmong frames) xs
  pub each_body : AllByRecursion (λ x. IsBodyPayload x.payload) xs
  pub each_stamp : AllByRecursion (λ x. x.rtp.stamp ≡ stamp) xs
  pub follow : FollowFrom number xs
  pub behind : number_behind number xs ≡ next

-- the main header in force is that of a Main among the frames
pub record HeadCame (frames : List (List ℕ)) (c : Current) (main : Datagram) : Type 0 where
  pub came : IsAmong frames main
  pub is_main : IsMainPayload main.payload
  pub stamp : main.rtp.stamp ≡ c.stamp
  pub is_head : SpellsHead c.head main.codestream
  pub header : c.header ≡ main.codestream
  pub order : IsPacketOrder c.head c.order

-- where a run began: as a reading starts, or, before its first Body, after the Main
abbrev pub Began : Head → List Place → Datagram → ℕ → List Datagram → ℕ → Place → Type 0
Began h order main number [] at p = (at ≡ 0) × (number ≡ (extended_number main + 1) % 2 ^ 24) × ((later : List Place) × (order ≡ p ∷ later))
Began h order main number (first ∷ others) at p = StartsAt h order main first at p

-- A run whose next precinct is this one, before these: the Bodies from the one in which it began, after which `next` is the next
-- number; where it began; the packets that were read since; and the bytes that are left.
pub record Runs (frames : List (List ℕ)) (c : Current) (main : Datagram) (next : ℕ) (p : Place) (later : List Place) (bytes : List ℕ) : Type 0 where
  pub number : ℕ
  pub bodies : List Datagram
  pub before : List Place
  pub start : Place
  pub gone : List Place
  pub said : List Content
  pub at : ℕ
  pub skipped : List ℕ
  pub packets : List ℕ
  pub are : AreBodies frames c.stamp number next bodies
  pub began : Began c.head c.order main number bodies at start
  pub order : c.order ≡ before ++ (gone ++ p ∷ later)
  pub first : (others : List Place) × (gone ++ p ∷ [] ≡ start ∷ others)
  pub joined : bytes_of bodies ≡ skipped ++ (packets ++ bytes)
  pub from : length skipped ≡ at
  pub are_packets : SpellsPackets c.head gone said packets

-- with no run nothing is known
abbrev pub RunIs : List (List ℕ) → Current → Datagram → ℕ → Option (List Place) → List ℕ → Type 0
RunIs frames c main next None bytes = Unit {0}
RunIs frames c main next (Some []) bytes = Unit {0}
RunIs frames c main next (Some (p ∷ later)) bytes = Runs frames c main next p later bytes

-- A mark in the bytes: it is that of a Body, at whose POS it is; the Bodies from that one on have the bytes from there on.
pub record Marked (frames : List (List ℕ)) (c : Current) (next : ℕ) (bytes : List ℕ) (m : Mark) : Type 0 where
  pub fields : BodyFields
  pub body : Datagram
  pub others : List Datagram
  pub skipped : List ℕ
  pub has : IsBodyWith fields body.payload
  pub ordb : fields.ordb ≡ true
  pub names : pid c.head m.place ≡ fields.pid
  pub are : AreBodies frames c.stamp (extended_number body) next (body ∷ others)
  pub within : m.at ≤ length bytes
  pub joined : bytes_of (body ∷ others) ≡ skipped ++ drop m.at bytes
  pub from : length skipped ≡ fields.pos

abbrev pub MarkIs : List (List ℕ) → Current → ℕ → Option Mark → List ℕ → Type 0
MarkIs frames c next None bytes = Unit {0}
MarkIs frames c next (Some m) bytes = Marked frames c next bytes m

-- one Body more
follow_push : (number : ℕ) (xs : List Datagram) (x : Datagram) → FollowFrom number xs → extended_number x ≡ number_behind number xs → FollowFrom number (xs ++ x ∷ [])
follow_push number [] x f e = (e, tt)
follow_push number (y ∷ xs) x f e = (f.0, follow_push ((number + 1) % 2 ^ 24) xs x f.1 e)

behind_push : (number : ℕ) (xs : List Datagram) (x : Datagram) → number_behind number (xs ++ x ∷ []) ≡ (number_behind number xs + 1) % 2 ^ 24
behind_push number [] x = refl
behind_push number (y ∷ xs) x = behind_push ((number + 1) % 2 ^ 24) xs x

-- the datagram that comes next is a Body of this stamp
pub record IsNext (frames : List (List ℕ)) (stamp next : ℕ) (x : Datagram) : Type 0 where
  pub came : IsAmong frames x
  pub body : IsBodyPayload x.payload
  pub stamp_is : x.rtp.stamp ≡ stamp
  pub number : extended_number x ≡ next

abbrev pub after_next : ℕ → ℕ
after_next next = (next + 1) % 2 ^ 24

pub bodies_push : (frames : List (List ℕ)) (stamp number next : ℕ) (xs : List Datagram) (x : Datagram) → AreBodies frames stamp number next xs → IsNext frames stamp next x → AreBodies frames stamp number (after_next next) (xs ++ x ∷ [])
bodies_push frames stamp number next xs x a n = record {
  each_came = all-append (IsAmong frames) xs (x ∷ []) a.each_came (n.came, tt);
  each_body = all-append (λ (y : Datagram). IsBodyPayload y.payload) xs (x ∷ []) a.each_body (n.body, tt);
  each_stamp = all-append (λ (y : Datagram). y.rtp.stamp ≡ stamp) xs (x ∷ []) a.each_stamp (n.stamp_is, tt);
  follow = follow_push number xs x a.follow (n.number ∙ sym a.behind);
  behind = behind_push number xs x ∙ ap after_next a.behind;
}

began_push : (h : Head) (order : List Place) (main : Datagram) (number : ℕ) (xs : List Datagram) (x : Datagram) (at : ℕ) (p : Place) → Began h order main number xs at p → FollowFrom number (xs ++ x ∷ []) → Began h order main number (xs ++ x ∷ []) at p
began_push h order main number [] x at p b f = inr (b.0, f.0 ∙ b.1, b.2)
began_push h order main number (y ∷ xs) x at p b f = b

bytes_push : (xs : List Datagram) (x : Datagram) → bytes_of (xs ++ x ∷ []) ≡ bytes_of xs ++ x.codestream
bytes_push xs x = flat_map-append (λ (y : Datagram). y.codestream) xs (x ∷ []) ∙ ap (λ (l : List ℕ). bytes_of xs ++ l) (append-nil x.codestream)

-- a run goes on with its bytes
runs_push : (frames : List (List ℕ)) (c : Current) (main : Datagram) (next : ℕ) (p : Place) (later : List Place) (bytes : List ℕ) (x : Datagram) → Runs frames c main next p later bytes → IsNext frames c.stamp next x
    → Runs frames c main (after_next next) p later (bytes ++ x.codestream)
runs_push frames c main next p later bytes x r n =
    let are = bodies_push frames c.stamp r.number next r.bodies x r.are n in
    record {
      number = r.number;
      bodies = r.bodies ++ x ∷ [];
      before = r.before;
      start = r.start;
      gone = r.gone;
      said = r.said;
      at = r.at;
      skipped = r.skipped;
      packets = r.packets;
      are = are;
      began = began_push c.head c.order main r.number r.bodies x r.at r.start r.began are.follow;
      order = r.order;
      first = r.first;
      joined = bytes_push r.bodies x ∙ (ap (λ (l : List ℕ). l ++ x.codestream) r.joined ∙ (append_assoc r.skipped (r.packets ++ bytes) x.codestream ∙ ap (λ (l : List ℕ). r.skipped ++ l) (append_assoc r.packets bytes x.codestream)));
      from = r.from;
      are_packets = r.are_packets;
    }

pub run_push : (frames : List (List ℕ)) (c : Current) (main : Datagram) (next : ℕ) (run : Option (List Place)) (bytes : List ℕ) (x : Datagram) → RunIs frames c main next run bytes → IsNext frames c.stamp next x
    → RunIs frames c main (after_next next) run (bytes ++ x.codestream)
run_push frames c main next None bytes x r n = tt
run_push frames c main next (Some []) bytes x r n = tt
run_push frames c main next (Some (p ∷ later)) bytes x r n = runs_push frames c main next p later bytes x r n

-- and so does what a mark is in
pub mark_push : (frames : List (List ℕ)) (c : Current) (next : ℕ) (mark : Option Mark) (bytes : List ℕ) (x : Datagram) → MarkIs frames c next mark bytes → IsNext frames c.stamp next x
    → MarkIs frames c (after_next next) mark (bytes ++ x.codestream)
mark_push frames c next None bytes x k n = tt
mark_push frames c next (Some m) bytes x k n = record {
  fields = k.fields;
  body = k.body;
  others = k.others ++ x ∷ [];
  skipped = k.skipped;
  has = k.has;
  ordb = k.ordb;
  names = k.names;
  are = bodies_push frames c.stamp (extended_number k.body) next (k.body ∷ k.others) x k.are n;
  within = omega (arith, k.within, length-append bytes x.codestream);
  joined = bytes_push (k.body ∷ k.others) x
      ∙ (ap (λ (l : List ℕ). l ++ x.codestream) k.joined
      ∙ (append_assoc k.skipped (drop m.at bytes) x.codestream ∙ ap (λ (l : List ℕ). k.skipped ++ l) (sym (drop-append-le m.at bytes x.codestream k.within))));
  from = k.from;
}

-- a mark after bytes that are gone
abbrev pub IsPast : ℕ → Option Mark → Type 0
IsPast size None = Unit {0}
IsPast size (Some m) = size ≤ m.at

pub mark_left : (frames : List (List ℕ)) (c : Current) (next size : ℕ) (mark : Option Mark) (bytes : List ℕ) → MarkIs frames c next mark bytes → IsPast size mark → MarkIs frames c next (mark_behind size mark) (drop size bytes)
mark_left frames c next size None bytes k past = tt
mark_left frames c next size (Some m) bytes k past = record {
  fields = k.fields;
  body = k.body;
  others = k.others;
  skipped = k.skipped;
  has = k.has;
  ordb = k.ordb;
  names = k.names;
  are = k.are;
  within = omega (arith, k.within, length-drop size bytes);
  joined = k.joined ∙ ap (λ (l : List ℕ). k.skipped ++ l) (sym (drop-drop (m.at - size) size bytes ∙ ap (λ n. drop n bytes) (let e : size + (m.at - size) ≡ m.at = omega (arith, past) in e)));
  from = k.from;
}

-- one packet more
packets_push : (h : Head) (places : List Place) (content : List Content) (packets : List ℕ) (p : Place) (x : Content) (packet : List ℕ) → SpellsPackets h places content packets → SpellsPacket h p x packet
    → SpellsPackets h (places ++ p ∷ []) (content ++ x ∷ []) (packets ++ packet)
packets_push h [] [] packets p x packet s t = (packet, [], t, refl, ap (λ (l : List ℕ). l ++ packet) s ∙ sym (append-nil packet))
packets_push h [] (y ∷ content) packets p x packet s t = absurd s
packets_push h (q ∷ places) [] packets p x packet s t = absurd s
packets_push h (q ∷ places) (y ∷ content) packets p x packet (front, back, first, more, e) t =
    (front, back ++ packet, first, packets_push h places content back p x packet more t, ap (λ (l : List ℕ). l ++ packet) e ∙ append_assoc front back packet)

-- a run whose bytes begin with the packet of its next precinct is a reading of that
read_by : (frames : List (List ℕ)) (c : Current) (main : Datagram) (next : ℕ) (p : Place) (later : List Place) (bytes : List ℕ) (number at : ℕ) (bodies : List Datagram) (before gone : List Place) (start : Place) (said : List Content) (skipped packets : List ℕ)
    → HeadCame frames c main → AreBodies frames c.stamp number next bodies → Began c.head c.order main number bodies at start → c.order ≡ before ++ (gone ++ p ∷ later)
    → ((others : List Place) × (gone ++ p ∷ [] ≡ start ∷ others)) → bytes_of bodies ≡ skipped ++ (packets ++ bytes) → length skipped ≡ at → SpellsPackets c.head gone said packets
    → (n : ℕ) (x : Content) (packet more : List ℕ) → SpellsPacket c.head p x packet → bytes ≡ packet ++ more → IsReleased frames (release_of c n p x packet)
read_by frames c main next p later bytes number at [] before gone start said skipped packets h are began order first joined from are_packets n x packet more s e =
    absurd (omega (arith, ap length joined, length-append skipped (packets ++ bytes), length-append packets bytes, ap length e, length-append packet more, packet_has_bytes c.head p x packet s))
read_by frames c main next p later bytes number at (y ∷ others) before gone start said skipped packets h are began order first joined from are_packets n x packet more s e =
    let O : List Place → Type 0 = λ l. IsPacketOrder c.head l in
    let S : List Place → Type 0 = λ l. StartsAt c.head l main y at start in
    let F : ℕ → Type 0 = λ n. FollowFrom n (y ∷ others) in
    record {
      reading = record {
        main = main;
        first = y;
        others = others;
        head = c.head;
        before = before;
        start = start;
        places = gone;
        after = later;
        said = said;
        at = at;
        skipped = skipped;
        packets = packets ++ packet;
        rest = more;
        main_came = h.came;
        is_main = h.is_main;
        main_stamp = h.stamp;
        is_head = h.is_head;
        each_came = are.each_came;
        each_body = are.each_body;
        each_stamp = are.each_stamp;
        consecutive = subst F (sym are.follow.0) are.follow;
        order = subst O order h.order;
        starts = subst S order began;
        first_place = first;
        joined = joined ∙ ap (λ (l : List ℕ). skipped ++ l) (ap (λ (l : List ℕ). packets ++ l) e ∙ sym (append_assoc packets packet more));
        from = from;
        are_packets = packets_push c.head gone said packets p x packet are_packets s;
      };
      names = refl;
      packet = s;
      header = h.header;
    }

pub runs_read : (frames : List (List ℕ)) (c : Current) (main : Datagram) (next : ℕ) (p : Place) (later : List Place) (bytes : List ℕ) → HeadCame frames c main → Runs frames c main next p later bytes
    → (n : ℕ) (x : Content) (packet more : List ℕ) → SpellsPacket c.head p x packet → bytes ≡ packet ++ more → IsReleased frames (release_of c n p x packet)
runs_read frames c main next p later bytes h r n x packet more s e =
    read_by frames c main next p later bytes r.number r.at r.bodies r.before r.gone r.start r.said r.skipped r.packets h r.are r.began r.order r.first r.joined r.from r.are_packets n x packet more s e

-- and goes on after it
pub run_left : (frames : List (List ℕ)) (c : Current) (main : Datagram) (next : ℕ) (p : Place) (later : List Place) (bytes : List ℕ) → Runs frames c main next p later bytes
    → (x : Content) (packet more : List ℕ) → SpellsPacket c.head p x packet → bytes ≡ packet ++ more → RunIs frames c main next (run_of later) more
run_left frames c main next p [] bytes r x packet more s e = tt
run_left frames c main next p (q ∷ later) bytes r x packet more s e = record {
  number = r.number;
  bodies = r.bodies;
  before = r.before;
  start = r.start;
  gone = r.gone ++ p ∷ [];
  said = r.said ++ x ∷ [];
  at = r.at;
  skipped = r.skipped;
  packets = r.packets ++ packet;
  are = r.are;
  began = r.began;
  order = r.order ∙ ap (λ (l : List Place). r.before ++ l) (sym (append_assoc r.gone (p ∷ []) (q ∷ later)));
  first = (r.first.0 ++ q ∷ [], ap (λ (l : List Place). l ++ q ∷ []) r.first.1);
  joined = r.joined ∙ ap (λ (l : List ℕ). r.skipped ++ l) (ap (λ (l : List ℕ). r.packets ++ l) e ∙ sym (append_assoc r.packets packet more));
  from = r.from;
  are_packets = packets_push c.head r.gone r.said r.packets p x packet r.are_packets s;
}
