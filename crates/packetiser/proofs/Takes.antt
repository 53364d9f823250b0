-- What a reader gives, and what a sender knows by it.
use Rattle.std.proofs.Common.{◌≡◌, ◌⊎◌, ◌≤◌, ℕ, Bool, true, false, not, List, [], ◌∷◌, ◌++◌, map, length, Some, refl, sym, subst, ap, ◌∙◌, inl, inr, arith}
use Rattle.std.specs.Prelude.{◌&&◌, ◌==◌, nat_lt}
use Rattle.std.specs.List.{AllByRecursion}
use Rattle.std.proofs.lemmas.Bool.Decides.{nat_tests}
use Rattle.std.proofs.lemmas.List.{append-nil, length-append}
use Rattle.wire_model.specs.Datagram.{Datagram}
use Rattle.codestream_model.specs.Values.{Head, Place}
use Rattle.codestream_model.specs.PacketOrder.{pid}
use Rattle.stream_model.specs.Stream.{Parts}
use Rattle.stream_model.specs.Cut.{Plan, Piece, Known, room, known_of, stamp_at, datagrams_by, main_at}
use Rattle.codestream_walk.specs.Walking.{Walking, Seen, GivesHead, GivesStart, GivesMore, GivesEoc}
use Rattle.packetiser.specs.Filling.{Filling}
use Rattle.packetiser.specs.Filled.{part, whole, longer, unbegun, Fills}
use Rattle.packetiser.specs.Knowing.{Knows}
use Rattle.packetiser.specs.Packing.{Packing, taken, begun, ends_before, after_closing, closing_body, after_main, main_of}
use Rattle.packetiser.specs.Sending.{IsBetween, IsBegun, IsInPackets, IsAtEoc}
use Rattle.packetiser.proofs.Chunks.{parts as splits}
use Rattle.packetiser.proofs.Machine.{with_part, main_made, first_begins, next_open, next_closed}
use Rattle.packetiser.proofs.Growing.{knows_head, knows_start, knows_more, knows_eoc}
use Rattle.packetiser.proofs.Puts.{body_alike, stamp_is}

abbrev first_head : Head → List Known → Head
first_head h [] = h
first_head h (c ∷ known) = c.head

abbrev first_header : List Known → List ℕ
first_header [] = []
first_header (c ∷ known) = c.header

abbrev first_pieces : List Known → List Piece
first_pieces [] = []
first_pieces (c ∷ known) = c.pieces

-- a list with one more piece is one
last_same : (xs ys : List Piece) (x y : Piece) → xs ++ x ∷ [] ≡ ys ++ y ∷ [] → (xs ≡ ys) × (x ≡ y)
last_same [] [] x y e = (refl, cc)
last_same [] (b ∷ []) x y e = absurd (omega (arith, ap length e))
last_same [] (b ∷ c ∷ ys) x y e = absurd (omega (arith, ap length e, length-append ys (y ∷ [])))
last_same (a ∷ []) [] x y e = absurd (omega (arith, ap length e))
last_same (a ∷ c ∷ xs) [] x y e = absurd (omega (arith, ap length e, length-append xs (x ∷ [])))
last_same (a ∷ xs) (b ∷ ys) x y e =
    let first : a ≡ b = cc in
    let more : xs ++ x ∷ [] ≡ ys ++ y ∷ [] = cc in
    let r = last_same xs ys x y more in
    (rw (first, r.0) refl, r.1)

-- of one codestream something is known
abbrev Known1 : Head → List ℕ → List Piece → List Known
Known1 h header pieces = part h header pieces ∷ []

known_alike : (h g : Head) (k l : List ℕ) (xs ys : List Piece) → h ≡ g → k ≡ l → xs ≡ ys → part h k xs ∷ [] ≡ part g l ys ∷ []
known_alike h g k l xs ys a b c = ap (λ x. part x k xs ∷ []) a ∙ (ap (λ x. part g x xs ∷ []) b ∙ ap (λ x. part g l x ∷ []) c)

-- a packet with these bytes
abbrev packet : Place → List ℕ → Piece
packet p x = record { place = p; bytes = x }

piece_alike : (p q : Place) (x y : List ℕ) → p ≡ q → x ≡ y → packet p x ≡ packet q y
piece_alike p q x y a b = ap (λ (z : Place). packet z x) a ∙ ap (packet q) b

-- the main headers that fit stay as many
fit_last : (n : ℕ) (ks : List Known) (c d : Known) → c.header ≡ d.header → AllByRecursion (λ k. length k.header ≤ n) (ks ++ c ∷ []) → AllByRecursion (λ k. length k.header ≤ n) (ks ++ d ∷ [])
fit_last n [] c d e a = (omega (arith, ap length e, a.0), tt)
fit_last n (k ∷ ks) c d e a = (a.0, fit_last n ks c d e a.1)

-- What a sender knows, and how far it is, after the reader gave something.
pub record Taken (p : Plan) (consumed : List ℕ) (v : Packing) (sent : List Datagram) (IsSo : Packing → List Parts → List Known → List Datagram → Type 0) : Type 0 where
  pub parts : List Parts
  pub known : List Known
  pub knows : Knows (consumed ++ v.seen.given) v.seen.walk parts known
  pub fit : AllByRecursion (λ c. length c.header ≤ room p) (map known_of parts ++ known)
  pub is_so : IsSo v parts known sent

-- more of a packet
pub more_taken : (p : Plan) (consumed : List ℕ) (w : Walking) (u : Packing) (parts : List Parts) (known : List Known) (sent : List Datagram) (v : Seen) → Knows consumed w parts known → AllByRecursion (λ c. length c.header ≤ room p) (map known_of parts ++ known) → u.rest ≡ []
    → IsInPackets u parts known sent → GivesMore w u.seen.head v → Taken p consumed (taken v u) sent IsInPackets
more_taken p consumed w u parts known sent v knows fit none b g =
    let k = knows_more consumed w u.seen.head v parts known knows g in
    let same : part b.head b.header (b.front ++ longer b.last u.rest ∷ []) ∷ [] ≡ part g.head k.0 (k.1 ++ record { place = g.place; bytes = k.2 } ∷ []) ∷ [] = sym b.known_is ∙ k.3 in
    let head : g.head ≡ b.head = sym (ap (first_head b.head) same) in
    let header : k.0 ≡ b.header = sym (ap first_header same) in
    let pieces = last_same b.front k.1 (longer b.last u.rest) (record { place = g.place; bytes = k.2 }) (ap first_pieces same) in
    let place : g.place ≡ b.last.place = sym (ap (λ (x : Piece). x.place) pieces.1) in
    let had : k.2 ≡ b.last.bytes = sym (ap (λ (x : Piece). x.bytes) pieces.1) ∙ (ap (λ (l : List ℕ). b.last.bytes ++ l) none ∙ append-nil b.last.bytes) in
    let last = piece_alike g.place b.last.place (k.2 ++ g.front) (b.last.bytes ++ v.given) place (ap (λ (l : List ℕ). l ++ g.front) had ∙ ap (λ (l : List ℕ). b.last.bytes ++ l) (sym g.given)) in
    let pieces_now : k.1 ++ record { place = g.place; bytes = k.2 ++ g.front } ∷ [] ≡ b.front ++ longer b.last v.given ∷ [] =
    ap (λ (l : List Piece). l ++ record { place = g.place; bytes = k.2 ++ g.front } ∷ []) (sym pieces.0) ∙ ap (λ (x : Piece). b.front ++ x ∷ []) last in
    let K : List Known → Type 0 = λ l. AllByRecursion (λ c. length c.header ≤ room p) (map known_of parts ++ l) in
    record {
      parts = parts;
      known = part g.head k.0 (k.1 ++ record { place = g.place; bytes = k.2 ++ g.front } ∷ []) ∷ [];
      knows = k.4;
      fit = fit_last (room p) (map known_of parts) (part b.head b.header (b.front ++ longer b.last u.rest ∷ [])) (part g.head k.0 (k.1 ++ record { place = g.place; bytes = k.2 ++ g.front } ∷ [])) (sym header) (subst K b.known_is fit);
      is_so = record {
        head = b.head;
        header = b.header;
        front = b.front;
        last = b.last;
        known_is = known_alike g.head b.head k.0 b.header (k.1 ++ record { place = g.place; bytes = k.2 ++ g.front } ∷ []) (b.front ++ longer b.last v.given ∷ []) head header pieces_now;
        shown = g.shown ∙ b.shown;
        levels = b.levels;
        fills = b.fills;
        fresh = b.fresh;
        some = omega (arith, b.some, ap length none);
        resolution = b.resolution;
        not_eoc = b.not_eoc;
        stamp = b.stamp;
        sent_is = b.sent_is;
      };
    }

-- a packet begins: the place of its pieces
begun_pieces : (xs ys : List Piece) (v : Seen) (q : Place) (front : List ℕ) → v.place ≡ q → v.given ≡ front → xs ≡ ys → xs ++ record { place = q; bytes = front } ∷ [] ≡ ys ++ longer (unbegun v.place) v.given ∷ []
begun_pieces xs ys v q front place given e =
    ap (λ (l : List Piece). l ++ record { place = q; bytes = front } ∷ []) e ∙ ap (λ (x : Piece). ys ++ x ∷ []) (piece_alike q v.place front v.given (sym place) (sym given))

-- the first packet of a codestream
pub first_taken : (p : Plan) (consumed : List ℕ) (w : Walking) (u : Packing) (parts : List Parts) (known : List Known) (sent : List Datagram) (v : Seen) (h : Head) → 1 ≤ room u.plan → Knows consumed w parts known → AllByRecursion (λ c. length c.header ≤ room p) (map known_of parts ++ known)
    → IsBegun u parts known sent → GivesStart w u.seen.head v → 1 ≤ length v.given → v.head ≡ Some h → Taken p consumed (begun h (taken v u)) sent IsInPackets
first_taken p consumed w u parts known sent v h room_some knows fit b g some shown =
    let k = knows_start consumed w u.seen.head v parts known knows g in
    let same : part b.head b.header [] ∷ [] ≡ part g.head k.0 k.1 ∷ [] = sym b.known_is ∙ k.2 in
    let head : g.head ≡ b.head = sym (ap (first_head b.head) same) in
    let header : k.0 ≡ b.header = sym (ap first_header same) in
    let pieces : k.1 ≡ [] = sym (ap first_pieces same) in
    let is_head : h ≡ b.head = (let e : Some h ≡ Some b.head = sym shown ∙ (g.shown ∙ b.shown) in cc) in
    let K : List Known → Type 0 = λ l. AllByRecursion (λ c. length c.header ≤ room p) (map known_of parts ++ l) in
    let r = first_begins u.plan (map known_of parts) b.head b.header v.place room_some in
    let F : Filling → Type 0 = λ f. Fills u.plan b.head b.header [] (unbegun v.place) f in
    record {
      parts = parts;
      known = part g.head k.0 (k.1 ++ record { place = g.place; bytes = g.front } ∷ []) ∷ [];
      knows = k.3;
      fit = fit_last (room p) (map known_of parts) (part b.head b.header []) (part g.head k.0 (k.1 ++ record { place = g.place; bytes = g.front } ∷ [])) (sym header) (subst K b.known_is fit);
      is_so = record {
        head = b.head;
        header = b.header;
        front = [];
        last = unbegun v.place;
        known_is = known_alike g.head b.head k.0 b.header (k.1 ++ record { place = g.place; bytes = g.front } ∷ []) (longer (unbegun v.place) v.given ∷ []) head header (begun_pieces k.1 [] v g.place g.front g.shown_place g.given pieces);
        shown = g.shown ∙ b.shown;
        levels = b.levels;
        fills = subst F (sym b.is_empty) r.0;
        fresh = (refl, ap (λ (x : Head). pid x v.place) is_head);
        some = omega (arith, some);
        resolution = refl;
        not_eoc = b.not_eoc;
        stamp = b.stamp;
        sent_is = b.sent_is ∙ (ap (λ l. datagrams_by u.plan (map known_of parts ++ l)) b.known_is ∙ sym r.1);
      };
    }

-- What is known once a further packet begins.
record Further (p : Plan) (consumed : List ℕ) (u : Packing) (parts : List Parts) (known : List Known) (sent : List Datagram) (b : IsInPackets u parts known sent) (v : Seen) (h : Head) : Type 0 where
  known_now : List Known
  knows : Knows (consumed ++ v.given) v.walk parts known_now
  fit : AllByRecursion (λ c. length c.header ≤ room p) (map known_of parts ++ known_now)
  known_is : known_now ≡ part b.head b.header ((b.front ++ b.last ∷ []) ++ longer (unbegun v.place) v.given ∷ []) ∷ []
  shown : v.head ≡ Some b.head
  is_head : h ≡ b.head
  last_some : 1 ≤ length b.last.bytes

further : (p : Plan) (consumed : List ℕ) (w : Walking) (u : Packing) (parts : List Parts) (known : List Known) (sent : List Datagram) (v : Seen) (h : Head) → Knows consumed w parts known → AllByRecursion (λ c. length c.header ≤ room p) (map known_of parts ++ known) → u.rest ≡ []
    → (b : IsInPackets u parts known sent) → GivesStart w u.seen.head v → v.head ≡ Some h → Further p consumed u parts known sent b v h
further p consumed w u parts known sent v h knows fit none b g shown =
    let k = knows_start consumed w u.seen.head v parts known knows g in
    let same : part b.head b.header (b.front ++ longer b.last u.rest ∷ []) ∷ [] ≡ part g.head k.0 k.1 ∷ [] = sym b.known_is ∙ k.2 in
    let head : g.head ≡ b.head = sym (ap (first_head b.head) same) in
    let header : k.0 ≡ b.header = sym (ap first_header same) in
    let whole_last : longer b.last u.rest ≡ b.last = piece_alike b.last.place b.last.place (b.last.bytes ++ u.rest) b.last.bytes refl (ap (λ (l : List ℕ). b.last.bytes ++ l) none ∙ append-nil b.last.bytes) in
    let pieces : k.1 ≡ b.front ++ b.last ∷ [] = sym (ap first_pieces same) ∙ ap (λ (x : Piece). b.front ++ x ∷ []) whole_last in
    let K : List Known → Type 0 = λ l. AllByRecursion (λ c. length c.header ≤ room p) (map known_of parts ++ l) in
    record {
      known_now = part g.head k.0 (k.1 ++ record { place = g.place; bytes = g.front } ∷ []) ∷ [];
      knows = k.3;
      fit = fit_last (room p) (map known_of parts) (part b.head b.header (b.front ++ longer b.last u.rest ∷ [])) (part g.head k.0 (k.1 ++ record { place = g.place; bytes = g.front } ∷ [])) (sym header) (subst K b.known_is fit);
      known_is = known_alike g.head b.head k.0 b.header (k.1 ++ record { place = g.place; bytes = g.front } ∷ []) ((b.front ++ b.last ∷ []) ++ longer (unbegun v.place) v.given ∷ []) head header (begun_pieces k.1 (b.front ++ b.last ∷ []) v g.place g.front g.shown_place g.given pieces);
      shown = g.shown ∙ b.shown;
      is_head = (let e : Some h ≡ Some b.head = sym shown ∙ (g.shown ∙ b.shown) in cc);
      last_some = omega (arith, b.some, ap length none);
    }

-- the test of a change of resolution
not_split : (split : Bool) (n r s k : ℕ) → (split && nat_lt 0 n && not (r == s)) ≡ false → k ≡ r → ((split && not (k == s)) ≡ false) ⊎ (n ≡ 0)
not_split false n r s k e f = inl refl
not_split true n r s k e f = by_size (nat_lt 0 n) (r == s) refl refl e
  where
    same : (k == s) ≡ (r == s)
    same = ap (λ (x : ℕ). x == s) f

    by_size : (a b : Bool) → nat_lt 0 n ≡ a → (r == s) ≡ b → (a && not b) ≡ false → (not (k == s) ≡ false) ⊎ (n ≡ 0)
    by_size true true a b e = inl (ap not (same ∙ b))
    by_size true false a b e = absurd (cc)
    by_size false b a c e = inr (grind (arith, nat_tests))

is_split : (split : Bool) (n r s k : ℕ) → (split && nat_lt 0 n && not (r == s)) ≡ true → k ≡ r → ((split && not (k == s)) ≡ true) × (1 ≤ n)
is_split false n r s k e f = absurd (cc)
is_split true n r s k e f = by_size (nat_lt 0 n) (r == s) refl refl e
  where
    same : (k == s) ≡ (r == s)
    same = ap (λ (x : ℕ). x == s) f

    by_size : (a b : Bool) → nat_lt 0 n ≡ a → (r == s) ≡ b → (a && not b) ≡ true → (not (k == s) ≡ true) × (1 ≤ n)
    by_size true true a b e = absurd (cc)
    by_size true false a b e = (ap not (same ∙ b), grind (arith, nat_tests))
    by_size false b a c e = absurd (cc)

no_bytes_left : (l : List ℕ) → length l ≡ 0 → l ≡ []
no_bytes_left [] e = refl
no_bytes_left (x ∷ l) e = absurd (omega (arith, e))

-- a further packet, which the payload goes on with
pub next_taken : (p : Plan) (consumed : List ℕ) (w : Walking) (u : Packing) (parts : List Parts) (known : List Known) (sent : List Datagram) (v : Seen) (h : Head) → 1 ≤ room u.plan → Knows consumed w parts known → AllByRecursion (λ c. length c.header ≤ room p) (map known_of parts ++ known) → u.rest ≡ []
    → IsInPackets u parts known sent → GivesStart w u.seen.head v → 1 ≤ length v.given → v.head ≡ Some h → ends_before (taken v u) ≡ false → Taken p consumed (begun h (taken v u)) sent IsInPackets
next_taken p consumed w u parts known sent v h room_some knows fit none b g some shown stays =
    let f = further p consumed w u parts known sent v h knows fit none b g shown in
    let which : (splits u.plan.split b.last (unbegun v.place) ≡ false) ⊎ (u.filling.payload ≡ []) = elim (not_split u.plan.split (length u.filling.payload) u.resolution v.place.r b.last.place.r stays (sym b.resolution)) [ inl s ↦ inl s | inr e ↦ inr (no_bytes_left u.filling.payload e) ] in
    let r = next_open u.plan (map known_of parts) b.head b.header b.front b.last u.filling v.place room_some b.fills f.last_some which in
    record {
      parts = parts;
      known = f.known_now;
      knows = f.knows;
      fit = f.fit;
      is_so = record {
        head = b.head;
        header = b.header;
        front = b.front ++ b.last ∷ [];
        last = unbegun v.place;
        known_is = f.known_is;
        shown = f.shown;
        levels = b.levels;
        fills = r.0;
        fresh = (refl, ap (λ (x : Head). pid x v.place) f.is_head);
        some = omega (arith, some);
        resolution = refl;
        not_eoc = b.not_eoc;
        stamp = b.stamp;
        sent_is = b.sent_is ∙ sym r.1;
      };
    }

-- or that ends it
pub split_taken : (p : Plan) (consumed : List ℕ) (w : Walking) (u : Packing) (parts : List Parts) (known : List Known) (sent : List Datagram) (v : Seen) (h : Head) → 1 ≤ room u.plan → Knows consumed w parts known → AllByRecursion (λ c. length c.header ≤ room p) (map known_of parts ++ known) → u.rest ≡ []
    → IsInPackets u parts known sent → GivesStart w u.seen.head v → 1 ≤ length v.given → v.head ≡ Some h → ends_before (taken v u) ≡ true → u.given ≡ length sent
    → Taken p consumed (after_closing false (begun h (taken v u))) (sent ++ closing_body false (begun h (taken v u)) ∷ []) IsInPackets
split_taken p consumed w u parts known sent v h room_some knows fit none b g some shown ends position =
    let f = further p consumed w u parts known sent v h knows fit none b g shown in
    let t = is_split u.plan.split (length u.filling.payload) u.resolution v.place.r b.last.place.r ends (sym b.resolution) in
    let ks = map known_of parts in
    let r = next_closed u.plan ks b.head b.header b.front b.last u.filling v.place room_some b.fills f.last_some t.0 t.1 in
    let before = with_part u.plan ks b.head b.header (b.front ++ b.last ∷ []) in
    let d : Datagram = closing_body false (begun h (taken v u)) in
    let same = body_alike u.plan b.head.levels u.levels (stamp_at u.plan (length ks)) u.stamp (length before) u.given false u.filling u.filling (sym b.levels) (stamp_is u.plan parts u.stamp b.stamp) (sym (position ∙ ap length b.sent_is)) refl in
    record {
      parts = parts;
      known = f.known_now;
      knows = f.knows;
      fit = f.fit;
      is_so = record {
        head = b.head;
        header = b.header;
        front = b.front ++ b.last ∷ [];
        last = unbegun v.place;
        known_is = f.known_is;
        shown = f.shown;
        levels = b.levels;
        fills = r.0;
        fresh = (refl, ap (λ (x : Head). pid x v.place) f.is_head);
        some = omega (arith, some);
        resolution = refl;
        not_eoc = ap (λ (x : Bool). x && true) b.not_eoc;
        stamp = b.stamp;
        sent_is = ap (λ k. k ++ d ∷ []) b.sent_is ∙ (ap (λ x. before ++ x ∷ []) (sym same) ∙ sym r.1);
      };
    }

-- whole codestreams and one more that fits
fit_push : (n : ℕ) (parts : List Parts) (d : Parts) (c : Known) → c.header ≡ d.header → AllByRecursion (λ k. length k.header ≤ n) (map known_of parts ++ c ∷ []) → AllByRecursion (λ k. length k.header ≤ n) (map known_of (parts ++ d ∷ []) ++ [])
fit_push n [] d c e a = (omega (arith, ap length e, a.0), tt)
fit_push n (x ∷ parts) d c e a = (a.0, fit_push n parts d c e a.1)

-- EOC
pub eoc_taken : (p : Plan) (consumed : List ℕ) (w : Walking) (u : Packing) (parts : List Parts) (known : List Known) (sent : List Datagram) (v : Seen) → Knows consumed w parts known → AllByRecursion (λ c. length c.header ≤ room p) (map known_of parts ++ known) → u.rest ≡ []
    → IsInPackets u parts known sent → GivesEoc w u.seen.head v → Taken p consumed (record (taken v u) { eoc = true }) sent IsAtEoc
eoc_taken p consumed w u parts known sent v knows fit none b g =
    let k = knows_eoc consumed w u.seen.head v parts known knows g in
    let same : part b.head b.header (b.front ++ longer b.last u.rest ∷ []) ∷ [] ≡ part g.head k.0 k.1 ∷ [] = sym b.known_is ∙ k.3 in
    let head : g.head ≡ b.head = sym (ap (first_head b.head) same) in
    let header : k.0 ≡ b.header = sym (ap first_header same) in
    let whole_last : longer b.last u.rest ≡ b.last = piece_alike b.last.place b.last.place (b.last.bytes ++ u.rest) b.last.bytes refl (ap (λ (l : List ℕ). b.last.bytes ++ l) none ∙ append-nil b.last.bytes) in
    let pieces : k.1 ≡ b.front ++ b.last ∷ [] = sym (ap first_pieces same) ∙ ap (λ (x : Piece). b.front ++ x ∷ []) whole_last in
    let now : known_of k.2 ≡ whole b.head b.header (b.front ++ b.last ∷ []) =
    k.4 ∙ (ap (λ x. whole x k.0 k.1) head ∙ (ap (λ x. whole b.head x k.1) header ∙ ap (λ x. whole b.head b.header x) pieces)) in
    let K : List Known → Type 0 = λ l. AllByRecursion (λ c. length c.header ≤ room p) (map known_of parts ++ l) in
    record {
      parts = parts ++ k.2 ∷ [];
      known = [];
      knows = k.5;
      fit = fit_push (room p) parts k.2 (part b.head b.header (b.front ++ longer b.last u.rest ∷ [])) (sym (ap (λ (x : Known). x.header) now)) (subst K b.known_is fit);
      is_so = record {
        before = parts;
        now = k.2;
        head = b.head;
        header = b.header;
        front = b.front;
        last = b.last;
        filling = u.filling;
        parts_are = refl;
        none = refl;
        now_is = now;
        levels = b.levels;
        fills = b.fills;
        some = omega (arith, b.some, ap length none);
        is_eoc = refl;
        stamp = b.stamp;
        which = inl (g.given, refl, b.sent_is);
      };
    }

-- a main header that fits
fit_more : (n : ℕ) (ks : List Known) (c : Known) → length c.header ≤ n → AllByRecursion (λ k. length k.header ≤ n) (ks ++ []) → AllByRecursion (λ k. length k.header ≤ n) (ks ++ c ∷ [])
fit_more n [] c f a = (f, tt)
fit_more n (k ∷ ks) c f a = (a.0, fit_more n ks c f a.1)

pub head_taken : (p : Plan) (consumed : List ℕ) (w : Walking) (u : Packing) (parts : List Parts) (known : List Known) (sent : List Datagram) (v : Seen) (h : Head) → Knows consumed w parts known → AllByRecursion (λ c. length c.header ≤ room p) (map known_of parts ++ known)
    → IsBetween u parts known sent → GivesHead w v → v.head ≡ Some h → length v.given ≤ room p → u.given ≡ length sent
    → Taken p consumed (after_main h (taken v u)) (sent ++ main_of h (taken v u) ∷ []) IsBegun
head_taken p consumed w u parts known sent v h knows fit b g shown fits position =
    let k = knows_head consumed w v parts known knows g in
    let is_head : h ≡ g.head = (let e : Some h ≡ Some g.head = sym shown ∙ g.shown in cc) in
    let ks = map known_of parts in
    let K : List Known → Type 0 = λ l. AllByRecursion (λ c. length c.header ≤ room p) (ks ++ l) in
    let c : Known = part g.head g.front [] in
    let d : Datagram = main_of h (taken v u) in
    let main : main_at u.plan (stamp_at u.plan (length ks)) (length (datagrams_by u.plan ks)) c ≡ d =
    ap (λ n. main_at u.plan n (length (datagrams_by u.plan ks)) c) (stamp_is u.plan parts u.stamp b.stamp)
    ∙ (ap (λ n. main_at u.plan u.stamp n c) (sym (position ∙ ap length b.sent_is))
    ∙ (ap (λ l. main_at u.plan u.stamp u.given (part g.head l [])) (sym g.given) ∙ ap (λ x. main_at u.plan u.stamp u.given (part x v.given [])) (sym is_head))) in
    record {
      parts = parts;
      known = c ∷ [];
      knows = k.1;
      fit = fit_more (room p) ks c (omega (arith, fits, ap length g.given)) (subst K k.0 fit);
      is_so = record {
        head = g.head;
        header = g.front;
        known_is = refl;
        shown = g.shown;
        levels = ap (λ (x : Head). x.levels) is_head;
        nothing_left = refl;
        is_empty = b.is_empty;
        not_eoc = b.not_eoc;
        stamp = b.stamp;
        sent_is = ap (λ l. l ++ d ∷ []) b.sent_is ∙ (ap (λ x. datagrams_by u.plan ks ++ x ∷ []) (sym main) ∙ sym (main_made u.plan ks g.head g.front));
      };
    }
