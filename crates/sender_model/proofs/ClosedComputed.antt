-- The datagrams that are computed are those that the bytes fix.
use Rattle.std.proofs.Common.{◌≡◌, ◌⊎◌, ◌<◌, ◌≤◌, ◌+◌, ℕ, zero, suc, Bool, true, false, List, [], ◌∷◌, ◌++◌, map, length, take, drop, Result, Ok, Err, subst, refl, sym, ◌∙◌, ap, inl, inr, arith, append_assoc, if◌then◌else◌}
use Rattle.std.specs.Prelude.{MatchResult}
use Rattle.std.specs.List.{AllZip}
use Rattle.std.proofs.lemmas.List.{append-nil, length-append, take_at, drop_at, take-append-drop}
use Rattle.codestream_model.specs.Values.{Head, Place}
use Rattle.codestream_model.specs.Bytes.{IsBytes}
use Rattle.codestream_model.specs.MainHeader.{SpellsHead}
use Rattle.codestream_model.specs.MainHeaderReading.{Refused, head_of}
use Rattle.codestream_model.specs.RefusedHeader.{RefusesHead}
use Rattle.codestream_model.specs.PacketOrder.{packet_order, IsPacketOrder}
use Rattle.codestream_model.specs.Packet.{Content}
use Rattle.codestream_model.specs.Codestream.{SpellsCodestream, BeginsCodestream, IsPsotRight, joined}
use Rattle.codestream_model.proofs.BytesLemmas.{bytes_front}
use Rattle.codestream_model.proofs.SegmentBytes.{bytes-drop}
use Rattle.codestream_model.proofs.HeaderJudged.{headers_are_judged, header_is_not_refused}
use Rattle.codestream_model.proofs.HeaderReads.{header_is_read_one_way}
use Rattle.codestream_model.proofs.HeaderLimits.{header_has_components}
use Rattle.codestream_model.proofs.Orders.{packet_order_is_computed}
use Rattle.codestream_model.proofs.CodestreamsJudged.{bytes_back}
use Rattle.stream_model.specs.Commands.{Walked, stopped, walk, walk_behind}
use Rattle.stream_model.specs.Stream.{Parts, ArePartsOf, bytes_after_sod}
use Rattle.stream_model.specs.Cut.{Piece, Known, known_of, pieces_of, datagrams_by, datagram_bytes, Begins, HasNoCodestream, HasNoHead, sendable, Closed}
use Rattle.stream_model.specs.CommandLaws.{precincts_of}
use Rattle.stream_model.proofs.CodestreamParts.{parts_spell}
use Rattle.stream_model.proofs.ParsedPackets.{found_before, order_is, walk_begun, end_tested}
use Rattle.stream_model.proofs.ClosedGrown.{closed_grows}
use Rattle.sender_model.specs.Closing.{pieces_at, walk_of, known_at, known, closed}
use Rattle.sender_model.specs.ClosingLaws.{ClosedIsComputed, ClosedIsOne, ClosedOnlyGrows}
use Rattle.sender_model.proofs.PiecesFound.{Ends, Opens, opens, packets_are_pieces}

-- What is there after some whole codestreams, at most n of them.
abbrev pub IsNextOf : ℕ → ℕ → List ℕ → List Known → Type 0
IsNextOf n m rest next =
    ((m ≡ n) × (next ≡ []))
    ⊎ ((m < n) × HasNoCodestream rest × (((c : Known) × Begins c rest × (next ≡ c ∷ [])) ⊎ (HasNoHead rest × (next ≡ []))))

-- The whole codestreams at the front of bytes, at most n, and what is there of the next, as computed.
pub record Computed (n : ℕ) (bytes : List ℕ) : Type 0 where
  pub codestreams : List (List ℕ)
  pub parts : List Parts
  pub rest : List ℕ
  pub next : List Known
  pub whole : bytes ≡ joined codestreams ++ rest
  pub are : AllZip (λ c codestream. ArePartsOf c codestream) parts codestreams
  pub few : length codestreams ≤ n
  pub is_next : IsNextOf n (length codestreams) rest next
  pub is_known : known n bytes ≡ map known_of parts ++ next

-- what is known by the main header
known_ok : (n : ℕ) (bytes : List ℕ) (h : Head) → head_of bytes ≡ Ok h → known (suc n) bytes ≡ known_at h bytes ∷ (if (walk_of h bytes).whole then known n (walk_of h bytes).rest else [])
unfolding known
known_ok n bytes h e = rw (e, known) refl

known_err : (n : ℕ) (bytes : List ℕ) (t : Refused) → head_of bytes ≡ Err t → known (suc n) bytes ≡ []
unfolding known
known_err n bytes t e = rw (e, known) refl

-- no codestream is whole where no main header is
none_without_head : (bytes : List ℕ) → HasNoHead bytes → HasNoCodestream bytes
none_without_head bytes none codestream more (h, content, s) e =
    none h s.head ((s.packets ++ 255 ∷ 217 ∷ []) ++ more) s.is_head
    (e ∙ (ap (λ (l : List ℕ). l ++ more) s.whole ∙ append_assoc s.head (s.packets ++ 255 ∷ 217 ∷ []) more))

-- where no main header is there, nothing is
no_head : (n : ℕ) (bytes : List ℕ) (t : Refused) → head_of bytes ≡ Err t → RefusesHead bytes t.at t.why → Computed (suc n) bytes
no_head n bytes t e s =
    let none : HasNoHead bytes = λ h header more is f. (let P : List ℕ → Type 0 = λ l. RefusesHead l t.at t.why in header_is_not_refused h header more t.at t.why is (subst P f s)) in
    record {
      codestreams = [];
      parts = [];
      rest = bytes;
      next = [];
      whole = refl;
      are = tt;
      few = omega arith;
      is_next = inr (omega arith, none_without_head bytes none, inr (none, refl));
      is_known = known_err n bytes t e;
    }

-- a codestream begins with its main header and its packets, and EOC is next
begins_whole : (h : Head) (content : List Content) (codestream more : List ℕ) (s : SpellsCodestream h content codestream) → BeginsCodestream h [] (length s.head + length s.packets) (255 ∷ 217 ∷ more) (codestream ++ more)
begins_whole h content codestream more s =
    let Q : List Place → Type 0 = λ l. IsPacketOrder h l in
    record {
      head = s.head;
      before = s.places;
      content = content;
      packets = s.packets;
      is_head = s.is_head;
      order = subst Q (sym (append-nil s.places)) s.order;
      are_packets = s.are_packets;
      place = refl;
      whole = ap (λ (l : List ℕ). l ++ more) s.whole ∙ (append_assoc s.head (s.packets ++ 255 ∷ 217 ∷ []) more ∙ ap (λ (l : List ℕ). s.head ++ l) (append_assoc s.packets (255 ∷ 217 ∷ []) more));
    }

-- a walk that comes to EOC is over
walk_ends : (h : Head) (stamp at : ℕ) (more : List ℕ) → IsPsotRight h at → ((walk h stamp at [] (255 ∷ 217 ∷ more)).whole ≡ true) × ((walk h stamp at [] (255 ∷ 217 ∷ more)).rest ≡ more)
unfolding walk
walk_ends h stamp at more psot =
    let end : Bool → Walked = λ b. if b then record { precincts = []; whole = true; rest = drop 2 (255 ∷ 217 ∷ more) } else stopped (255 ∷ 217 ∷ more) in
    (ap (λ (b : Bool). (end b).whole) (end_tested h at more psot), ap (λ (b : Bool). (end b).rest) (end_tested h at more psot))

-- where a codestream is whole the walk says so
walk_whole : (g : Head) (content : List Content) (codestream more : List ℕ) → SpellsCodestream g content codestream → IsBytes (codestream ++ more) → (walk_behind (head_of (codestream ++ more)) 0 (codestream ++ more)).whole ≡ true
walk_whole g content codestream more s fits =
    let at = length s.head + length s.packets in
    let b = begins_whole g content codestream more s in
    ap (λ (w : Walked). w.whole) (walk_begun g 0 at [] (255 ∷ 217 ∷ more) (codestream ++ more) b fits) ∙ (walk_ends g 0 at more s.psot).0

-- and where it says no, none is
none_whole : (h : Head) (bytes : List ℕ) → head_of bytes ≡ Ok h → IsBytes bytes → (walk_of h bytes).whole ≡ false → HasNoCodestream bytes
none_whole h bytes e fits unended codestream more (g, content, s) f =
    let P : List ℕ → Type 0 = λ l. IsBytes l in
    let ended : (walk_behind (head_of bytes) 0 bytes).whole ≡ true = ap (λ (l : List ℕ). (walk_behind (head_of l) 0 l).whole) f ∙ walk_whole g content codestream more s (subst P f fits) in
    let same : (walk_behind (head_of bytes) 0 bytes).whole ≡ (walk_of h bytes).whole = ap (λ (r : Result Head Refused). (walk_behind r 0 bytes).whole) e in
    let c : true ≡ false = sym ended ∙ (same ∙ unended) in
    absurd (cc)

-- the order of the packets
order_of : (h : Head) (header : List ℕ) → SpellsHead h header → IsPacketOrder h (packet_order h)
order_of h header s = packet_order_is_computed h (header_has_components h header s).steps

-- the length of a main header
head_size : (h : Head) (bytes : List ℕ) → SpellsHead h (take h.length bytes) → h.length ≡ length (take h.length bytes)
head_size h bytes s = ap (λ (x : Head). x.length) s.values

-- one codestream more before those that are known
one_before : (n : ℕ) (bytes codestream rest : List ℕ) (c : Parts) (k : Known) → ArePartsOf c codestream → bytes ≡ codestream ++ rest → known (suc n) bytes ≡ k ∷ known n rest → k ≡ known_of c → Computed n rest → Computed (suc n) bytes
one_before n bytes codestream rest c k a e f g r = record {
  codestreams = codestream ∷ r.codestreams;
  parts = c ∷ r.parts;
  rest = r.rest;
  next = r.next;
  whole = e ∙ (ap (λ (l : List ℕ). codestream ++ l) r.whole ∙ sym (append_assoc codestream (joined r.codestreams) r.rest));
  are = (a, r.are);
  few = omega (arith, r.few);
  is_next = elim r.is_next [ inl t ↦ inl (ap suc t.0, t.1) | inr t ↦ inr (omega (arith, t.0), t.1, t.2) ];
  is_known = f ∙ (ap (λ (l : List Known). k ∷ l) r.is_known ∙ ap (λ (x : Known). x ∷ (map known_of r.parts ++ r.next)) g);
}

-- where the walk over a codestream ends with EOC, all its parts are there
whole_first : (n : ℕ) (bytes : List ℕ) (h : Head) → ((b : List ℕ) → IsBytes b → Computed n b) → head_of bytes ≡ Ok h → SpellsHead h (take h.length bytes) → IsBytes bytes
    → (o : Opens h h.length (packet_order h) (drop h.length bytes)) → (walk_of h bytes).whole ≡ true → o.later ≡ [] → o.opened ≡ [] → IsPsotRight h (h.length + length (joined o.packets)) → o.rest ≡ 255 ∷ 217 ∷ (walk_of h bytes).rest
    → Computed (suc n) bytes
whole_first n bytes h ih e s fits o ended later opened psot tail =
    let header = take h.length bytes in
    let rest = (walk_of h bytes).rest in
    let c : Parts = record { head = h; header = header; places = o.before; content = o.content; packets = o.packets } in
    let codestream = header ++ bytes_after_sod c in
    let O : List Place → Type 0 = λ l. IsPacketOrder h l in
    let S : ℕ → Type 0 = λ i. IsPsotRight h (i + length (joined o.packets)) in
    let P : List ℕ → Type 0 = λ l. IsBytes l in
    let places : packet_order h ≡ o.before = o.order ∙ (ap (λ l. o.before ++ l) later ∙ append-nil o.before) in
    let behind : drop h.length bytes ≡ bytes_after_sod c ++ rest = o.whole ∙ (ap (λ (l : List ℕ). joined o.packets ++ l) tail ∙ sym (append_assoc (joined o.packets) (255 ∷ 217 ∷ []) rest)) in
    let whole : bytes ≡ codestream ++ rest = sym (take-append-drop h.length bytes) ∙ (ap (λ (l : List ℕ). header ++ l) behind ∙ sym (append_assoc header (bytes_after_sod c) rest)) in
    let a : ArePartsOf c codestream = record {
      is_head = s;
      order = subst O places (order_of h header s);
      are_packets = o.are;
      psot = subst S (head_size h bytes s) psot;
      whole = refl;
    } in
    let pieces : pieces_at h (packet_order h) (drop h.length bytes) ≡ pieces_of o.before o.packets = o.pieces ∙ (ap (λ (l : List Piece). pieces_of o.before o.packets ++ l) opened ∙ append-nil (pieces_of o.before o.packets)) in
    let is : known_at h bytes ≡ known_of c = rw (pieces, ended) refl in
    one_before n bytes codestream rest c (known_at h bytes) a whole (known_ok n bytes h e ∙ ap (λ (b : Bool). known_at h bytes ∷ (if b then known n rest else [])) ended) is (ih rest (bytes_back codestream rest (subst P whole fits)))

-- and where it doesn't, this is what is there of the next codestream
part_first : (n : ℕ) (bytes : List ℕ) (h : Head) → head_of bytes ≡ Ok h → SpellsHead h (take h.length bytes) → IsBytes bytes → Opens h h.length (packet_order h) (drop h.length bytes) → (walk_of h bytes).whole ≡ false
    → Computed (suc n) bytes
part_first n bytes h e s fits o unended =
    let O : List Place → Type 0 = λ l. IsPacketOrder h l in
    let b : Begins (known_at h bytes) bytes = record {
      before = o.before;
      later = o.later;
      content = o.content;
      packets = o.packets;
      rest = o.rest;
      opened = o.opened;
      is_head = s;
      order = subst O o.order (order_of h (take h.length bytes) s);
      are_packets = o.are;
      whole = sym (take-append-drop h.length bytes) ∙ ap (λ (l : List ℕ). take h.length bytes ++ l) o.whole;
      is_opened = o.is_opened;
      pieces = o.pieces;
      unended = unended;
    } in
    record {
      codestreams = [];
      parts = [];
      rest = bytes;
      next = known_at h bytes ∷ [];
      whole = refl;
      are = tt;
      few = omega arith;
      is_next = inr (omega arith, none_whole h bytes e fits unended, inl (known_at h bytes, b, refl));
      is_known = known_ok n bytes h e ∙ ap (λ (c : Bool). known_at h bytes ∷ (if c then known n (walk_of h bytes).rest else [])) unended;
    }

-- by the way the walk over the first codestream ends
by_end : (n : ℕ) (bytes : List ℕ) (h : Head) → ((b : List ℕ) → IsBytes b → Computed n b) → head_of bytes ≡ Ok h → SpellsHead h (take h.length bytes) → IsBytes bytes
    → (o : Opens h h.length (packet_order h) (drop h.length bytes)) → Ends h (h.length + length (joined o.packets)) o.later o.opened o.rest (walk_of h bytes) → Computed (suc n) bytes
by_end n bytes h ih e s fits o (inl (ended, later, opened, psot, tail)) = whole_first n bytes h ih e s fits o ended later opened psot tail
by_end n bytes h ih e s fits o (inr unended) = part_first n bytes h e s fits o unended

-- by what is read of the main header
by_head : (n : ℕ) (bytes : List ℕ) (r : Result Head Refused) → ((b : List ℕ) → IsBytes b → Computed n b) → head_of bytes ≡ r → IsBytes bytes → MatchResult r (λ h. SpellsHead h (take h.length bytes)) (λ t. RefusesHead bytes t.at t.why)
    → Computed (suc n) bytes
by_head n bytes (Ok h) ih e fits s =
    let o = opens h h.length (packet_order h) (drop h.length bytes) (bytes-drop h.length bytes fits) in
    by_end n bytes h ih e s fits o o.ends
by_head n bytes (Err t) ih e fits s = no_head n bytes t e s

-- all bytes are computed
pub computed : (n : ℕ) (bytes : List ℕ) → IsBytes bytes → Computed n bytes
unfolding known
computed zero bytes fits = record { codestreams = []; parts = []; rest = bytes; next = []; whole = refl; are = tt; few = omega arith; is_next = inl (refl, refl); is_known = refl }
computed (suc n) bytes fits = by_head n bytes (head_of bytes) (computed n) refl fits (headers_are_judged bytes fits)

-- two lists each of which begins with the other are one
pub both_fronts : {A : Type 0} (xs ys more others : List A) → ys ≡ xs ++ more → xs ≡ ys ++ others → xs ≡ ys
both_fronts xs ys [] others e f = sym (e ∙ append-nil xs)
both_fronts xs ys (m ∷ more) others e f = absurd (omega (arith, ap length e, ap length f, length-append xs (m ∷ more), length-append ys others))

-- so what is computed is fixed,
pub closed_is_computed : ClosedIsComputed
closed_is_computed p bytes fits =
    let r = computed 65536 bytes fits in
    record {
      codestreams = r.codestreams;
      parts = r.parts;
      rest = r.rest;
      next = r.next;
      whole = r.whole;
      are_parts = r.are;
      few = r.few;
      is_next = r.is_next;
      fixed = ap (λ (l : List Known). map datagram_bytes (take 8388607 (datagrams_by p (sendable p l)))) r.is_known;
    }

-- and nothing else is
pub closed_is_one : ClosedIsOne
closed_is_one p bytes datagrams fits some c =
    let P : List ℕ → Type 0 = λ l. Closed p l (closed p bytes) in
    let Q : List ℕ → Type 0 = λ l. Closed p l datagrams in
    let a = closed_grows p bytes [] datagrams (closed p bytes) some c (subst P (sym (append-nil bytes)) (closed_is_computed p bytes fits)) in
    let b = closed_grows p bytes [] (closed p bytes) datagrams some (closed_is_computed p bytes fits) (subst Q (sym (append-nil bytes)) c) in
    both_fronts datagrams (closed p bytes) a.0 b.0 a.1 b.1

-- more bytes only add datagrams at the end
pub closed_only_grows : ClosedOnlyGrows
closed_only_grows p bytes more fits some = closed_grows p bytes more (closed p bytes) (closed p (bytes ++ more)) some (closed_is_computed p bytes (bytes_front bytes more fits)) (closed_is_computed p (bytes ++ more) fits)

-- What is there of a whole codestream are its parts, whatever follows it.
whole_known : (n : ℕ) (c : Parts) (codestream more : List ℕ) → ArePartsOf c codestream → IsBytes (codestream ++ more) → known (suc n) (codestream ++ more) ≡ known_of c ∷ known n more
whole_known n c codestream more a fits =
    let h = c.head in
    let bytes = codestream ++ more in
    let tail = joined c.packets ++ 255 ∷ 217 ∷ more in
    let s = parts_spell c codestream a in
    let at = length s.head + length s.packets in
    let B : List ℕ → Type 0 = λ l. IsBytes l in
    let whole : bytes ≡ c.header ++ tail =
    ap (λ (l : List ℕ). l ++ more) a.whole ∙ (append_assoc c.header (bytes_after_sod c) more ∙ ap (λ (l : List ℕ). c.header ++ l) (append_assoc (joined c.packets) (255 ∷ 217 ∷ []) more)) in
    let read : head_of bytes ≡ Ok h = ap head_of whole ∙ header_is_read_one_way h c.header tail a.is_head in
    let size : h.length ≡ length c.header = ap (λ (x : Head). x.length) a.is_head.values in
    let front : take h.length bytes ≡ c.header = ap (take h.length) whole ∙ take_at c.header tail h.length (sym size) in
    let behind : drop h.length bytes ≡ tail = ap (drop h.length) whole ∙ drop_at c.header tail h.length (sym size) in
    let order : packet_order h ≡ c.places = order_is h c.header c.places a.is_head (bytes_front c.header tail (subst B whole fits)) a.order in
    let pieces : pieces_at h (packet_order h) (drop h.length bytes) ≡ pieces_of c.places c.packets = rw (order, behind) (packets_are_pieces h c.places c.content c.packets (255 ∷ 217 ∷ more) a.are_packets) in
    let b = begins_whole h c.content codestream more s in
    let walked : walk_of h bytes ≡ found_before (precincts_of h 0 b.before b.content) (walk h 0 at [] (255 ∷ 217 ∷ more)) =
    sym (ap (λ (r : Result Head Refused). walk_behind r 0 bytes) read) ∙ walk_begun h 0 at [] (255 ∷ 217 ∷ more) bytes b fits in
    let over = walk_ends h 0 at more s.psot in
    let ended : (walk_of h bytes).whole ≡ true = ap (λ (w : Walked). w.whole) walked ∙ over.0 in
    let left : (walk_of h bytes).rest ≡ more = ap (λ (w : Walked). w.rest) walked ∙ over.1 in
    let is : known_at h bytes ≡ known_of c = rw (front, pieces, ended) refl in
    known_ok n bytes h read ∙ rw (is, ended, left) refl

-- and so with many
pub wholes_known : (n : ℕ) (parts : List Parts) (codestreams : List (List ℕ)) → AllZip (λ c b. ArePartsOf c b) parts codestreams → IsBytes (joined codestreams) → known (length codestreams + n) (joined codestreams) ≡ map known_of parts ++ known n []
wholes_known n [] [] a fits = ap (λ (k : ℕ). known k []) (let e : 0 + n ≡ n = omega arith in e)
wholes_known n [] (b ∷ codestreams) a fits = absurd a
wholes_known n (c ∷ parts) [] a fits = absurd a
wholes_known n (c ∷ parts) (b ∷ codestreams) a fits =
    let e : suc (length codestreams) + n ≡ suc (length codestreams + n) = omega arith in
    ap (λ (k : ℕ). known k (b ++ joined codestreams)) e
    ∙ (whole_known (length codestreams + n) c b (joined codestreams) a.0 fits
    ∙ ap (λ (l : List Known). known_of c ∷ l) (wholes_known n parts codestreams a.1 (bytes_back b (joined codestreams) fits)))

-- nothing is there of no bytes
pub none_known : (n : ℕ) → known n [] ≡ []
unfolding known head_of
none_known zero = refl
none_known (suc n) = refl
