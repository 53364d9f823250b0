-- More bytes only add to what is there of the codestreams at their front.
use Rattle.std.proofs.Common.{◌≡◌, ◌<◌, ◌≤◌, ◌+◌, ℕ, List, [], ◌∷◌, ◌++◌, map, length, refl, sym, subst, ap, ◌∙◌, inl, inr, arith, append_assoc}
use Rattle.std.specs.List.{AllByRecursion, AllZip}
use Rattle.std.proofs.lemmas.List.{append-nil, length-append, map-append}
use Rattle.codestream_model.proofs.PacketsOneWay.{one_packet}
use Rattle.codestream_model.specs.Values.{Head, Place}
use Rattle.codestream_model.specs.MainHeader.{SpellsHead}
use Rattle.codestream_model.specs.PacketOrder.{IsPacketOrder}
use Rattle.codestream_model.specs.Packet.{Content}
use Rattle.codestream_model.specs.Codestream.{IsCodestream, joined}
use Rattle.codestream_model.proofs.HeaderJudged.{header_is_one}
use Rattle.codestream_model.proofs.Orders.{packet_order_is_one}
use Rattle.codestream_model.proofs.OneWayLemmas.{same_front}
use Rattle.codestream_model.proofs.Inputs.{lists_agree}
use Rattle.codestream_model.proofs.TreeLemmas.{among_all}
use Rattle.stream_model.specs.Stream.{Parts, ArePackets, ArePartsOf, bytes_after_sod}
use Rattle.stream_model.specs.Cut.{Piece, Known, known_of, pieces_of, IsOpened, Begins, HasNoHead, IsNext}
use Rattle.stream_model.specs.Laws.{HasGrown}
use Rattle.stream_model.proofs.CutPayloads.{joined-append}
use Rattle.stream_model.proofs.GrownPieces.{pieces_grow}
use Rattle.stream_model.proofs.GrownDatagrams.{Follows}
use Rattle.stream_model.proofs.ClosedGrown.{each_is}

-- Whole codestreams of these parts are at the front of bytes, and this is there of the next.
pub record AreThere (bytes : List ℕ) (parts : List Parts) (next : List Known) : Type 0 where
  pub codestreams : List (List ℕ)
  pub rest : List ℕ
  pub whole : bytes ≡ joined codestreams ++ rest
  pub are_parts : AllZip (λ c codestream. ArePartsOf c codestream) parts codestreams
  pub few : length codestreams ≤ 65536
  pub is_next : IsNext (length codestreams) rest next

-- packets of one codestream are one list
same_packets : (h : Head) (places : List Place) (content said : List Content) (packets seen : List (List ℕ)) (rest tail : List ℕ) → ArePackets h places content packets → ArePackets h places said seen → joined packets ++ rest ≡ joined seen ++ tail → (packets ≡ seen) × (content ≡ said)
same_packets h [] [] [] [] [] rest tail a b e = (refl, refl)
same_packets h (p ∷ places) (x ∷ content) (y ∷ said) (c ∷ packets) (d ∷ seen) rest tail a b e =
    let split : c ++ (joined packets ++ rest) ≡ d ++ (joined seen ++ tail) = sym (append_assoc c (joined packets) rest) ∙ (e ∙ append_assoc d (joined seen) tail) in
    let one = one_packet h p x y c d (joined packets ++ rest) (joined seen ++ tail) a.0 b.0 split in
    let after = (same_front c d (joined packets ++ rest) (joined seen ++ tail) (ap length one.0) split).1 in
    let r = same_packets h places content said packets seen rest tail a.1 b.1 after in
    let e : c ≡ d = one.0 in
    let f : x ≡ y = one.1 in
    (rw (e, r.0) refl, rw (f, r.1) refl)
same_packets h [] [] [] [] (d ∷ seen) rest tail a b e = absurd b
same_packets h [] [] [] (c ∷ packets) seen rest tail a b e = absurd a
same_packets h [] [] (y ∷ said) packets seen rest tail a b e = absurd b
same_packets h [] (x ∷ content) said packets seen rest tail a b e = absurd a
same_packets h (p ∷ places) [] said packets seen rest tail a b e = absurd a
same_packets h (p ∷ places) (x ∷ content) [] packets seen rest tail a b e = absurd b
same_packets h (p ∷ places) (x ∷ content) (y ∷ said) [] seen rest tail a b e = absurd a
same_packets h (p ∷ places) (x ∷ content) (y ∷ said) (c ∷ packets) [] rest tail a b e = absurd b

-- equal parts
parts_by : (c d : Parts) → c.head ≡ d.head → c.header ≡ d.header → c.places ≡ d.places → c.content ≡ d.content → c.packets ≡ d.packets → c ≡ d
parts_by c d e f g k l =
    let r : record { head = c.head; header = c.header; places = c.places; content = c.content; packets = c.packets } ≡ record { head = d.head; header = d.header; places = d.places; content = d.content; packets = d.packets } = rw (e, f, g, k, l) refl in
    r

-- a codestream has one list of parts
one_parts : (c d : Parts) (b : List ℕ) → ArePartsOf c b → ArePartsOf d b → c ≡ d
one_parts c d b s t =
    let split : c.header ++ bytes_after_sod c ≡ d.header ++ bytes_after_sod d = sym s.whole ∙ t.whole in
    let one = header_is_one c.head d.head c.header d.header (bytes_after_sod c) (bytes_after_sod d) s.is_head t.is_head split in
    let after = (same_front c.header d.header (bytes_after_sod c) (bytes_after_sod d) (ap length one.1) split).1 in
    let O : Head → Type 0 = λ h. IsPacketOrder h d.places in
    let places : c.places ≡ d.places = packet_order_is_one c.head c.places d.places s.order (subst O (sym one.0) t.order) in
    let A : Head → Type 0 = λ h. ArePackets h d.places d.content d.packets in
    let B : List Place → Type 0 = λ ps. ArePackets c.head ps d.content d.packets in
    let r = same_packets c.head c.places c.content d.content c.packets d.packets (255 ∷ 217 ∷ []) (255 ∷ 217 ∷ []) s.are_packets (subst B (sym places) (subst A (sym one.0) t.are_packets)) after in
    parts_by c d one.0 one.1 places r.1 r.0

-- and so have many
parts_agree : (ps qs : List Parts) (xs : List (List ℕ)) → AllZip (λ c b. ArePartsOf c b) ps xs → AllZip (λ c b. ArePartsOf c b) qs xs → ps ≡ qs
parts_agree [] [] [] a b = refl
parts_agree [] (q ∷ qs) [] a b = absurd b
parts_agree (p ∷ ps) qs [] a b = absurd a
parts_agree [] qs (x ∷ xs) a b = absurd a
parts_agree (p ∷ ps) [] (x ∷ xs) a b = absurd b
parts_agree (p ∷ ps) (q ∷ qs) (x ∷ xs) a b =
    let e : p ≡ q = one_parts p q x a.0 b.0 in
    rw (e, parts_agree ps qs xs a.1 b.1) refl

-- the parts of codestreams and of those after them
parts_split : (qs : List Parts) (xs ys : List (List ℕ)) → AllZip (λ c b. ArePartsOf c b) qs (xs ++ ys) → (front : List Parts) × (back : List Parts) × (qs ≡ front ++ back) × AllZip (λ c b. ArePartsOf c b) front xs × AllZip (λ c b. ArePartsOf c b) back ys
parts_split qs [] ys a = ([], qs, refl, tt, a)
parts_split [] (x ∷ xs) ys a = absurd a
parts_split (q ∷ qs) (x ∷ xs) ys a = let r = parts_split qs xs ys a.1 in (q ∷ r.0, r.1, ap (λ l. q ∷ l) r.2, (a.0, r.3), r.4)

-- what is there of a codestream, and what is there of it in more bytes
grown_known : (c : Known) (rest more : List ℕ) (b : Begins c rest) (g : Head) (other : List ℕ) (known later : List Place) (said : List Content) (seen : List (List ℕ)) (tail : List ℕ) (now : List Piece)
    → SpellsHead g other → IsPacketOrder g (known ++ later) → ArePackets g known said seen → rest ++ more ≡ other ++ (joined seen ++ tail) → IsOpened g later tail now
    → (c.head ≡ g) × (c.header ≡ other) × HasGrown c.pieces (pieces_of known seen ++ now)
grown_known c rest more b g other known later said seen tail now is order are e opened =
    let mine = (joined b.packets ++ b.rest) ++ more in
    let split : c.header ++ mine ≡ other ++ (joined seen ++ tail) = sym (ap (λ (l : List ℕ). l ++ more) b.whole ∙ append_assoc c.header (joined b.packets ++ b.rest) more) ∙ e in
    let one = header_is_one c.head g c.header other mine (joined seen ++ tail) b.is_head is split in
    let after = (same_front c.header other mine (joined seen ++ tail) (ap length one.1) split).1 in
    let O : Head → Type 0 = λ h. IsPacketOrder h (known ++ later) in
    let A : Head → Type 0 = λ h. ArePackets h known said seen in
    let N : Head → Type 0 = λ h. IsOpened h later tail now in
    let places : b.before ++ b.later ≡ known ++ later = packet_order_is_one c.head (b.before ++ b.later) (known ++ later) b.order (subst O (sym one.0) order) in
    let G : List Piece → Type 0 = λ l. HasGrown l (pieces_of known seen ++ now) in
    (one.0, one.1, subst G (sym b.pieces) (pieces_grow c.head b.before b.later later known b.content said b.packets seen b.rest tail more b.opened now b.are_packets (subst A (sym one.0) are) places after b.is_opened (subst N (sym one.0) opened)))

-- a codestream has come whole
grown_whole : (c : Known) (rest more : List ℕ) (b : Begins c rest) (d : Parts) (codestream tail : List ℕ) → ArePartsOf d codestream → rest ++ more ≡ codestream ++ tail → (c.head ≡ d.head) × (c.header ≡ d.header) × HasGrown c.pieces (known_of d).pieces
grown_whole c rest more b d codestream tail a e =
    let O : List Place → Type 0 = λ l. IsPacketOrder d.head l in
    let split : rest ++ more ≡ d.header ++ (joined d.packets ++ (255 ∷ 217 ∷ tail)) =
    e ∙ (ap (λ (l : List ℕ). l ++ tail) a.whole ∙ (append_assoc d.header (bytes_after_sod d) tail ∙ ap (λ (l : List ℕ). d.header ++ l) (append_assoc (joined d.packets) (255 ∷ 217 ∷ []) tail))) in
    let r = grown_known c rest more b d.head d.header d.places [] d.content d.packets (255 ∷ 217 ∷ tail) [] a.is_head (subst O (sym (append-nil d.places)) a.order) a.are_packets split refl in
    let G : List Piece → Type 0 = λ l. HasGrown c.pieces l in
    (r.0, r.1, subst G (append-nil (pieces_of d.places d.packets)) r.2)

-- or more of it has
grown_part : (c d : Known) (rest more : List ℕ) (b : Begins c rest) (t : Begins d (rest ++ more)) → (c.head ≡ d.head) × (c.header ≡ d.header) × HasGrown c.pieces d.pieces
grown_part c d rest more b t =
    let r = grown_known c rest more b d.head d.header t.before t.later t.content t.packets t.rest t.opened t.is_head t.order t.are_packets t.whole t.is_opened in
    let G : List Piece → Type 0 = λ l. HasGrown c.pieces l in
    (r.0, r.1, subst G (sym t.pieces) r.2)

-- a main header stays
head_stays : (c : Known) (rest more : List ℕ) → Begins c rest → HasNoHead (rest ++ more) → ⊥
head_stays c rest more b none =
    none c.head c.header ((joined b.packets ++ b.rest) ++ more) b.is_head (ap (λ (l : List ℕ). l ++ more) b.whole ∙ append_assoc c.header (joined b.packets ++ b.rest) more)

-- what is there of the next codestream in more bytes, where no codestream came whole
next_follows : (n : ℕ) (rest more : List ℕ) (next now : List Known) → IsNext n rest next → IsNext n (rest ++ more) now → Follows next now
next_follows n rest more next now (inl a) b = inl a.1
next_follows n rest more next now (inr (few, none, inr a)) b = inl a.1
next_follows n rest more next now (inr (few, none, inl (c, begins, e))) (inl b) = absurd (omega (arith, few, b.0))
next_follows n rest more next now (inr (few, none, inl (c, begins, e))) (inr (few', none', inr b)) = absurd (head_stays c rest more begins b.0)
next_follows n rest more next now (inr (few, none, inl (c, begins, e))) (inr (few', none', inl (d, further, f))) =
    let g = grown_part c d rest more begins further in
    inr (c, d, [], e, f, begins.unended, g.0, g.1, g.2)

-- and where it did
next_closes : (n : ℕ) (rest more : List ℕ) (next : List Known) (d : Parts) (codestream tail : List ℕ) (known : List Known) → IsNext n rest next → ArePartsOf d codestream → rest ++ more ≡ codestream ++ tail → Follows next (known_of d ∷ known)
next_closes n rest more next d codestream tail known (inl a) s e = inl a.1
next_closes n rest more next d codestream tail known (inr (few, none, inr a)) s e = inl a.1
next_closes n rest more next d codestream tail known (inr (few, none, inl (c, begins, f))) s e =
    let g = grown_whole c rest more begins d codestream tail s e in
    inr (c, known_of d, known, f, refl, begins.unended, g.0, g.1, g.2)

-- after the codestreams that are whole in some bytes, in more bytes
follows_after : (n m : ℕ) (rest tail more : List ℕ) (next now : List Known) (back : List Parts) (extra : List (List ℕ)) → n + length extra ≡ m → AllZip (λ c b. ArePartsOf c b) back extra → rest ++ more ≡ joined extra ++ tail
    → IsNext n rest next → IsNext m tail now → Follows next (map known_of back ++ now)
follows_after n m rest tail more next now [] [] k a e f g =
    let P : ℕ → Type 0 = λ j. IsNext j tail now in
    let Q : List ℕ → Type 0 = λ l. IsNext n l now in
    let s : m ≡ n = omega arith in
    next_follows n rest more next now f (subst Q (sym e) (subst P s g))
follows_after n m rest tail more next now [] (x ∷ extra) k a e f g = absurd a
follows_after n m rest tail more next now (d ∷ back) [] k a e f g = absurd a
follows_after n m rest tail more next now (d ∷ back) (x ∷ extra) k a e f g = next_closes n rest more next d x (joined extra ++ tail) (map known_of back ++ now) f a.0 (e ∙ append_assoc x (joined extra) tail)

-- no codestream is whole that wasn't counted
none_whole : (n : ℕ) (rest codestream tail : List ℕ) (next : List Known) → n < 65536 → IsNext n rest next → IsCodestream codestream → rest ≡ codestream ++ tail → ⊥
none_whole n rest codestream tail next few (inl a) c e = omega (arith, a.0, few)
none_whole n rest codestream tail next few (inr (few', none, a)) c e = none codestream tail c e

-- All that is there of some bytes is there of more bytes, and of what follows it at least what was there.
pub record HaveGrown (parts : List Parts) (next : List Known) (later : List Parts) (now : List Known) : Type 0 where
  pub back : List Known
  pub whole : map known_of later ++ now ≡ map known_of parts ++ back
  pub follows : Follows next back

-- where the same codestreams are whole, or more
grown_forward : (bytes more : List ℕ) (parts later : List Parts) (next now : List Known) (a : AreThere bytes parts next) (b : AreThere (bytes ++ more) later now) (extra : List (List ℕ)) → b.codestreams ≡ a.codestreams ++ extra → HaveGrown parts next later now
grown_forward bytes more parts later next now a b extra e =
    let Z : List (List ℕ) → Type 0 = λ l. AllZip (λ c x. ArePartsOf c x) later l in
    let s = parts_split later a.codestreams extra (subst Z e b.are_parts) in
    let same : s.0 ≡ parts = parts_agree s.0 parts a.codestreams s.3 a.are_parts in
    let all : joined b.codestreams ≡ joined a.codestreams ++ joined extra = ap joined e ∙ joined-append a.codestreams extra in
    let split : joined a.codestreams ++ (a.rest ++ more) ≡ joined a.codestreams ++ (joined extra ++ b.rest) =
    sym (ap (λ (l : List ℕ). l ++ more) a.whole ∙ append_assoc (joined a.codestreams) a.rest more) ∙ (b.whole ∙ (ap (λ (l : List ℕ). l ++ b.rest) all ∙ append_assoc (joined a.codestreams) (joined extra) b.rest)) in
    let after = (same_front (joined a.codestreams) (joined a.codestreams) (a.rest ++ more) (joined extra ++ b.rest) refl split).1 in
    let count : length a.codestreams + length extra ≡ length b.codestreams = sym (ap length e ∙ length-append a.codestreams extra) in
    record {
      back = map known_of s.1 ++ now;
      whole =
          ap (λ l. map known_of l ++ now) (s.2 ∙ ap (λ l. l ++ s.1) same) ∙ (ap (λ l. l ++ now) (map-append known_of parts s.1) ∙ append_assoc (map known_of parts) (map known_of s.1) now);
      follows = follows_after (length a.codestreams) (length b.codestreams) a.rest b.rest more next now s.1 extra count s.4 after a.is_next b.is_next;
    }

-- fewer can't be whole
grown_backward : (bytes more : List ℕ) (parts later : List Parts) (next now : List Known) (a : AreThere bytes parts next) (b : AreThere (bytes ++ more) later now) (extra : List (List ℕ)) → a.codestreams ≡ b.codestreams ++ extra → HaveGrown parts next later now
grown_backward bytes more parts later next now a b [] e = grown_forward bytes more parts later next now a b [] (sym (append-nil a.codestreams ∙ (e ∙ append-nil b.codestreams)))
grown_backward bytes more parts later next now a b (x ∷ extra) e =
    let E : List (List ℕ) → Type 0 = λ l. AllByRecursion IsCodestream l in
    let each = subst E e (each_is parts a.codestreams a.are_parts) in
    let all : joined a.codestreams ≡ joined b.codestreams ++ (x ++ joined extra) = ap joined e ∙ joined-append b.codestreams (x ∷ extra) in
    let tail = joined extra ++ (a.rest ++ more) in
    let split : joined b.codestreams ++ b.rest ≡ joined b.codestreams ++ (x ++ tail) =
    sym b.whole ∙ (ap (λ (l : List ℕ). l ++ more) a.whole ∙ (append_assoc (joined a.codestreams) a.rest more ∙ (ap (λ (l : List ℕ). l ++ (a.rest ++ more)) all
    ∙ (append_assoc (joined b.codestreams) (x ++ joined extra) (a.rest ++ more) ∙ ap (λ (l : List ℕ). joined b.codestreams ++ l) (append_assoc x (joined extra) (a.rest ++ more)))))) in
    let after = (same_front (joined b.codestreams) (joined b.codestreams) b.rest (x ++ tail) refl split).1 in
    absurd (none_whole (length b.codestreams) b.rest x tail now (omega (arith, a.few, ap length e, length-append b.codestreams (x ∷ extra))) b.is_next (among_all IsCodestream b.codestreams x extra each) after)

-- what is there of some bytes is there of more
pub have_grown : (bytes more : List ℕ) (parts later : List Parts) (next now : List Known) → AreThere bytes parts next → AreThere (bytes ++ more) later now → HaveGrown parts next later now
have_grown bytes more parts later next now a b =
    let split : joined a.codestreams ++ (a.rest ++ more) ≡ joined b.codestreams ++ b.rest = sym (ap (λ (l : List ℕ). l ++ more) a.whole ∙ append_assoc (joined a.codestreams) a.rest more) ∙ b.whole in
    let n = lists_agree a.codestreams b.codestreams (a.rest ++ more) b.rest (each_is parts a.codestreams a.are_parts) (each_is later b.codestreams b.are_parts) split in
    elim n.1 [
      | inl e ↦ grown_forward bytes more parts later next now a b n.0 e
      | inr e ↦ grown_backward bytes more parts later next now a b n.0 e
    ]
