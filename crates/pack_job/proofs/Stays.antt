-- What a sender refuses of an input stays refused, whatever follows.
use Rattle.std.proofs.Common.{◌≡◌, ◌⊎◌, ◌<◌, ◌≤◌, ◌+◌, ℕ, false, List, [], ◌∷◌, ◌++◌, map, length, take, refl, sym, subst, ◌∙◌, ap, inl, inr, arith, append_assoc}
use Rattle.std.specs.Prelude.{nat_le}
use Rattle.std.specs.List.{AllByRecursion, sum_by}
use Rattle.std.proofs.lemmas.Bool.{cases_lt, le-leb}
use Rattle.std.proofs.lemmas.List.{append-nil, length-append, take-append-le}
use Rattle.wire_model.specs.Datagram.{Datagram}
use Rattle.codestream_model.specs.Values.{Head, Place}
use Rattle.codestream_model.specs.Bytes.{IsBytes}
use Rattle.codestream_model.specs.Codestream.{WalkRefusal, HeadRefused, Cut, TooManyBlocks, HeaderRefused, PacketTooLong, Psot, NoEoc, InputTooLong, TooManyFrames, IsCodestream, BeginsCodestream, RefusesCodestream, NeedsCodestreamBytes, joined}
use Rattle.codestream_model.proofs.CodestreamsJudged.{bytes_back, codestream_verdict}
use Rattle.codestream_model.proofs.Inputs.{lists_agree}
use Rattle.codestream_model.proofs.ItemsJudged.{packets_judged, packet_refusal_stays}
use Rattle.codestream_model.proofs.Stays.{codestream_refusals_stay}
use Rattle.codestream_model.proofs.TreeLemmas.{among_all}
use Rattle.stream_model.specs.Stream.{Parts}
use Rattle.stream_model.specs.Cut.{Plan, Piece, Known, room, known_of, datagrams_by, sendable, IsOpened, Begins, HasNoHead, IsNext}
use Rattle.stream_model.proofs.CodestreamParts.{packets_join}
use Rattle.stream_model.proofs.ClosedGrown.{each_is}
use Rattle.stream_model.proofs.GrownDatagrams.{Begins as IsFrontOf, Follows, sent_with}
use Rattle.sender_model.specs.Closing.{due_by}
use Rattle.sender_model.specs.Refusals.{HasLongHeader, HasNoLongHeader, HasFewDatagrams, HasManyDatagrams}
use Rattle.sender_model.proofs.ClosedComputed.{Computed, computed}
use Rattle.sender_model.proofs.Refused.{Fits, FitsKnown, all_fit, next_is_long, behind_front}
use Rattle.packetiser.proofs.CodestreamsGrow.{AreThere, have_grown}
use Rattle.packetiser.proofs.Closing.{refused_none, refused_head, refused_packet}
use Rattle.packetiser.proofs.Due.{computed_there, due_begins, due_is}
use Rattle.packetiser.proofs.Settled.{fits_next}
use Rattle.codestream_walk.specs.Items.{RefusesHeadItem}
use Rattle.codestream_walk.proofs.Refusals.{head_refusal_stays}

-- more bytes only add datagrams
pub due_grows : (p : Plan) (bytes more : List ℕ) → 1 ≤ room p → IsBytes bytes → IsBytes (bytes ++ more) → IsFrontOf (due_by p bytes) (due_by p (bytes ++ more))
due_grows p bytes more some is fits =
    let r = computed 65536 bytes is in
    let b = due_begins p bytes more r.parts r.next some fits (computed_there bytes r) in
    (b.0, b.1 ∙ ap (λ l. l ++ b.0) (sym (ap (λ l. datagrams_by p (sendable p l)) r.is_known)))

-- so one too many stays one too many
pub many_stay : (p : Plan) (bytes more : List ℕ) (at : ℕ) → 1 ≤ room p → IsBytes bytes → IsBytes (bytes ++ more) → HasManyDatagrams p bytes at → HasManyDatagrams p (bytes ++ more) at
many_stay p bytes more at some is fits h =
    let g = due_grows p bytes more some is fits in
    let few : 8388607 ≤ length (due_by p bytes) = omega (arith, h.many) in
    let front : take 8388607 (due_by p (bytes ++ more)) ≡ take 8388607 (due_by p bytes) = ap (take 8388607) g.1 ∙ take-append-le 8388607 (due_by p bytes) g.0 few in
    record {
      many = omega (arith, h.many, ap length g.1, length-append (due_by p bytes) g.0);
      place = h.place ∙ ap (sum_by (λ (x : Datagram). length x.codestream)) (sym front);
    }

-- nothing is sent from a main header on that is too long
none_sent : (p : Plan) (c : Known) (known : List Known) → room p < length c.header → sendable p (c ∷ known) ≡ []
none_sent p c known long = rw (never (length c.header) (room p) long) refl
  where
    never : (n m : ℕ) → m < n → nat_le n m ≡ false
    never n m l = grind arith

-- where one of some codestreams is too long, what follows isn't sent
same_next : (p : Plan) (next back : List Known) → (AllByRecursion (FitsKnown p) next → ⊥) → Follows next back → sendable p next ≡ sendable p back
same_next p next back long (inl none) = (let P : List Known → Type 0 = λ l. AllByRecursion (FitsKnown p) l in absurd (long (subst P (sym none) tt)))
same_next p next back long (inr (c, d, more, e, f, unended, h, same, grown)) = elim (cases_lt (room p) (length c.header)) [
  | inl l ↦ ap (sendable p) e ∙ (none_sent p c [] l ∙ (sym (none_sent p d more (omega (arith, l, ap length same))) ∙ ap (sendable p) (sym f)))
  | inr s ↦ (let P : List Known → Type 0 = λ l. AllByRecursion (FitsKnown p) l in absurd (long (subst P (sym e) (s, tt))))
]

same_sent : (p : Plan) (parts : List Parts) (next back : List Known) → (AllByRecursion (Fits p) parts → AllByRecursion (FitsKnown p) next → ⊥) → Follows next back → sendable p (map known_of parts ++ next) ≡ sendable p (map known_of parts ++ back)
same_sent p [] next back long f = same_next p next back (long tt) f
same_sent p (c ∷ parts) next back long f = elim (cases_lt (room p) (length c.header)) [
  | inl l ↦ none_sent p (known_of c) (map known_of parts ++ next) l ∙ sym (none_sent p (known_of c) (map known_of parts ++ back) l)
  | inr s ↦
      let fits = le-leb (length c.header) (room p) s in
      sent_with p (known_of c) (map known_of parts ++ next) fits ∙ (ap (λ l. known_of c ∷ l) (same_sent p parts next back (λ a b. long (s, a) b) f) ∙ sym (sent_with p (known_of c) (map known_of parts ++ back) fits))
]

all_push : (p : Plan) (parts : List Parts) (next : List Known) → AllByRecursion (Fits p) parts → AllByRecursion (FitsKnown p) next → AllByRecursion (FitsKnown p) (map known_of parts ++ next)
all_push p [] next a b = b
all_push p (c ∷ parts) next a b = (a.0, all_push p parts next a.1 b)

-- a main header that is too long ends what bytes fix
pub long_due : (p : Plan) (bytes more : List ℕ) (at : ℕ) → IsBytes bytes → IsBytes (bytes ++ more) → HasLongHeader p bytes at → due_by p (bytes ++ more) ≡ due_by p bytes
long_due p bytes more at is fits l =
    let r = computed 65536 bytes is in
    let q = computed 65536 (bytes ++ more) fits in
    let g = have_grown bytes more r.parts q.parts r.next q.next (computed_there bytes r) (computed_there (bytes ++ more) q) in
    let long : AllByRecursion (Fits p) r.parts → AllByRecursion (FitsKnown p) r.next → ⊥ = λ a b. fits_next p bytes r.parts r.next (computed_there bytes r) (all_push p r.parts r.next a b) at l in
    ap (λ l. datagrams_by p (sendable p l)) (q.is_known ∙ g.whole) ∙ (ap (datagrams_by p) (sym (same_sent p r.parts r.next g.back long g.follows)) ∙ ap (λ l. datagrams_by p (sendable p l)) (sym r.is_known))

-- and stays
pub long_stays : (p : Plan) (bytes more : List ℕ) (at : ℕ) → HasLongHeader p bytes at → HasLongHeader p (bytes ++ more) at
long_stays p bytes more at l = record {
  codestreams = l.codestreams;
  parts = l.parts;
  head = l.head;
  header = l.header;
  more = l.more ++ more;
  whole = ap (λ (x : List ℕ). x ++ more) l.whole ∙ (append_assoc (joined l.codestreams) (l.header ++ l.more) more ∙ ap (λ (x : List ℕ). joined l.codestreams ++ x) (append_assoc l.header l.more more));
  are_parts = l.are_parts;
  fit = l.fit;
  few = l.few;
  is_head = l.is_head;
  long = l.long;
  place = l.place;
}

-- what is opened of a packet that is refused stays so
opened_stays : (h : Head) (later : List Place) (bytes rest more : List ℕ) (size : ℕ) (opened : List Piece) → IsBytes rest → BeginsCodestream h later size rest bytes → (NeedsCodestreamBytes bytes → ⊥) → IsOpened h later rest opened → IsOpened h later (rest ++ more) opened
opened_stays h [] bytes rest more size opened fits b whole o = o
opened_stays h (p ∷ later) bytes rest more size opened fits b whole (inl (lacks, e)) =
    absurd (whole (size, inr (inl (h, p, later, rest, b, record { few_blocks = lacks.begins.few_blocks; unfinished = inr lacks }))))
opened_stays h (p ∷ later) bytes rest more size opened fits b whole (inr (none, no_packet, e)) = elim (packets_judged h p rest fits) [
  | inl (x, packet, back, s, f) ↦ absurd (no_packet x packet back s f)
  | inr (inl (why, r)) ↦
      let P : List Piece → Type 0 = λ l. IsOpened h (p ∷ later) (rest ++ more) l in
      subst P (sym e) (refused_packet h p later (rest ++ more) why (packet_refusal_stays h p rest more why r))
  | inr (inr t) ↦ absurd (whole (size, inr (inl (h, p, later, rest, b, t))))
]

-- bytes that begin a codestream, as they are judged
begins_judged : (c : Known) (rest : List ℕ) (b : Begins c rest) → BeginsCodestream c.head b.later (length c.header + length (joined b.packets)) b.rest rest
begins_judged c rest b = record {
  head = c.header;
  before = b.before;
  content = b.content;
  packets = joined b.packets;
  is_head = b.is_head;
  order = b.order;
  are_packets = packets_join c.head b.before b.content b.packets b.are_packets;
  place = refl;
  whole = b.whole;
}

-- where no main header is there, that is what is refused
head_refused : (rest : List ℕ) (at : ℕ) (why : WalkRefusal) → HasNoHead rest → RefusesCodestream rest at why → RefusesHeadItem rest at why
head_refused rest at (HeadRefused why) none r = r
head_refused rest at TooManyBlocks none (h, p, later, tail, b, r) = absurd (none h b.head (b.packets ++ tail) b.is_head b.whole)
head_refused rest at (HeaderRefused why) none (h, p, later, tail, b, r) = absurd (none h b.head (b.packets ++ tail) b.is_head b.whole)
head_refused rest at PacketTooLong none (h, p, later, tail, b, r) = absurd (none h b.head (b.packets ++ tail) b.is_head b.whole)
head_refused rest at Psot none (h, tail, b, r) = absurd (none h b.head (b.packets ++ tail) b.is_head b.whole)
head_refused rest at NoEoc none (h, tail, b, r) = absurd (none h b.head (b.packets ++ tail) b.is_head b.whole)
head_refused rest at Cut none r = absurd r
head_refused rest at InputTooLong none r = absurd r
head_refused rest at TooManyFrames none r = absurd r

-- what is there of a codestream that is refused stays
next_stays : (n : ℕ) (rest more : List ℕ) (next : List Known) (at : ℕ) (why : WalkRefusal) → IsBytes rest → RefusesCodestream rest at why → IsNext n rest next → IsNext n (rest ++ more) next
next_stays n rest more next at why fits r (inl t) = inl t
next_stays n rest more next at why fits r (inr (few, none, inr (no_head, e))) =
    let stays = head_refusal_stays rest more at why (head_refused rest at why no_head r) in
    inr (few, refused_none (rest ++ more) at why (codestream_refusals_stay rest more at why r), inr (refused_head (rest ++ more) at why stays, e))
next_stays n rest more next at why fits r (inr (few, none, inl (c, b, e))) =
    let B : List ℕ → Type 0 = λ l. IsBytes l in
    let left = bytes_back (joined b.packets) b.rest (bytes_back c.header (joined b.packets ++ b.rest) (subst B b.whole fits)) in
    let d : Begins c (rest ++ more) = record {
      before = b.before;
      later = b.later;
      content = b.content;
      packets = b.packets;
      rest = b.rest ++ more;
      opened = b.opened;
      is_head = b.is_head;
      order = b.order;
      are_packets = b.are_packets;
      whole = ap (λ (l : List ℕ). l ++ more) b.whole ∙ (append_assoc c.header (joined b.packets ++ b.rest) more ∙ ap (λ (l : List ℕ). c.header ++ l) (append_assoc (joined b.packets) b.rest more));
      is_opened = opened_stays c.head b.later rest b.rest more (length c.header + length (joined b.packets)) b.opened left (begins_judged c rest b) (λ n. (codestream_verdict rest).not_both at why r n) b.is_opened;
      pieces = b.pieces;
      unended = b.unended;
    } in
    inr (few, refused_none (rest ++ more) at why (codestream_refusals_stay rest more at why r), inl (c, d, e))

-- Of bytes nothing more is there, whatever follows: as many codestreams as there may be are whole, or the next is refused.
abbrev pub IsOver : List ℕ → Type 0
IsOver bytes =
    (codestreams : List (List ℕ)) × (rest : List ℕ) × (bytes ≡ joined codestreams ++ rest) × AllByRecursion IsCodestream codestreams
    × ((length codestreams ≡ 65536) ⊎ ((length codestreams < 65536) × ((at : ℕ) × (why : WalkRefusal) × RefusesCodestream rest at why)))

-- so what is computed of them is there of more
over_there : (bytes more : List ℕ) (r : Computed 65536 bytes) → IsBytes bytes → IsOver bytes → AreThere (bytes ++ more) r.parts r.next
over_there bytes more r fits (codestreams, rest, whole, each, over) =
    let mine = each_is r.parts r.codestreams r.are in
    let n = lists_agree r.codestreams codestreams r.rest rest mine each (sym r.whole ∙ whole) in
    record {
      codestreams = r.codestreams;
      rest = r.rest ++ more;
      whole = ap (λ (l : List ℕ). l ++ more) r.whole ∙ append_assoc (joined r.codestreams) r.rest more;
      are_parts = r.are;
      few = r.few;
      is_next = by_next r.is_next n.0 n.1;
    }
  where
    by_rest : IsNext (length r.codestreams) r.rest r.next → codestreams ≡ r.codestreams → IsNext (length r.codestreams) (r.rest ++ more) r.next
    by_rest (inl t) e = inl t
    by_rest (inr t) e = elim over [
      | inl all ↦ absurd (omega (arith, all, t.0, ap length e))
      | inr u ↦
          let same : r.rest ≡ rest = behind_front r.codestreams [] bytes r.rest rest r.whole (whole ∙ ap (λ xs. joined xs ++ rest) (e ∙ sym (append-nil r.codestreams))) in
          let R : List ℕ → Type 0 = λ l. RefusesCodestream l u.1.0 u.1.1 in
          let B : List ℕ → Type 0 = λ l. IsBytes l in
          next_stays (length r.codestreams) r.rest more r.next u.1.0 u.1.1 (bytes_back (joined r.codestreams) r.rest (subst B r.whole fits)) (subst R (sym same) u.1.2) (inr t)
    ]

    by_next : IsNext (length r.codestreams) r.rest r.next → (extra : List (List ℕ)) → (codestreams ≡ r.codestreams ++ extra) ⊎ (r.codestreams ≡ codestreams ++ extra) → IsNext (length r.codestreams) (r.rest ++ more) r.next
    by_next i [] (inl e) = by_rest i (e ∙ append-nil r.codestreams)
    by_next i [] (inr e) = by_rest i (sym (e ∙ append-nil codestreams))
    by_next (inl t) (x ∷ extra) (inl e) = inl t
    by_next (inr t) (x ∷ extra) (inl e) =
        let P : List (List ℕ) → Type 0 = λ xs. AllByRecursion IsCodestream xs in
        let is : IsCodestream x = among_all IsCodestream r.codestreams x extra (subst P e each) in
        let after : r.rest ≡ (x ++ joined extra) ++ rest = behind_front r.codestreams (x ∷ extra) bytes r.rest rest r.whole (whole ∙ ap (λ xs. joined xs ++ rest) e) in
        absurd (t.1 x (joined extra ++ rest) is (after ∙ append_assoc x (joined extra) rest))
    by_next i (x ∷ extra) (inr e) =
        let P : List (List ℕ) → Type 0 = λ xs. AllByRecursion IsCodestream xs in
        let is : IsCodestream x = among_all IsCodestream codestreams x extra (subst P e (each_is r.parts r.codestreams r.are)) in
        let after : rest ≡ (x ++ joined extra) ++ r.rest = behind_front codestreams (x ∷ extra) bytes rest r.rest whole (r.whole ∙ ap (λ xs. joined xs ++ r.rest) e) in
        elim over [
          | inl all ↦ absurd (omega (arith, all, r.few, ap length e, length-append codestreams (x ∷ extra)))
          | inr u ↦ absurd ((codestream_verdict rest).not_refused (x, joined extra ++ r.rest, is, after ∙ append_assoc x (joined extra) r.rest) u.1.0 u.1.1 u.1.2)
        ]

-- the main header of the next codestream fits
next_fit : (p : Plan) (bytes : List ℕ) (r : Computed 65536 bytes) → HasNoLongHeader p bytes → AllByRecursion (FitsKnown p) r.next
next_fit p bytes r none =
    let P : List Known → Type 0 = λ l. AllByRecursion (FitsKnown p) l in
    elim r.is_next [
      | inl t ↦ subst P (sym t.1) tt
      | inr t ↦ elim t.2 [
        | inr u ↦ subst P (sym u.1) tt
        | inl u ↦ elim (cases_lt (room p) (length u.0.header)) [
          | inl long ↦ let l = next_is_long p bytes r (all_fit p bytes r none) t.0 u.0 u.1 long in absurd (none l.0 l.1)
          | inr short ↦ subst P (sym u.2) (short, tt)
        ]
      ]
    ]

-- and what bytes fix stays all that is fixed, without a main header that is too long
pub over_stays : (p : Plan) (bytes more : List ℕ) → 1 ≤ room p → IsBytes bytes → IsBytes (bytes ++ more) → IsOver bytes → HasFewDatagrams p bytes → HasNoLongHeader p bytes → HasFewDatagrams p (bytes ++ more) × HasNoLongHeader p (bytes ++ more)
over_stays p bytes more some is fits over few none =
    let r = computed 65536 bytes is in
    let there = over_there bytes more r is over in
    let due : due_by p (bytes ++ more) ≡ due_by p bytes = due_is p (bytes ++ more) r.parts r.next some fits there ∙ sym (ap (λ l. datagrams_by p (sendable p l)) r.is_known) in
    let all = all_push p r.parts r.next (all_fit p bytes r none) (next_fit p bytes r none) in
    (omega (arith, few, ap length due), fits_next p (bytes ++ more) r.parts r.next there all)
