-- A sender takes an input to its end or refuses it, never both, and refuses it in one way.
use Rattle.std.proofs.Common.{◌≡◌, ◌⊎◌, ◌<◌, ◌≤◌, ◌+◌, ◌-◌, ℕ, List, [], ◌∷◌, ◌++◌, map, length, take, subst, refl, sym, ◌∙◌, ap, inl, inr, arith, append_assoc}
use Rattle.std.specs.List.{AllByRecursion, AllZip, flat_map, sum_by}
use Rattle.std.proofs.lemmas.Bool.{cases_lt, le-leb}
use Rattle.std.proofs.lemmas.List.{append-nil, length-append, take_all}
use Rattle.codestream_model.specs.Values.{Head}
use Rattle.codestream_model.specs.Bytes.{IsBytes}
use Rattle.codestream_model.specs.MainHeader.{SpellsHead}
use Rattle.codestream_model.specs.Codestream.{IsCodestream, WalkRefusal, Faults, IsInput, joined}
use Rattle.codestream_model.proofs.HeaderJudged.{header_is_one}
use Rattle.codestream_model.proofs.Inputs.{lists_agree, codestream_long, fault_is_one, input_is_not_refused, inputs_are_judged}
use Rattle.codestream_model.proofs.BytesLemmas.{bytes_front, bytes_join}
use Rattle.codestream_model.proofs.SegmentBytes.{bytes-take}
use Rattle.stream_model.proofs.ParsedPackets.{bytes_behind, head_long}
use Rattle.codestream_model.proofs.TreeLemmas.{among_all}
use Rattle.codestream_model.proofs.OneWayLemmas.{same_front}
use Rattle.stream_model.specs.Stream.{Parts, ArePartsOf, bytes_after_sod, datagrams_of, IsStream}
use Rattle.stream_model.specs.Commands.{counted}
use Rattle.stream_model.specs.Cut.{Plan, Known, room, known_of, sendable, datagrams_by, sent_by, datagram_bytes, Begins, HasNoCodestream}
use Rattle.stream_model.specs.ThinnedLaws.{CanBeSent, cut_of}
use Rattle.stream_model.proofs.Positions.{placed}
use Rattle.stream_model.proofs.CutPayloads.{joined-append}
use Rattle.stream_model.proofs.CutStreams.{the_sent, count_of, sent_placed}
use Rattle.stream_model.proofs.GrownDatagrams.{all_of, datagrams_placed, sent_with}
use Rattle.stream_model.proofs.ClosedGrown.{each_is}
use Rattle.stream_model.proofs.ThinnedCuts.{cut_carries}
use Rattle.sender_model.specs.Closing.{known, due_by, closed}
use Rattle.sender_model.specs.Refusals.{SenderRefusal, InputRefused, HeaderTooLong, TooManyDatagrams, HasLongHeader, HasNoLongHeader, HasFewDatagrams, SenderRefuses, SenderAccepts}
use Rattle.sender_model.specs.RefusalLaws.{InputsAreSentOrRefused, SenderHasOneAnswer, AcceptedIsCut, SendableIsAccepted}
use Rattle.sender_model.proofs.ClosedComputed.{both_fronts, Computed, computed, wholes_known, none_known}

-- the main header fits a datagram
abbrev pub Fits : Plan → Parts → Type 0
Fits p c = length c.header ≤ room p

-- a codestream begins with its main header
parts_split : (c : Parts) (codestream rest : List ℕ) → ArePartsOf c codestream → codestream ++ rest ≡ c.header ++ (bytes_after_sod c ++ rest)
parts_split c codestream rest a = ap (λ (l : List ℕ). l ++ rest) a.whole ∙ append_assoc c.header (bytes_after_sod c) rest

-- bytes don't begin with a codestream whose main header fits and with a main header that doesn't
not_long : (p : Plan) (c : Parts) (codestream rest header more : List ℕ) (h : Head) → ArePartsOf c codestream → Fits p c → SpellsHead h header → room p < length header → codestream ++ rest ≡ header ++ more → ⊥
not_long p c codestream rest header more h a fit s long e =
    let one = header_is_one c.head h c.header header (bytes_after_sod c ++ rest) more a.is_head s (sym (parts_split c codestream rest a) ∙ e) in
    omega (arith, fit, long, ap length one.1)

-- The first of some codestreams whose main header doesn't fit, where there is one.
record FirstLong (p : Plan) (parts : List Parts) (codestreams : List (List ℕ)) : Type 0 where
  before : List Parts
  front : List (List ℕ)
  part : Parts
  codestream : List ℕ
  back : List (List ℕ)
  are : AllZip (λ c b. ArePartsOf c b) before front
  fit : AllByRecursion (Fits p) before
  is_part : ArePartsOf part codestream
  long : room p < length part.header
  whole : codestreams ≡ front ++ codestream ∷ back

fits_or_not : (p : Plan) (parts : List Parts) (codestreams : List (List ℕ)) → AllZip (λ c b. ArePartsOf c b) parts codestreams → AllByRecursion (Fits p) parts ⊎ FirstLong p parts codestreams
fits_or_not p [] [] a = inl tt
fits_or_not p [] (b ∷ codestreams) a = absurd a
fits_or_not p (c ∷ parts) [] a = absurd a
fits_or_not p (c ∷ parts) (b ∷ codestreams) a = elim (cases_lt (room p) (length c.header)) [
  | inl long ↦ inr (record { before = []; front = []; part = c; codestream = b; back = codestreams; are = tt; fit = tt; is_part = a.0; long = long; whole = refl })
  | inr short ↦ elim (fits_or_not p parts codestreams a.1) [
    | inl all ↦ inl (short, all)
    | inr f ↦ inr (record {
      before = c ∷ f.before;
      front = b ∷ f.front;
      part = f.part;
      codestream = f.codestream;
      back = f.back;
      are = (a.0, f.are);
      fit = (short, f.fit);
      is_part = f.is_part;
      long = f.long;
      whole = ap (λ l. b ∷ l) f.whole;
    })
  ]
]

-- a whole codestream has a main header that is too long
whole_is_long : (p : Plan) (bytes : List ℕ) (r : Computed 65536 bytes) → FirstLong p r.parts r.codestreams → (at : ℕ) × HasLongHeader p bytes at
whole_is_long p bytes r f =
    let tail = joined f.back ++ r.rest in
    let all : joined r.codestreams ≡ joined f.front ++ (f.codestream ++ joined f.back) = ap joined f.whole ∙ joined-append f.front (f.codestream ∷ f.back) in
    let more : (f.codestream ++ joined f.back) ++ r.rest ≡ f.part.header ++ (bytes_after_sod f.part ++ tail) = append_assoc f.codestream (joined f.back) r.rest ∙ parts_split f.part f.codestream tail f.is_part in (
      length (joined f.front),
      record {
        codestreams = f.front;
        parts = f.before;
        head = f.part.head;
        header = f.part.header;
        more = bytes_after_sod f.part ++ tail;
        whole = r.whole ∙ (ap (λ (l : List ℕ). l ++ r.rest) all ∙ (append_assoc (joined f.front) (f.codestream ++ joined f.back) r.rest ∙ ap (λ (l : List ℕ). joined f.front ++ l) more));
        are_parts = f.are;
        fit = f.fit;
        few = omega (arith, r.few, ap length f.whole, length-append f.front (f.codestream ∷ f.back));
        is_head = f.is_part.is_head;
        long = f.long;
        place = refl;
      },
    )

-- the codestream that isn't whole has one
pub next_is_long : (p : Plan) (bytes : List ℕ) (r : Computed 65536 bytes) → AllByRecursion (Fits p) r.parts → length r.codestreams < 65536 → (c : Known) → Begins c r.rest → room p < length c.header → (at : ℕ) × HasLongHeader p bytes at
next_is_long p bytes r fit few c b long = (
  length (joined r.codestreams),
  record {
    codestreams = r.codestreams;
    parts = r.parts;
    head = c.head;
    header = c.header;
    more = joined b.packets ++ b.rest;
    whole = r.whole ∙ ap (λ (l : List ℕ). joined r.codestreams ++ l) b.whole;
    are_parts = r.are;
    fit = fit;
    few = few;
    is_head = b.is_head;
    long = long;
    place = refl;
  },
)

-- where one would be further on, a codestream before it has one
before_is_short : (p : Plan) (parts : List Parts) (front back : List (List ℕ)) (codestream rest header more : List ℕ) (h : Head) → AllZip (λ c b. ArePartsOf c b) parts (front ++ codestream ∷ back) → AllByRecursion (Fits p) parts
    → SpellsHead h header → room p < length header → codestream ++ rest ≡ header ++ more → ⊥
before_is_short p [] [] back codestream rest header more h a fit s long e = absurd a
before_is_short p [] (b ∷ front) back codestream rest header more h a fit s long e = absurd a
before_is_short p (c ∷ parts) [] back codestream rest header more h a fit s long e = not_long p c codestream rest header more h a.0 fit.0 s long e
before_is_short p (c ∷ parts) (b ∷ front) back codestream rest header more h a fit s long e = before_is_short p parts front back codestream rest header more h a.1 fit.1 s long e

-- what follows the same front of two lists of bytes
pub behind_front : (front back : List (List ℕ)) (bytes rest more : List ℕ) → bytes ≡ joined front ++ rest → bytes ≡ joined (front ++ back) ++ more → rest ≡ joined back ++ more
behind_front front back bytes rest more e f =
    (same_front (joined front) (joined front) rest (joined back ++ more) refl
    (sym e ∙ (f ∙ (ap (λ (l : List ℕ). l ++ more) (joined-append front back) ∙ append_assoc (joined front) (joined back) more)))).1

-- it isn't inside codestreams whose main headers fit
long_within : (p : Plan) (bytes : List ℕ) (at : ℕ) (l : HasLongHeader p bytes at) (parts : List Parts) (codestreams : List (List ℕ)) (rest : List ℕ) (extra : List (List ℕ)) → bytes ≡ joined codestreams ++ rest → AllZip (λ c b. ArePartsOf c b) parts codestreams
    → AllByRecursion (Fits p) parts → codestreams ≡ l.codestreams ++ extra → (others : List (List ℕ)) × (l.codestreams ≡ codestreams ++ others)
long_within p bytes at l parts codestreams rest [] e a fit f = ([], sym (append-nil codestreams ∙ (f ∙ append-nil l.codestreams)))
long_within p bytes at l parts codestreams rest (x ∷ extra) e a fit f =
    let Z : List (List ℕ) → Type 0 = λ xs. AllZip (λ c b. ArePartsOf c b) parts xs in
    let behind : l.header ++ l.more ≡ (x ++ joined extra) ++ rest = behind_front l.codestreams (x ∷ extra) bytes (l.header ++ l.more) rest l.whole (e ∙ ap (λ xs. joined xs ++ rest) f) in
    absurd (before_is_short p parts l.codestreams extra x (joined extra ++ rest) l.header l.more l.head (subst Z f a) fit l.is_head l.long (sym (append_assoc x (joined extra) rest) ∙ sym behind))

-- a main header that is too long comes after all codestreams whose main headers fit
long_is_reached : (p : Plan) (bytes : List ℕ) (at : ℕ) (l : HasLongHeader p bytes at) (parts : List Parts) (codestreams : List (List ℕ)) (rest : List ℕ) → bytes ≡ joined codestreams ++ rest → AllZip (λ c b. ArePartsOf c b) parts codestreams
    → AllByRecursion (Fits p) parts → (extra : List (List ℕ)) × (l.codestreams ≡ codestreams ++ extra)
long_is_reached p bytes at l parts codestreams rest e a fit =
    let n = lists_agree codestreams l.codestreams rest (l.header ++ l.more) (each_is parts codestreams a) (each_is l.parts l.codestreams l.are_parts) (sym e ∙ l.whole) in
    elim n.1 [
      | inl f ↦ (n.0, f)
      | inr f ↦ long_within p bytes at l parts codestreams rest n.0 e a fit f
    ]

-- Nothing after these codestreams begins with a main header that is too long.
pub record EndsShort (p : Plan) (bytes : List ℕ) : Type 0 where
  pub parts : List Parts
  pub codestreams : List (List ℕ)
  pub rest : List ℕ
  pub whole : bytes ≡ joined codestreams ++ rest
  pub are : AllZip (λ c b. ArePartsOf c b) parts codestreams
  pub fit : AllByRecursion (Fits p) parts
  pub closed : (length codestreams ≡ 65536) ⊎ (HasNoCodestream rest × ((h : Head) (header more : List ℕ) → SpellsHead h header → room p < length header → rest ≡ header ++ more → ⊥))

-- none begins where they end
none_behind : (p : Plan) (bytes : List ℕ) (at : ℕ) (l : HasLongHeader p bytes at) (r : EndsShort p bytes) (extra : List (List ℕ)) → l.codestreams ≡ r.codestreams ++ extra → HasNoCodestream r.rest
    → ((h : Head) (header more : List ℕ) → SpellsHead h header → room p < length header → r.rest ≡ header ++ more → ⊥) → ⊥
none_behind p bytes at l r [] e none short =
    short l.head l.header l.more l.is_head l.long (behind_front r.codestreams [] bytes r.rest (l.header ++ l.more) r.whole (l.whole ∙ ap (λ xs. joined xs ++ (l.header ++ l.more)) e))
none_behind p bytes at l r (x ∷ extra) e none short =
    let P : List (List ℕ) → Type 0 = λ xs. AllByRecursion IsCodestream xs in
    let is : IsCodestream x = among_all IsCodestream r.codestreams x extra (subst P e (each_is l.parts l.codestreams l.are_parts)) in
    let tail = joined extra ++ (l.header ++ l.more) in
    let behind : r.rest ≡ (x ++ joined extra) ++ (l.header ++ l.more) = behind_front r.codestreams (x ∷ extra) bytes r.rest (l.header ++ l.more) r.whole (l.whole ∙ ap (λ xs. joined xs ++ (l.header ++ l.more)) e) in
    none x tail is (behind ∙ append_assoc x (joined extra) (l.header ++ l.more))

-- so no main header is too long
pub none_is_long : (p : Plan) (bytes : List ℕ) → EndsShort p bytes → HasNoLongHeader p bytes
none_is_long p bytes r at l =
    let n = long_is_reached p bytes at l r.parts r.codestreams r.rest r.whole r.are r.fit in
    elim r.closed [
      | inl all ↦ omega (arith, all, l.few, ap length n.1, length-append r.codestreams n.0)
      | inr t ↦ none_behind p bytes at l r n.0 n.1 t.0 t.1
    ]

-- the main header at the front of bytes isn't too long
pub next_is_short : (p : Plan) (rest : List ℕ) (c : Known) (b : Begins c rest) → length c.header ≤ room p → (h : Head) (header more : List ℕ) → SpellsHead h header → room p < length header → rest ≡ header ++ more → ⊥
next_is_short p rest c b short h header more s long e =
    let one = header_is_one c.head h c.header header (joined b.packets ++ b.rest) more b.is_head s (sym b.whole ∙ e) in
    omega (arith, short, long, ap length one.1)

-- Bytes have a main header that is too long, or all are of codestreams that can be sent.
long_or_not : (p : Plan) (bytes : List ℕ) → Computed 65536 bytes → ((at : ℕ) × HasLongHeader p bytes at) ⊎ EndsShort p bytes
long_or_not p bytes r = elim (fits_or_not p r.parts r.codestreams r.are) [
  | inr f ↦ inl (whole_is_long p bytes r f)
  | inl fit ↦ elim r.is_next [
    | inl t ↦ inr (record { parts = r.parts; codestreams = r.codestreams; rest = r.rest; whole = r.whole; are = r.are; fit = fit; closed = inl t.0 })
    | inr t ↦ elim t.2 [
      | inr u ↦ inr (record { parts = r.parts; codestreams = r.codestreams; rest = r.rest; whole = r.whole; are = r.are; fit = fit; closed = inr (t.1, λ h header more s long e. u.0 h header more s e) })
      | inl u ↦ elim (cases_lt (room p) (length u.0.header)) [
        | inl long ↦ inl (next_is_long p bytes r fit t.0 u.0 u.1 long)
        | inr short ↦ inr (record { parts = r.parts; codestreams = r.codestreams; rest = r.rest; whole = r.whole; are = r.are; fit = fit; closed = inr (t.1, next_is_short p r.rest u.0 u.1 short) })
      ]
    ]
  ]
]

-- an input of at most 2^40 bytes counts whole
pub all_counted : (input : List ℕ) → length input ≤ 1099511627776 → counted input ≡ input
all_counted input within = take_all 1099511627776 input within

-- what a sender answers where the datagrams are few and no main header is too long
by_input : (p : Plan) (input : List ℕ) → HasFewDatagrams p (counted input) → HasNoLongHeader p (counted input) → ((codestreams : List (List ℕ)) × IsInput input codestreams) ⊎ ((at : ℕ) × (why : WalkRefusal) × Faults input at why)
    → ((codestreams : List (List ℕ)) × SenderAccepts p input codestreams) ⊎ ((at : ℕ) × (why : SenderRefusal) × SenderRefuses p input at why)
by_input p input few fit (inl (codestreams, is)) = inl (codestreams, record { is_input = is; fit = fit; few = few })
by_input p input few fit (inr (at, why, f)) = inr (at, InputRefused why, (few, fit, f))

-- an input is sent or refused
pub inputs_are_sent_or_refused : InputsAreSentOrRefused
inputs_are_sent_or_refused p input fits =
    let bytes = counted input in
    elim (cases_lt 8388607 (length (due_by p bytes))) [
      | inl many ↦ inr (sum_by (λ x. length x.codestream) (take 8388607 (due_by p bytes)), TooManyDatagrams, record { many = many; place = refl })
      | inr few ↦ elim (long_or_not p bytes (computed 65536 bytes (bytes-take 1099511627776 input fits))) [
        | inl (at, l) ↦ inr (at, HeaderTooLong, (few, l))
        | inr r ↦ by_input p input few (none_is_long p bytes r) (inputs_are_judged input fits)
      ]
    ]

-- two main headers that are too long are one
one_long : (p : Plan) (bytes : List ℕ) (at place : ℕ) → HasLongHeader p bytes at → HasLongHeader p bytes place → at ≡ place
one_long p bytes at place l m =
    let a = long_is_reached p bytes at l m.parts m.codestreams (m.header ++ m.more) m.whole m.are_parts m.fit in
    let b = long_is_reached p bytes place m l.parts l.codestreams (l.header ++ l.more) l.whole l.are_parts l.fit in
    l.place ∙ (ap (λ xs. length (joined xs)) (both_fronts l.codestreams m.codestreams b.0 a.0 b.1 a.1) ∙ sym m.place)

-- a refusal is one
one_refusal : (p : Plan) (input : List ℕ) (at place : ℕ) (why reason : SenderRefusal) → SenderRefuses p input at why → SenderRefuses p input place reason → (at ≡ place) × (why ≡ reason)
one_refusal p input at place TooManyDatagrams TooManyDatagrams a b = (a.place ∙ sym b.place, refl)
one_refusal p input at place TooManyDatagrams HeaderTooLong a b = absurd (omega (arith, a.many, b.0))
one_refusal p input at place TooManyDatagrams (InputRefused why) a b = absurd (omega (arith, a.many, b.0))
one_refusal p input at place HeaderTooLong TooManyDatagrams a b = absurd (omega (arith, a.0, b.many))
one_refusal p input at place HeaderTooLong HeaderTooLong a b = (one_long p (counted input) at place a.1 b.1, refl)
one_refusal p input at place HeaderTooLong (InputRefused why) a b = absurd (b.1 at a.1)
one_refusal p input at place (InputRefused why) TooManyDatagrams a b = absurd (omega (arith, a.0, b.many))
one_refusal p input at place (InputRefused why) HeaderTooLong a b = absurd (a.1 place b.1)
one_refusal p input at place (InputRefused why) (InputRefused reason) a b = let f = fault_is_one input at place why reason a.2 b.2 in (f.0, ap InputRefused f.1)

-- and never of what is taken to its end
not_both : (p : Plan) (input : List ℕ) (codestreams : List (List ℕ)) (at : ℕ) (why : SenderRefusal) → SenderAccepts p input codestreams → SenderRefuses p input at why → ⊥
not_both p input codestreams at TooManyDatagrams a r = omega (arith, a.few, r.many)
not_both p input codestreams at HeaderTooLong a r = a.fit at r.1
not_both p input codestreams at (InputRefused why) a r = input_is_not_refused input codestreams at why a.is_input r.2

pub sender_has_one_answer : SenderHasOneAnswer
sender_has_one_answer p input = record { one_refusal = one_refusal p input; not_both = not_both p input }

-- the main header of what is there fits a datagram
abbrev pub FitsKnown : Plan → Known → Type 0
FitsKnown p c = length c.header ≤ room p

pub parts_fit : (p : Plan) (parts : List Parts) → AllByRecursion (Fits p) parts → AllByRecursion (FitsKnown p) (map known_of parts)
parts_fit p [] fit = tt
parts_fit p (c ∷ parts) fit = (fit.0, parts_fit p parts fit.1)

-- codestreams that fit are all sent
pub all_sent : (p : Plan) (known : List Known) → AllByRecursion (FitsKnown p) known → sendable p known ≡ known
all_sent p [] fit = refl
all_sent p (c ∷ known) fit = sent_with p c known (le-leb (length c.header) (room p) fit.0) ∙ ap (λ l. c ∷ l) (all_sent p known fit.1)

-- in the datagrams of the cut
cut_placed : (p : Plan) (i at : ℕ) (parts : List Parts) → all_of p i at (map known_of parts) ≡ flat_map datagrams_of (placed (count_of p) (the_sent p) i at parts)
cut_placed p i at [] = refl
cut_placed p i at (c ∷ parts) = ap (λ l. datagrams_of (the_sent p i at c) ++ l) (cut_placed p (i + 1) (at + count_of p c) parts)

-- which are those that their bytes fix
cut_is_due : (p : Plan) (bytes : List ℕ) (parts : List Parts) → known 65536 bytes ≡ map known_of parts → AllByRecursion (Fits p) parts → due_by p bytes ≡ flat_map datagrams_of (sent_by p parts)
cut_is_due p bytes parts e fit =
    ap (λ l. datagrams_by p (sendable p l)) e
    ∙ (ap (datagrams_by p) (all_sent p (map known_of parts) (parts_fit p parts fit)) ∙ (datagrams_placed p (map known_of parts) ∙ (cut_placed p 0 0 parts ∙ ap (flat_map datagrams_of) (sym (sent_placed p parts)))))

-- codestreams of bytes are bytes
all_bytes : (codestreams : List (List ℕ)) → IsBytes (joined codestreams) → AllByRecursion IsBytes codestreams
all_bytes [] fits = tt
all_bytes (c ∷ codestreams) fits = (bytes_front c (joined codestreams) fits, all_bytes codestreams (bytes_behind c (joined codestreams) fits))

-- All that is computed of bytes are these codestreams.
pub record AreAll (codestreams : List (List ℕ)) (bytes : List ℕ) (r : Computed 65536 bytes) : Type 0 where
  pub same : r.codestreams ≡ codestreams
  pub no_more : r.next ≡ []

-- where the bytes end nothing is known of a next codestream
nothing_known : (bytes : List ℕ) (r : Computed 65536 bytes) → r.rest ≡ [] → r.next ≡ []
nothing_known bytes r e = elim r.is_next [
  | inl t ↦ t.1
  | inr t ↦ elim t.2 [
    | inr u ↦ u.1
    | inl u ↦ absurd (omega (arith, head_long u.0.head u.0.header u.1.is_head, ap length e, ap length u.1.whole, length-append u.0.header (joined u.1.packets ++ u.1.rest)))
  ]
]

-- where fewer codestreams were computed another is whole
fewer_are_computed : (bytes : List ℕ) (r : Computed 65536 bytes) (codestreams extra : List (List ℕ)) → bytes ≡ joined codestreams → AllByRecursion IsCodestream codestreams → length codestreams ≤ 65536 → codestreams ≡ r.codestreams ++ extra
    → AreAll codestreams bytes r
fewer_are_computed bytes r codestreams [] whole each few e =
    let same : codestreams ≡ r.codestreams = e ∙ append-nil r.codestreams in
    record { same = sym same; no_more = nothing_known bytes r (behind_front r.codestreams [] bytes r.rest [] r.whole (whole ∙ (ap joined e ∙ sym (append-nil (joined (r.codestreams ++ [])))))) }
fewer_are_computed bytes r codestreams (x ∷ extra) whole each few e =
    let P : List (List ℕ) → Type 0 = λ xs. AllByRecursion IsCodestream xs in
    let is : IsCodestream x = among_all IsCodestream r.codestreams x extra (subst P e each) in
    let behind : r.rest ≡ (x ++ joined extra) ++ [] = behind_front r.codestreams (x ∷ extra) bytes r.rest [] r.whole (whole ∙ (ap joined e ∙ sym (append-nil (joined (r.codestreams ++ x ∷ extra))))) in
    elim r.is_next [
      | inl t ↦ absurd (omega (arith, t.0, few, ap length e, length-append r.codestreams (x ∷ extra)))
      | inr t ↦ absurd (t.1 x (joined extra ++ []) is (behind ∙ append_assoc x (joined extra) []))
    ]

-- more can't be
more_are_computed : (bytes : List ℕ) (r : Computed 65536 bytes) (codestreams extra : List (List ℕ)) → bytes ≡ joined codestreams → AllByRecursion IsCodestream codestreams → length codestreams ≤ 65536 → r.codestreams ≡ codestreams ++ extra
    → AreAll codestreams bytes r
more_are_computed bytes r codestreams [] whole each few e = fewer_are_computed bytes r codestreams [] whole each few (sym (append-nil r.codestreams ∙ (e ∙ append-nil codestreams)))
more_are_computed bytes r codestreams (x ∷ extra) whole each few e =
    let P : List (List ℕ) → Type 0 = λ xs. AllByRecursion IsCodestream xs in
    let is : IsCodestream x = among_all IsCodestream codestreams x extra (subst P e (each_is r.parts r.codestreams r.are)) in
    let behind : [] ≡ (x ++ joined extra) ++ r.rest = behind_front codestreams (x ∷ extra) bytes [] r.rest (whole ∙ sym (append-nil (joined codestreams))) (r.whole ∙ ap (λ xs. joined xs ++ r.rest) e) in
    absurd (omega (arith, codestream_long x is, ap length behind, length-append (x ++ joined extra) r.rest, length-append x (joined extra)))

-- so what is computed of an input are its codestreams
pub input_is_computed : (bytes : List ℕ) (r : Computed 65536 bytes) (codestreams : List (List ℕ)) → IsInput bytes codestreams → AreAll codestreams bytes r
input_is_computed bytes r codestreams is =
    let n = lists_agree r.codestreams codestreams r.rest [] (each_is r.parts r.codestreams r.are) is.each (sym r.whole ∙ (is.whole ∙ sym (append-nil (joined codestreams)))) in
    elim n.1 [
      | inl e ↦ fewer_are_computed bytes r codestreams n.0 is.whole is.each is.few e
      | inr e ↦ more_are_computed bytes r codestreams n.0 is.whole is.each is.few e
    ]

-- where no main header is too long all codestreams fit
pub all_fit : (p : Plan) (bytes : List ℕ) (r : Computed 65536 bytes) → HasNoLongHeader p bytes → AllByRecursion (Fits p) r.parts
all_fit p bytes r none = elim (fits_or_not p r.parts r.codestreams r.are) [
  | inl fit ↦ fit
  | inr f ↦ let l = whole_is_long p bytes r f in absurd (none l.0 l.1)
]

-- what a sender takes to its end it sends as the cut
pub accepted_is_cut : AcceptedIsCut
accepted_is_cut p input codestreams plan fits a =
    let r = computed 65536 input fits in
    let all : counted input ≡ input = all_counted input a.is_input.within in
    let F : List ℕ → Type 0 = λ l. HasNoLongHeader p l in
    let D : List ℕ → Type 0 = λ l. HasFewDatagrams p l in
    let B : List ℕ → Type 0 = λ l. IsBytes l in
    let Z : List (List ℕ) → Type 0 = λ xs. AllZip (λ c b. ArePartsOf c b) r.parts xs in
    let S : List (List ℕ) → Type 0 = λ xs. IsStream codestreams xs in
    let is = input_is_computed input r codestreams a.is_input in
    let fit = all_fit p input r (subst F all a.fit) in
    let is_known : known 65536 input ≡ map known_of r.parts = r.is_known ∙ (ap (λ l. map known_of r.parts ++ l) is.no_more ∙ append-nil (map known_of r.parts)) in
    let due : due_by p input ≡ flat_map datagrams_of (sent_by p r.parts) = cut_is_due p input r.parts is_known fit in
    let few : length (due_by p input) ≤ 8388607 = subst D all a.few in
    let zip = subst Z is.same r.are in
    let can : CanBeSent p r.parts codestreams = record {
      plan = plan;
      are_parts = zip;
      bytes = all_bytes codestreams (subst B a.is_input.whole fits);
      fit = fit;
      few = a.is_input.few;
      short = omega (arith, few, ap length due);
    } in
    let same : closed p input ≡ cut_of p r.parts = ap (map datagram_bytes) (take_all 8388607 (due_by p input) few ∙ due) in
    (r.parts, can, same, (r.parts, zip, same), subst S (sym same) (sent_by p r.parts, cut_carries p r.parts codestreams can))

-- what is known of codestreams that are all the bytes
all_known : (parts : List Parts) (codestreams : List (List ℕ)) → AllZip (λ c b. ArePartsOf c b) parts codestreams → IsBytes (joined codestreams) → length codestreams ≤ 65536 → known 65536 (joined codestreams) ≡ map known_of parts
all_known parts codestreams a fits few =
    let left = 65536 - length codestreams in
    let all : 65536 ≡ length codestreams + left = omega (arith, few) in
    ap (λ (n : ℕ). known n (joined codestreams)) all
    ∙ (wholes_known left parts codestreams a fits ∙ (ap (λ (l : List Known). map known_of parts ++ l) (none_known left) ∙ append-nil (map known_of parts)))

-- codestreams of bytes, joined, are bytes
pub joined_bytes : (codestreams : List (List ℕ)) → AllByRecursion IsBytes codestreams → IsBytes (joined codestreams)
joined_bytes [] fits = λ i. omega arith
joined_bytes (c ∷ codestreams) fits = bytes_join c (joined codestreams) fits.0 (joined_bytes codestreams fits.1)

-- what can be sent is accepted
pub sendable_is_accepted : SendableIsAccepted
sendable_is_accepted p parts codestreams can within =
    let input = joined codestreams in
    let all : counted input ≡ input = all_counted input within in
    let F : List ℕ → Type 0 = λ l. HasNoLongHeader p l in
    let D : List ℕ → Type 0 = λ l. HasFewDatagrams p l in
    let bytes = joined_bytes codestreams can.bytes in
    let due : due_by p input ≡ flat_map datagrams_of (sent_by p parts) = cut_is_due p input parts (all_known parts codestreams can.are_parts bytes can.few) can.fit in
    let few : length (due_by p input) ≤ 8388607 = omega (arith, can.short, ap length due) in
    let fit : HasNoLongHeader p input = none_is_long p input (record {
      parts = parts;
      codestreams = codestreams;
      rest = [];
      whole = sym (append-nil input);
      are = can.are_parts;
      fit = can.fit;
      closed = inr (
        λ codestream more is e. omega (arith, codestream_long codestream is, ap length e, length-append codestream more),
        λ h header more s long e. omega (arith, head_long h header s, ap length e, length-append header more),
      );
    }) in
    record {
      is_input = record { whole = refl; each = each_is parts codestreams can.are_parts; few = can.few; within = within };
      fit = subst F (sym all) fit;
      few = subst D (sym all) few;
    }

-- and what is sent of it is its cut
pub sendable_is_cut : (p : Plan) (parts : List Parts) (codestreams : List (List ℕ)) → CanBeSent p parts codestreams → closed p (joined codestreams) ≡ cut_of p parts
sendable_is_cut p parts codestreams can =
    let input = joined codestreams in
    let bytes = joined_bytes codestreams can.bytes in
    let due : due_by p input ≡ flat_map datagrams_of (sent_by p parts) = cut_is_due p input parts (all_known parts codestreams can.are_parts bytes can.few) can.fit in
    let few : length (due_by p input) ≤ 8388607 = omega (arith, can.short, ap length due) in
    ap (map datagram_bytes) (take_all 8388607 (due_by p input) few ∙ due)
