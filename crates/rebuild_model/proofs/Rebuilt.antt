-- What is built of the packets that are released of a stream.
use Rattle.std.proofs.Common.{◌≡◌, ◌⊎◌, ◌+◌, ◌==◌, ℕ, Bool, true, false, List, [], ◌∷◌, ◌++◌, length, Option, Some, None, Ok, refl, sym, ◌∙◌, ap, subst, inl, inr, append_assoc, if◌then◌else◌}
use Rattle.std.specs.List.{AllByRecursion, flat_map, list_any, enumerate_from, range_with_len}
use Rattle.std.proofs.lemmas.Bool.{cases_Bool, eq-eqb, eqb-true, or_left, or_right}
use Rattle.std.proofs.lemmas.List.{append-nil}
use Rattle.codestream_model.specs.Values.{Head, Place}
use Rattle.codestream_model.specs.MainHeaderReading.{head_of}
use Rattle.codestream_model.specs.PacketOrder.{key, IsBefore, packet_order, IsPacketOrder}
use Rattle.codestream_model.specs.Packet.{Content}
use Rattle.codestream_model.proofs.Members.{Ascends, ascends}
use Rattle.codestream_model.proofs.Orders.{before_one_way}
use Rattle.stream_model.specs.Stream.{ArePackets}
use Rattle.stream_model.specs.Decoder.{Current, Release, is_place}
use Rattle.stream_model.specs.RunLaws.{passing, release_of, releases_of}
use Rattle.rebuild_model.specs.Stripping.{stripped}
use Rattle.rebuild_model.specs.Rebuilding.{eoc, empty_packet, empty_packets, Open, places_before, places_after, goes_on, closing, up_to_packet, beginning, begun, added, open_after, rebuilt, open_at_end, packet_if}
use Rattle.rebuild_model.specs.RebuildingLaws.{RebuiltGrows}

-- what is added is added after what was there
pub rebuilt-append : (ended : Bool) (current : Option Open) (xs ys : List Release) → rebuilt ended current (xs ++ ys) ≡ rebuilt false current xs ++ rebuilt ended (open_at_end current xs) ys
unfolding rebuilt open_at_end
rebuilt-append ended current [] ys = refl
rebuilt-append ended current (x ∷ xs) ys =
    ap (λ l. added current x ++ l) (rebuilt-append ended (open_after current x) xs ys)
    ∙ sym (append_assoc (added current x) (rebuilt false (open_after current x) xs) (rebuilt ended (open_at_end (open_after current x) xs) ys))

-- so it only grows
pub rebuilt_grows : RebuiltGrows
rebuilt_grows xs ys ended = (rebuilt ended (open_at_end None xs) ys, rebuilt-append ended None xs ys)

-- the first of these packets is of another main header, or of another precinct
abbrev StartsElsewhere : ℕ → Place → List Release → Type 0
StartsElsewhere n p [] = Unit {0}
StartsElsewhere n p (y ∷ ys) = ((n == y.heads) ≡ false) ⊎ (is_place y.precinct.place p ≡ false)

-- the first of these packets is of another main header
abbrev pub StartsApart : ℕ → List Release → Type 0
StartsApart n [] = Unit {0}
StartsApart n (y ∷ ys) = (n == y.heads) ≡ false

-- a codestream that is open
abbrev pub opened : ℕ → Head → List Place → Option Open
opened n h places = Some (record { heads = n; head = h; later = places })

-- a packet that doesn't go on closes it
pub closes : (ended : Bool) (current : Option Open) (y : Release) (ys : List Release) → goes_on current y ≡ false
    → rebuilt ended current (y ∷ ys) ≡ closing current ++ (beginning (head_of y.header) y ++ rebuilt ended (begun (head_of y.header) y) ys)
unfolding rebuilt
closes ended current y ys e = rw e (append_assoc (closing current) (beginning (head_of y.header) y) (rebuilt ended (begun (head_of y.header) y) ys))

-- one that goes on is added to it
pub joins : (ended : Bool) (n : ℕ) (h : Head) (places : List Place) (y : Release) (ys : List Release) → goes_on (opened n h places) y ≡ true
    → rebuilt ended (opened n h places) (y ∷ ys) ≡ up_to_packet h places y ++ rebuilt ended (opened n h (places_after y.precinct.place places)) ys
unfolding rebuilt
joins ended n h places y ys e = rw e refl

-- at the end it has an empty packet
skip_end : (n : ℕ) (h : Head) (p : Place) (places : List Place) → rebuilt true (opened n h (p ∷ places)) [] ≡ empty_packet h ++ rebuilt true (opened n h places) []
unfolding rebuilt
skip_end n h p places = append_assoc (empty_packet h) (empty_packets h places) eoc

-- a precinct of which no packet comes has an empty one
skip : (n : ℕ) (h : Head) (p : Place) (places : List Place) (ys : List Release) → StartsElsewhere n p ys
    → rebuilt true (opened n h (p ∷ places)) ys ≡ empty_packet h ++ rebuilt true (opened n h places) ys
skip n h p places [] elsewhere = skip_end n h p places
skip n h p places (y ∷ ys) (inl other) =
    let rest = beginning (head_of y.header) y ++ rebuilt true (begun (head_of y.header) y) ys in
    let here : goes_on (opened n h (p ∷ places)) y ≡ false = rw other refl in
    let after : goes_on (opened n h places) y ≡ false = rw other refl in
    closes true (opened n h (p ∷ places)) y ys here
    ∙ (ap (λ l. l ++ rest) (append_assoc (empty_packet h) (empty_packets h places) eoc)
    ∙ (append_assoc (empty_packet h) (empty_packets h places ++ eoc) rest
    ∙ ap (λ l. empty_packet h ++ l) (sym (closes true (opened n h places) y ys after))))
skip n h p places (y ∷ ys) (inr other) =
    let same : goes_on (opened n h (p ∷ places)) y ≡ goes_on (opened n h places) y = rw other refl in
    elim (cases_Bool (goes_on (opened n h places) y)) [
      | inl goes ↦
          let before : places_before y.precinct.place (p ∷ places) ≡ p ∷ places_before y.precinct.place places = rw other refl in
          let after : places_after y.precinct.place (p ∷ places) ≡ places_after y.precinct.place places = rw other refl in
          let rest = rebuilt true (opened n h (places_after y.precinct.place places)) ys in
          let empties = empty_packets h (places_before y.precinct.place places) in
          joins true n h (p ∷ places) y ys (same ∙ goes)
          ∙ (ap (λ l. (empty_packets h l ++ y.raw) ++ rebuilt true (opened n h (places_after y.precinct.place (p ∷ places))) ys) before
          ∙ (ap (λ l. ((empty_packet h ++ empties) ++ y.raw) ++ rebuilt true (opened n h l) ys) after
          ∙ (ap (λ l. l ++ rest) (append_assoc (empty_packet h) empties y.raw)
          ∙ (append_assoc (empty_packet h) (empties ++ y.raw) rest
          ∙ ap (λ l. empty_packet h ++ l) (sym (joins true n h places y ys goes))))))
      | inr stops ↦
          let rest = beginning (head_of y.header) y ++ rebuilt true (begun (head_of y.header) y) ys in
          closes true (opened n h (p ∷ places)) y ys (same ∙ stops)
          ∙ (ap (λ l. l ++ rest) (append_assoc (empty_packet h) (empty_packets h places) eoc)
          ∙ (append_assoc (empty_packet h) (empty_packets h places ++ eoc) rest
          ∙ ap (λ l. empty_packet h ++ l) (sym (closes true (opened n h places) y ys stops))))
    ]

-- a precinct is itself
pub same_place : (p : Place) → is_place p p ≡ true
same_place p = rw (eq-eqb p.c p.c refl, eq-eqb p.r p.r refl, eq-eqb p.k p.k refl) refl

-- the packet of the next precinct comes next
take_next : (n : ℕ) (h : Head) (places : List Place) (y : Release) (ys : List Release) → (n == y.heads) ≡ true
    → rebuilt true (opened n h (y.precinct.place ∷ places)) (y ∷ ys) ≡ y.raw ++ rebuilt true (opened n h places) ys
take_next n h places y ys same =
    let p = y.precinct.place in
    let goes : goes_on (opened n h (p ∷ places)) y ≡ true = rw (same, same_place p) refl in
    let before : places_before p (p ∷ places) ≡ [] = rw (same_place p) refl in
    let after : places_after p (p ∷ places) ≡ places = rw (same_place p) refl in
    joins true n h (p ∷ places) y ys goes
    ∙ (ap (λ l. (empty_packets h l ++ y.raw) ++ rebuilt true (opened n h (places_after p (p ∷ places))) ys) before
    ∙ ap (λ l. y.raw ++ rebuilt true (opened n h l) ys) after)

-- at the end it is closed
leaves_end : (n : ℕ) (h : Head) (places : List Place) → rebuilt true (opened n h places) [] ≡ closing (opened n h places) ++ rebuilt true None []
unfolding rebuilt
leaves_end n h places = sym (append-nil (closing (opened n h places)))

-- packets that are apart from a codestream close it
leaves : (n : ℕ) (h : Head) (places : List Place) (ys : List Release) → StartsApart n ys → rebuilt true (opened n h places) ys ≡ closing (opened n h places) ++ rebuilt true None ys
leaves n h places [] apart = leaves_end n h places
leaves n h places (y ∷ ys) apart =
    let stops : goes_on (opened n h places) y ≡ false = rw apart refl in
    closes true (opened n h places) y ys stops ∙ ap (λ l. closing (opened n h places) ++ l) (sym (closes true None y ys refl))

-- they start elsewhere than at any precinct
apart_elsewhere : (n : ℕ) (p : Place) (ys : List Release) → StartsApart n ys → StartsElsewhere n p ys
apart_elsewhere n p [] apart = tt
apart_elsewhere n p (y ∷ ys) apart = inl apart

-- the first item, where it passes a test
passes : {A : Type 0} (t : ℕ → Bool) (k : ℕ) (x : A) (xs : List A) → t k ≡ true → passing t k (x ∷ xs) ≡ x ∷ passing t (k + 1) xs
passes t k x xs e = rw e refl

-- and where it doesn't
fails : {A : Type 0} (t : ℕ → Bool) (k : ℕ) (x : A) (xs : List A) → t k ≡ false → passing t k (x ∷ xs) ≡ passing t (k + 1) xs
fails t k x xs e = rw e refl

-- none of these precincts is this one
abbrev pub NoneIs : Place → List Place → Type 0
NoneIs p places = AllByRecursion (λ q. is_place q p ≡ false) places

-- packets of other precincts start elsewhere
others_elsewhere : (t : ℕ → Bool) (k : ℕ) (c : Current) (n : ℕ) (p : Place) (ps : List Place) (xs : List Content) (bs : List (List ℕ)) (ys : List Release) → NoneIs p ps → StartsApart n ys
    → StartsElsewhere n p (passing t k (releases_of c n ps xs bs) ++ ys)
others_elsewhere t k c n p [] xs bs ys none apart = apart_elsewhere n p ys apart
others_elsewhere t k c n p (q ∷ ps) [] bs ys none apart = apart_elsewhere n p ys apart
others_elsewhere t k c n p (q ∷ ps) (x ∷ xs) [] ys none apart = apart_elsewhere n p ys apart
others_elsewhere t k c n p (q ∷ ps) (x ∷ xs) (b ∷ bs) ys none apart =
    let r = release_of c n q x b in
    let rs = releases_of c n ps xs bs in
    let P : List Release → Type 0 = λ l. StartsElsewhere n p (l ++ ys) in
    elim (cases_Bool (t k)) [
      | inl here ↦ subst P (sym (passes t k r rs here)) (inr none.0)
      | inr away ↦ subst P (sym (fails t k r rs away)) (others_elsewhere t (k + 1) c n p ps xs bs ys none.1 apart)
    ]

-- no precinct is there twice
abbrev pub AreApart : List Place → Type 0
AreApart [] = Unit {0}
AreApart (p ∷ places) = NoneIs p places × AreApart places

-- a precinct that comes after one isn't that one
not_itself : (h : Head) (p q : Place) → IsBefore (key h p) (key h q) → is_place q p ≡ false
not_itself h p q before = elim (cases_Bool (q.c == p.c)) [
  | inr other ↦ rw other refl
  | inl c ↦ elim (cases_Bool (q.r == p.r)) [
    | inr other ↦ rw (c, other) refl
    | inl r ↦ elim (cases_Bool (q.k == p.k)) [
      | inr other ↦ rw (c, r, other) refl
      | inl k ↦
          let a : q.c ≡ p.c = eqb-true q.c p.c c in
          let b : q.r ≡ p.r = eqb-true q.r p.r r in
          let e : q.k ≡ p.k = eqb-true q.k p.k k in
          let same : q ≡ p = let is : record { c = q.c; r = q.r; k = q.k } ≡ record { c = p.c; r = p.r; k = p.k } = cc in is in
          let itself : IsBefore (key h p) (key h p) = let P : Place → Type 0 = λ x. IsBefore (key h p) (key h x) in subst P same before in
          absurd (before_one_way (key h p) (key h p) itself itself)
    ]
  ]
]

-- so none of those that come after it is
none_is : (h : Head) (p : Place) (places : List Place) → AllByRecursion (λ q. IsBefore (key h p) (key h q)) places → NoneIs p places
none_is h p [] all = tt
none_is h p (q ∷ places) all = (not_itself h p q all.0, none_is h p places all.1)

-- precincts in order are apart
in_order_apart : (h : Head) (places : List Place) → Ascends (λ p q. IsBefore (key h p) (key h q)) places → AreApart places
in_order_apart h [] up = tt
in_order_apart h (p ∷ places) up = (none_is h p places up.0, in_order_apart h places up.1)

-- the packet order has no precinct twice
pub order_apart : (h : Head) (places : List Place) → IsPacketOrder h places → AreApart places
order_apart h places order = in_order_apart h places (ascends (λ p q. IsBefore (key h p) (key h q)) places order.ascending)

-- the packets that pass, one after another, with empty ones between them
run : (t : ℕ → Bool) (k : ℕ) (c : Current) (n : ℕ) (ps : List Place) (xs : List Content) (bs : List (List ℕ)) (ys : List Release) → ArePackets c.head ps xs bs → AreApart ps → StartsApart n ys
    → rebuilt true (opened n c.head ps) (passing t k (releases_of c n ps xs bs) ++ ys) ≡ flat_map (packet_if c.head t) (enumerate_from k bs) ++ (eoc ++ rebuilt true None ys)
run t k c n [] [] [] ys a d apart = leaves n c.head [] ys apart
run t k c n [] [] (b ∷ bs) ys a d apart = absurd a
run t k c n [] (x ∷ xs) bs ys a d apart = absurd a
run t k c n (p ∷ ps) [] bs ys a d apart = absurd a
run t k c n (p ∷ ps) (x ∷ xs) [] ys a d apart = absurd a
run t k c n (p ∷ ps) (x ∷ xs) (b ∷ bs) ys a d apart =
    let r = release_of c n p x b in
    let rs = releases_of c n ps xs bs in
    let later = flat_map (packet_if c.head t) (enumerate_from (k + 1) bs) in
    let rest = eoc ++ rebuilt true None ys in
    let further = run t (k + 1) c n ps xs bs ys a.1 d.1 apart in
    elim (cases_Bool (t k)) [
      | inl here ↦
          let mine : packet_if c.head t (k, b) ≡ b = rw here refl in
          ap (λ l. rebuilt true (opened n c.head (p ∷ ps)) (l ++ ys)) (passes t k r rs here)
          ∙ (take_next n c.head ps r (passing t (k + 1) rs ++ ys) (eq-eqb n n refl)
          ∙ (ap (λ l. b ++ l) further
          ∙ (sym (append_assoc b later rest)
          ∙ ap (λ l. (l ++ later) ++ rest) (sym mine))))
      | inr away ↦
          let mine : packet_if c.head t (k, b) ≡ empty_packet c.head = rw away refl in
          ap (λ l. rebuilt true (opened n c.head (p ∷ ps)) (l ++ ys)) (fails t k r rs away)
          ∙ (skip n c.head p ps (passing t (k + 1) rs ++ ys) (others_elsewhere t (k + 1) c n p ps xs bs ys d.0 apart)
          ∙ (ap (λ l. empty_packet c.head ++ l) further
          ∙ (sym (append_assoc (empty_packet c.head) later rest)
          ∙ ap (λ l. (l ++ later) ++ rest) (sym mine))))
    ]

-- the first of the packets that pass
record Begins (c : Current) (n : ℕ) (ps : List Place) (passed : List Release) : Type 0 where
  first : Release
  more : List Release
  whole : passed ≡ first ∷ more
  heads : (n == first.heads) ≡ true
  header : first.header ≡ c.header
  place : list_any (is_place first.precinct.place) ps ≡ true

-- it may be of a later precinct
begins_later : (c : Current) (n : ℕ) (p : Place) (ps : List Place) (passed : List Release) → Begins c n ps passed → Begins c n (p ∷ ps) passed
begins_later c n p ps passed b = record {
  first = b.first;
  more = b.more;
  whole = b.whole;
  heads = b.heads;
  header = b.header;
  place = or_right (is_place b.first.precinct.place p) (list_any (is_place b.first.precinct.place) ps) b.place;
}

-- none passes, or there is a first one
none_or_first : (t : ℕ → Bool) (k : ℕ) (c : Current) (n : ℕ) (ps : List Place) (xs : List Content) (bs : List (List ℕ)) → ArePackets c.head ps xs bs
    → ((passing t k (releases_of c n ps xs bs) ≡ []) × (list_any t (range_with_len k (length bs)) ≡ false))
    ⊎ (Begins c n ps (passing t k (releases_of c n ps xs bs)) × (list_any t (range_with_len k (length bs)) ≡ true))
none_or_first t k c n [] [] [] a = inl (refl, refl)
none_or_first t k c n [] [] (b ∷ bs) a = absurd a
none_or_first t k c n [] (x ∷ xs) bs a = absurd a
none_or_first t k c n (p ∷ ps) [] bs a = absurd a
none_or_first t k c n (p ∷ ps) (x ∷ xs) [] a = absurd a
none_or_first t k c n (p ∷ ps) (x ∷ xs) (b ∷ bs) a =
    let r = release_of c n p x b in
    let rs = releases_of c n ps xs bs in
    elim (cases_Bool (t k)) [
      | inl here ↦ inr (
        record {
          first = r;
          more = passing t (k + 1) rs;
          whole = passes t k r rs here;
          heads = eq-eqb n n refl;
          header = refl;
          place = or_left (is_place p p) (list_any (is_place p) ps) (same_place p);
        },
        or_left (t k) (list_any t (range_with_len (k + 1) (length bs))) here,
      )
      | inr away ↦
          let P : List Release → Type 0 = λ l.
          ((l ≡ []) × (list_any t (range_with_len k (length (b ∷ bs))) ≡ false)) ⊎ (Begins c n (p ∷ ps) l × (list_any t (range_with_len k (length (b ∷ bs))) ≡ true)) in
          subst P (sym (fails t k r rs away)) (elim (none_or_first t (k + 1) c n ps xs bs a.1) [
            | inl none ↦ inl (none.0, rw away none.1)
            | inr some ↦ inr (begins_later c n p ps (passing t (k + 1) rs) some.0, or_right (t k) (list_any t (range_with_len (k + 1) (length bs))) some.1)
          ])
    ]

-- a codestream of which these packets are there, or nothing
abbrev pub built : Current → (ℕ → Bool) → List (List ℕ) → List ℕ
built c t bs = if list_any t (range_with_len 0 (length bs)) then stripped c.header ++ (flat_map (packet_if c.head t) (enumerate_from 0 bs) ++ eoc) else []

-- where the first packet begins a codestream, it is as if the codestream was open already
pub as_if_open : (c : Current) (n : ℕ) (ps : List Place) (x : Release) (ys : List Release) → head_of c.header ≡ Ok c.head → packet_order c.head ≡ ps → (n == x.heads) ≡ true → x.header ≡ c.header
    → list_any (is_place x.precinct.place) ps ≡ true → rebuilt true None (x ∷ ys) ≡ stripped c.header ++ rebuilt true (opened n c.head ps) (x ∷ ys)
as_if_open c n ps x ys read order heads header place =
    let h = c.head in
    let is : head_of x.header ≡ Ok h = ap head_of header ∙ read in
    let same : n ≡ x.heads = eqb-true n x.heads heads in
    let goes : goes_on (opened n h ps) x ≡ true = rw (heads, place) refl in
    let begins : beginning (head_of x.header) x ≡ stripped c.header ++ up_to_packet h ps x =
    ap (λ o. beginning o x) is ∙ (ap (λ l. stripped l ++ up_to_packet h (packet_order h) x) header ∙ ap (λ l. stripped c.header ++ up_to_packet h l x) order) in
    let opens : begun (head_of x.header) x ≡ opened n h (places_after x.precinct.place ps) =
    ap (λ o. begun o x) is ∙ (ap (λ m. opened m h (places_after x.precinct.place (packet_order h))) (sym same) ∙ ap (λ l. opened n h (places_after x.precinct.place l)) order) in
    closes true None x ys refl
    ∙ (ap (λ l. l ++ rebuilt true (begun (head_of x.header) x) ys) begins
    ∙ (ap (λ o. (stripped c.header ++ up_to_packet h ps x) ++ rebuilt true o ys) opens
    ∙ (append_assoc (stripped c.header) (up_to_packet h ps x) (rebuilt true (opened n h (places_after x.precinct.place ps)) ys)
    ∙ ap (λ l. stripped c.header ++ l) (sym (joins true n h ps x ys goes)))))

-- what is built of the packets of a codestream that pass, and then of others
pub codestream_built : (t : ℕ → Bool) (c : Current) (n : ℕ) (ps : List Place) (xs : List Content) (bs : List (List ℕ)) (ys : List Release)
    → head_of c.header ≡ Ok c.head → packet_order c.head ≡ ps → ArePackets c.head ps xs bs → AreApart ps → StartsApart n ys
    → rebuilt true None (passing t 0 (releases_of c n ps xs bs) ++ ys) ≡ built c t bs ++ rebuilt true None ys
codestream_built t c n ps xs bs ys read order a d apart =
    let passed = passing t 0 (releases_of c n ps xs bs) in
    let packets = flat_map (packet_if c.head t) (enumerate_from 0 bs) in
    let rest = rebuilt true None ys in
    elim (none_or_first t 0 c n ps xs bs a) [
      | inl none ↦
          let nothing : built c t bs ≡ [] = rw (none.1) refl in
          ap (λ l. rebuilt true None (l ++ ys)) none.0 ∙ ap (λ l. l ++ rest) (sym nothing)
      | inr (first, some) ↦
          let all : built c t bs ≡ stripped c.header ++ (packets ++ eoc) = rw some refl in
          ap (λ l. rebuilt true None (l ++ ys)) first.whole
          ∙ (as_if_open c n ps first.first (first.more ++ ys) read order first.heads first.header first.place
          ∙ (ap (λ l. stripped c.header ++ rebuilt true (opened n c.head ps) (l ++ ys)) (sym first.whole)
          ∙ (ap (λ l. stripped c.header ++ l) (run t 0 c n ps xs bs ys a d apart ∙ sym (append_assoc packets eoc rest))
          ∙ (sym (append_assoc (stripped c.header) (packets ++ eoc) rest)
          ∙ ap (λ l. l ++ rest) (sym all)))))
    ]
