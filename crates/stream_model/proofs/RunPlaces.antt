-- Where the packets of a codestream are that are still to come, before a Body, and where its marks do.
use Rattle.std.proofs.Common.{◌≡◌, ◌⊎◌, ◌<◌, ◌≤◌, ◌+◌, ◌-◌, ◌==◌, ℕ, zero, suc, Bool, true, List, [], ◌∷◌, ◌++◌, length, take, drop, Some, subst, refl, sym, ◌∙◌, ap, inl, inr, arith, append_assoc}
use Rattle.std.specs.Prelude.{find, slice_get}
use Rattle.std.specs.List.{sum_by}
use Rattle.std.proofs.lemmas.Bool.{cases_lt, eq-eqb, eqb-true}
use Rattle.std.proofs.lemmas.List.{append-nil, length-append, take-append-drop}
use Rattle.std.proofs.lemmas.List.Concat.{length-flat_map}
use Rattle.std.proofs.lemmas.List.Sums.{sum_by-append}
use Rattle.std.proofs.lemmas.Option.{slice_get_within}
use Rattle.std.proofs.Math.Seq.{take-append-add, take-append_seam}
use Rattle.codestream_model.specs.Values.{Head, Place}
use Rattle.codestream_model.specs.Precincts.{IsPrecinct}
use Rattle.codestream_model.specs.PacketOrder.{pid}
use Rattle.codestream_model.specs.Packet.{Content}
use Rattle.codestream_model.specs.Codestream.{joined}
use Rattle.codestream_model.proofs.TreeLemmas.{either}
use Rattle.codestream_model.proofs.Numbers.{pids_are_distinct}
use Rattle.codestream_model.proofs.Members.{Has, contained_has}
use Rattle.codestream_model.proofs.OneWayLemmas.{same_front}
use Rattle.wire_model.specs.Datagram.{Datagram}
use Rattle.stream_model.specs.Stream.{Parts, ArePackets, ArePartsOf, Mark, IsResync, packet_start, payload_start, body_with, precinct_at}
use Rattle.stream_model.specs.Decoder.{Current, Decoder, Settled, place_of}
use Rattle.stream_model.proofs.CutPayloads.{joined-append}
use Rattle.stream_model.proofs.StreamShapes.{sum-take-up, body_has_byte}
use Rattle.stream_model.proofs.Found.{packets_have_bytes, starts_rise, precinct_is_found}
use Rattle.stream_model.proofs.RunRules.{IsUnfinished, Went}

-- Before a Body that begins n bytes after SOD: the packets that haven't ended by then, of which the first has these bytes
-- already, and what is still to come after SOD.
pub record Here (c : Parts) (at : ℕ) (ps : List Place) (xs : List Content) (bs : List (List ℕ)) (got todo : List ℕ) : Type 0 where
  pub before : List Place
  pub said : List Content
  pub done : List (List ℕ)
  pub places : c.places ≡ before ++ ps
  pub content : c.content ≡ said ++ xs
  pub packets : c.packets ≡ done ++ bs
  pub many : length before ≡ length done
  pub are : ArePackets c.head ps xs bs
  pub ended : length (joined done) ≤ at
  pub start : (bs ≡ []) ⊎ (at ≡ length (joined done) + length got)
  pub unfinished : IsUnfinished bs got
  pub bytes : (bs ≡ []) ⊎ (joined bs ++ 255 ∷ 217 ∷ [] ≡ got ++ todo)

-- as many precincts as packets
pub as_many : (h : Head) (ps : List Place) (xs : List Content) (bs : List (List ℕ)) → ArePackets h ps xs bs → length ps ≡ length bs
as_many h [] [] [] a = refl
as_many h [] [] (b ∷ bs) a = absurd a
as_many h [] (x ∷ xs) bs a = absurd a
as_many h (p ∷ ps) [] bs a = absurd a
as_many h (p ∷ ps) (x ∷ xs) [] a = absurd a
as_many h (p ∷ ps) (x ∷ xs) (b ∷ bs) a = ap (λ n. suc n) (as_many h ps xs bs a.1)

-- the packets that are left where there was none
all_gone : (bs whole rest : List (List ℕ)) → bs ≡ [] → bs ≡ whole ++ rest → rest ≡ []
all_gone bs [] rest e f = sym f ∙ e
all_gone bs (w ∷ whole) rest e f = absurd (omega (arith, ap length e, ap length f, length-append (w ∷ whole) rest))

-- and those that are gone are none
all_whole : (bs whole rest : List (List ℕ)) → bs ≡ [] → bs ≡ whole ++ rest → length (joined whole) ≡ 0
all_whole bs [] rest e f = refl
all_whole bs (w ∷ whole) rest e f = absurd (omega (arith, ap length e, ap length f, length-append (w ∷ whole) rest))

-- after a Body
pub next_here : (c : Parts) (at : ℕ) (ps : List Place) (xs : List Content) (bs : List (List ℕ)) (got payload todo : List ℕ) (h : Here c at ps xs bs got (payload ++ todo)) (d : Decoder) (cur : Current) (s : Settled)
    → cur.head ≡ c.head → (w : Went d cur ps xs bs (got ++ payload) s) → (n : Here c (at + length payload) w.left w.more w.rest w.kept todo) × (n.done ≡ h.done ++ w.whole)
next_here c at ps xs bs got payload todo h d cur s e w =
    let A : Head → Type 0 = λ g. ArePackets g w.left w.more w.rest in
    let B : Head → Type 0 = λ g. ArePackets g w.gone w.said w.whole in
    let size = as_many c.head w.gone w.said w.whole (subst B e w.are_gone) in
    let all = ap length (joined-append h.done w.whole) ∙ length-append (joined h.done) (joined w.whole) in
    let got_size = length-append got payload in (
      record {
        before = h.before ++ w.gone;
        said = h.said ++ w.said;
        done = h.done ++ w.whole;
        places = h.places ∙ (ap (λ l. h.before ++ l) w.places ∙ sym (append_assoc h.before w.gone w.left));
        content = h.content ∙ (ap (λ l. h.said ++ l) w.content ∙ sym (append_assoc h.said w.said w.more));
        packets = h.packets ∙ (ap (λ l. h.done ++ l) w.packets ∙ sym (append_assoc h.done w.whole w.rest));
        many = omega (arith, h.many, size, length-append h.before w.gone, length-append h.done w.whole);
        are = subst A e w.are_left;
        ended = elim h.start [
          | inl none ↦ let z = all_whole bs w.whole w.rest none w.packets in omega (arith, h.ended, all, z)
          | inr start ↦ omega (arith, start, all, w.within, got_size)
        ];
        start = elim w.bytes [
          | inl none ↦ inl none
          | inr split ↦ elim h.start [
            | inl none ↦ inl (all_gone bs w.whole w.rest none w.packets)
            | inr start ↦ inr (omega (arith, start, all, got_size, ap length split, length-append (joined w.whole) w.kept))
          ]
        ];
        unfinished = w.unfinished;
        bytes = elim w.bytes [
          | inl none ↦ inl none
          | inr split ↦ elim h.bytes [
            | inl none ↦ inl (all_gone bs w.whole w.rest none w.packets)
            | inr bytes ↦
                let eoc = 255 ∷ 217 ∷ [] in
                let whole : joined w.whole ++ (joined w.rest ++ eoc) ≡ joined w.whole ++ (w.kept ++ todo) =
                sym (ap (λ (l : List ℕ). l ++ eoc) (ap joined w.packets ∙ joined-append w.whole w.rest) ∙ append_assoc (joined w.whole) (joined w.rest) eoc)
                ∙ (bytes ∙ (sym (append_assoc got payload todo) ∙ (ap (λ (l : List ℕ). l ++ todo) split ∙ append_assoc (joined w.whole) w.kept todo))) in
                inr ((same_front (joined w.whole) (joined w.whole) (joined w.rest ++ eoc) (w.kept ++ todo) refl whole).1)
          ]
        ];
      },
      refl,
    )

-- sums of lengths
pub sum_is : (bs : List (List ℕ)) → sum_by (λ b. length b) bs ≡ length (joined bs)
sum_is bs = sym (length-flat_map (λ (b : List ℕ). b) bs)

-- where a packet starts that is among the first, or after them
pub start_among : (c : Parts) (done bs : List (List ℕ)) (j : ℕ) → c.packets ≡ done ++ bs → packet_start c (length done + j) ≡ length (joined done) + length (joined (take j bs))
start_among c done bs j e =
    ap (λ l. sum_by (λ b. length b) (take (length done + j) l)) e
    ∙ (ap (sum_by (λ b. length b)) (take-append-add done bs j)
    ∙ (sum_by-append (λ (b : List ℕ). length b) done (take j bs) ∙ (let a = sum_is done in let b = sum_is (take j bs) in omega (arith, a, b))))

-- starts never fall
pub starts_up : {A : Type 0} (f : A → ℕ) (xs : List A) (i j : ℕ) → i ≤ j → sum_by f (take i xs) ≤ sum_by f (take j xs)
starts_up f xs i zero h = let e : i ≡ 0 = omega arith in rw e (omega arith)
starts_up f xs i (suc j) h = elim (cases_lt j i) [
  | inl last ↦ let e : i ≡ suc j = omega arith in rw e (omega arith)
  | inr before ↦ let e : j + 1 ≡ suc j = omega arith in let step = sum-take-up f xs j in let s = ap (λ n. sum_by f (take n xs)) e in omega (arith, starts_up f xs i j before, step, s)
]

-- of some items the sum is no more than of all
take_less : {A : Type 0} (f : A → ℕ) (xs : List A) (i : ℕ) → sum_by f (take i xs) ≤ sum_by f xs
take_less f xs i = let e = sum_by-append f (take i xs) (drop i xs) in let s = ap (sum_by f) (take-append-drop i xs) in omega (arith, e, s)

-- a Body by a byte that it has
pub body_is : (bodies : List Datagram) (i place : ℕ) → payload_start bodies i ≤ place → place < payload_start bodies (i + 1) → body_with bodies place ≡ i
body_is bodies i place low high =
    let all : payload_start bodies (i + 1) ≤ sum_by (λ x. length x.codestream) bodies = take_less (λ (x : Datagram). length x.codestream) bodies (i + 1) in
    let b = body_has_byte bodies place (omega (arith, high, all)) in
    elim (cases_lt (body_with bodies place) i) [
      | inl less ↦ absurd (omega (arith, b.2, low, starts_up (λ (x : Datagram). length x.codestream) bodies (body_with bodies place + 1) i (omega arith)))
      | inr least ↦ elim (cases_lt i (body_with bodies place)) [
        | inl more ↦ absurd (omega (arith, b.1, high, starts_up (λ (x : Datagram). length x.codestream) bodies (i + 1) (body_with bodies place) (omega arith)))
        | inr most ↦ omega arith
      ]
    ]

-- some packets taken from their front
whole_front : (bs whole rest : List (List ℕ)) → bs ≡ whole ++ rest → length (joined (take (length whole) bs)) ≡ length (joined whole)
whole_front bs whole rest e = ap (λ (l : List (List ℕ)). length (joined (take (length whole) l))) e ∙ ap (λ (l : List (List ℕ)). length (joined l)) (take-append_seam whole rest)

-- the packets that end within a Body end after its start, and not after its end
pub gone_between : (c : Parts) (at : ℕ) (ps : List Place) (xs : List Content) (bs : List (List ℕ)) (got payload todo : List ℕ) (h : Here c at ps xs bs got todo) (d : Decoder) (cur : Current) (s : Settled) → cur.head ≡ c.head
    → (w : Went d cur ps xs bs (got ++ payload) s) → (j : ℕ) → length h.done ≤ j → j < length h.done + length w.gone → (at < packet_start c (j + 1)) × (packet_start c (j + 1) ≤ at + length payload)
gone_between c at ps xs [] got payload todo h d cur s e w j low high =
    let B : Head → Type 0 = λ g. ArePackets g w.gone w.said w.whole in
    let size = as_many c.head w.gone w.said w.whole (subst B e w.are_gone) in
    absurd (omega (arith, low, high, size, ap length w.packets, length-append w.whole w.rest))
gone_between c at ps xs (b ∷ bs) got payload todo h d cur s e w j low high =
    let B : Head → Type 0 = λ g. ArePackets g w.gone w.said w.whole in
    let size = as_many c.head w.gone w.said w.whole (subst B e w.are_gone) in
    let start : at ≡ length (joined h.done) + length got = elim h.start [ inl none ↦ absurd (omega (arith, ap length none)) | inr t ↦ t ] in
    let first = start_among c h.done (b ∷ bs) 1 h.packets in
    let one : length (joined (take 1 (b ∷ bs))) ≡ length b = ap length (append-nil b) in
    let last = start_among c h.done (b ∷ bs) (length w.whole) h.packets in
    let front = whole_front (b ∷ bs) w.whole w.rest w.packets in
    let up = starts_up (λ (x : List ℕ). length x) c.packets (length h.done + 1) (j + 1) (omega arith) in
    let down = starts_up (λ (x : List ℕ). length x) c.packets (j + 1) (length h.done + length w.whole) (omega arith) in
    (omega (arith, start, first, one, up, h.unfinished), omega (arith, start, last, front, down, w.within, length-append got payload))

-- an item that is found
find_by : {A : Type 0} (t : A → Bool) (y : A) (xs : List A) (j : ℕ) (x : A) → slice_get (y ∷ xs) j ≡ Some x → t x ≡ true → (t y ≡ true → y ≡ x) → ((k : ℕ) → slice_get xs k ≡ Some x → find t xs ≡ Some x) → find t (y ∷ xs) ≡ Some x
find_by t y xs zero x e p one next = let s : y ≡ x = cc in let r : t y ≡ true = ap t s ∙ p in rw r (ap Some s)
find_by t y xs (suc j) x e p one next = elim (either (t y)) [
  | inl q ↦ let s : y ≡ x = one q in rw q (ap Some s)
  | inr q ↦ rw q (next j e)
]

-- one that alone passes is found
find_first : {A : Type 0} (t : A → Bool) (xs : List A) (j : ℕ) (x : A) → slice_get xs j ≡ Some x → t x ≡ true → ((y : A) → Has xs y → t y ≡ true → y ≡ x) → find t xs ≡ Some x
find_first t [] j x e p one = absurd (cc)
find_first t (y ∷ xs) j x e p one = find_by t y xs j x e p (one y (inl refl)) (λ k g. find_first t xs k x g p (λ z h r. one z (inr h) r))

-- the item of a number, and those before and after it
split_at : {A : Type 0} (xs : List A) (j : ℕ) (x : A) → slice_get xs j ≡ Some x → (ahead : List A) × (after : List A) × (xs ≡ ahead ++ x ∷ after) × (length ahead ≡ j)
split_at [] j x e = absurd (cc)
split_at (y ∷ xs) zero x e = let s : y ≡ x = cc in ([], xs, ap (λ z. z ∷ xs) s, refl)
split_at (y ∷ xs) (suc j) x e = let r = split_at xs j x e in (y ∷ r.0, r.1, ap (λ l. y ∷ l) r.2, ap suc r.3)

-- an item after others
get_behind : {A : Type 0} (before xs : List A) (j : ℕ) → slice_get (before ++ xs) (length before + j) ≡ slice_get xs j
get_behind [] xs j = ap (slice_get xs) (let e : 0 + j ≡ j = omega arith in e)
get_behind (y ∷ before) xs j = ap (slice_get (y ∷ (before ++ xs))) (let e : suc (length before) + j ≡ suc (length before + j) = omega arith in e) ∙ get_behind before xs j

-- where a mark is among the packets that are still to come: before it these, and then that of its precinct
pub record Ahead (c : Parts) (done : ℕ) (ps : List Place) (bs : List (List ℕ)) (got : List ℕ) (pos : ℕ) (cur : Current) (m : Mark) : Type 0 where
  pub ahead : List Place
  pub p : Place
  pub after : List Place
  pub places : ps ≡ ahead ++ p ∷ after
  pub low : length ahead < length bs
  pub start : length (joined (take (length ahead) bs)) ≡ length got + pos
  pub found : place_of cur m.pid ≡ Some p
  pub number : precinct_at c m.place ≡ done + length ahead

-- an item of a list
has_at : {A : Type 0} (xs : List A) (j : ℕ) (x : A) → slice_get xs j ≡ Some x → Has xs x
has_at [] j x e = absurd (cc)
has_at (y ∷ xs) zero x e = inl (let s : y ≡ x = cc in s)
has_at (y ∷ xs) (suc j) x e = inr (has_at xs j x e)

-- the precinct of a mark is found by its PID
pid_found : (c : Parts) (codestream : List ℕ) (a : ArePartsOf c codestream) (cur : Current) (q number : ℕ) (p : Place) → cur.head ≡ c.head → cur.order ≡ c.places → slice_get c.places q ≡ Some p → number ≡ pid c.head p → place_of cur number ≡ Some p
pid_found c codestream a cur q number p e f g n =
    let each : (y : Place) → Has c.places y → IsPrecinct c.head y = λ y h. (a.order.each y).0 (contained_has c.places y h) in
    let here : Has c.places p = has_at c.places q p g in
    let t : Place → Bool = λ y. pid c.head y == number in
    ap (λ h. find (λ y. pid h y == number) cur.order) e
    ∙ (ap (find t) f ∙ find_first t c.places q p g (eq-eqb (pid c.head p) number (sym n)) (λ y h s. pids_are_distinct c.head y p (each y h) (each p here) (eqb-true (pid c.head y) number s ∙ n)))

-- a mark in a Body
pub mark_ahead : (c : Parts) (codestream : List ℕ) (a : ArePartsOf c codestream) (at : ℕ) (ps : List Place) (xs : List Content) (bs : List (List ℕ)) (got todo : List ℕ) (h : Here c at ps xs bs got todo) (cur : Current) (m : Mark) (pos : ℕ)
    → cur.head ≡ c.head → cur.order ≡ c.places → IsResync c m → m.place ≡ at + pos → Ahead c (length h.done) ps bs got pos cur m
mark_ahead c codestream a at ps xs bs got todo h cur m pos e f r place =
    let q = r.precinct in
    let size = as_many c.head c.places c.content c.packets a.are_packets in
    let most : q < length c.packets = omega (arith, slice_get_within c.places q r.place r.has, size) in
    let ends = start_among c h.done bs 0 h.packets in
    let count : length c.packets ≡ length h.done + length bs = ap length h.packets ∙ length-append h.done bs in
    let z : length h.done + 0 ≡ length h.done = omega arith in
    let ends_at = ap (packet_start c) z in
    let low : length h.done ≤ q = elim (cases_lt q (length h.done)) [
      | inr t ↦ t
      | inl t ↦
          absurd (omega (arith, place, r.starts, h.ended, ends, ends_at, starts_rise c.packets q (length h.done) (packets_have_bytes c.head c.places c.content c.packets a.are_packets) t (omega (arith, count))))
    ] in
    let j = q - length h.done in
    let sum : length h.before + j ≡ q = omega (arith, h.many, low) in
    let get : slice_get ps j ≡ Some r.place = sym (get_behind h.before ps j) ∙ (ap (slice_get (h.before ++ ps)) sum ∙ (ap (λ l. slice_get l q) (sym h.places) ∙ r.has)) in
    let s = split_at ps j r.place get in
    let start_is : at ≡ length (joined h.done) + length got = elim h.start [ inl none ↦ absurd (omega (arith, ap length none, count, most, low)) | inr t ↦ t ] in
    let there : packet_start c q ≡ length (joined h.done) + length (joined (take j bs)) = ap (packet_start c) (let k : q ≡ length h.done + j = omega (arith, low) in k) ∙ start_among c h.done bs j h.packets in
    record {
      ahead = s.0;
      p = r.place;
      after = s.1;
      places = s.2;
      low = omega (arith, s.3, count, most, low);
      start = ap (λ n. length (joined (take n bs))) s.3 ∙ (let k : length (joined (take j bs)) ≡ length got + pos = omega (arith, there, r.starts, place, start_is) in k);
      found = pid_found c codestream a cur q m.pid r.place e f r.has r.names;
      number = ap (precinct_at c) r.starts ∙ (precinct_is_found c codestream q a most ∙ (let k : q ≡ length h.done + length s.0 = omega (arith, s.3, low) in k));
    }
