-- Main headers are numbered: packets under the same number are under the same main header.
use Rattle.std.proofs.Common.{◌≡◌, ◌⊎◌, ◌<◌, ◌≤◌, ◌+◌, ◌-◌, ◌*◌, ◌^◌, ◌==◌, ◌&&◌, ℕ, zero, suc, true, false, not, List, [], ◌∷◌, ◌++◌, length, Option, Some, None, Result, Ok, Err, refl, sym, ◌∙◌, subst, inl, inr, arith, if◌then◌else◌}
use Rattle.std.specs.Prelude.{find, filter, nat_le, nat_lt}
use Rattle.std.specs.List.{AllByRecursion}
use Rattle.std.proofs.lemmas.Bool.{cases_Bool}
use Rattle.codestream_model.specs.Values.{Head, Place, Block}
use Rattle.codestream_model.specs.MainHeaderReading.{head_of, Refused}
use Rattle.wire_model.specs.Payload.{PayloadFields, Main, Body, BodyFields}
use Rattle.wire_model.specs.Datagram.{Datagram, datagram_of, is_well_formed}
use Rattle.stream_model.specs.Stream.{extended_number}
use Rattle.stream_model.specs.Decoder.{Current, Mark, Decoder, one_more, take_header, set_mark, take_body, take_gap, place_of, join_bytes, Found, Whole, Part, Other, found_packet, Release, Ruling, Releases, Changes, Waits, begin_instead, release, is_place, rule_without_run, rule_of_packet, rule_before_mark, rule_at_mark, rule_in_run, rule_of_run, rule, Settled, settle, settled}
use Rattle.stream_model.specs.Window.{Window, Held, ahead, insert, base_with, hold, make_due, make_all_due, Offer, Behind, Again, Drain, Kept, offer, Next, Hand, Gap, Nothing, moved, gap_length, next_at, next}
use Rattle.stream_model.specs.Receiver.{Pick, Receiver, new_receiver, decoded, followed, drained, drain, keep, offered, is_source, take_datagram, take_frame, take_frames, received}
use Rattle.rebuild_model.specs.HeaderLaws.{ShareHeaders, HeadersAreNumbered}

-- these bytes are those of the main header in force
abbrev HeaderIs : Option Current → List ℕ → Type 0
HeaderIs None header = ⊥
HeaderIs (Some c) header = header ≡ c.header

-- two decoders have the same main header in force, and have taken as many
pub record SameHeads (d e : Decoder) : Type 0 where
  current : e.current ≡ d.current
  heads : e.heads ≡ d.heads

same_heads : (d : Decoder) → SameHeads d d
same_heads d = record { current = refl; heads = refl }

-- a packet is released under the main header in force
pub record ReleasedBy (d : Decoder) (x : Release) : Type 0 where
  heads : x.heads ≡ d.heads
  header : HeaderIs d.current x.header

-- what a rule does to the main header in force
abbrev RulingIs : Decoder → Ruling → Type 0
RulingIs d (Releases x e) = ReleasedBy d x × SameHeads d e
RulingIs d (Changes e) = SameHeads d e
RulingIs d (Waits e) = SameHeads d e

-- a packet that is given
gives : (d : Decoder) (c : Current) (p : Place) (later : List Place) (blocks : List Block) (header size : ℕ) → d.current ≡ Some c → RulingIs d (release d c p later blocks header size)
gives d c p later blocks header size e =
    let H : Option Current → Type 0 = λ o. HeaderIs o c.header in
    (record { heads = refl; header = subst H (sym e) refl }, record { current = refl; heads = refl })

-- the rules, one by one
without_run : (d : Decoder) (c : Current) (m : Option Mark) → RulingIs d (rule_without_run d c m)
without_run d c None = record { current = refl; heads = refl }
without_run d c (Some m) = record { current = refl; heads = refl }

of_packet : (d : Decoder) (c : Current) (p : Place) (later : List Place) (f : Found) → d.current ≡ Some c → RulingIs d (rule_of_packet d c p later f)
of_packet d c p later (Whole blocks header size) e = gives d c p later blocks header size e
of_packet d c p later Part e = record { current = refl; heads = refl }
of_packet d c p later Other e = record { current = refl; heads = refl }

before_mark : (d : Decoder) (c : Current) (m : Mark) (p : Place) (later : List Place) (f : Found) → d.current ≡ Some c → RulingIs d (rule_before_mark d c m p later f)
before_mark d c m p later (Whole blocks header size) e = elim (nat_le size m.at) as (λ b. RulingIs d (if b then release d c p later blocks header size else Changes (begin_instead d c m))) [
  | true ↦ gives d c p later blocks header size e
  | false ↦ record { current = refl; heads = refl }
]
before_mark d c m p later Part e = record { current = refl; heads = refl }
before_mark d c m p later Other e = record { current = refl; heads = refl }

at_mark : (d : Decoder) (c : Current) (m : Mark) (p : Place) → RulingIs d (rule_at_mark d c m p)
at_mark d c m p = elim (is_place m.place p) as (λ b. RulingIs d (if b then Changes (record d { mark = None }) else Changes (begin_instead d c m))) [
  | true ↦ record { current = refl; heads = refl }
  | false ↦ record { current = refl; heads = refl }
]

in_run : (d : Decoder) (c : Current) (p : Place) (later : List Place) (m : Option Mark) → d.current ≡ Some c → RulingIs d (rule_in_run d c p later m)
in_run d c p later None e = of_packet d c p later (found_packet c.head p d.bytes) e
in_run d c p later (Some m) e =
    elim (m.at == 0) as (λ b. RulingIs d (if b then rule_at_mark d c m p else rule_before_mark d c m p later (found_packet c.head p d.bytes))) [
      | true ↦ at_mark d c m p
      | false ↦ before_mark d c m p later (found_packet c.head p d.bytes) e
    ]

of_run : (d : Decoder) (c : Current) (run : Option (List Place)) → d.current ≡ Some c → RulingIs d (rule_of_run d c run)
of_run d c None e = without_run d c d.mark
of_run d c (Some []) e = without_run d c d.mark
of_run d c (Some (p ∷ later)) e = in_run d c p later d.mark e

rule_is : (d : Decoder) (o : Option Current) → d.current ≡ o → RulingIs d (rule d o)
rule_is d None e = same_heads d
rule_is d (Some c) e = of_run d c d.run e

-- what is released of a decoder, and the decoder after it
record SettledIs (d : Decoder) (s : Settled) : Type 0 where
  releases : AllByRecursion (ReleasedBy d) s.releases
  decoder : SameHeads d s.decoder

-- under the same main header
carried_on : (d e : Decoder) (x : Release) → SameHeads d e → ReleasedBy e x → ReleasedBy d x
carried_on d e x same r =
    let H : Option Current → Type 0 = λ o. HeaderIs o x.header in
    record { heads = r.heads ∙ same.heads; header = subst H same.current r.header }

all_carried_on : (d e : Decoder) (xs : List Release) → SameHeads d e → AllByRecursion (ReleasedBy e) xs → AllByRecursion (ReleasedBy d) xs
all_carried_on d e [] same all = tt
all_carried_on d e (x ∷ xs) same all = (carried_on d e x same all.0, all_carried_on d e xs same all.1)

same_on : (d e f : Decoder) → SameHeads d e → SameHeads e f → SameHeads d f
same_on d e f a b = record { current = b.current ∙ a.current; heads = b.heads ∙ a.heads }

further : (d e : Decoder) (s : Settled) → SameHeads d e → SettledIs e s → SettledIs d s
further d e s same is = record { releases = all_carried_on d e s.releases same is.releases; decoder = same_on d e s.decoder same is.decoder }

settle_by : (n : ℕ) (d : Decoder) (g : Ruling) → RulingIs d g → ((e : Decoder) → SettledIs e (settle n e)) → SettledIs d (elim g [
  | Releases x next ↦ record { releases = x ∷ (settle n next).releases; decoder = (settle n next).decoder }
  | Changes next ↦ settle n next
  | Waits next ↦ record { releases = []; decoder = next }
])
settle_by n d (Releases x next) r ih =
    let s = further d next (settle n next) r.1 (ih next) in
    record { releases = (r.0, s.releases); decoder = s.decoder }
settle_by n d (Changes next) r ih = further d next (settle n next) r (ih next)
settle_by n d (Waits next) r ih = record { releases = tt; decoder = r }

settle_is : (n : ℕ) (d : Decoder) → SettledIs d (settle n d)
unfolding settle
settle_is zero d = record { releases = tt; decoder = same_heads d }
settle_is (suc n) d = settle_by n d (rule d d.current) (rule_is d d.current refl) (λ e. settle_is n e)

-- what a datagram does to the main header in force: nothing, or there is none, or one more was taken
abbrev TakenIs : Decoder → Decoder → Type 0
TakenIs d e = SameHeads d e ⊎ (((e.current ≡ None) × (e.heads ≡ d.heads)) ⊎ (e.heads ≡ one_more d.heads))

header_taken : (d : Decoder) (stamp : ℕ) (bytes : List ℕ) (read : Result Head Refused) → TakenIs d (take_header d stamp bytes read)
header_taken d stamp bytes (Err why) = inr (inl (refl, refl))
header_taken d stamp bytes (Ok h) = elim (cases_Bool (h.length == length bytes)) [
  | inl whole ↦ rw whole (inr (inr refl))
  | inr other ↦ rw other (inr (inl (refl, refl)))
]

mark_set : (d : Decoder) (before pos : ℕ) (o : Option Place) → SameHeads d (set_mark d before pos o)
mark_set d before pos None = record { current = refl; heads = refl }
mark_set d before pos (Some p) = record { current = refl; heads = refl }

body_taken : (d : Decoder) (o : Option Current) (stamp : ℕ) (g : BodyFields) (bytes : List ℕ) → TakenIs d (take_body d o stamp g bytes)
body_taken d None stamp g bytes = inl (same_heads d)
body_taken d (Some c) stamp g bytes = elim (cases_Bool (c.stamp == stamp)) [
  | inl same ↦ elim (cases_Bool g.ordb) [
    | inl marked ↦ rw (same, marked) (inl (same_on d (join_bytes d bytes) (set_mark (join_bytes d bytes) (length d.bytes) g.pos (place_of c g.pid)) (record { current = refl; heads = refl }) (mark_set (join_bytes d bytes) (length d.bytes) g.pos (place_of c g.pid))))
    | inr plain ↦ rw (same, plain) (inl (record { current = refl; heads = refl }))
  ]
  | inr other ↦ rw other (inr (inl (refl, refl)))
]

datagram_taken : (d : Decoder) (x : Datagram) (p : PayloadFields) → TakenIs d (decoded d x p)
datagram_taken d x (Main g) = header_taken d x.rtp.stamp x.codestream (head_of x.codestream)
datagram_taken d x (Body g) = body_taken d d.current x.rtp.stamp g x.codestream

-- a packet that was released is under the main header in force, if their numbers are the same
abbrev IsInForce : Option Current → Release → Type 0
IsInForce None x = Unit {0}
IsInForce (Some c) x = x.header ≡ c.header

record IsNumbered (d : Decoder) (x : Release) : Type 0 where
  most : x.heads ≤ d.heads
  same : x.heads ≡ d.heads → IsInForce d.current x

-- so it is after a datagram
numbered_on : (d e : Decoder) (x : Release) → d.heads < 2 ^ 64 - 1 → TakenIs d e → IsNumbered d x → IsNumbered e x
numbered_on d e x room (inl same) n =
    let I : Option Current → Type 0 = λ o. IsInForce o x in
    record { most = omega (arith, n.most, same.heads); same = λ h. subst I (sym same.current) (n.same (h ∙ same.heads)) }
numbered_on d e x room (inr (inl none)) n =
    let I : Option Current → Type 0 = λ o. IsInForce o x in
    record { most = omega (arith, n.most, none.1); same = λ h. subst I (sym none.0) tt }
numbered_on d e x room (inr (inr more)) n =
    let one : e.heads ≡ d.heads + 1 = more ∙ omega arith in
    record { most = omega (arith, n.most, one); same = λ h. absurd (omega (arith, n.most, one, h)) }

all_numbered_on : (d e : Decoder) (xs : List Release) → d.heads < 2 ^ 64 - 1 → TakenIs d e → AllByRecursion (IsNumbered d) xs → AllByRecursion (IsNumbered e) xs
all_numbered_on d e [] room taken all = tt
all_numbered_on d e (x ∷ xs) room taken all = (numbered_on d e x room taken all.0, all_numbered_on d e xs room taken all.1)

-- at most one more main header was taken
few_taken : (d e : Decoder) → TakenIs d e → e.heads ≤ d.heads + 1
few_taken d e (inl same) = omega (arith, same.heads)
few_taken d e (inr (inl none)) = omega (arith, none.1)
few_taken d e (inr (inr more)) = omega (arith, more)

-- a packet that is released is numbered
in_force : (o : Option Current) (x : Release) → HeaderIs o x.header → IsInForce o x
in_force None x h = tt
in_force (Some c) x h = h

released_numbered : (d e : Decoder) (x : Release) → SameHeads d e → ReleasedBy d x → IsNumbered e x
released_numbered d e x same r =
    let I : Option Current → Type 0 = λ o. IsInForce o x in
    record { most = omega (arith, r.heads, same.heads); same = λ h. subst I (sym same.current) (in_force d.current x r.header) }

all_released_numbered : (d e : Decoder) (xs : List Release) → SameHeads d e → AllByRecursion (ReleasedBy d) xs → AllByRecursion (IsNumbered e) xs
all_released_numbered d e [] same all = tt
all_released_numbered d e (x ∷ xs) same all = (released_numbered d e x same all.0, all_released_numbered d e xs same all.1)

-- packets that were released share their header with those that are released now
shared_by : (o : Option Current) (x y : Release) → IsInForce o x → HeaderIs o y.header → y.header ≡ x.header
shared_by None x y a b = absurd b
shared_by (Some c) x y a b = b ∙ sym a

shared_with : (d : Decoder) (x : Release) (ys : List Release) → IsNumbered d x → AllByRecursion (ReleasedBy d) ys → AllByRecursion (λ y. y.heads ≡ x.heads → y.header ≡ x.header) ys
shared_with d x [] n all = tt
shared_with d x (y ∷ ys) n all = ((λ h. shared_by d.current x y (n.same (sym h ∙ all.0.heads)) all.0.header), shared_with d x ys n all.1)

-- and those that are released at once share one
shared_at_once : (d : Decoder) (ys : List Release) → AllByRecursion (ReleasedBy d) ys → ShareHeaders ys
shared_at_once d [] all = tt
shared_at_once d (y ∷ ys) all = (shared_with d y ys (released_numbered d d y (same_heads d) all.0) all.1, shared_at_once d ys all.1)

all_both : {A : Type 0} (P : A → Type 0) (xs ys : List A) → AllByRecursion P xs → AllByRecursion P ys → AllByRecursion P (xs ++ ys)
all_both P [] ys a b = b
all_both P (x ∷ xs) ys a b = (a.0, all_both P xs ys a.1 b)

shared_further : (d : Decoder) (xs ys : List Release) → ShareHeaders xs → AllByRecursion (IsNumbered d) xs → AllByRecursion (ReleasedBy d) ys → ShareHeaders (xs ++ ys)
shared_further d [] ys shared numbered all = shared_at_once d ys all
shared_further d (x ∷ xs) ys shared numbered all =
    (all_both (λ y. y.heads ≡ x.heads → y.header ≡ x.header) xs ys shared.0 (shared_with d x ys numbered.0 all), shared_further d xs ys shared.1 numbered.1 all)

-- what is known of a receiver that has kept fewer frames than this
record ReceiverIs (most : ℕ) (r : Receiver) : Type 0 where
  few : r.decoder.heads + length r.window.held ≤ r.kept
  room : r.kept ≤ most
  numbered : AllByRecursion (IsNumbered r.decoder) r.releases
  shared : ShareHeaders r.releases

-- fewer items pass a test
filter_short : {T : Type 0} (base : ℕ) (held : List (Held T)) → length (filter (λ x. not (x.number == base)) held) ≤ length held
filter_short base [] = omega arith
filter_short base (k ∷ held) = elim (cases_Bool (k.number == base)) [
  | inl here ↦ rw here (omega (arith, filter_short base held))
  | inr away ↦ rw away (omega (arith, filter_short base held))
]

-- an item that is found isn't held any more
fewer_held : {T : Type 0} (base : ℕ) (held : List (Held T)) (h : Held T) → find (λ x. x.number == base) held ≡ Some h → length (filter (λ x. not (x.number == base)) held) + 1 ≤ length held
fewer_held base [] h e = absurd (cc)
fewer_held base (k ∷ held) h e = elim (cases_Bool (k.number == base)) [
  | inl here ↦ rw here (omega (arith, filter_short base held))
  | inr away ↦
      let f : find (λ x. x.number == base) held ≡ Some h = rw away at e in
      rw away (omega (arith, fewer_held base held h f))
]

-- one item more is held
one_more_held : {T : Type 0} (base : ℕ) (h : Held T) (held : List (Held T)) → length (insert base h held) ≡ length held + 1
one_more_held base h [] = refl
one_more_held base h (k ∷ held) = elim (cases_Bool (nat_lt (ahead base h.number) (ahead base k.number))) [
  | inl first ↦ rw first (omega arith)
  | inr later ↦ rw later (omega (arith, one_more_held base h held))
]

-- what is known after what the window hands on
abbrev NextIs : ℕ → Receiver → Next Datagram → Type 0
NextIs most r (Hand x w) = ReceiverIs most (followed (record r { window = w }) (decoded r.decoder x x.payload))
NextIs most r (Gap count w) = ReceiverIs most (record r { window = w; decoder = take_gap r.decoder })
NextIs most r Nothing = Unit {0}

-- a gap changes nothing of it
gap_numbered : (d : Decoder) (xs : List Release) → AllByRecursion (IsNumbered d) xs → AllByRecursion (IsNumbered (take_gap d)) xs
gap_numbered d [] all = tt
gap_numbered d (x ∷ xs) all = (record { most = all.0.most; same = all.0.same }, gap_numbered d xs all.1)

gap_is : (most : ℕ) (r : Receiver) (w : Window Datagram) → length w.held ≡ length r.window.held → ReceiverIs most r → ReceiverIs most (record r { window = w; decoder = take_gap r.decoder })
gap_is most r w same k = record {
  few = omega (arith, k.few, same);
  room = k.room;
  numbered = gap_numbered r.decoder r.releases k.numbered;
  shared = k.shared;
}

-- a datagram that is handed on is decoded
hand_is : (most : ℕ) (r : Receiver) (x : Datagram) (w : Window Datagram) → most < 2 ^ 64 - 1 → length w.held + 1 ≤ length r.window.held → ReceiverIs most r → ReceiverIs most (followed (record r { window = w }) (decoded r.decoder x x.payload))
hand_is most r x w room fewer k =
    let d = r.decoder in
    let e = decoded d x x.payload in
    let taken = datagram_taken d x x.payload in
    let n = length e.bytes + 5 in
    let s = settle_is n e in
    let less : d.heads < 2 ^ 64 - 1 = omega (arith, k.few, k.room, room, fewer) in
    let before = all_numbered_on d e r.releases less taken k.numbered in
    record {
      few = omega (arith, k.few, fewer, few_taken d e taken, s.decoder.heads);
      room = k.room;
      numbered = all_both (IsNumbered (settled e).decoder) r.releases (settled e).releases
          (all_numbered_on e (settled e).decoder r.releases (omega (arith, few_taken d e taken, k.few, k.room, room, fewer)) (inl s.decoder) before)
          (all_released_numbered e (settled e).decoder (settled e).releases s.decoder s.releases);
      shared = shared_further e r.releases (settled e).releases k.shared before s.releases;
    }

at_base : (most : ℕ) (r : Receiver) (base : ℕ) (o : Option (Held Datagram)) → most < 2 ^ 64 - 1 → ReceiverIs most r → find (λ h. h.number == base) r.window.held ≡ o → NextIs most r (next_at base r.window o)
at_base most r base (Some h) room k e =
    hand_is most r h.item (moved base 1 (record (r.window) { held = filter (λ x. not (x.number == base)) r.window.held })) room (fewer_held base r.window.held h e) k
at_base most r base None room k e =
    let count = gap_length base r.window in
    elim (r.window.due == 0) as (λ b. NextIs most r (if b then Nothing else Gap count (moved base count r.window))) [
      | true ↦ tt
      | false ↦ gap_is most r (moved base count r.window) refl k
    ]

next_by : (most : ℕ) (r : Receiver) (base : Option ℕ) → most < 2 ^ 64 - 1 → ReceiverIs most r → NextIs most r (next r.window base)
next_by most r None room k = tt
next_by most r (Some base) room k = at_base most r base (find (λ h. h.number == base) r.window.held) room k refl

-- the draining
drained_by : (most n : ℕ) (r : Receiver) (v : Next Datagram) → ReceiverIs most r → NextIs most r v → ((s : Receiver) → ReceiverIs most s → ReceiverIs most (drained n s)) → ReceiverIs most (elim v [
  | Hand x w ↦ drained n (followed (record r { window = w }) (decoded r.decoder x x.payload))
  | Gap count w ↦ drained n (record r { window = w; decoder = take_gap r.decoder })
  | Nothing ↦ r
])
drained_by most n r (Hand x w) k is ih = ih (followed (record r { window = w }) (decoded r.decoder x x.payload)) is
drained_by most n r (Gap count w) k is ih = ih (record r { window = w; decoder = take_gap r.decoder }) is
drained_by most n r Nothing k is ih = k

drained_is : (most n : ℕ) (r : Receiver) → most < 2 ^ 64 - 1 → ReceiverIs most r → ReceiverIs most (drained n r)
unfolding drained
drained_is most zero r room k = k
drained_is most (suc n) r room k = drained_by most n r (next r.window r.window.base) k (next_by most r r.window.base room k) (λ s is. drained_is most n s room is)

-- with another window that holds as many
same_window : (most : ℕ) (r : Receiver) (w : Window Datagram) → length w.held ≡ length r.window.held → ReceiverIs most r → ReceiverIs most (record r { window = w })
same_window most r w same k = record { few = omega (arith, k.few, same); room = k.room; numbered = k.numbered; shared = k.shared }

-- a datagram that is kept
keep_is : (most : ℕ) (r : Receiver) (x : Datagram) → suc most < 2 ^ 64 - 1 → ReceiverIs most r → ReceiverIs (suc most) (keep r x)
keep_is most r x room k =
    let n = extended_number x in
    let s = record r { window = hold r.window n x; kept = r.kept + 1 } in
    let size = one_more_held (base_with n r.window.base) (record { number = n; item = x }) r.window.held in
    drained_is (suc most) (2 * length s.window.held + 1) s room (record { few = omega (arith, k.few, size); room = omega (arith, k.room); numbered = k.numbered; shared = k.shared })

-- with more room
wider : (most : ℕ) (r : Receiver) → ReceiverIs most r → ReceiverIs (suc most) r
wider most r k = record { few = k.few; room = omega (arith, k.room); numbered = k.numbered; shared = k.shared }

offered_is : (most : ℕ) (r : Receiver) (x : Datagram) (o : Offer) → suc most < 2 ^ 64 - 1 → ReceiverIs most r → ReceiverIs (suc most) (offered r x o)
offered_is most r x Behind room k = record { few = k.few; room = omega (arith, k.room); numbered = k.numbered; shared = k.shared }
offered_is most r x Again room k = record { few = k.few; room = omega (arith, k.room); numbered = k.numbered; shared = k.shared }
offered_is most r x (Drain n) room k =
    let s = record r { window = make_due n r.window } in
    keep_is most (drain s) x room (drained_is most (2 * length s.window.held + 1) s (omega (arith, room)) (same_window most r (make_due n r.window) refl k))
offered_is most r x Kept room k = keep_is most r x room k

datagram_is : (pick : Pick) (most : ℕ) (r : Receiver) (x : Datagram) → suc most < 2 ^ 64 - 1 → ReceiverIs most r → ReceiverIs (suc most) (take_datagram pick r x)
datagram_is pick most r x room k = elim (cases_Bool (is_source r.source x.rtp.source)) [
  | inl own ↦
      let s = record r { source = Some x.rtp.source } in
      rw own (offered_is most s x (offer pick.window (extended_number x) r.window r.window.base) room (record { few = k.few; room = k.room; numbered = k.numbered; shared = k.shared }))
  | inr other ↦ rw other (record { few = k.few; room = omega (arith, k.room); numbered = k.numbered; shared = k.shared })
]

frame_is : (pick : Pick) (most : ℕ) (r : Receiver) (f : List ℕ) → suc most < 2 ^ 64 - 1 → ReceiverIs most r → ReceiverIs (suc most) (take_frame pick r f)
frame_is pick most r f room k = elim (cases_Bool (is_well_formed f && ((datagram_of f).rtp.kind == pick.kind))) [
  | inl well ↦ rw well (datagram_is pick most r (datagram_of f) room k)
  | inr other ↦ rw other (record { few = k.few; room = omega (arith, k.room); numbered = k.numbered; shared = k.shared })
]

frames_are : (pick : Pick) (most : ℕ) (r : Receiver) (frames : List (List ℕ)) → most + length frames < 2 ^ 64 - 1 → ReceiverIs most r → ReceiverIs (most + length frames) (take_frames pick r frames)
unfolding take_frames
frames_are pick most r [] room k = let same : most ≡ most + 0 = omega arith in rw (sym same) k
frames_are pick most r (f ∷ frames) room k =
    let same : suc most + length frames ≡ most + suc (length frames) = omega arith in
    let P : ℕ → Type 0 = λ n. ReceiverIs n (take_frames pick (take_frame pick r f) frames) in
    subst P same (frames_are pick (suc most) (take_frame pick r f) frames (omega (arith, room)) (frame_is pick most r f (omega (arith, room)) k))

-- the end
due_is : (most : ℕ) (r : Receiver) (base : Option ℕ) → ReceiverIs most r → ReceiverIs most (record r { window = make_all_due r.window base })
due_is most r None k = same_window most r r.window refl k
due_is most r (Some base) k = same_window most r (make_all_due r.window (Some base)) refl k

-- main headers are numbered
pub headers_are_numbered : HeadersAreNumbered
headers_are_numbered pick frames room =
    let r = received pick frames in
    let s = record r { window = make_all_due r.window r.window.base } in
    let enough : 0 + length frames < 2 ^ 64 - 1 = omega (arith, room) in
    let k = frames_are pick 0 (new_receiver pick) frames enough (record { few = omega arith; room = omega arith; numbered = tt; shared = tt }) in
    (drained_is (0 + length frames) (2 * length s.window.held + 1) s enough (due_is (0 + length frames) r r.window.base k)).shared
