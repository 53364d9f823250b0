-- Whatever frames come, what is built of them is codestreams, each with a packet for each precinct.
use Rattle.std.proofs.Common.{◌≡◌, ◌==◌, ◌&&◌, ℕ, Bool, true, false, List, [], ◌∷◌, ◌++◌, None, Ok, refl, sym, ◌∙◌, ap, subst, inl, inr, append_assoc}
use Rattle.std.specs.List.{AllByRecursion, AllZip, list_any}
use Rattle.std.proofs.lemmas.Bool.{cases_Bool, eq-eqb, eqb-true, or_left, or_right}
use Rattle.std.proofs.lemmas.List.{append-nil}
use Rattle.std.proofs.lemmas.List.Concat.{flat_map-append}
use Rattle.codestream_model.specs.Values.{Head, Place}
use Rattle.codestream_model.specs.Codestream.{joined}
use Rattle.codestream_model.specs.MainHeader.{SpellsHead}
use Rattle.codestream_model.specs.MainHeaderReading.{head_of}
use Rattle.codestream_model.specs.PacketOrder.{packet_order}
use Rattle.codestream_model.proofs.Members.{Has}
use Rattle.codestream_model.proofs.Orders.{packet_order_is_computed, packet_order_is_one}
use Rattle.codestream_model.proofs.HeaderLimits.{header_has_components}
use Rattle.codestream_model.proofs.HeaderReads.{header_is_read_one_way}
use Rattle.stream_model.specs.Decoder.{Current, Release, is_place}
use Rattle.stream_model.specs.Receiver.{new_receiver, received, flushed}
use Rattle.stream_model.specs.ReadingLaws.{kept_of, IsReleased}
use Rattle.stream_model.proofs.FrameKept.{each_release_is_read}
use Rattle.rebuild_model.specs.Stripping.{stripped}
use Rattle.rebuild_model.specs.Rebuilding.{eoc, empty_packet, empty_packets, places_before, places_after, goes_on, rebuilt}
use Rattle.rebuild_model.specs.RebuildingLaws.{IsEmptyOrReleased, IsBuiltFrom, EachIsBuilt}
use Rattle.rebuild_model.specs.HeaderLaws.{ShareHeaders}
use Rattle.rebuild_model.proofs.Rebuilt.{same_place, opened, closes, joins, as_if_open}
use Rattle.rebuild_model.proofs.Numbered.{headers_are_numbered}

-- the packets of a codestream
abbrev ArePackets : List (List ℕ) → List ℕ → Head → List Place → List (List ℕ) → Type 0
ArePackets frames header h places packets = AllZip (λ p packet. IsEmptyOrReleased frames header h p packet) places packets

-- an empty packet for each precinct
abbrev empties : Head → List Place → List (List ℕ)
empties h [] = []
empties h (p ∷ places) = empty_packet h ∷ empties h places

empties_are : (frames : List (List ℕ)) (header : List ℕ) (h : Head) (places : List Place) → ArePackets frames header h places (empties h places)
empties_are frames header h [] = tt
empties_are frames header h (p ∷ places) = (inl refl, empties_are frames header h places)

empties_joined : (h : Head) (places : List Place) → joined (empties h places) ≡ empty_packets h places
empties_joined h [] = refl
empties_joined h (p ∷ places) = ap (λ l. empty_packet h ++ l) (empties_joined h places)

-- packets of some precincts and of those after them
both : (frames : List (List ℕ)) (header : List ℕ) (h : Head) (ps qs : List Place) (bs cs : List (List ℕ)) → ArePackets frames header h ps bs → ArePackets frames header h qs cs → ArePackets frames header h (ps ++ qs) (bs ++ cs)
both frames header h [] qs [] cs a b = b
both frames header h [] qs (x ∷ bs) cs a b = absurd a
both frames header h (p ∷ ps) qs [] cs a b = absurd a
both frames header h (p ∷ ps) qs (x ∷ bs) cs a b = (a.0, both frames header h ps qs bs cs a.1 b)

-- the places are equal that the test says are
is_same : (p q : Place) → is_place p q ≡ true → p ≡ q
is_same p q e = elim (cases_Bool (p.c == q.c)) [
  | inr other ↦ let f : is_place p q ≡ false = rw other refl in absurd (cc)
  | inl c ↦ elim (cases_Bool (p.r == q.r)) [
    | inr other ↦ let f : is_place p q ≡ false = rw (c, other) refl in absurd (cc)
    | inl r ↦ elim (cases_Bool (p.k == q.k)) [
      | inr other ↦ let f : is_place p q ≡ false = rw (c, r, other) refl in absurd (cc)
      | inl k ↦
          let a : p.c ≡ q.c = eqb-true p.c q.c c in
          let b : p.r ≡ q.r = eqb-true p.r q.r r in
          let d : p.k ≡ q.k = eqb-true p.k q.k k in
          let is : record { c = p.c; r = p.r; k = p.k } ≡ record { c = q.c; r = q.r; k = q.k } = cc in
          is
    ]
  ]
]

-- places in two parts at one of them
split_at : (p : Place) (places : List Place) → list_any (is_place p) places ≡ true → places ≡ places_before p places ++ p ∷ places_after p places
split_at p [] e = absurd (cc)
split_at p (q ∷ places) e = elim (cases_Bool (is_place p q)) [
  | inl here ↦ rw here (ap (λ x. x ∷ places) (sym (is_same p q here)))
  | inr away ↦
      let later : list_any (is_place p) places ≡ true = rw away at e in
      rw away (ap (λ l. q ∷ l) (split_at p places later))
]

-- what is built of packets after a codestream is open
record Builds (frames : List (List ℕ)) (n : ℕ) (h : Head) (header : List ℕ) (places : List Place) (xs : List Release) : Type 0 where
  packets : List (List ℕ)
  codestreams : List (List ℕ)
  are_packets : ArePackets frames header h places packets
  each : AllByRecursion (IsBuiltFrom frames) codestreams
  whole : rebuilt true (opened n h places) xs ≡ (joined packets ++ eoc) ++ joined codestreams

-- the bytes are the same, however they are grouped
regroup : (a b c d e : List ℕ) → (a ++ b) ++ ((c ++ d) ++ e) ≡ ((a ++ (b ++ c)) ++ d) ++ e
regroup a b c d e =
    append_assoc a b ((c ++ d) ++ e)
    ∙ (ap (λ l. a ++ l) (sym (append_assoc b (c ++ d) e) ∙ ap (λ l. l ++ e) (sym (append_assoc b c d)))
    ∙ (sym (append_assoc a ((b ++ c) ++ d) e)
    ∙ ap (λ l. l ++ e) (sym (append_assoc a (b ++ c) d))))

-- a packet that goes on
going_on : (frames : List (List ℕ)) (n : ℕ) (h : Head) (header : List ℕ) (places : List Place) (x : Release) (xs : List Release) → IsReleased frames x → x.header ≡ header
    → list_any (is_place x.precinct.place) places ≡ true → goes_on (opened n h places) x ≡ true → Builds frames n h header (places_after x.precinct.place places) xs → Builds frames n h header places (x ∷ xs)
going_on frames n h header places x xs r same there goes later =
    let p = x.precinct.place in
    let before = places_before p places in
    let after = places_after p places in
    let mine : ArePackets frames header h (p ∷ after) (x.raw ∷ later.packets) = (inr (x, r, same, refl, refl), later.are_packets) in
    let all = both frames header h before (p ∷ after) (empties h before) (x.raw ∷ later.packets) (empties_are frames header h before) mine in
    let P : List Place → Type 0 = λ l. ArePackets frames header h l (empties h before ++ x.raw ∷ later.packets) in
    let bytes : joined (empties h before ++ x.raw ∷ later.packets) ≡ empty_packets h before ++ (x.raw ++ joined later.packets) =
    flat_map-append (λ (l : List ℕ). l) (empties h before) (x.raw ∷ later.packets) ∙ ap (λ l. l ++ (x.raw ++ joined later.packets)) (empties_joined h before) in
    record {
      packets = empties h before ++ x.raw ∷ later.packets;
      codestreams = later.codestreams;
      are_packets = subst P (sym (split_at p places there)) all;
      each = later.each;
      whole =
          joins true n h places x xs goes
          ∙ (ap (λ l. (empty_packets h before ++ x.raw) ++ l) later.whole
          ∙ (regroup (empty_packets h before) x.raw (joined later.packets) eoc (joined later.codestreams)
          ∙ ap (λ l. (l ++ eoc) ++ joined later.codestreams) (sym bytes)));
    }

-- what is known of a packet that is released
record IsKnown (frames : List (List ℕ)) (x : Release) : Type 0 where
  head : Head
  is_head : SpellsHead head x.header
  place : list_any (is_place x.precinct.place) (packet_order head) ≡ true

has_any : (p : Place) (places : List Place) → Has places p → list_any (is_place p) places ≡ true
has_any p [] has = absurd has
has_any p (q ∷ places) (inl here) = or_left (is_place p q) (list_any (is_place p) places) (let P : Place → Type 0 = λ x. is_place p x ≡ true in subst P (sym here) (same_place p))
has_any p (q ∷ places) (inr later) = or_right (is_place p q) (list_any (is_place p) places) (has_any p places later)

has_middle : (before : List Place) (p : Place) (after : List Place) → Has (before ++ p ∷ after) p
has_middle [] p after = inl refl
has_middle (q ∷ before) p after = inr (has_middle before p after)

known : (frames : List (List ℕ)) (x : Release) → IsReleased frames x → IsKnown frames x
known frames x r =
    let g = r.reading in
    let P : List ℕ → Type 0 = λ l. SpellsHead g.head l in
    let head : SpellsHead g.head x.header = subst P (sym r.header) g.is_head in
    let places = g.before ++ (g.places ++ x.precinct.place ∷ g.after) in
    let order : packet_order g.head ≡ places = packet_order_is_one g.head (packet_order g.head) places (packet_order_is_computed g.head (header_has_components g.head x.header head).steps) g.order in
    let Q : List Place → Type 0 = λ l. Has l x.precinct.place in
    let same : (g.before ++ g.places) ++ x.precinct.place ∷ g.after ≡ places = append_assoc g.before g.places (x.precinct.place ∷ g.after) in
    let has : Has (packet_order g.head) x.precinct.place = subst Q (sym order) (subst Q same (has_middle (g.before ++ g.places) x.precinct.place g.after)) in
    record { head = g.head; is_head = head; place = has_any x.precinct.place (packet_order g.head) has }

-- codestreams that begin with this packet
record BuildsFrom (frames : List (List ℕ)) (xs : List Release) : Type 0 where
  codestreams : List (List ℕ)
  each : AllByRecursion (IsBuiltFrom frames) codestreams
  whole : rebuilt true None xs ≡ joined codestreams

-- a packet that begins a codestream
begins : (frames : List (List ℕ)) (x : Release) (xs : List Release) (k : IsKnown frames x) → Builds frames x.heads k.head x.header (packet_order k.head) (x ∷ xs) → BuildsFrom frames (x ∷ xs)
begins frames x xs k b =
    let c : Current = record { stamp = 0; head = k.head; header = x.header; order = packet_order k.head } in
    let read : head_of x.header ≡ Ok k.head = ap head_of (sym (append-nil x.header)) ∙ header_is_read_one_way k.head x.header [] k.is_head in
    let codestream = stripped x.header ++ (joined b.packets ++ eoc) in
    record {
      codestreams = codestream ∷ b.codestreams;
      each = (
        record {
          head = k.head;
          header = x.header;
          places = packet_order k.head;
          packets = b.packets;
          is_head = k.is_head;
          order = packet_order_is_computed k.head (header_has_components k.head x.header k.is_head).steps;
          are_packets = b.are_packets;
          whole = refl;
        },
        b.each,
      );
      whole =
          as_if_open c x.heads (packet_order k.head) x xs read refl (eq-eqb x.heads x.heads refl) refl k.place
          ∙ (ap (λ l. stripped x.header ++ l) b.whole ∙ sym (append_assoc (stripped x.header) (joined b.packets ++ eoc) (joined b.codestreams)));
    }

-- packets under a number of main headers have this one
abbrev HaveHeader : ℕ → List ℕ → List Release → Type 0
HaveHeader n header xs = AllByRecursion (λ y. y.heads ≡ n → y.header ≡ header) xs

-- what is built at the end
at_end : (frames : List (List ℕ)) (n : ℕ) (h : Head) (header : List ℕ) (places : List Place) → Builds frames n h header places []
unfolding rebuilt
at_end frames n h header places = record {
  packets = empties h places;
  codestreams = [];
  are_packets = empties_are frames header h places;
  each = tt;
  whole = ap (λ l. l ++ eoc) (sym (empties_joined h places)) ∙ sym (append-nil (joined (empties h places) ++ eoc));
}

-- a packet that doesn't go on closes the codestream
closed_by : (frames : List (List ℕ)) (n : ℕ) (h : Head) (header : List ℕ) (places : List Place) (x : Release) (xs : List Release) → goes_on (opened n h places) x ≡ false → BuildsFrom frames (x ∷ xs) → Builds frames n h header places (x ∷ xs)
closed_by frames n h header places x xs stops b = record {
  packets = empties h places;
  codestreams = b.codestreams;
  are_packets = empties_are frames header h places;
  each = b.each;
  whole =
      closes true (opened n h places) x xs stops
      ∙ (ap (λ l. (empty_packets h places ++ eoc) ++ l) (sym (closes true None x xs refl) ∙ b.whole)
      ∙ ap (λ l. (l ++ eoc) ++ joined b.codestreams) (sym (empties_joined h places)));
}

-- a codestream goes on with a packet where their numbers are the same and its place is still to come
and_both : (a b : Bool) → (a && b) ≡ true → (a ≡ true) × (b ≡ true)
and_both true true e = (refl, refl)
and_both true false e = absurd (cc)
and_both false b e = absurd (cc)

-- what is built of packets, of which the next goes on or doesn't
all_build : (frames : List (List ℕ)) (n : ℕ) (h : Head) (header : List ℕ) (places : List Place) (xs : List Release) → AllByRecursion (IsReleased frames) xs → ShareHeaders xs → HaveHeader n header xs → Builds frames n h header places xs
all_build frames n h header places [] released shared have = at_end frames n h header places
all_build frames n h header places (x ∷ xs) released shared have =
    let k = known frames x released.0 in
    elim (cases_Bool (goes_on (opened n h places) x)) [
      | inl goes ↦
          let t = and_both (n == x.heads) (list_any (is_place x.precinct.place) places) goes in
          let same : x.header ≡ header = have.0 (sym (eqb-true n x.heads t.0)) in
          going_on frames n h header places x xs released.0 same t.1 goes (all_build frames n h header (places_after x.precinct.place places) xs released.1 shared.1 have.1)
      | inr stops ↦
          let order = packet_order k.head in
          let goes : goes_on (opened x.heads k.head order) x ≡ true = rw (eq-eqb x.heads x.heads refl, k.place) refl in
          let later = all_build frames x.heads k.head x.header (places_after x.precinct.place order) xs released.1 shared.1 shared.0 in
          closed_by frames n h header places x xs stops (begins frames x xs k (going_on frames x.heads k.head x.header order x xs released.0 refl k.place goes later))
    ]

-- what is built of all packets
nothing_builds : (frames : List (List ℕ)) → BuildsFrom frames []
unfolding rebuilt
nothing_builds frames = record { codestreams = []; each = tt; whole = refl }

from_the_first : (frames : List (List ℕ)) (xs : List Release) → AllByRecursion (IsReleased frames) xs → ShareHeaders xs → BuildsFrom frames xs
from_the_first frames [] released shared = nothing_builds frames
from_the_first frames (x ∷ xs) released shared =
    let k = known frames x released.0 in
    let order = packet_order k.head in
    let goes : goes_on (opened x.heads k.head order) x ≡ true = rw (eq-eqb x.heads x.heads refl, k.place) refl in
    let later = all_build frames x.heads k.head x.header (places_after x.precinct.place order) xs released.1 shared.1 shared.0 in
    begins frames x xs k (going_on frames x.heads k.head x.header order x xs released.0 refl k.place goes later)

-- whatever the frames are
pub each_is_built : EachIsBuilt
each_is_built pick frames fits room =
    let kept = kept_of pick (new_receiver pick) frames in
    let b = from_the_first kept (flushed (received pick frames)).releases (each_release_is_read pick frames fits) (headers_are_numbered pick frames room) in
    (b.codestreams, b.each, b.whole)
