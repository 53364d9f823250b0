-- Whatever arrives of a stream, the rules of a receiver give what is reached.
use Rattle.std.proofs.Common.{◌≡◌, ◌⊎◌, ◌<◌, ◌≤◌, ◌+◌, ◌-◌, ◌%◌, ◌^◌, ◌&&◌, ℕ, zero, suc, Bool, true, false, List, [], ◌∷◌, ◌++◌, map, length, take, get_or, Option, Some, None, subst, refl, sym, ◌∙◌, ap, inl, inr, arith, if◌then◌else◌}
use Rattle.std.specs.Prelude.{nat_lt, slice_index}
use Rattle.std.specs.List.{AllZip, filter, flat_map, range_with_len}
use Rattle.std.proofs.lemmas.Bool.{cases_lt, lt-ltb, lt-leb}
use Rattle.std.proofs.lemmas.List.{append-nil, length-take, get_or-take}
use Rattle.wire_model.specs.Payload.{Main}
use Rattle.wire_model.specs.Datagram.{Datagram, IsDatagram}
use Rattle.stream_model.specs.Report.{Counts}
use Rattle.stream_model.specs.Arrivals.{is_of_kind, source_of, picked_source, picked, Arrive, datagram_at, in_time, base, highest_arrival, positions_in_time}
use Rattle.stream_model.specs.Stream.{Sent, datagrams_of, Carry, extended_number}
use Rattle.stream_model.specs.Decoder.{Decoder, at_start, precincts_released, Settled, take_gap}
use Rattle.stream_model.specs.Window.{Window}
use Rattle.stream_model.specs.Receiver.{Pick, Receiver, new_receiver, received, flushed}
use Rattle.stream_model.specs.RunLaws.{fed, handed, given_before, releases_reached}
use Rattle.stream_model.specs.StreamLaws.{HasFed, HandsOnInOrder, GivesWhatIsReached, ReleasesWhatIsReached, WindowIsAtBase}
use Rattle.stream_model.proofs.Bases.{in_time-le-highest, not_true}
use Rattle.stream_model.proofs.ArrivalSteps.{base_most, highest_in_time}
use Rattle.stream_model.proofs.CountedFrames.{each_frame_is_counted_once}
use Rattle.stream_model.proofs.InOrderReceived.{zip_length}
use Rattle.stream_model.proofs.RunLaws.{runs_give, runs_release, stream_whole, released_is_reached}
use Rattle.stream_model.proofs.WindowSteps.{num}
use Rattle.stream_model.proofs.WindowDrains.{items, items_same}
use Rattle.stream_model.proofs.ReceiverSteps.{fed_further}
use Rattle.stream_model.proofs.ReceiverRuns.{Known, IsStreamAt, frames_known, AtEnd, flush_known, drained_empty}

-- a datagram that is at no position
pub nowhere : Datagram
nowhere = record { rtp = record { marker = false; kind = 0; number = 0; stamp = 0; source = 0 }; payload = Main (record { ordh = 4; eseq = 0; xtrac = 0 }); codestream = [] }

-- the datagram at a position
abbrev pub at : List Datagram → ℕ → Datagram
at xs i = get_or xs i nowhere

-- what is handed on of a list is what is handed on by positions
handed_items : (there : ℕ → Bool) (dg : ℕ → Datagram) (k : ℕ) (xs : List Datagram) → ((j : ℕ) → dg (k + j) ≡ at xs j) → handed there k xs ≡ items there dg k (length xs)
handed_items there dg k [] h = refl
handed_items there dg k (x ∷ xs) h =
    let first : dg k ≡ x = ap dg (let e : k ≡ k + 0 = omega arith in e) ∙ h 0 in
    ap (λ y. (if there k then Some y else None) ∷ handed there (k + 1) xs) (sym first)
    ∙ ap (λ l. (if there k then Some (dg k) else None) ∷ l) (handed_items there dg (k + 1) xs (λ j. ap dg (let e : k + 1 + j ≡ k + suc j = omega arith in e) ∙ h (suc j)))

-- trailing gaps give nothing, and count nothing
abbrev AddsNothing : Decoder → Settled → Type 0
AddsNothing d s = (s.releases ≡ []) × (s.decoder.unsupported ≡ d.unsupported) × (s.decoder.disagreed ≡ d.disagreed) × (s.decoder.broken ≡ d.broken)

-- however many they are
trailing : (d : Decoder) (there : ℕ → Bool) (dg : ℕ → Datagram) (p n : ℕ) → ((i : ℕ) → p ≤ i → there i ≡ false) → AddsNothing d (fed d (items there dg p n))
trailing d there dg p zero none = (refl, refl, refl, refl)
trailing d there dg p (suc n) none =
    let P : Bool → Type 0 = λ b. AddsNothing d (fed d ((if b then Some (dg p) else None) ∷ items there dg (p + 1) n)) in
    subst P (sym (none p (omega arith))) (trailing (take_gap d) there dg (p + 1) n (λ i low. none i (omega arith)))

-- what was fed up to a position after which nothing is there is what is reached
reached_by : (sent : List Sent) (codestreams datagrams : List (List ℕ)) (there : ℕ → Bool) (q : ℕ) → Carry sent codestreams datagrams → q ≤ length datagrams → ((i : ℕ) → q ≤ i → there i ≡ false)
    → ((fed at_start (items there (at (flat_map datagrams_of sent)) 0 q)).releases ≡ releases_reached there 0 0 sent)
    × ((fed at_start (items there (at (flat_map datagrams_of sent)) 0 q)).decoder.unsupported ≡ 0) × ((fed at_start (items there (at (flat_map datagrams_of sent)) 0 q)).decoder.disagreed ≡ 0) × ((fed at_start (items there (at (flat_map datagrams_of sent)) 0 q)).decoder.broken ≡ 0)
reached_by sent codestreams datagrams there q c within none =
    let xs = flat_map datagrams_of sent in
    let dg = at xs in
    let n = length xs in
    let size : n ≡ length datagrams = zip_length xs datagrams c.are_datagrams in
    let rules = runs_give sent codestreams datagrams there c in
    let list : handed there 0 xs ≡ items there dg 0 n = handed_items there dg 0 xs (λ j. ap dg (let e : 0 + j ≡ j = omega arith in e)) in
    let split = fed_further there dg q n (omega (arith, within, size)) in
    let all : fed at_start (handed there 0 xs) ≡ given_before (fed at_start (items there dg 0 q)).releases (fed (fed at_start (items there dg 0 q)).decoder (items there dg q (n - q))) = ap (fed at_start) list ∙ split in
    let t = trailing (fed at_start (items there dg 0 q)).decoder there dg q (n - q) none in (
      sym (ap (λ (s : Settled). s.releases) all ∙ (ap (λ l. (fed at_start (items there dg 0 q)).releases ++ l) t.0 ∙ append-nil (fed at_start (items there dg 0 q)).releases)) ∙ runs_release sent codestreams datagrams there c,
      sym t.1 ∙ (sym (ap (λ (s : Settled). s.decoder.unsupported) all) ∙ rules.1.unsupported),
      sym t.2 ∙ (sym (ap (λ (s : Settled). s.decoder.disagreed) all) ∙ rules.1.disagreed),
      sym t.3 ∙ (sym (ap (λ (s : Settled). s.decoder.broken) all) ∙ rules.1.broken),
    )

-- the datagrams of a stream by their positions
are_at : (xs : List Datagram) (datagrams : List (List ℕ)) (i : ℕ) → AllZip IsDatagram xs datagrams → i < length datagrams → IsDatagram (at xs i) (datagram_at datagrams i)
are_at [] [] i a low = absurd (omega arith)
are_at [] (b ∷ datagrams) i a low = absurd a
are_at (x ∷ xs) [] i a low = absurd a
are_at (x ∷ xs) (b ∷ datagrams) zero a low = a.0
are_at (x ∷ xs) (b ∷ datagrams) (suc i) a low = are_at xs datagrams i a.1 (omega arith)

-- each has the number of its position
numbers_at : (number k : ℕ) (xs : List Datagram) (i : ℕ) → map extended_number xs ≡ map (λ j. (number + j) % 2 ^ 24) (range_with_len k (length xs)) → i < length xs → extended_number (at xs i) ≡ num number (k + i)
numbers_at number k [] i e low = absurd (omega arith)
numbers_at number k (x ∷ xs) zero e low = let first : extended_number x ≡ (number + k) % 2 ^ 24 = cc in first ∙ ap (num number) (let z : k ≡ k + 0 = omega arith in z)
numbers_at number k (x ∷ xs) (suc i) e low =
    let behind : map extended_number xs ≡ map (λ j. (number + j) % 2 ^ 24) (range_with_len (k + 1) (length xs)) = cc in
    numbers_at number (k + 1) xs i behind (omega arith) ∙ ap (num number) (let z : k + 1 + i ≡ k + suc i = omega arith in z)

-- so they are those of the stream
stream_at : (sent : List Sent) (codestreams datagrams : List (List ℕ)) (c : Carry sent codestreams datagrams) → IsStreamAt c.number (at (flat_map datagrams_of sent)) datagrams
stream_at sent codestreams datagrams c =
    let xs = flat_map datagrams_of sent in
    let size : length xs ≡ length datagrams = zip_length xs datagrams c.are_datagrams in
    let all : map extended_number xs ≡ map (λ j. (c.number + j) % 2 ^ 24) (range_with_len 0 (length xs)) = c.numbers ∙ ap (λ n. map (λ j. (c.number + j) % 2 ^ 24) (range_with_len 0 n)) (sym size) in
    record {
      are = λ i low. are_at xs datagrams i c.are_datagrams low;
      numbers = λ i low. numbers_at c.number 0 xs i all (omega (arith, low, size)) ∙ ap (num c.number) (let z : 0 + i ≡ i = omega arith in z);
      few = c.few;
    }

-- the source at the start
source_at : (kind window : ℕ) (o : Option ℕ) (frames : List (List ℕ)) → (o ≡ Some (picked_source kind o frames)) ⊎ ((o ≡ None) × (picked_source kind o frames ≡ slice_index (map source_of (filter (is_of_kind kind) frames)) 0))
source_at kind window None frames = inr (refl, refl)
source_at kind window (Some s) frames = inl refl

-- what is known after all frames
pub all_known : (sent : List Sent) (codestreams datagrams frames : List (List ℕ)) (events : List ℕ) (pick : Pick) → (c : Carry sent codestreams datagrams) → 1 ≤ pick.window → Arrive datagrams (picked pick.kind pick.source frames) events
    → Known c.number (at (flat_map datagrams_of sent)) (length datagrams) pick.window events (received pick frames) × ((received pick frames).refused + length events ≡ 0 + length frames)
all_known sent codestreams datagrams frames events pick c some a =
    frames_known c.number (at (flat_map datagrams_of sent)) datagrams (stream_at sent codestreams datagrams c) pick (picked_source pick.kind pick.source frames) frames [] events (new_receiver pick) some
    (refl, refl, refl, refl) (source_at pick.kind pick.window pick.source frames) a.each a.within

-- nothing is in time before anything arrived
none_in_time : (i window : ℕ) → in_time [] i window ≡ false
none_in_time i window = refl

-- a test and one that holds, or doesn't
and_true : (b : Bool) → b ≡ (b && true)
and_true true = refl
and_true false = refl

-- and one that fails
and_not : (b : Bool) → (b && false) ≡ false
and_not true = refl
and_not false = refl

-- at the end
at_end : (number : ℕ) (dg : ℕ → Datagram) (end window : ℕ) (events : List ℕ) (r : Receiver) → end < 8388608 → Known number dg end window events r → AtEnd dg end (base events window) (λ i. in_time events i window) r (flushed r) × (r.kept ≡ length (positions_in_time events window))
at_end number dg end window [] r few (w, d, p, k) =
    let is : flushed r ≡ r = drained_empty r w in (
      record {
        q = 0;
        within = omega arith;
        none = λ i low. refl;
        least = λ top low free. omega arith;
        decoder = ap (λ (x : Receiver). x.decoder) is ∙ d;
        releases = ap (λ (x : Receiver). x.releases) is ∙ p;
        counts = (ap (λ (x : Receiver). x.kept) is, ap (λ (x : Receiver). x.refused) is, ap (λ (x : Receiver). x.source) is);
      },
      k,
    )
at_end number dg end window (x ∷ xs) r few (h, k) = (flush_known number dg end (base (x ∷ xs) window) (λ i. in_time (x ∷ xs) i window) r h few, k)

-- and before it
before_end : (number : ℕ) (dg : ℕ → Datagram) (end window : ℕ) (events : List ℕ) (r : Receiver) → 1 ≤ window → Known number dg end window events r
    → (q : ℕ) × (q ≤ end) × (r.releases ≡ (fed at_start (items (λ i. in_time events i window && nat_lt i (base events window)) dg 0 q)).releases) × ((i : ℕ) → q ≤ i → (in_time events i window && nat_lt i (base events window)) ≡ false)
before_end number dg end window [] r some (w, d, p, k) = (0, omega arith, p, λ i low. refl)
before_end number dg end window (x ∷ xs) r some (h, k) =
    let b = base (x ∷ xs) window in
    let t : ℕ → Bool = λ i. in_time (x ∷ xs) i window in
    let u : ℕ → Bool = λ i. t i && nat_lt i b in
    let same : items t dg 0 b ≡ items u dg 0 b = items_same t u dg 0 b (λ i low high. let e : nat_lt i b ≡ true = lt-ltb i b (omega arith) in rw e (and_true (t i))) in
    (b, h.within, h.releases ∙ ap (λ l. (fed at_start l).releases) same, λ i low. let e : nat_lt i b ≡ false = lt-leb (suc i) b (omega arith) in rw e (and_not (t i)))

-- counts by their parts
abbrev counts_with : ℕ → ℕ → ℕ → ℕ → ℕ → ℕ → Counts
counts_with k o f u d b = record { kept = k; old = o; refused = f; unsupported = u; disagreed = d; broken = b }

-- are equal by them
counts_by : (k o f u d b k' o' f' u' d' b' : ℕ) → k ≡ k' → o ≡ o' → f ≡ f' → u ≡ u' → d ≡ d' → b ≡ b'
    → counts_with k o f u d b ≡ counts_with k' o' f' u' d' b'
counts_by k o f u d b k' o' f' u' d' b' e1 e2 e3 e4 e5 e6 = rw (e1, e2, e3, e4, e5, e6) refl

-- the rules release what is reached
pub releases_what_is_reached : ReleasesWhatIsReached
releases_what_is_reached sent codestreams datagrams frames events pick c some a =
    let dg = at (flat_map datagrams_of sent) in
    let end = length datagrams in
    let r = received pick frames in
    let k = all_known sent codestreams datagrams frames events pick c some a in
    let early = before_end c.number dg end pick.window events r some k.0 in
    let now = reached_by sent codestreams datagrams (λ i. in_time events i pick.window && nat_lt i (base events pick.window)) early.0 c early.1 early.3 in
    let e = (at_end c.number dg end pick.window events r c.few k.0).0 in
    let last = reached_by sent codestreams datagrams (λ i. in_time events i pick.window) e.q c e.within e.none in
    (early.2 ∙ now.0, e.releases ∙ last.0)

-- the rules give what is reached
pub gives_what_is_reached : GivesWhatIsReached
gives_what_is_reached sent codestreams datagrams frames events pick c some a =
    let dg = at (flat_map datagrams_of sent) in
    let end = length datagrams in
    let r = received pick frames in
    let k = all_known sent codestreams datagrams frames events pick c some a in
    let all = releases_what_is_reached sent codestreams datagrams frames events pick c some a in
    let whole = stream_whole sent codestreams datagrams c in
    let late = at_end c.number dg end pick.window events r c.few k.0 in
    let e = late.0 in
    let last = reached_by sent codestreams datagrams (λ i. in_time events i pick.window) e.q c e.within e.none in
    let s = flushed r in
    let sum : s.kept + s.old + s.refused ≡ length frames = each_frame_is_counted_once pick frames in
    let kept : s.kept ≡ length (positions_in_time events pick.window) = e.counts.0 ∙ late.1 in
    let refused : s.refused ≡ length frames - length events = omega (arith, e.counts.1, k.1) in
    let old : s.old ≡ length events - length (positions_in_time events pick.window) = omega (arith, sum, kept, e.counts.1, k.1) in (
      ap precincts_released all.0 ∙ released_is_reached (λ i. in_time events i pick.window && nat_lt i (base events pick.window)) sent whole,
      ap precincts_released all.1 ∙ released_is_reached (λ i. in_time events i pick.window) sent whole,
      counts_by s.kept s.old s.refused s.decoder.unsupported s.decoder.disagreed s.decoder.broken (length (positions_in_time events pick.window)) (length events - length (positions_in_time events pick.window)) (length frames - length events) 0 0 0 kept old refused
          (ap (λ (d : Decoder). d.unsupported) e.decoder ∙ last.1) (ap (λ (d : Decoder). d.disagreed) e.decoder ∙ last.2) (ap (λ (d : Decoder). d.broken) e.decoder ∙ last.3),
    )

-- the window's next number is the base's
window_by : (number : ℕ) (dg : ℕ → Datagram) (end window : ℕ) (events : List ℕ) (r : Receiver) → 1 ≤ length events → Known number dg end window events r → (r.window.base ≡ Some ((number + base events window) % 2 ^ 24)) × (r.window.due ≡ 0)
window_by number dg end window [] r some k = absurd (omega arith)
window_by number dg end window (x ∷ xs) r some (h, k) = (ap (λ (w : Window Datagram). w.base) h.window, ap (λ (w : Window Datagram). w.due) h.window)

-- so with a stream
pub window_is_at_base : WindowIsAtBase
window_is_at_base sent codestreams datagrams frames events pick c some a any =
    window_by c.number (at (flat_map datagrams_of sent)) (length datagrams) pick.window events (received pick frames) any (all_known sent codestreams datagrams frames events pick c some a).0

-- the front of what is handed on
front_handed : (there : ℕ → Bool) (dg : ℕ → Datagram) (k : ℕ) (ys : List Datagram) → ((j : ℕ) → j < length ys → dg (k + j) ≡ at ys j) → handed there k ys ≡ items there dg k (length ys)
front_handed there dg k [] h = refl
front_handed there dg k (x ∷ xs) h =
    let first : dg k ≡ x = ap dg (let e : k ≡ k + 0 = omega arith in e) ∙ h 0 (omega arith) in
    ap (λ y. (if there k then Some y else None) ∷ handed there (k + 1) xs) (sym first)
    ∙ ap (λ l. (if there k then Some (dg k) else None) ∷ l) (front_handed there dg (k + 1) xs (λ j low. ap dg (let e : k + 1 + j ≡ k + suc j = omega arith in e) ∙ h (suc j) (omega arith)))

-- by positions
front_items : (there : ℕ → Bool) (xs : List Datagram) (n : ℕ) → n ≤ length xs → handed there 0 (take n xs) ≡ items there (at xs) 0 n
front_items there xs n most =
    let size : length (take n xs) ≡ n = omega (arith, length-take n xs) in
    front_handed there (at xs) 0 (take n xs) (λ j low. ap (at xs) (let e : 0 + j ≡ j = omega arith in e) ∙ sym (get_or-take n xs j nowhere (omega (arith, low, size)))) ∙ ap (items there (at xs) 0) size

-- what was fed, by other words for the items
fed_as : (xs ys : List (Option Datagram)) (r : Receiver) → xs ≡ ys → r.releases ≡ (fed at_start xs).releases → r.decoder ≡ (fed at_start xs).decoder → HasFed ys r
fed_as xs ys r e p d = record { releases = p ∙ ap (λ l. (fed at_start l).releases) e; decoder = d ∙ ap (λ l. (fed at_start l).decoder) e }

-- each position below the base was handed on, and at the end each up to the highest arrival
handed_by : (number : ℕ) (xs : List Datagram) (window : ℕ) (events : List ℕ) (r : Receiver) → 1 ≤ window → length xs < 8388608 → 1 ≤ length events → Known number (at xs) (length xs) window events r
    → HasFed (handed (λ i. in_time events i window) 0 (take (base events window) xs)) r × HasFed (handed (λ i. in_time events i window) 0 (take (highest_arrival events + 1) xs)) (flushed r)
handed_by number xs window [] r some few any k = absurd (omega arith)
handed_by number xs window (x ∷ more) r some few any (h, k) =
    let events = x ∷ more in
    let t : ℕ → Bool = λ i. in_time events i window in
    let top = highest_arrival events + 1 in
    let e = flush_known number (at xs) (length xs) (base events window) t r h few in
    let above : (i : ℕ) → top ≤ i → t i ≡ false = λ i low. not_true (t i) (λ u. let m = in_time-le-highest events i window u in omega (arith, m, low)) in
    let most : e.q ≤ top = e.least top (base_most x more window some) above in
    let least : top ≤ e.q = elim (cases_lt (highest_arrival events) e.q) [
      | inl u ↦ omega arith
      | inr u ↦ let yes = highest_in_time x more window some in let late = e.none (highest_arrival events) u in absurd (cc)
    ] in
    let same : e.q ≡ top = omega arith in (
      fed_as (items t (at xs) 0 (base events window)) (handed t 0 (take (base events window) xs)) r (sym (front_items t xs (base events window) h.within)) h.releases h.decoder,
      fed_as (items t (at xs) 0 e.q) (handed t 0 (take top xs)) (flushed r) (ap (items t (at xs) 0) same ∙ sym (front_items t xs top (omega (arith, same, e.within)))) e.releases e.decoder,
    )

-- so the window hands on in order
pub hands_on_in_order : HandsOnInOrder
hands_on_in_order sent codestreams datagrams frames events pick c some a any =
    let xs = flat_map datagrams_of sent in
    let size : length datagrams ≡ length xs = sym (zip_length xs datagrams c.are_datagrams) in
    let K : ℕ → Type 0 = λ n. Known c.number (at xs) n pick.window events (received pick frames) in
    handed_by c.number xs pick.window events (received pick frames) some (omega (arith, size, c.few)) any (subst K size (all_known sent codestreams datagrams frames events pick c some a).0)
