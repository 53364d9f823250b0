-- Frames of which those that are picked are datagrams of a stream: what the receiver knows after them, and at the end.
use Rattle.std.proofs.Common.{◌≡◌, ◌⊎◌, ◌<◌, ◌≤◌, ◌+◌, ◌-◌, ◌*◌, ◌==◌, ◌&&◌, ◌||◌, ℕ, zero, suc, max, Bool, true, false, cond, List, [], ◌∷◌, ◌++◌, map, length, Option, Some, None, subst, refl, sym, ◌∙◌, ap, inl, inr, arith, append_assoc, if◌then◌else◌}
use Rattle.std.specs.Prelude.{slice_index}
use Rattle.std.specs.List.{AllByRecursion, filter, fold, range_with_len}
use Rattle.std.proofs.lemmas.Bool.{cases_lt}
use Rattle.std.proofs.lemmas.Bool.Decides.{eqb_tells}
use Rattle.std.proofs.lemmas.List.{append-nil}
use Rattle.wire_model.specs.Datagram.{Datagram, IsDatagram, datagram_of}
use Rattle.wire_model.proofs.DatagramLaws.{datagram_is_computed}
use Rattle.wire_model.proofs.RtpLaws.{rtp_is_read_one_way}
use Rattle.wire_model.proofs.PayloadLaws.{payload_is_read_one_way}
use Rattle.codestream_model.proofs.TreeLemmas.{either, same_number, equal_number}
use Rattle.stream_model.specs.Arrivals.{is_of_kind, source_of, datagram_at, in_time, base, positions_in_time, highest_arrival}
use Rattle.stream_model.specs.Stream.{extended_number}
use Rattle.stream_model.specs.Decoder.{at_start, Settled}
use Rattle.stream_model.specs.Window.{Kept, empty, offer, hold, make_all_due, ahead, Nothing, next}
use Rattle.stream_model.specs.Receiver.{Pick, Receiver, drained, drain, keep, offered, is_source, take_datagram, take_frame, take_frames, flushed}
use Rattle.stream_model.specs.RunLaws.{fed}
use Rattle.stream_model.proofs.DueGrows.{none_left}
use Rattle.stream_model.proofs.WindowSteps.{num, held_at, mem, window_at, ahead_is}
use Rattle.stream_model.proofs.WindowDrains.{items, mem_all}
use Rattle.stream_model.proofs.ArrivalSteps.{not_arrived, alone, base_is, one_more, none_of}
use Rattle.stream_model.proofs.ReceiverSteps.{Holding, holding_as, HasCounts, keep_holding, due_holding, Stepped, step_on}

-- gaps give nothing, and leave the decoder at its start
gaps_nothing : (there : ℕ → Bool) (dg : ℕ → Datagram) (p n : ℕ) → ((i : ℕ) → there i ≡ false) → fed at_start (items there dg p n) ≡ record { releases = []; decoder = at_start }
gaps_nothing there dg p zero none = refl
gaps_nothing there dg p (suc n) none = ap (λ b. fed at_start ((if b then Some (dg p) else None) ∷ items there dg (p + 1) n)) (none p) ∙ gaps_nothing there dg (p + 1) n none

-- the first arrival
step_first : (number : ℕ) (dg : ℕ → Datagram) (end window a : ℕ) (r : Receiver) → r.window ≡ empty → r.decoder ≡ at_start → r.releases ≡ [] → r.kept ≡ 0 → 1 ≤ window → end < 8388608 → a < end → extended_number (dg a) ≡ num number a
    → Stepped number dg end window (a ∷ []) r (offered r (dg a) (offer window (extended_number (dg a)) r.window r.window.base))
step_first number dg end window a r w d p k some few inside is_number =
    let n = extended_number (dg a) in
    let asked : offer window n r.window r.window.base ≡ Kept = ap (λ v. offer window n v v.base) w in
    let was : ℕ → Bool = λ i. false in
    let now : ℕ → Bool = λ i. in_time (a ∷ []) i window in
    let other : Receiver = record r { window = window_at number dg a 0 [] } in
    let gaps = gaps_nothing was dg 0 a (λ i. refl) in
    let h : Holding number dg end a was other = record {
      hs = [];
      window = refl;
      all = tt;
      within = omega arith;
      same = λ i low. refl;
      decoder = d ∙ sym (ap (λ (s : Settled). s.decoder) gaps);
      releases = p ∙ sym (ap (λ (s : Settled). s.releases) gaps);
    } in
    let elsewhere : (i : ℕ) → (a ≡ i → ⊥) → now i ≡ was i = λ i m. not_arrived (a ∷ []) i window (let e : (a == i) ≡ false = elim (eqb_tells a i) [ inl t ↦ absurd (m t.1) | inr t ↦ t.0 ] in rw e refl) in
    let t = keep_holding number dg end a a was now other h few inside (omega arith) is_number (alone a window) elsewhere in
    let same : hold r.window n (dg a) ≡ hold other.window n (dg a) = ap (λ v. hold v n (dg a)) w ∙ ap (λ m. record { base = Some m; due = 0; held = record { number = n; item = dg a } ∷ [] }) is_number in
    let kept : keep r (dg a) ≡ keep other (dg a) = ap (λ v. drain (record r { window = v; kept = r.kept + 1 })) same in
    let b : base (a ∷ []) window ≡ t.0 = base_is (a ∷ []) window t.0 (omega (arith, t.1, some)) t.2 (λ i l m. t.3 i (omega arith) m) in
    let held = holding_as number dg end t.0 (base (a ∷ []) window) now now (keep other (dg a)) (keep other (dg a)) (sym b) (λ i. refl) refl refl refl t.4 in
    let top = highest_arrival (a ∷ []) + 1 in
    let none = none_left was (range_with_len 0 top) (none_of was 0 top (λ i l. refl)) in
    let count : length (positions_in_time (a ∷ []) window) ≡ 1 = one_more was now a top (omega arith) refl (alone a window) elsewhere ∙ ap (λ l. length l + 1) none in
    let S : Receiver → Type 0 = λ s. Stepped number dg end window (a ∷ []) r s in
    subst S (sym (ap (offered r (dg a)) asked ∙ kept)) (held, (t.5.0 ∙ (ap (λ m. m + 1) k ∙ sym count), t.5.1, t.5.2))

-- what is known after arrivals
abbrev pub Known : ℕ → (ℕ → Datagram) → ℕ → ℕ → List ℕ → Receiver → Type 0
Known number dg end window [] r = (r.window ≡ empty) × (r.decoder ≡ at_start) × (r.releases ≡ []) × (r.kept ≡ 0)
Known number dg end window (x ∷ xs) r = Holding number dg end (base (x ∷ xs) window) (λ i. in_time (x ∷ xs) i window) r × (r.kept ≡ length (positions_in_time (x ∷ xs) window))

-- what is known goes by the window, the decoder, the precincts and the count
known_as : (number : ℕ) (dg : ℕ → Datagram) (end window : ℕ) (events : List ℕ) (r s : Receiver) → s.window ≡ r.window → s.decoder ≡ r.decoder → s.releases ≡ r.releases → s.kept ≡ r.kept → Known number dg end window events r → Known number dg end window events s
known_as number dg end window [] r s w d p k t = (w ∙ t.0, d ∙ t.1, p ∙ t.2, k ∙ t.3)
known_as number dg end window (x ∷ xs) r s w d p k t =
    (holding_as number dg end (base (x ∷ xs) window) (base (x ∷ xs) window) (λ i. in_time (x ∷ xs) i window) (λ i. in_time (x ∷ xs) i window) r s refl (λ i. refl) w d p t.0, k ∙ t.1)

-- one arrival more
arrival : (number : ℕ) (dg : ℕ → Datagram) (end window : ℕ) (events : List ℕ) (a : ℕ) (r : Receiver) → Known number dg end window events r → 1 ≤ window → end < 8388608 → a < end → extended_number (dg a) ≡ num number a
    → Known number dg end window (events ++ a ∷ []) (offered r (dg a) (offer window (extended_number (dg a)) r.window r.window.base))
    × ((offered r (dg a) (offer window (extended_number (dg a)) r.window r.window.base)).refused ≡ r.refused)
    × ((offered r (dg a) (offer window (extended_number (dg a)) r.window r.window.base)).source ≡ r.source)
arrival number dg end window [] a r t some few inside is_number = let s = step_first number dg end window a r t.0 t.1 t.2 t.3 some few inside is_number in ((s.0, s.1.0), s.1.1, s.1.2)
arrival number dg end window (x ∷ xs) a r t some few inside is_number = let s = step_on number dg end window x xs a r t.0 some few inside is_number t.1 in ((s.0, s.1.0), s.1.1, s.1.2)

-- the datagrams of a stream by their positions
pub record IsStreamAt (number : ℕ) (dg : ℕ → Datagram) (datagrams : List (List ℕ)) : Type 0 where
  pub are : (i : ℕ) → i < length datagrams → IsDatagram (dg i) (datagram_at datagrams i)
  pub numbers : (i : ℕ) → i < length datagrams → extended_number (dg i) ≡ num number i
  pub few : length datagrams < 8388608

-- the source is picked already, or it is that of the first frame of the payload type that follows
abbrev pub SourceIs : Pick → ℕ → List (List ℕ) → Option ℕ → Type 0
SourceIs pick src frames source = (source ≡ Some src) ⊎ ((source ≡ None) × (src ≡ slice_index (map source_of (filter (is_of_kind pick.kind) frames)) 0))

-- a frame that is picked
abbrev pub is_picked : Pick → ℕ → List ℕ → Bool
is_picked pick src frame = is_of_kind pick.kind frame && (source_of frame == src)

-- equality one way is equality the other way
same_test : (a b : ℕ) → (a == b) ≡ (b == a)
same_test a b = elim (eqb_tells a b) [
  | inl t ↦ let e : b ≡ a = sym t.1 in t.0 ∙ sym (let f = same_number a in ap (λ k. k == a) e ∙ f)
  | inr t ↦ elim (eqb_tells b a) [ inl u ↦ absurd (t.1 (sym u.1)) | inr u ↦ t.0 ∙ sym u.0 ]
]

-- a frame of another payload type, or malformed,
pub other_kind : (pick : Pick) (r : Receiver) (f : List ℕ) → is_of_kind pick.kind f ≡ false → take_frame pick r f ≡ record r { refused = r.refused + 1 }
other_kind pick r f e = ap (λ (b : Bool). if b then take_datagram pick r (datagram_of f) else record r { refused = r.refused + 1 }) e

-- one of the payload type
pub of_kind : (pick : Pick) (r : Receiver) (f : List ℕ) → is_of_kind pick.kind f ≡ true → take_frame pick r f ≡ take_datagram pick r (datagram_of f)
of_kind pick r f e = ap (λ (b : Bool). if b then take_datagram pick r (datagram_of f) else record r { refused = r.refused + 1 }) e

-- is of the source that is picked,
pub right_source : (pick : Pick) (src : ℕ) (f : List ℕ) (rest : List (List ℕ)) (source : Option ℕ) → SourceIs pick src (f ∷ rest) source → (source_of f == src) ≡ true → is_source source (source_of f) ≡ true
right_source pick src f rest source (inl e) t = ap (λ o. is_source o (source_of f)) e ∙ (same_test src (source_of f) ∙ t)
right_source pick src f rest source (inr (e, g)) t = ap (λ o. is_source o (source_of f)) e

-- or of another
pub wrong_source : (pick : Pick) (src : ℕ) (f : List ℕ) (rest : List (List ℕ)) (source : Option ℕ) → SourceIs pick src (f ∷ rest) source → is_of_kind pick.kind f ≡ true → (source_of f == src) ≡ false → (is_source source (source_of f) ≡ false) × (source ≡ Some src)
wrong_source pick src f rest source (inl e) k t = (ap (λ o. is_source o (source_of f)) e ∙ (same_test src (source_of f) ∙ t), e)
wrong_source pick src f rest source (inr (e, g)) k t =
    let s : src ≡ source_of f = g ∙ ap (λ b. slice_index (map source_of (cond b (f ∷ filter (is_of_kind pick.kind) rest) (filter (is_of_kind pick.kind) rest))) 0) k in
    let u : (source_of f == src) ≡ true = ap (λ z. source_of f == z) s ∙ same_number (source_of f) in
    absurd (cc)

-- a source that isn't picked yet isn't by a frame of another payload type
pub source_stays : (pick : Pick) (src : ℕ) (f : List ℕ) (rest : List (List ℕ)) (source : Option ℕ) → SourceIs pick src (f ∷ rest) source → is_of_kind pick.kind f ≡ false → SourceIs pick src rest source
source_stays pick src f rest source (inl e) k = inl e
source_stays pick src f rest source (inr (e, g)) k =
    inr (e, g ∙ ap (λ b. slice_index (map source_of (cond b (f ∷ filter (is_of_kind pick.kind) rest) (filter (is_of_kind pick.kind) rest))) 0) k)

-- the first of some positions
first_event : (datagrams : List (List ℕ)) (f : List ℕ) (more : List (List ℕ)) (events : List ℕ) → f ∷ more ≡ map (datagram_at datagrams) events → (a : ℕ) × (rest : List ℕ) × (events ≡ a ∷ rest) × (f ≡ datagram_at datagrams a) × (more ≡ map (datagram_at datagrams) rest)
first_event datagrams f more [] e = absurd (cc)
first_event datagrams f more (a ∷ rest) e = (a, rest, refl, cc, cc)

-- what is left of the picked frames
picked_no : (pick : Pick) (src : ℕ) (f : List ℕ) (frames others : List (List ℕ)) → is_picked pick src f ≡ false → filter (is_picked pick src) (f ∷ frames) ≡ others → filter (is_picked pick src) frames ≡ others
picked_no pick src f frames others isnt e = sym (ap (λ b. cond b (f ∷ filter (is_picked pick src) frames) (filter (is_picked pick src) frames)) isnt) ∙ e

-- a picked one is the first of them
picked_yes : (pick : Pick) (src : ℕ) (f : List ℕ) (frames others : List (List ℕ)) → is_picked pick src f ≡ true → filter (is_picked pick src) (f ∷ frames) ≡ others → f ∷ filter (is_picked pick src) frames ≡ others
picked_yes pick src f frames others is e = sym (ap (λ b. cond b (f ∷ filter (is_picked pick src) frames) (filter (is_picked pick src) frames)) is) ∙ e

-- a frame that isn't picked is refused, and one that is picked is an arrival
abbrev OneFrame : ℕ → (ℕ → Datagram) → List (List ℕ) → Pick → ℕ → List ℕ → List (List ℕ) → List ℕ → List ℕ → Receiver → Type 0
OneFrame number dg datagrams pick src f frames before events r =
    ((take_frame pick r f ≡ record r { refused = r.refused + 1 }) × SourceIs pick src frames r.source × (filter (is_picked pick src) frames ≡ map (datagram_at datagrams) events))
    ⊎ ((a : ℕ) × (rest : List ℕ) × (events ≡ a ∷ rest) × Known number dg (length datagrams) pick.window (before ++ a ∷ []) (take_frame pick r f)
    × ((take_frame pick r f).refused ≡ r.refused) × SourceIs pick src frames (take_frame pick r f).source × (filter (is_picked pick src) frames ≡ map (datagram_at datagrams) rest))

-- a picked one
picked_frame : (number : ℕ) (dg : ℕ → Datagram) (datagrams : List (List ℕ)) (s : IsStreamAt number dg datagrams) (pick : Pick) (src : ℕ) (f : List ℕ) (frames : List (List ℕ)) (before events : List ℕ) (r : Receiver) → 1 ≤ pick.window
    → Known number dg (length datagrams) pick.window before r → SourceIs pick src (f ∷ frames) r.source → filter (is_picked pick src) (f ∷ frames) ≡ map (datagram_at datagrams) events → AllByRecursion (λ i. i < length datagrams) events
    → is_of_kind pick.kind f ≡ true → (source_of f == src) ≡ true → OneFrame number dg datagrams pick src f frames before events r
picked_frame number dg datagrams s pick src f frames before events r some known source e within k t =
    let yes : is_picked pick src f ≡ true = rw (k, t) refl in
    let first = first_event datagrams f (filter (is_picked pick src) frames) events (picked_yes pick src f frames (map (datagram_at datagrams) events) yes e) in
    let a = first.0 in
    let W : List ℕ → Type 0 = λ l. AllByRecursion (λ i. i < length datagrams) l in
    let inside : a < length datagrams = (subst W first.2 within).0 in
    let D : List ℕ → Type 0 = λ b. IsDatagram (dg a) b in
    let is : IsDatagram (dg a) f = subst D (sym first.3) (s.are a inside) in
    let same : datagram_of f ≡ dg a = sym (datagram_is_computed rtp_is_read_one_way payload_is_read_one_way (dg a) f is).1 in
    let x = datagram_of f in
    let from : Receiver = record r { source = Some x.rtp.source } in
    let ok : is_source r.source x.rtp.source ≡ true = right_source pick src f frames r.source source t in
    let taken : take_frame pick r f ≡ offered from x (offer pick.window (extended_number x) from.window from.window.base) =
    of_kind pick r f k ∙ ap (λ (b : Bool). if b then offered from x (offer pick.window (extended_number x) r.window r.window.base) else record r { refused = r.refused + 1 }) ok in
    let all : take_frame pick r f ≡ offered from (dg a) (offer pick.window (extended_number (dg a)) from.window from.window.base) =
    taken ∙ ap (λ y. offered from y (offer pick.window (extended_number y) from.window from.window.base)) same in
    let n = arrival number dg (length datagrams) pick.window before a from (known_as number dg (length datagrams) pick.window before r from refl refl refl refl known) some s.few inside (s.numbers a inside) in
    let K : Receiver → Type 0 = λ q. Known number dg (length datagrams) pick.window (before ++ a ∷ []) q in
    let now : (take_frame pick r f).source ≡ Some src = ap (λ (q : Receiver). q.source) all ∙ (n.2 ∙ ap Some (equal_number x.rtp.source src t)) in
    inr (a, first.1, first.2, subst K (sym all) n.0, ap (λ (q : Receiver). q.refused) all ∙ n.1, inl now, first.4)

-- any frame
one_frame : (number : ℕ) (dg : ℕ → Datagram) (datagrams : List (List ℕ)) (s : IsStreamAt number dg datagrams) (pick : Pick) (src : ℕ) (f : List ℕ) (frames : List (List ℕ)) (before events : List ℕ) (r : Receiver) → 1 ≤ pick.window
    → Known number dg (length datagrams) pick.window before r → SourceIs pick src (f ∷ frames) r.source → filter (is_picked pick src) (f ∷ frames) ≡ map (datagram_at datagrams) events → AllByRecursion (λ i. i < length datagrams) events
    → OneFrame number dg datagrams pick src f frames before events r
one_frame number dg datagrams s pick src f frames before events r some known source e within = elim (either (is_of_kind pick.kind f)) [
  | inr k ↦
      let no : is_picked pick src f ≡ false = ap (λ b. b && (source_of f == src)) k in
      inl (other_kind pick r f k, source_stays pick src f frames r.source source k, picked_no pick src f frames (map (datagram_at datagrams) events) no e)
  | inl k ↦ elim (either (source_of f == src)) [
    | inl t ↦ picked_frame number dg datagrams s pick src f frames before events r some known source e within k t
    | inr t ↦
        let no : is_picked pick src f ≡ false = rw (k, t) refl in
        let w = wrong_source pick src f frames r.source source k t in
        let x = datagram_of f in
        let refused : take_datagram pick r x ≡ record r { refused = r.refused + 1 } =
        ap (λ (b : Bool). if b then offered (record r { source = Some x.rtp.source }) x (offer pick.window (extended_number x) r.window r.window.base) else record r { refused = r.refused + 1 }) w.0 in
        inl (of_kind pick r f k ∙ refused, inl w.1, picked_no pick src f frames (map (datagram_at datagrams) events) no e)
  ]
]

-- frames
pub frames_known : (number : ℕ) (dg : ℕ → Datagram) (datagrams : List (List ℕ)) (s : IsStreamAt number dg datagrams) (pick : Pick) (src : ℕ) (frames : List (List ℕ)) (before events : List ℕ) (r : Receiver) → 1 ≤ pick.window
    → Known number dg (length datagrams) pick.window before r → SourceIs pick src frames r.source → filter (is_picked pick src) frames ≡ map (datagram_at datagrams) events → AllByRecursion (λ i. i < length datagrams) events
    → Known number dg (length datagrams) pick.window (before ++ events) (take_frames pick r frames) × ((take_frames pick r frames).refused + length events ≡ r.refused + length frames)
unfolding take_frames
frames_known number dg datagrams s pick src [] before [] r some known source e within =
    let P : List ℕ → Type 0 = λ l. Known number dg (length datagrams) pick.window l r in (subst P (sym (append-nil before)) known, refl)
frames_known number dg datagrams s pick src [] before (a ∷ events) r some known source e within = absurd (cc)
frames_known number dg datagrams s pick src (f ∷ frames) before events r some known source e within =
    elim (one_frame number dg datagrams s pick src f frames before events r some known source e within) [
      | inl (is, source_then, rest) ↦
          let next = record r { refused = r.refused + 1 } in
          let n = frames_known number dg datagrams s pick src frames before events next some (known_as number dg (length datagrams) pick.window before r next refl refl refl refl known) source_then rest within in
          let R : Receiver → Type 0 = λ q. Known number dg (length datagrams) pick.window (before ++ events) (take_frames pick q frames) × ((take_frames pick q frames).refused + length events ≡ r.refused + suc (length frames)) in
          subst R (sym is) (n.0, omega (arith, n.1))
      | inr (a, others, is, known_then, refused, source_then, rest) ↦
          let W : List ℕ → Type 0 = λ l. AllByRecursion (λ i. i < length datagrams) l in
          let n = frames_known number dg datagrams s pick src frames (before ++ a ∷ []) others (take_frame pick r f) some known_then source_then rest (subst W is within).1 in
          let K : List ℕ → Type 0 = λ l. Known number dg (length datagrams) pick.window l (take_frames pick (take_frame pick r f) frames) in
          (subst K (append_assoc before (a ∷ []) others ∙ ap (λ l. before ++ l) (sym is)) n.0, omega (arith, n.1, refused, ap length is))
    ]

-- what is due at the end
abbrev due_at : ℕ → List ℕ → ℕ
due_at b hs = fold max 0 (map (λ i. i - b + 1) hs)

-- is reckoned from the numbers
dues_are : (number : ℕ) (dg : ℕ → Datagram) (b m end : ℕ) (hs : List ℕ) → AllByRecursion (λ i. (b ≤ i) × (i < end)) hs → end < 8388608
    → fold max m (map (λ h. ahead (num number b) h.number + 1) (map (held_at number dg) hs)) ≡ fold max m (map (λ i. i - b + 1) hs)
dues_are number dg b m end [] all few = refl
dues_are number dg b m end (i ∷ hs) all few =
    ap (λ a. fold max (max m (a + 1)) (map (λ h. ahead (num number b) h.number + 1) (map (held_at number dg) hs))) (ahead_is number b i all.0.0 (omega (arith, all.0.1, few)))
    ∙ dues_are number dg b (max m (i - b + 1)) end hs all.1 few

-- it stays below the end
due_most : (b m end : ℕ) (hs : List ℕ) → AllByRecursion (λ i. (b ≤ i) × (i < end)) hs → b + m ≤ end → b + fold max m (map (λ i. i - b + 1) hs) ≤ end
due_most b m end [] all within = within
due_most b m end (i ∷ hs) all within = due_most b (max m (i - b + 1)) end hs all.1 (omega (arith, all.0.0, all.0.1, within))

-- a maximum is no less than where it began
max_least : (b m : ℕ) (hs : List ℕ) → m ≤ fold max m (map (λ i. i - b + 1) hs)
max_least b m [] = omega arith
max_least b m (i ∷ hs) = let h = max_least b (max m (i - b + 1)) hs in omega (arith, h)

-- all that is held is due
due_reaches : (b m i : ℕ) (hs : List ℕ) → mem hs i ≡ true → i - b + 1 ≤ fold max m (map (λ j. j - b + 1) hs)
due_reaches b m i [] t = absurd (cc)
due_reaches b m i (j ∷ hs) t = elim (eqb_tells j i) [
  | inl e ↦ let h = max_least b (max m (j - b + 1)) hs in omega (arith, h, e.1)
  | inr e ↦ due_reaches b (max m (j - b + 1)) i hs (let f : (false || mem hs i) ≡ true = rw e.0 at t in f)
]

-- the second of two holds
either_holds : (a c : Bool) → c ≡ true → (a || c) ≡ true
either_holds true c e = refl
either_holds false c e = e

-- what is due is nothing, or reaches up to one that is held
due_is : (b m : ℕ) (hs : List ℕ) → (fold max m (map (λ j. j - b + 1) hs) ≡ m) ⊎ ((i : ℕ) × (mem hs i ≡ true) × (i - b + 1 ≡ fold max m (map (λ j. j - b + 1) hs)))
due_is b m [] = inl refl
due_is b m (j ∷ hs) = elim (due_is b (max m (j - b + 1)) hs) [
  | inr (i, t, e) ↦ inr (i, either_holds (j == i) (mem hs i) t, e)
  | inl e ↦ elim (cases_lt m (j - b + 1)) [
    | inl less ↦ let s = same_number j in inr (j, rw s refl, omega (arith, e, less))
    | inr most ↦ inl (omega (arith, e, most))
  ]
]

-- what is known at the end: the decoder was fed all positions up to one after which nothing is there
pub record AtEnd (dg : ℕ → Datagram) (end b : ℕ) (there : ℕ → Bool) (r s : Receiver) : Type 0 where
  pub q : ℕ
  pub within : q ≤ end
  pub none : (i : ℕ) → q ≤ i → there i ≡ false
  pub least : (top : ℕ) → b ≤ top → ((i : ℕ) → top ≤ i → there i ≡ false) → q ≤ top
  pub decoder : s.decoder ≡ (fed at_start (items there dg 0 q)).decoder
  pub releases : s.releases ≡ (fed at_start (items there dg 0 q)).releases
  pub counts : HasCounts r.kept r s

-- the flush
pub flush_known : (number : ℕ) (dg : ℕ → Datagram) (end b : ℕ) (there : ℕ → Bool) (r : Receiver) → Holding number dg end b there r → end < 8388608 → AtEnd dg end b there r (flushed r)
flush_known number dg end b there r h few =
    let u = due_at b h.hs in
    let s = record r { window = make_all_due r.window r.window.base } in
    let due : s.window ≡ window_at number dg b u h.hs = ap (λ w. make_all_due w w.base) h.window ∙ ap (λ n. window_at number dg b n h.hs) (dues_are number dg b 0 end h.hs h.all few) in
    let d = due_holding number dg end b u there r s h few (due_most b 0 end h.hs h.all (omega (arith, h.within))) due refl refl in
    record {
      q = d.0;
      within = d.4.within;
      none = λ i low. elim (either (there i)) [
        | inr t ↦ t
        | inl t ↦ absurd (let m = due_reaches b 0 i h.hs (h.same i (omega (arith, d.1, low)) ∙ t) in omega (arith, m, d.1, low))
      ];
      least = λ top low free. elim (cases_lt top d.0) [
        | inr t ↦ t
        | inl t ↦ elim (cases_lt top (b + u)) [
          | inr above ↦ let yes : there top ≡ true = d.3 top above t in let no : there top ≡ false = free top (omega arith) in absurd (cc)
          | inl inside ↦ elim (due_is b 0 h.hs) [
            | inl z ↦ absurd (omega (arith, z, low, inside))
            | inr (i, m, e) ↦
                let at_least = mem_all (λ j. (b ≤ j) × (j < end)) h.hs i h.all m in
                let yes : there i ≡ true = sym (h.same i at_least.0) ∙ m in
                let no : there i ≡ false = free i (omega (arith, e, inside, at_least.0)) in
                absurd (cc)
          ]
        ]
      ];
      decoder = d.4.decoder;
      releases = d.4.releases;
      counts = d.5;
    }

-- before anything arrived the flush changes nothing
drained_nothing : (m : ℕ) (r : Receiver) → next r.window r.window.base ≡ Nothing → drained m r ≡ r
unfolding drained
drained_nothing zero r e = refl
drained_nothing (suc m) r e = rw (e, drained) refl

-- so the receiver stays as it is
pub drained_empty : (r : Receiver) → r.window ≡ empty → flushed r ≡ r
drained_empty r w =
    let due : make_all_due r.window r.window.base ≡ empty = ap (λ v. make_all_due v v.base) w in
    let s = record r { window = make_all_due r.window r.window.base } in
    drained_nothing (2 * length s.window.held + 1) s (ap (λ v. next v v.base) due) ∙ ap (λ v. record r { window = v }) (due ∙ sym w)
