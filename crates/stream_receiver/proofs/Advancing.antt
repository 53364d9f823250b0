-- What the window hands on.
use Rattle.std.proofs.Common.{◌≡◌, ◌<◌, ◌≤◌, ◌==◌, ℕ, Bool, true, false, not, List, [], ◌∷◌, filter, Option, Some, None, refl, sym, ◌∙◌, ap, subst, if◌then◌else◌}
use Rattle.std.specs.Prelude.{find, IsSome}
use Rattle.std.specs.List.{AllByRecursion}
use Rattle.wire_model.specs.Datagram.{Datagram, datagram_of}
use Rattle.std.proofs.lemmas.Bool.{eqb-true}
use Rattle.stream_model.specs.Arrivals.{is_of_kind}
use Rattle.stream_model.specs.Decoder.{take_gap}
use Rattle.stream_model.specs.Receiver.{decoded}
use Rattle.stream_model.specs.Window.{Window, Held, Next, Hand, Gap, Nothing, next, next_at, gap_length, moved}
use Rattle.stream_model.specs.WindowMaps.{window_as, next_as}
use Rattle.stream_model.specs.DrainLaws.{IsWindow, FallsAs, weight}
use Rattle.stream_model.proofs.Drains.{next_is_drained}
use Rattle.stream_model.proofs.WindowMaps.{window_of_frames}
use Rattle.stream_model.proofs.Thinned.{all-filter}
use Rattle.reassembly_window.specs.Answers.{handed, next_answer, after_next}
use Rattle.reassembly_window.specs.Windows.{WindowState}
use Rattle.reassembly_window.specs.declared.window.Slot.TheVariants as slots
use Rattle.resync_decoder.specs.States as decoder
use Rattle.stream_receiver.specs.States.{ReceiverState, Advances}
use Rattle.stream_receiver.specs.Views.{state_of, IsSound}
use Rattle.stream_receiver.specs.declared.receiver.Receiver.TheInside.{Inside}

-- what was handed on, by the answer
pub next_none : (b : ℕ) (s t : WindowState) (v : Next (List ℕ)) → None ≡ next_answer b v → t ≡ after_next s v → (v ≡ Nothing) × (t ≡ record s { shown = None })
next_none b s t (Hand x w) e f = absurd (cc)
next_none b s t (Gap n w) e f = absurd (cc)
next_none b s t Nothing e f = (refl, f)

pub next_gap : (b x y : ℕ) (s t : WindowState) (v : Next (List ℕ)) → Some (slots.Gap x y) ≡ next_answer b v → t ≡ after_next s v → (n : ℕ) × (w : Window (List ℕ)) × (v ≡ Gap n w) × (t ≡ record s { window = w; shown = None })
next_gap b x y s t (Hand k w) e f = absurd (cc)
next_gap b x y s t (Gap n w) e f = (n, w, refl, f)
next_gap b x y s t Nothing e f = absurd (cc)

pub next_held : (b x : ℕ) (s t : WindowState) (v : Next (List ℕ)) → Some (slots.Held x) ≡ next_answer b v → t ≡ after_next s v → (k : List ℕ) × (w : Window (List ℕ)) × (v ≡ Hand k w) × (t ≡ record s { window = w; shown = Some k })
next_held b x s t (Hand k w) e f = (k, w, refl, f)
next_held b x s t (Gap n w) e f = absurd (cc)
next_held b x s t Nothing e f = absurd (cc)

-- what holds of all that is held
abbrev KeepsItems : (List ℕ → Type 0) → Next (List ℕ) → Type 0
KeepsItems P (Hand x w) = P x × AllByRecursion (λ h. P h.item) w.held
KeepsItems P (Gap n w) = AllByRecursion (λ h. P h.item) w.held
KeepsItems P Nothing = Unit {0}

found_item : (P : List ℕ → Type 0) (base : ℕ) (held : List (Held (List ℕ))) (h : Held (List ℕ)) → AllByRecursion (λ h. P h.item) held → find (λ h. h.number == base) held ≡ Some h → P h.item
found_item P base [] h all e = absurd (cc)
found_item P base (k ∷ held) h all e = by (k.number == base) e (λ f. found_item P base held h all.1 f) where
  by : (b : Bool) → (if b then Some k else find (λ h. h.number == base) held) ≡ Some h → (find (λ h. h.number == base) held ≡ Some h → P h.item) → P h.item
  by true f ih = let same : k ≡ h = cc in (let Q : Held (List ℕ) → Type 0 = λ x. P x.item in subst Q same all.0)
  by false f ih = ih f

items_found : (P : List ℕ → Type 0) (base : ℕ) (w : Window (List ℕ)) (o : Option (Held (List ℕ))) → AllByRecursion (λ h. P h.item) w.held → find (λ h. h.number == base) w.held ≡ o → KeepsItems P (next_at base w o)
items_found P base w (Some h) all e = (found_item P base w.held h all e, all-filter (λ (h : Held (List ℕ)). P h.item) (λ x. not (x.number == base)) w.held all)
items_found P base w None all e = by (w.due == 0) where
  by : (b : Bool) → KeepsItems P (if b then Nothing else Gap (gap_length base w) (moved base (gap_length base w) w))
  by true = tt
  by false = all

items_by : (P : List ℕ → Type 0) (w : Window (List ℕ)) (o : Option ℕ) → AllByRecursion (λ h. P h.item) w.held → KeepsItems P (next w o)
items_by P w None all = tt
items_by P w (Some base) all = items_found P base w (find (λ h. h.number == base) w.held) all refl

-- what is handed on leaves a base
abbrev HasBase : Next (List ℕ) → Type 0
HasBase (Hand x w) = IsSome w.base
HasBase (Gap n w) = IsSome w.base
HasBase Nothing = Unit {0}

based_at : (base : ℕ) (w : Window (List ℕ)) (o : Option (Held (List ℕ))) → HasBase (next_at base w o)
based_at base w (Some h) = refl
based_at base w None = by (w.due == 0) where
  by : (b : Bool) → HasBase (if b then Nothing else Gap (gap_length base w) (moved base (gap_length base w) w))
  by true = tt
  by false = refl

based_by : (w : Window (List ℕ)) (o : Option ℕ) → HasBase (next w o)
based_by w None = tt
based_by w (Some base) = based_at base w (find (λ h. h.number == base) w.held)

nothing_at : (w : Window (List ℕ)) (o : Option ℕ) → o ≡ None → next w o ≡ Nothing
nothing_at w None e = refl
nothing_at w (Some base) e = absurd (cc)

there_is : (o : Option ℕ) → IsSome o → o ≡ None → ⊥
there_is o some e = absurd (cc)

-- where nothing is handed on nothing is due
undue_at : (base : ℕ) (w : Window (List ℕ)) → next w (Some base) ≡ Nothing → w.due ≡ 0
undue_at base w e = by (find (λ h. h.number == base) w.held) e where
  by_due : (b : Bool) → (w.due == 0) ≡ b → (if b then Nothing else Gap (gap_length base w) (moved base (gap_length base w) w)) ≡ Nothing → w.due ≡ 0
  by_due true t f = eqb-true w.due 0 t
  by_due false t f = absurd (cc)

  by : (o : Option (Held (List ℕ))) → next_at base w o ≡ Nothing → w.due ≡ 0
  by (Some h) f = absurd (cc)
  by None f = by_due (w.due == 0) refl f

undue_by : (w : Window (List ℕ)) (o : Option ℕ) → next w o ≡ Nothing → (o ≡ None → w.due ≡ 0) → w.due ≡ 0
undue_by w None e start = start refl
undue_by w (Some base) e start = undue_at base w e

-- the same of a receiver
items_next : (d : Inside) (v : Next (List ℕ)) → IsSound d → handed d.window ≡ v → KeepsItems (λ b. is_of_kind d.pick.kind b ≡ true) v
items_next d v sound e = let K : Next (List ℕ) → Type 0 = λ v. KeepsItems (λ b. is_of_kind d.pick.kind b ≡ true) v in subst K e (items_by (λ b. is_of_kind d.pick.kind b ≡ true) d.window.window d.window.window.base sound.items)

based_next : (d : Inside) (v : Next (List ℕ)) → handed d.window ≡ v → HasBase v
based_next d v e = let B : Next (List ℕ) → Type 0 = λ v. HasBase v in subst B e (based_by d.window.window d.window.window.base)

as_next : (d : Inside) (v : Next (List ℕ)) → handed d.window ≡ v → next (window_as datagram_of d.window.window) d.window.window.base ≡ next_as datagram_of v
as_next d v e = (window_of_frames d.window.window 0 0 [] d.window.window.base).2 ∙ ap (next_as datagram_of) e

falls_next : (d : Inside) (v : Next (List ℕ)) → IsSound d → handed d.window ≡ v → (n : ℕ) × FallsAs d.pick.window n (next_as datagram_of v)
falls_next d v sound e =
    let law = (next_is_drained d.pick.window (state_of d).rules sound.near).1 in
    (weight (window_as datagram_of d.window.window), (let F : Next Datagram → Type 0 = λ v. FallsAs d.pick.window (weight (window_as datagram_of d.window.window)) v in subst F (as_next d v e) law))

pub item_shown : (d : Inside) (k : List ℕ) (w : Window (List ℕ)) → IsSound d → handed d.window ≡ Hand k w → is_of_kind d.pick.kind k ≡ true
item_shown d k w sound e = (items_next d (Hand k w) sound e).0

pub sound_none : (d : Inside) (t : WindowState) → IsSound d → t ≡ record d.window { shown = None } → IsSound (record d { window = t })
sound_none d t sound f =
    let P : WindowState → Type 0 = λ t. IsSound (record d { window = t }) in
    subst P (sym f) (record { size = sound.size; some = sound.some; near = sound.near; items = sound.items; sourced = sound.sourced; undue = sound.undue; waits = sound.waits })

pub sound_gap : (d : Inside) (t : WindowState) (g : decoder.DecoderState) (n : ℕ) (w : Window (List ℕ)) → IsSound d → handed d.window ≡ Gap n w → t ≡ record d.window { window = w; shown = None } → g.waits ≡ true
    → IsSound (record d { window = t; decoder = g })
sound_gap d t g n w sound e f waits =
    let P : WindowState → Type 0 = λ t. IsSound (record d { window = t; decoder = g }) in
    subst P (sym f) (record {
      size = sound.size;
      some = sound.some;
      near = (falls_next d (Gap n w) sound e).1.1;
      items = items_next d (Gap n w) sound e;
      sourced = λ none. absurd (let z = nothing_at d.window.window d.window.window.base (sound.sourced none) in let f : Gap n w ≡ Nothing = sym e ∙ z in cc);
      undue = λ none. absurd (there_is w.base (based_next d (Gap n w) e) none);
      waits = λ _. waits;
    })

pub sound_held : (d : Inside) (t : WindowState) (g : decoder.DecoderState) (k : List ℕ) (w : Window (List ℕ)) → IsSound d → handed d.window ≡ Hand k w → t ≡ record d.window { window = w; shown = Some k }
    → IsSound (record d { window = t; decoder = g; settled = false })
sound_held d t g k w sound e f =
    let P : WindowState → Type 0 = λ t. IsSound (record d { window = t; decoder = g; settled = false }) in
    subst P (sym f) (record {
      size = sound.size;
      some = sound.some;
      near = (falls_next d (Hand k w) sound e).1.1;
      items = (items_next d (Hand k w) sound e).1;
      sourced = λ none. absurd (let z = nothing_at d.window.window d.window.window.base (sound.sourced none) in let f : Hand k w ≡ Nothing = sym e ∙ z in cc);
      undue = λ none. absurd (there_is w.base (based_next d (Hand k w) e) none);
      waits = λ i. absurd (cc);
    })

-- and what that says of the rules
advances_none : (d : Inside) (t : WindowState) (v : Next Datagram) → IsSound d → d.settled ≡ true → handed d.window ≡ Nothing → v ≡ Nothing → t ≡ record d.window { shown = None } → Advances v (state_of d) false (state_of (record d { window = t }))
advances_none d t v sound settled is e f =
    let P : Next Datagram → Type 0 = λ v. Advances v (state_of d) false (state_of (record d { window = t })) in
    let Q : WindowState → Type 0 = λ t. Advances Nothing (state_of d) false (state_of (record d { window = t })) in
    subst P (sym e) (subst Q (sym f) (refl, settled, undue_by d.window.window d.window.window.base is sound.undue))

pub none_advances : (d : Inside) (s : ReceiverState) (t : WindowState) → state_of d ≡ s → IsSound d → d.settled ≡ true → handed d.window ≡ Nothing → t ≡ record d.window { shown = None }
    → Advances (next s.rules.window s.rules.window.base) s false (state_of (record d { window = t }))
none_advances d s t view sound settled e f =
    let P : ReceiverState → Type 0 = λ s. Advances (next s.rules.window s.rules.window.base) s false (state_of (record d { window = t })) in
    subst P view (advances_none d t (next (window_as datagram_of d.window.window) d.window.window.base) sound settled e (as_next d Nothing e) f)

advances_gap : (d : Inside) (t : WindowState) (g : decoder.DecoderState) (n : ℕ) (w : Window (List ℕ)) (v : Next Datagram) → d.settled ≡ true → v ≡ Gap n (window_as datagram_of w) → t ≡ record d.window { window = w; shown = None } → g.rules ≡ take_gap d.decoder.rules
    → Advances v (state_of d) true (state_of (record d { window = t; decoder = g }))
advances_gap d t g n w v settled e f gap =
    let P : Next Datagram → Type 0 = λ v. Advances v (state_of d) true (state_of (record d { window = t; decoder = g })) in
    let Q : WindowState → Type 0 = λ t. Advances (Gap n (window_as datagram_of w)) (state_of d) true (state_of (record d { window = t; decoder = g })) in
    subst P (sym e) (subst Q (sym f) (ap (λ x. record (state_of d).rules { window = window_as datagram_of w; decoder = x }) gap, settled))

pub gap_advances : (d : Inside) (s : ReceiverState) (t : WindowState) (g : decoder.DecoderState) (n : ℕ) (w : Window (List ℕ)) → state_of d ≡ s → d.settled ≡ true → handed d.window ≡ Gap n w → t ≡ record d.window { window = w; shown = None }
    → g.rules ≡ take_gap d.decoder.rules → Advances (next s.rules.window s.rules.window.base) s true (state_of (record d { window = t; decoder = g }))
gap_advances d s t g n w view settled e f gap =
    let P : ReceiverState → Type 0 = λ s. Advances (next s.rules.window s.rules.window.base) s true (state_of (record d { window = t; decoder = g })) in
    subst P view (advances_gap d t g n w (next (window_as datagram_of d.window.window) d.window.window.base) settled (as_next d (Gap n w) e) f gap)

advances_held : (d : Inside) (t : WindowState) (g : decoder.DecoderState) (k : List ℕ) (w : Window (List ℕ)) (v : Next Datagram) → v ≡ Hand (datagram_of k) (window_as datagram_of w) → t ≡ record d.window { window = w; shown = Some k } → g.rules ≡ decoded d.decoder.rules (datagram_of k) (datagram_of k).payload
    → Advances v (state_of d) true (state_of (record d { window = t; decoder = g; settled = false }))
advances_held d t g k w v e f code =
    let P : Next Datagram → Type 0 = λ v. Advances v (state_of d) true (state_of (record d { window = t; decoder = g; settled = false })) in
    let Q : WindowState → Type 0 = λ t. Advances (Hand (datagram_of k) (window_as datagram_of w)) (state_of d) true (state_of (record d { window = t; decoder = g; settled = false })) in
    subst P (sym e) (subst Q (sym f) (ap (λ x. record (state_of d).rules { window = window_as datagram_of w; decoder = x }) code, refl))

pub held_advances : (d : Inside) (s : ReceiverState) (t : WindowState) (g : decoder.DecoderState) (k b : List ℕ) (w : Window (List ℕ)) → state_of d ≡ s → handed d.window ≡ Hand k w → t ≡ record d.window { window = w; shown = Some k } → k ≡ b
    → g.rules ≡ decoded d.decoder.rules (datagram_of b) (datagram_of b).payload → Advances (next s.rules.window s.rules.window.base) s true (state_of (record d { window = t; decoder = g; settled = false }))
held_advances d s t g k b w view e f same code =
    let P : ReceiverState → Type 0 = λ s. Advances (next s.rules.window s.rules.window.base) s true (state_of (record d { window = t; decoder = g; settled = false })) in
    let D : List ℕ → Type 0 = λ b. g.rules ≡ decoded d.decoder.rules (datagram_of b) (datagram_of b).payload in
    subst P view (advances_held d t g k w (next (window_as datagram_of d.window.window) d.window.window.base) (as_next d (Hand k w) e) f (subst D (sym same) code))
