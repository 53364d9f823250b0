-- What the window hands on next says what is drained, and at the end it has nothing.
use Rattle.std.proofs.Common.{◌≡◌, ◌≢◌, ◌⊎◌, ◌<◌, ◌≤◌, ◌+◌, ◌-◌, ◌*◌, ◌%◌, ◌^◌, ◌==◌, ◌||◌, ◌&&◌, ℕ, zero, suc, min, Bool, true, false, not, nat_lt, nat_le, List, [], ◌∷◌, map, filter, length, Option, Some, None, subst, refl, sym, ◌∙◌, ap, inl, inr, arith, if◌then◌else◌}
use Rattle.std.specs.Prelude.{find}
use Rattle.std.specs.List.{AllByRecursion, fold}
use Rattle.std.proofs.lemmas.Bool.{cases_lt, eq-eqb, lt-leb, leb-true, leb-false}
use Rattle.std.proofs.lemmas.Bool.Decides.{eqb_tells}
use Rattle.wire_model.specs.Datagram.{Datagram, datagram_of, is_well_formed}
use Rattle.codestream_model.proofs.TreeLemmas.{either, equal_number}
use Rattle.stream_model.specs.Decoder.{take_gap}
use Rattle.stream_model.specs.Window.{Window, Held, ahead, is_held, insert, offer, Offer, Behind, Again, Drain, Kept, base_with, make_due, gap_length, moved, Next, Hand, Gap, Nothing, next_at, next}
use Rattle.stream_model.specs.Stream.{extended_number}
use Rattle.stream_model.specs.Receiver.{Pick, Receiver, decoded, followed, drained, drain, keep, is_source}
use Rattle.stream_model.specs.DrainLaws.{IsNear, IsWindow, pending, weight, FallsAs, DrainsAs, NextIsDrained, DrainedHasNothing, DrainedIsInReach, KeptIsNear, is_picked, offer_of, TakesAsOffered, DrainedTakesFrame}
use Rattle.stream_model.proofs.WindowDrains.{drained_hand, drained_gap, drained_none}

-- what isn't found isn't held
not_found : (base : ℕ) (held : List (Held Datagram)) → find (λ h. h.number == base) held ≡ None → is_held base held ≡ false
not_found base [] e = refl
not_found base (k ∷ held) e = by (k.number == base) e (λ f. not_found base held f) where
  by : (b : Bool) → (if b then Some k else find (λ h. h.number == base) held) ≡ None → (find (λ h. h.number == base) held ≡ None → is_held base held ≡ false) → (b || is_held base held) ≡ false
  by true f ih = absurd (cc)
  by false f ih = ih f

-- the others are no more
few_left : (base : ℕ) (held : List (Held Datagram)) → length (filter (λ x. not (x.number == base)) held) ≤ length held
few_left base [] = omega arith
few_left base (k ∷ held) = by (k.number == base) (few_left base held) where
  by : (b : Bool) → length (filter (λ x. not (x.number == base)) held) ≤ length held → length (if not b then k ∷ filter (λ x. not (x.number == base)) held else filter (λ x. not (x.number == base)) held) ≤ suc (length held)
  by true h = omega arith
  by false h = omega arith

-- and fewer where one is found
fewer_left : (base : ℕ) (held : List (Held Datagram)) (h : Held Datagram) → find (λ h. h.number == base) held ≡ Some h → length (filter (λ x. not (x.number == base)) held) + 1 ≤ length held
fewer_left base [] h e = absurd (cc)
fewer_left base (k ∷ held) h e = by (k.number == base) e (few_left base held) (λ f. fewer_left base held h f) where
  by : (b : Bool) → (if b then Some k else find (λ h. h.number == base) held) ≡ Some h → length (filter (λ x. not (x.number == base)) held) ≤ length held
      → (find (λ h. h.number == base) held ≡ Some h → length (filter (λ x. not (x.number == base)) held) + 1 ≤ length held)
      → length (if not b then k ∷ filter (λ x. not (x.number == base)) held else filter (λ x. not (x.number == base)) held) + 1 ≤ suc (length held)
  by true f few ih = omega (arith, few)
  by false f few ih = let g = ih f in omega (arith, g)

-- one place on
near_after : (size base n : ℕ) → base < 2 ^ 24 → n < 2 ^ 24 → ahead base n < size → n ≢ base → ahead ((base + 1) % 2 ^ 24) n < size
near_after size base n low few near apart = omega arith

-- so all others are near then
all_after : (size base : ℕ) (held : List (Held Datagram)) → base < 2 ^ 24 → AllByRecursion (IsNear size base) held → AllByRecursion (IsNear size ((base + 1) % 2 ^ 24)) (filter (λ x. not (x.number == base)) held)
all_after size base [] low all = tt
all_after size base (k ∷ held) low all = elim (eqb_tells k.number base) [
  | inl t ↦ let P : Bool → Type 0 = λ b. AllByRecursion (IsNear size ((base + 1) % 2 ^ 24)) (if not b then k ∷ filter (λ x. not (x.number == base)) held else filter (λ x. not (x.number == base)) held) in
      subst P (sym t.0) (all_after size base held low all.1)
  | inr t ↦ let P : Bool → Type 0 = λ b. AllByRecursion (IsNear size ((base + 1) % 2 ^ 24)) (if not b then k ∷ filter (λ x. not (x.number == base)) held else filter (λ x. not (x.number == base)) held) in
      subst P (sym t.0) ((all.0.0, near_after size base k.number low all.0.0 all.0.1 t.1), all_after size base held low all.1)
]

-- the length of a gap, where n numbers are due
abbrev gap_of : ℕ → ℕ → List (Held Datagram) → ℕ
gap_of base u held = fold min u (map (λ h. ahead base h.number) held)

gap_most : (base u : ℕ) (held : List (Held Datagram)) → gap_of base u held ≤ u
gap_most base u [] = omega arith
gap_most base u (k ∷ held) = let h = gap_most base (min u (ahead base k.number)) held in omega (arith, h)

-- after a gap
near_behind : (size base g n : ℕ) → base < 2 ^ 24 → n < 2 ^ 24 → ahead base n < size → g ≤ ahead base n → ahead ((base + g) % 2 ^ 24) n < size
near_behind size base g n low few near least = omega arith

-- all are near still
all_behind : (size base g : ℕ) (held : List (Held Datagram)) → base < 2 ^ 24 → AllByRecursion (λ h. g ≤ ahead base h.number) held → AllByRecursion (IsNear size base) held → AllByRecursion (IsNear size ((base + g) % 2 ^ 24)) held
all_behind size base g [] low least all = tt
all_behind size base g (k ∷ held) low least all = ((all.0.0, near_behind size base g k.number low all.0.0 all.0.1 least.0), all_behind size base g held low least.1 all.1)

-- none is within a gap
gap_least : (base u : ℕ) (held : List (Held Datagram)) → AllByRecursion (λ h. gap_of base u held ≤ ahead base h.number) held
gap_least base u [] = tt
gap_least base u (k ∷ held) = (let m = gap_most base (min u (ahead base k.number)) held in omega (arith, m), gap_least base (min u (ahead base k.number)) held)

or_second : (b : Bool) → (b || true) ≡ true
or_second true = refl
or_second false = refl

back_at : (base n : ℕ) → base < 2 ^ 24 → n < 2 ^ 24 → (base + ahead base n) % 2 ^ 24 ≡ n
back_at base n low few = omega arith

-- it ends where nothing more is due, or at a number that is held
gap_ends : (size base u : ℕ) (held : List (Held Datagram)) → base < 2 ^ 24 → AllByRecursion (IsNear size base) held → (gap_of base u held ≡ u) ⊎ (is_held ((base + gap_of base u held) % 2 ^ 24) held ≡ true)
gap_ends size base u [] low all = inl refl
gap_ends size base u (k ∷ held) low all = elim (gap_ends size base (min u (ahead base k.number)) held low all.1) [
  | inr t ↦ inr (rw t (or_second (k.number == (base + gap_of base (min u (ahead base k.number)) held) % 2 ^ 24)))
  | inl t ↦ elim (cases_lt (ahead base k.number) u) [
    | inr most ↦ inl (omega (arith, t))
    | inl less ↦
        let g : gap_of base (min u (ahead base k.number)) held ≡ ahead base k.number = omega (arith, t) in
        let e : k.number ≡ (base + gap_of base (min u (ahead base k.number)) held) % 2 ^ 24 = sym (ap (λ n. (base + n) % 2 ^ 24) g ∙ back_at base k.number low all.0.0) in
        let s = eq-eqb k.number ((base + gap_of base (min u (ahead base k.number)) held) % 2 ^ 24) e in inr (rw s refl)
  ]
]

-- at most once without a datagram
pending_most : (w : Window Datagram) (base : ℕ) → pending w (Some base) ≤ 1
pending_most w base = by (is_held base w.held) (w.due == 0) where
  by : (b c : Bool) → (if◌then◌else◌ {A = ℕ} b 0 (if c then 0 else 1)) ≤ 1
  by true c = omega arith
  by false true = omega arith
  by false false = omega arith

-- not after a gap
pending_behind : (size base : ℕ) (w : Window Datagram) → base < 2 ^ 24 → AllByRecursion (IsNear size base) w.held → pending (moved base (gap_length base w) w) (Some ((base + gap_length base w) % 2 ^ 24)) ≡ 0
pending_behind size base w low all = elim (gap_ends size base w.due w.held low all) [
  | inr t ↦ rw t refl
  | inl t ↦ let z : w.due - gap_length base w ≡ 0 = omega (arith, t) in
      by (is_held ((base + gap_length base w) % 2 ^ 24) w.held) (w.due - gap_length base w) z
] where
  by : (b : Bool) (u : ℕ) → u ≡ 0 → (if◌then◌else◌ {A = ℕ} b 0 (if u == 0 then 0 else 1)) ≡ 0
  by true u e = refl
  by false u e = rw e refl

-- where nothing is found, but something is due
pending_some : (w : Window Datagram) (base : ℕ) → is_held base w.held ≡ false → (w.due == 0) ≡ false → pending w (Some base) ≡ 1
pending_some w base e f = rw (e, f) refl

falls_found : (size base : ℕ) (w : Window Datagram) → base < 2 ^ 24 → AllByRecursion (IsNear size base) w.held → (o : Option (Held Datagram)) → find (λ h. h.number == base) w.held ≡ o → FallsAs size (2 * length w.held + pending w (Some base)) (next_at base w o)
falls_found size base w low all (Some h) e =
    let fewer = fewer_left base w.held h e in
    let most = pending_most (moved base 1 (record w { held = filter (λ x. not (x.number == base)) w.held })) ((base + 1) % 2 ^ 24) in
    (omega (arith, fewer, most), (omega arith, all_after size base w.held low all))
falls_found size base w low all None e = elim (either (w.due == 0)) [
  | inl t ↦ let P : Bool → Type 0 = λ b. FallsAs size (2 * length w.held + pending w (Some base)) (if b then Nothing else Gap (gap_length base w) (moved base (gap_length base w) w)) in
      subst P (sym t) tt
  | inr t ↦ let P : Bool → Type 0 = λ b. FallsAs size (2 * length w.held + pending w (Some base)) (if b then Nothing else Gap (gap_length base w) (moved base (gap_length base w) w)) in
      let one = pending_some w base (not_found base w.held e) t in
      let none = pending_behind size base w low all in
      subst P (sym t) (omega (arith, one, none), (omega arith, all_behind size base (gap_length base w) w.held low (gap_least base w.due w.held) all))
]

falls_by : (size : ℕ) (w : Window Datagram) (o : Option ℕ) → IsWindow size w o → FallsAs size (2 * length w.held + pending w o) (next w o)
falls_by size w None all = tt
falls_by size w (Some base) all = falls_found size base w all.0 all.1 (find (λ h. h.number == base) w.held) refl

falls : (size : ℕ) (w : Window Datagram) → IsWindow size w w.base → FallsAs size (weight w) (next w w.base)
falls size w all = falls_by size w w.base all

-- enough steps are enough
enough_none : (size m : ℕ) (r : Receiver) (v : Next Datagram) → next r.window r.window.base ≡ v → FallsAs size (weight r.window) v → weight r.window ≤ 0 → drained zero r ≡ drained m r
enough_none size m r Nothing e f a = drained_none zero r e ∙ sym (drained_none m r e)
enough_none size m r (Hand x w) e f a = absurd (omega (arith, f.0))
enough_none size m r (Gap g w) e f a = absurd (omega (arith, f.0))

enough_by : (size n m : ℕ) (r : Receiver) (v : Next Datagram) → next r.window r.window.base ≡ v → FallsAs size (weight r.window) v → weight r.window ≤ suc n → weight r.window ≤ m
    → ((j : ℕ) (s : Receiver) → IsWindow size s.window s.window.base → weight s.window ≤ n → weight s.window ≤ j → drained n s ≡ drained j s) → drained (suc n) r ≡ drained m r
enough_by size n m r Nothing e f a b ih = drained_none (suc n) r e ∙ sym (drained_none m r e)
enough_by size n zero r (Hand x w) e f a b ih = absurd (omega (arith, f.0))
enough_by size n zero r (Gap g w) e f a b ih = absurd (omega (arith, f.0))
enough_by size n (suc m) r (Hand x w) e f a b ih =
    drained_hand n r x w e ∙ (ih m (followed (record r { window = w }) (decoded r.decoder x x.payload)) f.1 (omega (arith, f.0)) (omega (arith, f.0)) ∙ sym (drained_hand m r x w e))
enough_by size n (suc m) r (Gap g w) e f a b ih =
    drained_gap n g r w e ∙ (ih m (record r { window = w; decoder = take_gap r.decoder }) f.1 (omega (arith, f.0)) (omega (arith, f.0)) ∙ sym (drained_gap m g r w e))

enough : (size n m : ℕ) (r : Receiver) → IsWindow size r.window r.window.base → weight r.window ≤ n → weight r.window ≤ m → drained n r ≡ drained m r
enough size zero m r all a b = enough_none size m r (next r.window r.window.base) refl (falls size r.window all) a
enough size (suc n) m r all a b = enough_by size n m r (next r.window r.window.base) refl (falls size r.window all) a b (λ j s al x y. enough size n j s al x y)

-- there are always enough
light : (w : Window Datagram) → weight w ≤ 2 * length w.held + 1
light w = by w.base where
  by : (o : Option ℕ) → 2 * length w.held + pending w o ≤ 2 * length w.held + 1
  by None = omega arith
  by (Some base) = let p = pending_most w base in omega (arith, p)

drains_by : (size : ℕ) (r : Receiver) (v : Next Datagram) → next r.window r.window.base ≡ v → FallsAs size (weight r.window) v → DrainsAs r v
drains_by size r Nothing e f = drained_none (2 * length r.window.held + 1) r e
drains_by size r (Hand x w) e f =
    let n = 2 * length r.window.held in
    let z : n + 1 ≡ suc n = omega arith in
    let a = light r.window in
    let b = light w in
    ap (λ k. drained k r) z ∙ (drained_hand n r x w e ∙ enough size n (2 * length w.held + 1) (followed (record r { window = w }) (decoded r.decoder x x.payload)) f.1 (omega (arith, f.0, a)) b)
drains_by size r (Gap g w) e f =
    let n = 2 * length r.window.held in
    let z : n + 1 ≡ suc n = omega arith in
    let a = light r.window in
    let b = light w in
    ap (λ k. drained k r) z ∙ (drained_gap n g r w e ∙ enough size n (2 * length w.held + 1) (record r { window = w; decoder = take_gap r.decoder }) f.1 (omega (arith, f.0, a)) b)

pub next_is_drained : NextIsDrained
next_is_drained size r all = let f = falls size r.window all in (drains_by size r (next r.window r.window.base) refl f, f)

-- what is kept by each step is kept by all
abbrev KeepsAs : (Window Datagram → Type 0) → Next Datagram → Type 0
KeepsAs I (Hand x w) = I w
KeepsAs I (Gap g w) = I w
KeepsAs I Nothing = Unit {0}

keeps_by : (I : Window Datagram → Type 0) (n : ℕ) (r : Receiver) (v : Next Datagram) → next r.window r.window.base ≡ v → KeepsAs I v → I r.window → ((s : Receiver) → I s.window → I (drained n s).window) → I (drained (suc n) r).window
keeps_by I n r (Hand x w) e k h ih = let P : Receiver → Type 0 = λ s. I s.window in subst P (sym (drained_hand n r x w e)) (ih (followed (record r { window = w }) (decoded r.decoder x x.payload)) k)
keeps_by I n r (Gap g w) e k h ih = let P : Receiver → Type 0 = λ s. I s.window in subst P (sym (drained_gap n g r w e)) (ih (record r { window = w; decoder = take_gap r.decoder }) k)
keeps_by I n r Nothing e k h ih = let P : Receiver → Type 0 = λ s. I s.window in subst P (sym (drained_none (suc n) r e)) h

keeps : (I : Window Datagram → Type 0) → ((w : Window Datagram) → I w → KeepsAs I (next w w.base)) → (n : ℕ) (r : Receiver) → I r.window → I (drained n r).window
unfolding drained
keeps I k zero r h = h
keeps I k (suc n) r h = keeps_by I n r (next r.window r.window.base) refl (k r.window h) h (λ s i. keeps I k n s i)

-- a window stays one
window_next : (size : ℕ) (w : Window Datagram) → IsWindow size w w.base → KeepsAs (λ v. IsWindow size v v.base) (next w w.base)
window_next size w all = by (next w w.base) (falls size w all) where
  by : (v : Next Datagram) → FallsAs size (weight w) v → KeepsAs (λ v. IsWindow size v v.base) v
  by (Hand x u) f = f.1
  by (Gap g u) f = f.1
  by Nothing f = tt

pub stays : (size n : ℕ) (r : Receiver) → IsWindow size r.window r.window.base → IsWindow size (drained n r).window (drained n r).window.base
stays size n r all = keeps (λ v. IsWindow size v v.base) (λ w h. window_next size w h) n r all

-- at the end there is nothing
ends_none : (size : ℕ) (r : Receiver) (v : Next Datagram) → next r.window r.window.base ≡ v → FallsAs size (weight r.window) v → weight r.window ≤ 0 → next (drained zero r).window (drained zero r).window.base ≡ Nothing
ends_none size r Nothing e f a = let P : Receiver → Type 0 = λ s. next s.window s.window.base ≡ Nothing in subst P (sym (drained_none zero r e)) e
ends_none size r (Hand x w) e f a = absurd (omega (arith, f.0))
ends_none size r (Gap g w) e f a = absurd (omega (arith, f.0))

ends_by : (size n : ℕ) (r : Receiver) (v : Next Datagram) → next r.window r.window.base ≡ v → FallsAs size (weight r.window) v → weight r.window ≤ suc n
    → ((s : Receiver) → IsWindow size s.window s.window.base → weight s.window ≤ n → next (drained n s).window (drained n s).window.base ≡ Nothing) → next (drained (suc n) r).window (drained (suc n) r).window.base ≡ Nothing
ends_by size n r Nothing e f a ih = let P : Receiver → Type 0 = λ s. next s.window s.window.base ≡ Nothing in subst P (sym (drained_none (suc n) r e)) e
ends_by size n r (Hand x w) e f a ih = let P : Receiver → Type 0 = λ s. next s.window s.window.base ≡ Nothing in subst P (sym (drained_hand n r x w e)) (ih (followed (record r { window = w }) (decoded r.decoder x x.payload)) f.1 (omega (arith, f.0)))
ends_by size n r (Gap g w) e f a ih = let P : Receiver → Type 0 = λ s. next s.window s.window.base ≡ Nothing in subst P (sym (drained_gap n g r w e)) (ih (record r { window = w; decoder = take_gap r.decoder }) f.1 (omega (arith, f.0)))

ends : (size n : ℕ) (r : Receiver) → IsWindow size r.window r.window.base → weight r.window ≤ n → next (drained n r).window (drained n r).window.base ≡ Nothing
ends size zero r all a = ends_none size r (next r.window r.window.base) refl (falls size r.window all) a
ends size (suc n) r all a = ends_by size n r (next r.window r.window.base) refl (falls size r.window all) a (λ s al x. ends size n s al x)

pub drained_has_nothing : DrainedHasNothing
drained_has_nothing size r all = (ends size (2 * length r.window.held + 1) r all (light r.window), stays size (2 * length r.window.held + 1) r all)

-- A number that isn't held, ahead of the base: no number past it is due, and once those that are due are handed on it is in reach.
abbrev IsReach : ℕ → ℕ → Window Datagram → Option ℕ → Type 0
IsReach size n w None = ⊥
IsReach size n w (Some base) = (w.due ≤ ahead base n) × (ahead base n + 1 ≤ size + w.due) × (ahead base n < 8388608) × (is_held n w.held ≡ false)

-- it isn't among the others either
not_among : (n base : ℕ) (held : List (Held Datagram)) → is_held n held ≡ false → is_held n (filter (λ x. not (x.number == base)) held) ≡ false
not_among n base [] e = refl
not_among n base (k ∷ held) e = by (k.number == base) (k.number == n) refl e (λ f. not_among n base held f) where
  by : (b c : Bool) → (k.number == n) ≡ c → (c || is_held n held) ≡ false → (is_held n held ≡ false → is_held n (filter (λ x. not (x.number == base)) held) ≡ false)
      → is_held n (if not b then k ∷ filter (λ x. not (x.number == base)) held else filter (λ x. not (x.number == base)) held) ≡ false
  by b true g f ih = absurd (cc)
  by true false g f ih = ih f
  by false false g f ih = rw g (ih f)

-- the base itself is held where something is found there
found_is_held : (base : ℕ) (held : List (Held Datagram)) (h : Held Datagram) → find (λ h. h.number == base) held ≡ Some h → is_held base held ≡ true
found_is_held base [] h e = absurd (cc)
found_is_held base (k ∷ held) h e = by (k.number == base) e (λ f. found_is_held base held h f) where
  by : (b : Bool) → (if b then Some k else find (λ h. h.number == base) held) ≡ Some h → (find (λ h. h.number == base) held ≡ Some h → is_held base held ≡ true) → (b || is_held base held) ≡ true
  by true f ih = refl
  by false f ih = ih f

-- an ahead of nothing is the base
is_base : (base n : ℕ) → base < 2 ^ 24 → n < 2 ^ 24 → ahead base n ≡ 0 → n ≡ base
is_base base n low few e = omega arith

one_nearer : (base n : ℕ) → base < 2 ^ 24 → n < 2 ^ 24 → 1 ≤ ahead base n → ahead ((base + 1) % 2 ^ 24) n + 1 ≡ ahead base n
one_nearer base n low few some = omega arith

nearer : (base g n : ℕ) → base < 2 ^ 24 → n < 2 ^ 24 → g ≤ ahead base n → ahead ((base + g) % 2 ^ 24) n + g ≡ ahead base n
nearer base g n low few least = omega arith

-- it stays so
reach_found : (size n base : ℕ) (w : Window Datagram) → base < 2 ^ 24 → n < 2 ^ 24 → IsReach size n w (Some base) → (o : Option (Held Datagram)) → find (λ h. h.number == base) w.held ≡ o → KeepsAs (λ v. IsReach size n v v.base) (next_at base w o)
reach_found size n base w low few r (Some h) e =
    let held = found_is_held base w.held h e in
    let apart : n ≢ base = λ f. let t : true ≡ false = sym held ∙ (ap (λ k. is_held k w.held) (sym f) ∙ r.3) in absurd (cc) in
    let some : 1 ≤ ahead base n = elim (cases_lt 0 (ahead base n)) [ inl a ↦ a | inr a ↦ absurd (apart (is_base base n low few (omega (arith, a)))) ] in
    let d = one_nearer base n low few some in
    (omega (arith, d, r.0), omega (arith, d, r.1), omega (arith, d, r.2), not_among n base w.held r.3)
reach_found size n base w low few r None e = elim (either (w.due == 0)) [
  | inl t ↦ let P : Bool → Type 0 = λ b. KeepsAs (λ v. IsReach size n v v.base) (if b then Nothing else Gap (gap_length base w) (moved base (gap_length base w) w)) in subst P (sym t) tt
  | inr t ↦ let P : Bool → Type 0 = λ b. KeepsAs (λ v. IsReach size n v v.base) (if b then Nothing else Gap (gap_length base w) (moved base (gap_length base w) w)) in
      let m = gap_most base w.due w.held in
      let d = nearer base (gap_length base w) n low few (omega (arith, m, r.0)) in
      subst P (sym t) (omega (arith, d, r.0, m), omega (arith, d, r.1, m), omega (arith, d, r.2), r.3)
]

-- both at once
abbrev Both : ℕ → ℕ → Window Datagram → Type 0
Both size n w = IsWindow size w w.base × IsReach size n w w.base

both_by : (size n : ℕ) (w : Window Datagram) (o : Option ℕ) → n < 2 ^ 24 → IsWindow size w o → IsReach size n w o → KeepsAs (λ v. IsWindow size v v.base) (next w o) → KeepsAs (Both size n) (next w o)
both_by size n w None few a r k = absurd r
both_by size n w (Some base) few a r k = by (next w (Some base)) k (reach_found size n base w a.0 few r (find (λ h. h.number == base) w.held) refl) where
  by : (v : Next Datagram) → KeepsAs (λ v. IsWindow size v v.base) v → KeepsAs (λ v. IsReach size n v v.base) v → KeepsAs (Both size n) v
  by (Hand x u) p q = (p, q)
  by (Gap g u) p q = (p, q)
  by Nothing p q = tt

-- where nothing is handed on it is kept
kept_at : (size n base : ℕ) (w : Window Datagram) → IsReach size n w (Some base) → next w (Some base) ≡ Nothing → offer size n w (Some base) ≡ Kept
kept_at size n base w r e = by (find (λ h. h.number == base) w.held) e where
  no_due : w.due ≡ 0 → offer size n w (Some base) ≡ Kept
  no_due z =
      let far : nat_le 8388608 (ahead base n) ≡ false = lt-leb 8388608 (ahead base n) r.2 in
      let out : nat_le size (ahead base n) ≡ false = lt-leb size (ahead base n) (omega (arith, r.1, z)) in
      let f : nat_le (2 ^ 23) (ahead base n) ≡ false = far in
      rw (f, out, r.3) refl

  by_due : (b : Bool) → (w.due == 0) ≡ b → (if b then Nothing else Gap (gap_length base w) (moved base (gap_length base w) w)) ≡ Nothing → offer size n w (Some base) ≡ Kept
  by_due true t f = no_due (equal_number w.due 0 t)
  by_due false t f = absurd (cc)

  by : (o : Option (Held Datagram)) → next_at base w o ≡ Nothing → offer size n w (Some base) ≡ Kept
  by (Some h) f = absurd (cc)
  by None f = by_due (w.due == 0) refl f

kept_by : (size n : ℕ) (w : Window Datagram) (o : Option ℕ) → IsReach size n w o → next w o ≡ Nothing → offer size n w o ≡ Kept
kept_by size n w None r e = absurd r
kept_by size n w (Some base) r e = kept_at size n base w r e

-- what is near is in reach
held_near : (size base n : ℕ) (held : List (Held Datagram)) → AllByRecursion (IsNear size base) held → size ≤ ahead base n → is_held n held ≡ false
held_near size base n [] all far = refl
held_near size base n (k ∷ held) all far = elim (eqb_tells k.number n) [
  | inl t ↦ let near : ahead base n < size = (let P : ℕ → Type 0 = λ x. ahead base x < size in subst P t.1 all.0.1) in absurd (omega (arith, near, far))
  | inr t ↦ rw t.0 (held_near size base n held all.1 far)
]

-- an offer that drains, and what is so
drains_at : (size n k base : ℕ) (w : Window Datagram) → AllByRecursion (IsNear size base) w.held → 1 ≤ size → w.due ≡ 0 → offer size n w (Some base) ≡ Drain k → IsReach size n (make_due k w) (Some base)
drains_at size n k base w all some z e = by (nat_le (2 ^ 23) (ahead base n)) (nat_le size (ahead base n)) (is_held n w.held) refl refl e where
  make : ahead base n < 8388608 → size ≤ ahead base n → ahead base n + 1 - size ≡ k → IsReach size n (make_due k w) (Some base)
  make low far f = (omega arith, omega arith, low, held_near size base n w.held all far)

  by : (a b c : Bool) → nat_le (2 ^ 23) (ahead base n) ≡ a → nat_le size (ahead base n) ≡ b
      → (if a then Behind else if b then Drain (ahead base n + 1 - size) else if c then Again else Kept) ≡ Drain k → IsReach size n (make_due k w) (Some base)
  by true b c p q f = absurd (cc)
  by false true c p q f = let s : ahead base n + 1 - size ≡ k = cc in make (let g : nat_le 8388608 (ahead base n) ≡ false = p in leb-false 8388608 (ahead base n) g) (leb-true size (ahead base n) q) s
  by false false true p q f = absurd (cc)
  by false false false p q f = absurd (cc)

reach_by : (size n k : ℕ) (w : Window Datagram) (o : Option ℕ) → IsWindow size w o → 1 ≤ size → w.due ≡ 0 → offer size n w o ≡ Drain k → IsReach size n (make_due k w) o
reach_by size n k w None a some e f = absurd (cc)
reach_by size n k w (Some base) a some e f = drains_at size n k base w a.1 some e f

due_window : (size k : ℕ) (w : Window Datagram) (o : Option ℕ) → IsWindow size w o → IsWindow size (make_due k w) o
due_window size k w None a = a
due_window size k w (Some base) a = a

pub drained_is_in_reach : DrainedIsInReach
drained_is_in_reach size n k r all some few none e =
    let s = record r { window = make_due k r.window } in
    let a = due_window size k r.window r.window.base all in
    let b = reach_by size n k r.window r.window.base all some none e in
    let end = drained_has_nothing size s a in
    let both = keeps (Both size n) (λ w h. both_by size n w w.base few h.0 h.1 (window_next size w h.0)) (2 * length r.window.held + 1) s (a, b) in
    kept_by size n (drain s).window (drain s).window.base both.1 end.0

-- what is kept is near
all_inserted : (P : Held Datagram → Type 0) (base : ℕ) (h : Held Datagram) (held : List (Held Datagram)) → P h → AllByRecursion P held → AllByRecursion P (insert base h held)
all_inserted P base h [] p all = (p, tt)
all_inserted P base h (k ∷ held) p all = elim (nat_lt (ahead base h.number) (ahead base k.number)) as (λ b. AllByRecursion P (if b then h ∷ k ∷ held else k ∷ insert base h held)) [
  | true ↦ (p, all)
  | false ↦ (all.0, all_inserted P base h held p all.1)
]

kept_near : (size n base : ℕ) (w : Window Datagram) → offer size n w (Some base) ≡ Kept → ahead base n < size
kept_near size n base w e = by (nat_le (2 ^ 23) (ahead base n)) (nat_le size (ahead base n)) (is_held n w.held) refl e where
  by : (a b c : Bool) → nat_le size (ahead base n) ≡ b → (if a then Behind else if b then Drain (ahead base n + 1 - size) else if c then Again else Kept) ≡ Kept → ahead base n < size
  by true b c q f = absurd (cc)
  by false true c q f = absurd (cc)
  by false false c q f = leb-false size (ahead base n) q

self_near : (n : ℕ) → n < 2 ^ 24 → ahead n n ≡ 0
self_near n few = omega arith

near_by : (size n : ℕ) (x : Datagram) (w : Window Datagram) (o : Option ℕ) → IsWindow size w o → 1 ≤ size → n < 2 ^ 24 → offer size n w o ≡ Kept
    → IsWindow size (record w { base = Some (base_with n o); held = insert (base_with n o) (record { number = n; item = x }) w.held }) (Some (base_with n o))
near_by size n x w None a some few e =
    let z = self_near n few in
    let P : List (Held Datagram) → Type 0 = λ l. AllByRecursion (IsNear size n) (insert n (record { number = n; item = x }) l) in
    (few, subst P (sym a) ((few, omega (arith, z, some)), tt))
near_by size n x w (Some base) a some few e = (a.0, all_inserted (IsNear size base) base (record { number = n; item = x }) w.held (few, kept_near size n base w e) a.1)

pub kept_is_near : KeptIsNear
kept_is_near size n x w a some few e = near_by size n x w w.base a some few e

-- draining leaves the source
abbrev source_of : Receiver → Option ℕ
source_of r = r.source

pub source-drained : (n : ℕ) (r : Receiver) → source_of (drained n r) ≡ source_of r
unfolding drained
source-drained zero r = refl
source-drained (suc n) r = elim (next r.window r.window.base) as (λ v. source_of (elim v [
  | Hand x w ↦ drained n (followed (record r { window = w }) (decoded r.decoder x x.payload))
  | Gap count w ↦ drained n (record r { window = w; decoder = take_gap r.decoder })
  | Nothing ↦ r
]) ≡ source_of r) [
  | Hand x w ↦ source-drained n (followed (record r { window = w }) (decoded r.decoder x x.payload))
  | Gap count w ↦ source-drained n (record r { window = w; decoder = take_gap r.decoder })
  | Nothing ↦ refl
]

-- what is taken of a frame, by its answers
takes_by : (pick : Pick) (r : Receiver) (frame : List ℕ) (a b : Bool) (o : Offer) → (is_well_formed frame && ((datagram_of frame).rtp.kind == pick.kind)) ≡ a → is_source r.source (datagram_of frame).rtp.source ≡ b
    → offer_of pick r frame ≡ o → TakesAsOffered pick r frame (a && b) o
takes_by pick r frame true true Behind e f g = rw (e, f, g) refl
takes_by pick r frame true true Again e f g = rw (e, f, g) refl
takes_by pick r frame true true (Drain k) e f g = rw (e, f, g) refl
takes_by pick r frame true true Kept e f g = rw (e, f, g) refl
takes_by pick r frame true false o e f g = rw (e, f) refl
takes_by pick r frame false b o e f g = rw e refl

pub takes : (pick : Pick) (r : Receiver) (frame : List ℕ) → TakesAsOffered pick r frame (is_picked pick r.source frame) (offer_of pick r frame)
takes pick r frame = takes_by pick r frame (is_well_formed frame && ((datagram_of frame).rtp.kind == pick.kind)) (is_source r.source (datagram_of frame).rtp.source) (offer_of pick r frame) refl refl refl

same_source : (n : ℕ) → is_source (Some n) n ≡ true
same_source n = eq-eqb n n refl

picked_parts : (a b : Bool) → (a && b) ≡ true → a ≡ true
picked_parts true b e = refl
picked_parts false b e = absurd (cc)

pub drained_takes_frame : DrainedTakesFrame
drained_takes_frame pick r frame k all some few none p o =
    let s = record r { source = Some (datagram_of frame).rtp.source; window = make_due k r.window } in
    let kept : offer_of pick (drain s) frame ≡ Kept = drained_is_in_reach pick.window (extended_number (datagram_of frame)) k (record r { source = Some (datagram_of frame).rtp.source }) all some few none o in
    let formed : (is_well_formed frame && ((datagram_of frame).rtp.kind == pick.kind)) ≡ true = picked_parts (is_well_formed frame && ((datagram_of frame).rtp.kind == pick.kind)) (is_source r.source (datagram_of frame).rtp.source) p in
    let from : (drain s).source ≡ Some (datagram_of frame).rtp.source = source-drained (2 * length r.window.held + 1) s in
    let source : is_source (drain s).source (datagram_of frame).rtp.source ≡ true = ap (λ x. is_source x (datagram_of frame).rtp.source) from ∙ same_source (datagram_of frame).rtp.source in
    let T : Bool → Offer → Type 0 = λ b v. TakesAsOffered pick (drain s) frame b v in
    let U : Bool → Offer → Type 0 = λ b v. TakesAsOffered pick r frame b v in
    let both : is_picked pick (drain s).source frame ≡ true = rw (formed, source) refl in
    let now : TakesAsOffered pick (drain s) frame true Kept = subst (λ b. T b Kept) both (subst (λ v. T (is_picked pick (drain s).source frame) v) kept (takes pick (drain s) frame)) in
    let was : TakesAsOffered pick r frame true (Drain k) = subst (λ b. U b (Drain k)) p (subst (λ v. U (is_picked pick r.source frame) v) o (takes pick r frame)) in
    let same : record (drain s) { source = Some (datagram_of frame).rtp.source } ≡ drain s = ap (λ x. record (drain s) { source = x }) (sym from) in
    (now ∙ (ap (λ x. keep x (datagram_of frame)) same ∙ sym was), kept, both)
