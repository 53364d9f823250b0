-- What the window hands on next, where it holds datagrams of a stream by their positions.
use Rattle.std.proofs.Common.{◌≡◌, ◌≢◌, ◌⊎◌, ◌<◌, ◌≤◌, ◌+◌, ◌-◌, ◌%◌, ◌^◌, ◌==◌, ◌||◌, ℕ, suc, min, Bool, true, false, not, nat_lt, List, [], ◌∷◌, map, filter, length, Option, Some, None, refl, sym, ◌∙◌, ap, inl, inr, arith, if◌then◌else◌}
use Rattle.std.specs.Prelude.{find}
use Rattle.std.specs.List.{AllByRecursion, list_any, fold}
use Rattle.std.proofs.lemmas.Bool.{cases_lt, eq-eqb}
use Rattle.std.proofs.lemmas.Bool.Decides.{eqb_tells}
use Rattle.wire_model.specs.Datagram.{Datagram}
use Rattle.codestream_model.proofs.TreeLemmas.{either, equal_number}
use Rattle.stream_model.proofs.Thinned.{all-filter}
use Rattle.stream_model.specs.Window.{Window, Held, insert, ahead, gap_length, Hand, Gap, Nothing, moved, next_at, next}

-- the extended number of a position
abbrev pub num : ℕ → ℕ → ℕ
num number i = (number + i) % 2 ^ 24

-- a datagram that is held by its position
abbrev pub held_at : ℕ → (ℕ → Datagram) → ℕ → Held Datagram
held_at number dg i = record { number = num number i; item = dg i }

-- a position is among these
abbrev pub mem : List ℕ → ℕ → Bool
mem hs i = list_any (λ h. h == i) hs

-- the window whose next position is this one, with the number that are due, and with these that are held
abbrev pub window_at : ℕ → (ℕ → Datagram) → ℕ → ℕ → List ℕ → Window Datagram
window_at number dg p u hs = record { base = Some (num number p); due = u; held = map (held_at number dg) hs }

-- two positions of a stream have two numbers
pub apart : (number i j : ℕ) → i < 8388608 → j < 8388608 → num number i ≡ num number j → i ≡ j
apart number i j a b e = let f : (number + i) % 16777216 ≡ (number + j) % 16777216 = e in omega arith

-- so their tests agree
pub num_test : (number i p : ℕ) → i < 8388608 → p < 8388608 → (num number i == num number p) ≡ (i == p)
num_test number i p a b = elim (eqb_tells i p) [
  | inl t ↦ let e : (num number i == num number p) ≡ true = eq-eqb (num number i) (num number p) (ap (num number) t.1) in e ∙ sym t.0
  | inr t ↦ elim (eqb_tells (num number i) (num number p)) [ inl u ↦ absurd (t.1 (apart number i p a b u.1)) | inr u ↦ u.0 ∙ sym t.0 ]
]

-- how far a position is ahead of another
pub ahead_is : (number p i : ℕ) → p ≤ i → i < 8388608 → ahead (num number p) (num number i) ≡ i - p
ahead_is number p i low high = omega arith

-- and how far one after seems to be
pub ahead_behind : (number p i : ℕ) → i < p → p < 8388608 → 8388608 ≤ ahead (num number p) (num number i)
ahead_behind number p i low high = omega arith

-- what is held at a position
chosen : (number : ℕ) (dg : ℕ → Datagram) (i p : ℕ) (more : Option (Held Datagram)) (b c : Bool) → (i == p) ≡ b → c ≡ b → (if c then Some (held_at number dg i) else more) ≡ (if b then Some (held_at number dg p) else more)
chosen number dg i p more true c e f = let s : i ≡ p = equal_number i p e in rw (f, s) refl
chosen number dg i p more false c e f = rw f refl

-- one of two finds it
either_none : (number : ℕ) (dg : ℕ → Datagram) (p : ℕ) (b c : Bool) → (if b then Some (held_at number dg p) else (if c then Some (held_at number dg p) else None)) ≡ (if (b || c) then Some (held_at number dg p) else None)
either_none number dg p true c = refl
either_none number dg p false c = refl

-- is found by its number
find_held : (number : ℕ) (dg : ℕ → Datagram) (p : ℕ) (hs : List ℕ) → p < 8388608 → AllByRecursion (λ i. i < 8388608) hs → find (λ h. h.number == num number p) (map (held_at number dg) hs) ≡ (if mem hs p then Some (held_at number dg p) else None)
find_held number dg p [] low small = refl
find_held number dg p (i ∷ hs) low small =
    ap (λ o. if num number i == num number p then Some (held_at number dg i) else o) (find_held number dg p hs low small.1)
    ∙ (chosen number dg i p (if mem hs p then Some (held_at number dg p) else None) (i == p) (num number i == num number p) refl (num_test number i p small.0 low)
    ∙ either_none number dg p (i == p) (mem hs p))

-- what is held elsewhere
abbrev pub others : ℕ → List ℕ → List ℕ
others p hs = filter (λ i. not (i == p)) hs

-- each stays or goes by its number
left_by : (number : ℕ) (dg : ℕ → Datagram) (i : ℕ) (hs : List ℕ) (held : List (Held Datagram)) (b c : Bool) → b ≡ c → held ≡ map (held_at number dg) hs → (if not b then held_at number dg i ∷ held else held) ≡ map (held_at number dg) (if not c then i ∷ hs else hs)
left_by number dg i hs held true true e f = f
left_by number dg i hs held false false e f = ap (λ l. held_at number dg i ∷ l) f
left_by number dg i hs held true false e f = absurd (cc)
left_by number dg i hs held false true e f = absurd (cc)

-- so all others stay
left_held : (number : ℕ) (dg : ℕ → Datagram) (p : ℕ) (hs : List ℕ) → p < 8388608 → AllByRecursion (λ i. i < 8388608) hs → filter (λ h. not (h.number == num number p)) (map (held_at number dg) hs) ≡ map (held_at number dg) (others p hs)
left_held number dg p [] low small = refl
left_held number dg p (i ∷ hs) low small =
    left_by number dg i (others p hs) (filter (λ h. not (h.number == num number p)) (map (held_at number dg) hs)) (num number i == num number p) (i == p) (num_test number i p small.0 low) (left_held number dg p hs low small.1)

-- positions but one
mem_other_by : (i j : ℕ) (xs : List ℕ) (rest b : Bool) → mem xs j ≡ rest → ((i == j) ≡ true → b ≡ false) → mem (if not b then i ∷ xs else xs) j ≡ ((i == j) || rest)
mem_other_by i j xs rest false e h = ap (λ z. (i == j) || z) e
mem_other_by i j xs rest true e h = elim (either (i == j)) [
  | inl t ↦ let k : true ≡ false = h t in absurd (cc)
  | inr t ↦ e ∙ rw t refl
]

-- the others are still among them
pub mem_others : (p j : ℕ) (hs : List ℕ) → (j ≡ p → ⊥) → mem (others p hs) j ≡ mem hs j
mem_others p j [] n = refl
mem_others p j (i ∷ hs) n =
    mem_other_by i j (others p hs) (mem hs j) (i == p) (mem_others p j hs n)
    (λ t. elim (eqb_tells i p) [ inr u ↦ u.0 | inl u ↦ absurd (n (sym (equal_number i j t) ∙ u.1)) ])

-- fewer of them
few_by : (i : ℕ) (xs hs : List ℕ) (b : Bool) → length xs ≤ length hs → length (if not b then i ∷ xs else xs) ≤ suc (length hs)
few_by i xs hs true h = omega arith
few_by i xs hs false h = omega arith

-- are no more
pub few_others : (p : ℕ) (hs : List ℕ) → length (others p hs) ≤ length hs
few_others p [] = omega arith
few_others p (i ∷ hs) = few_by i (others p hs) hs (i == p) (few_others p hs)

-- by the first of them
fewer_by : (p i : ℕ) (hs : List ℕ) (b c : Bool) → (i == p) ≡ b → (c ≡ true → length (others p hs) + 1 ≤ length hs) → (b || c) ≡ true → length (if not b then i ∷ others p hs else others p hs) + 1 ≤ suc (length hs)
fewer_by p i hs true c e h t = let f = few_others p hs in omega (arith, f)
fewer_by p i hs false c e h t = let f = h t in omega (arith, f)

-- and fewer where the one was there
pub fewer_others : (p : ℕ) (hs : List ℕ) → mem hs p ≡ true → length (others p hs) + 1 ≤ length hs
fewer_others p [] t = absurd (cc)
fewer_others p (i ∷ hs) t = fewer_by p i hs (i == p) (mem hs p) refl (fewer_others p hs) t

-- what holds of all of them
pub all_others : (P : ℕ → Type 0) (p : ℕ) (hs : List ℕ) → AllByRecursion P hs → AllByRecursion P (others p hs)
all_others P p hs h = all-filter P (λ i. not (i == p)) hs h

-- the datagram at the next position is handed on where it is held
pub next_hand : (number : ℕ) (dg : ℕ → Datagram) (p u : ℕ) (hs : List ℕ) → p < 8388608 → AllByRecursion (λ i. i < 8388608) hs → mem hs p ≡ true
    → next (window_at number dg p u hs) (Some (num number p)) ≡ Hand (dg p) (window_at number dg (p + 1) (u - 1) (others p hs))
next_hand number dg p u hs low small t =
    let w = window_at number dg p u hs in
    let found : find (λ h. h.number == num number p) (map (held_at number dg) hs) ≡ Some (held_at number dg p) = find_held number dg p hs low small ∙ rw t refl in
    let step : (num number p + 1) % 2 ^ 24 ≡ num number (p + 1) = (let m : ((number + p) % 16777216 + 1) % 16777216 ≡ (number + (p + 1)) % 16777216 = omega arith in m) in
    ap (next_at (num number p) w) found
    ∙ (ap (λ l. Hand (dg p) (record { base = Some ((num number p + 1) % 2 ^ 24); due = u - 1; held = l })) (left_held number dg p hs low small)
    ∙ ap (λ n. Hand (dg p) (record { base = Some n; due = u - 1; held = map (held_at number dg) (others p hs) })) step)

-- nothing is handed on where it isn't held and nothing is due
pub next_none : (number : ℕ) (dg : ℕ → Datagram) (p : ℕ) (hs : List ℕ) → p < 8388608 → AllByRecursion (λ i. i < 8388608) hs → mem hs p ≡ false → next (window_at number dg p 0 hs) (Some (num number p)) ≡ Nothing
next_none number dg p hs low small t =
    let found : find (λ h. h.number == num number p) (map (held_at number dg) hs) ≡ None = find_held number dg p hs low small ∙ rw t refl in
    ap (next_at (num number p) (window_at number dg p 0 hs)) found

-- the second of two holds
or_second : (b : Bool) → (b || true) ≡ true
or_second true = refl
or_second false = refl

-- how many positions from the next one on are due and not held
abbrev pub gap_of : ℕ → ℕ → List ℕ → ℕ
gap_of p u hs = fold min u (map (λ i. i - p) hs)

-- by the numbers that are held
gaps_are : (number : ℕ) (dg : ℕ → Datagram) (p u : ℕ) (hs : List ℕ) → AllByRecursion (λ i. i < 8388608) hs → AllByRecursion (λ i. p ≤ i) hs → fold min u (map (λ h. ahead (num number p) h.number) (map (held_at number dg) hs)) ≡ gap_of p u hs
gaps_are number dg p u [] small high = refl
gaps_are number dg p u (i ∷ hs) small high =
    ap (λ a. fold min (min u a) (map (λ h. ahead (num number p) h.number) (map (held_at number dg) hs))) (ahead_is number p i high.0 small.0) ∙ gaps_are number dg p (min u (i - p)) hs small.1 high.1

-- it is no longer than what is due
pub gap_most : (p u : ℕ) (hs : List ℕ) → gap_of p u hs ≤ u
gap_most p u [] = omega arith
gap_most p u (i ∷ hs) = let h = gap_most p (min u (i - p)) hs in omega (arith, h)

-- nothing in it is held
pub gap_free : (p u : ℕ) (hs : List ℕ) (j : ℕ) → AllByRecursion (λ i. p ≤ i) hs → p ≤ j → j < p + gap_of p u hs → mem hs j ≡ false
gap_free p u [] j high low less = refl
gap_free p u (i ∷ hs) j high low less =
    let m = gap_most p (min u (i - p)) hs in
    let n : (i == j) ≡ false = elim (eqb_tells i j) [ inr t ↦ t.0 | inl t ↦ absurd (omega (arith, t.1, m, high.0)) ] in
    rw n (gap_free p (min u (i - p)) hs j high.1 low less)

-- and it is not empty
pub gap_some : (p u : ℕ) (hs : List ℕ) → 1 ≤ u → AllByRecursion (λ i. p ≤ i) hs → mem hs p ≡ false → 1 ≤ gap_of p u hs
gap_some p u [] some high none = some
gap_some p u (i ∷ hs) some high none = elim (eqb_tells i p) [
  | inl t ↦ let e : (true || mem hs p) ≡ false = rw t.0 at none in absurd (cc)
  | inr t ↦
      let e : mem hs p ≡ false = rw t.0 at none in
      gap_some p (min u (i - p)) hs (let s : i ≢ p = t.1 in omega arith) high.1 e
]

-- the gap ends where nothing more is due, or at a position that is held
pub gap_ends : (p u : ℕ) (hs : List ℕ) → AllByRecursion (λ i. p ≤ i) hs → (gap_of p u hs ≡ u) ⊎ (mem hs (p + gap_of p u hs) ≡ true)
gap_ends p u [] high = inl refl
gap_ends p u (i ∷ hs) high = elim (gap_ends p (min u (i - p)) hs high.1) [
  | inr t ↦ inr (rw t (or_second (i == p + gap_of p (min u (i - p)) hs)))
  | inl t ↦ elim (cases_lt (i - p) u) [
    | inr most ↦ inl (omega (arith, t))
    | inl less ↦ let e : i ≡ p + gap_of p (min u (i - p)) hs = omega (arith, t, high.0) in let s = eq-eqb i (p + gap_of p (min u (i - p)) hs) e in inr (rw s refl)
  ]
]

-- a gap is handed on
pub next_gap : (number : ℕ) (dg : ℕ → Datagram) (p u : ℕ) (hs : List ℕ) → p < 8388608 → AllByRecursion (λ i. i < 8388608) hs → AllByRecursion (λ i. p ≤ i) hs → mem hs p ≡ false → 1 ≤ u
    → next (window_at number dg p u hs) (Some (num number p)) ≡ Gap (gap_of p u hs) (window_at number dg (p + gap_of p u hs) (u - gap_of p u hs) hs)
next_gap number dg p u hs low small high t some =
    let w = window_at number dg p u hs in
    let found : find (λ h. h.number == num number p) (map (held_at number dg) hs) ≡ None = find_held number dg p hs low small ∙ rw t refl in
    let due : (u == 0) ≡ false = elim (eqb_tells u 0) [ inl e ↦ absurd (omega (arith, e.1)) | inr e ↦ e.0 ] in
    let g = gap_of p u hs in
    let step : (num number p + g) % 2 ^ 24 ≡ num number (p + g) = (let m : ((number + p) % 16777216 + g) % 16777216 ≡ (number + (p + g)) % 16777216 = omega arith in m) in
    ap (next_at (num number p) w) found
    ∙ (ap (λ (b : Bool). if b then Nothing else Gap (gap_length (num number p) w) (moved (num number p) (gap_length (num number p) w) w)) due
    ∙ (ap (λ n. Gap n (moved (num number p) n w)) (gaps_are number dg p u hs small high)
    ∙ ap (λ n. Gap g (record { base = Some n; due = u - g; held = map (held_at number dg) hs })) step))

-- a position takes its place in the order from one on
abbrev pub put : ℕ → ℕ → List ℕ → List ℕ
put p a [] = a ∷ []
put p a (i ∷ hs) = if nat_lt (a - p) (i - p) then a ∷ i ∷ hs else i ∷ put p a hs

-- as its datagram does
pub insert_held : (number : ℕ) (dg : ℕ → Datagram) (p a : ℕ) (hs : List ℕ) → p ≤ a → a < 8388608 → AllByRecursion (λ i. (p ≤ i) × (i < 8388608)) hs → insert (num number p) (held_at number dg a) (map (held_at number dg) hs) ≡ map (held_at number dg) (put p a hs)
insert_held number dg p a [] low few all = refl
insert_held number dg p a (i ∷ hs) low few all =
    let e = ahead_is number p a low few in
    let f = ahead_is number p i all.0.0 all.0.1 in
    let rest = insert_held number dg p a hs low few all.1 in
    let H : Bool → Type 0 = λ b. (if b then held_at number dg a ∷ held_at number dg i ∷ map (held_at number dg) hs else held_at number dg i ∷ insert (num number p) (held_at number dg a) (map (held_at number dg) hs)) ≡ map (held_at number dg) (if b then a ∷ i ∷ hs else i ∷ put p a hs) in
    ap (λ b. if b then held_at number dg a ∷ held_at number dg i ∷ map (held_at number dg) hs else held_at number dg i ∷ insert (num number p) (held_at number dg a) (map (held_at number dg) hs)) (ap (λ x. nat_lt x (ahead (num number p) (num number i))) e ∙ ap (λ x. nat_lt (a - p) x) f)
    ∙ elim (nat_lt (a - p) (i - p)) as H [ true ↦ refl | false ↦ ap (λ l. held_at number dg i ∷ l) rest ]

-- it is among them from then on
mem_swap : (b c d : Bool) → (b || (c || d)) ≡ (c || (b || d))
mem_swap true true d = refl
mem_swap true false d = refl
mem_swap false c d = refl

pub mem_put : (p a : ℕ) (hs : List ℕ) (i : ℕ) → mem (put p a hs) i ≡ ((a == i) || mem hs i)
mem_put p a [] i = refl
mem_put p a (h ∷ hs) i = elim (nat_lt (a - p) (h - p)) as (λ b. mem (if b then a ∷ h ∷ hs else h ∷ put p a hs) i ≡ ((a == i) || ((h == i) || mem hs i))) [
  | true ↦ refl
  | false ↦ ap (λ b. (h == i) || b) (mem_put p a hs i) ∙ mem_swap (h == i) (a == i) (mem hs i)
]

-- what holds of it and of all others holds of all
pub all_put : (P : ℕ → Type 0) (p a : ℕ) (hs : List ℕ) → P a → AllByRecursion P hs → AllByRecursion P (put p a hs)
all_put P p a [] h all = (h, tt)
all_put P p a (i ∷ hs) h all = elim (nat_lt (a - p) (i - p)) as (λ b. AllByRecursion P (if b then a ∷ i ∷ hs else i ∷ put p a hs)) [
  | true ↦ (h, all)
  | false ↦ (all.0, all_put P p a hs h all.1)
]
