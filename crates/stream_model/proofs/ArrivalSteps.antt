-- One arrival more: what is in time then, and where the base is.
use Rattle.std.proofs.Common.{◌≡◌, ◌⊎◌, ◌<◌, ◌≤◌, ◌+◌, ◌-◌, ◌==◌, ◌&&◌, ◌||◌, ℕ, zero, suc, max, Bool, true, false, cond, List, [], ◌∷◌, ◌++◌, length, filter, refl, sym, ◌∙◌, ap, inl, inr, arith}
use Rattle.std.specs.Prelude.{nat_lt, nat_le}
use Rattle.std.specs.List.{AllByRecursion, fold, list_all, range_with_len}
use Rattle.std.proofs.lemmas.Bool.{cases_lt, le-leb, lt-ltb}
use Rattle.std.proofs.lemmas.Bool.Decides.{eqb_tells}
use Rattle.std.proofs.lemmas.List.{append-nil, length-append}
use Rattle.codestream_model.proofs.TreeLemmas.{either, same_number}
use Rattle.stream_model.specs.Arrivals.{has_arrived, highest_arrival, in_time, floor, base, positions_in_time}
use Rattle.stream_model.proofs.InTime.{clear, clear-cons, clear_unseen, arrived-append, in_time_stays}
use Rattle.stream_model.proofs.Bases.{start-le-fold, not_true, not_both, le_by, base_is_late, below_base, base-le-late, in_time-le-highest}
use Rattle.stream_model.proofs.Decided.{decided_seen, below_base_is_decided}
use Rattle.stream_model.proofs.DueGrows.{filter-append, none_left}
use Rattle.stream_model.proofs.CutStreams.{range_append}

-- what didn't arrive isn't in time
pub not_arrived : (events : List ℕ) (i window : ℕ) → has_arrived events i ≡ false → in_time events i window ≡ false
not_arrived events i window e = rw e refl

-- an arrival changes no other position
pub other_position : (events : List ℕ) (a i window : ℕ) → (a ≡ i → ⊥) → in_time (events ++ a ∷ []) i window ≡ in_time events i window
other_position events a i window n = elim (either (has_arrived events i)) [
  | inl t ↦ decided_seen events (a ∷ []) i window t
  | inr t ↦
      let m : (a == i) ≡ false = elim (eqb_tells a i) [ inl e ↦ absurd (n e.1) | inr e ↦ e.0 ] in
      let none : has_arrived (events ++ a ∷ []) i ≡ false = arrived-append events (a ∷ []) i ∙ rw (t, m) refl in
      not_arrived (events ++ a ∷ []) i window none ∙ sym (not_arrived events i window t)
]

-- all arrivals are below what is above the highest
pub all_below : (b m : ℕ) (xs : List ℕ) → fold max b xs < m → list_all (λ x. nat_lt x m) xs ≡ true
all_below b m [] h = refl
all_below b m (x ∷ xs) h =
    let s = start-le-fold (max b x) xs in
    let e : nat_lt x m ≡ true = lt-ltb x m (omega (arith, h, s)) in
    rw e (all_below (max b x) m xs h)

-- both of two tests
two_parts : (b c : Bool) → (b && c) ≡ true → (b ≡ true) × (c ≡ true)
two_parts true c e = (refl, e)
two_parts false c e = absurd (cc)

-- so nothing is too far ahead
clear_by : (b c d : Bool) → c ≡ true → d ≡ true → cond b true (c && d) ≡ true
clear_by true c d e f = refl
clear_by false c d e f = rw (e, f) refl

-- by the arrivals one after another
clear_all : (i window : ℕ) (xs : List ℕ) → list_all (λ x. nat_lt x (i + window)) xs ≡ true → clear i window xs ≡ true
clear_all i window [] h = refl
clear_all i window (x ∷ xs) h =
    let p = two_parts (nat_lt x (i + window)) (list_all (λ x. nat_lt x (i + window)) xs) h in
    clear-cons i window x xs ∙ clear_by (x == i) (nat_lt x (i + window)) (clear i window xs) p.0 (clear_all i window xs p.1)

-- a position at or above the base that isn't in time hasn't arrived, and is in time once it arrives
pub new_arrival : (x : ℕ) (xs : List ℕ) (a window : ℕ) → base (x ∷ xs) window ≤ a → in_time (x ∷ xs) a window ≡ false → in_time ((x ∷ xs) ++ a ∷ []) a window ≡ true
new_arrival x xs a window low late =
    let events = x ∷ xs in
    let free : list_all (λ y. nat_lt y (a + window)) events ≡ true = all_below 0 (a + window) events (omega (arith, low)) in
    let first : nat_le x a ≡ true = le-leb x a (omega (arith, low)) in
    let here : (a == a) ≡ true = same_number a in
    elim (either (has_arrived events a)) [
      | inl t ↦ let c = clear_all a window events free in let yes : in_time events a window ≡ true = rw (t, first, c) refl in absurd (cc)
      | inr t ↦
          let one : clear a window (a ∷ []) ≡ true = clear-cons a window a [] ∙ rw here refl in
          let c : clear a window (events ++ a ∷ []) ≡ true = clear_unseen a window events (a ∷ []) t ∙ rw (free, one) refl in
          let s : has_arrived (events ++ a ∷ []) a ≡ true = arrived-append events (a ∷ []) a ∙ rw (t, here) refl in
          rw (s, first, c) refl
    ]

-- the first arrival alone
pub alone : (a window : ℕ) → in_time (a ∷ []) a window ≡ true
alone a window =
    let here : (a == a) ≡ true = same_number a in
    let first : nat_le a a ≡ true = le-leb a a (omega arith) in
    let one : clear a window (a ∷ []) ≡ true = clear-cons a window a [] ∙ rw here refl in
    rw (one, first, here) refl

-- the base is the position from the floor on that isn't in time, where all before it are
pub base_is : (events : List ℕ) (window q : ℕ) → floor events window ≤ q → in_time events q window ≡ false → ((i : ℕ) → floor events window ≤ i → i < q → in_time events i window ≡ true) → base events window ≡ q
base_is events window q low late all =
    let most : base events window ≤ q = base-le-late events window q low late in
    let least : q ≤ base events window = le_by (base events window) q (λ less. not_both (in_time events (base events window) window) (all (base events window) (omega arith) less) (base_is_late events window)) in
    omega arith

-- the highest arrival with one more
pub highest-append : (b a : ℕ) (xs : List ℕ) → fold max b (xs ++ a ∷ []) ≡ max (fold max b xs) a
highest-append b a [] = refl
highest-append b a (x ∷ xs) = highest-append (max b x) a xs

-- the base isn't above the highest arrival by more than one
pub base_most : (x : ℕ) (xs : List ℕ) (window : ℕ) → 1 ≤ window → base (x ∷ xs) window ≤ highest_arrival (x ∷ xs) + 1
base_most x xs window some =
    let top = highest_arrival (x ∷ xs) + 1 in
    let first = start-le-fold (max 0 x) xs in
    base-le-late (x ∷ xs) window top (omega (arith, first)) (not_true (in_time (x ∷ xs) top window) (λ t. let m = in_time-le-highest (x ∷ xs) top window t in omega (arith, m)))

-- an old arrival changes nothing: what was in time,
pub old_position : (x : ℕ) (xs : List ℕ) (a i window : ℕ) → 1 ≤ window → (a < base (x ∷ xs) window) ⊎ (in_time (x ∷ xs) a window ≡ true) → in_time ((x ∷ xs) ++ a ∷ []) i window ≡ in_time (x ∷ xs) i window
old_position x xs a i window some old = elim (eqb_tells a i) [
  | inr n ↦ other_position (x ∷ xs) a i window n.1
  | inl e ↦ elim old [
    | inl low ↦ below_base_is_decided (x ∷ xs) (a ∷ []) i window some (omega (arith, e.1, low))
    | inr t ↦ let u : in_time (x ∷ xs) i window ≡ true = ap (λ k. in_time (x ∷ xs) k window) (sym e.1) ∙ t in in_time_stays (x ∷ xs) (a ∷ []) i window u ∙ sym u
  ]
]

-- and the base
pub old_base : (x : ℕ) (xs : List ℕ) (a window : ℕ) → 1 ≤ window → (a < base (x ∷ xs) window) ⊎ (in_time (x ∷ xs) a window ≡ true) → base ((x ∷ xs) ++ a ∷ []) window ≡ base (x ∷ xs) window
old_base x xs a window some old =
    let events = x ∷ xs in
    let top = highest-append 0 a events in
    let most = base_most x xs window some in
    let known : a ≤ highest_arrival events = elim old [ inl low ↦ omega (arith, low, most) | inr t ↦ in_time-le-highest events a window t ] in
    let same : floor (events ++ a ∷ []) window ≡ floor events window = omega (arith, top, known) in
    base_is (events ++ a ∷ []) window (base events window) (omega (arith, same))
    (old_position x xs a (base events window) window some old ∙ base_is_late events window)
    (λ i low less. old_position x xs a i window some old ∙ below_base events window i (omega (arith, same, low)) less)

-- how many positions are in time, of the first n
same_filter : (t u : ℕ → Bool) (a n : ℕ) → ((i : ℕ) → a ≤ i → i < a + n → t i ≡ u i) → filter t (range_with_len a n) ≡ filter u (range_with_len a n)
same_filter t u a zero h = refl
same_filter t u a (suc n) h =
    ap (λ b. cond b (a ∷ filter t (range_with_len (a + 1) n)) (filter t (range_with_len (a + 1) n))) (h a (omega arith) (omega arith))
    ∙ ap (λ l. cond (u a) (a ∷ l) l) (same_filter t u (a + 1) n (λ i low high. h i (omega arith) (omega arith)))

-- none of a range passes
pub none_of : (t : ℕ → Bool) (a n : ℕ) → ((i : ℕ) → a ≤ i → t i ≡ false) → AllByRecursion (λ i. t i ≡ false) (range_with_len a n)
none_of t a zero h = tt
none_of t a (suc n) h = (h a (omega arith), none_of t (a + 1) n (λ i low. h i (omega arith)))

-- none of them is above the highest arrival
count_to : (events : List ℕ) (window m : ℕ) → highest_arrival events + 1 ≤ m → length (filter (λ i. in_time events i window) (range_with_len 0 m)) ≡ length (positions_in_time events window)
count_to events window m high =
    let t : ℕ → Bool = λ i. in_time events i window in
    let k = highest_arrival events + 1 in
    let e : m ≡ k + (m - k) = omega arith in
    let none = none_left t (range_with_len (0 + k) (m - k)) (none_of t (0 + k) (m - k) (λ i low. not_true (t i) (λ u. let h = in_time-le-highest events i window u in omega (arith, h)))) in
    ap (λ n. length (filter t (range_with_len 0 n))) e
    ∙ (ap (λ l. length (filter t l)) (range_append 0 k (m - k))
    ∙ (ap length (filter-append t (range_with_len 0 k) (range_with_len (0 + k) (m - k))) ∙ (ap (λ l. length (filter t (range_with_len 0 k) ++ l)) none ∙ ap length (append-nil (filter t (range_with_len 0 k))))))

-- one more is one more
pub one_more : (t u : ℕ → Bool) (a m : ℕ) → a < m → t a ≡ false → u a ≡ true → ((i : ℕ) → (a ≡ i → ⊥) → u i ≡ t i) → length (filter u (range_with_len 0 m)) ≡ length (filter t (range_with_len 0 m)) + 1
one_more t u a m low late now same =
    let n = m - a - 1 in
    let e : m ≡ a + suc n = omega arith in
    let z : 0 + a ≡ a = omega arith in
    let split : range_with_len 0 m ≡ range_with_len 0 a ++ a ∷ range_with_len (a + 1) n = ap (range_with_len 0) e ∙ (range_append 0 a (suc n) ∙ ap (λ k. range_with_len 0 a ++ k ∷ range_with_len (k + 1) n) z) in
    let before = same_filter u t 0 a (λ i l h. same i (λ s. omega (arith, s, h))) in
    let behind = same_filter u t (a + 1) n (λ i l h. same i (λ s. omega (arith, s, l))) in
    let us : filter u (range_with_len 0 m) ≡ filter t (range_with_len 0 a) ++ a ∷ filter t (range_with_len (a + 1) n) =
    ap (filter u) split ∙ (filter-append u (range_with_len 0 a) (a ∷ range_with_len (a + 1) n)
    ∙ (ap (λ l. l ++ filter u (a ∷ range_with_len (a + 1) n)) before ∙ ap (λ l. filter t (range_with_len 0 a) ++ l) (rw now (ap (λ l. a ∷ l) behind)))) in
    let ts : filter t (range_with_len 0 m) ≡ filter t (range_with_len 0 a) ++ filter t (range_with_len (a + 1) n) =
    ap (filter t) split ∙ (filter-append t (range_with_len 0 a) (a ∷ range_with_len (a + 1) n) ∙ ap (λ l. filter t (range_with_len 0 a) ++ l) (rw late refl)) in
    omega (arith, ap length us, ap length ts, length-append (filter t (range_with_len 0 a)) (a ∷ filter t (range_with_len (a + 1) n)), length-append (filter t (range_with_len 0 a)) (filter t (range_with_len (a + 1) n)))

-- an arrival in time is counted
pub new_count : (x : ℕ) (xs : List ℕ) (a window : ℕ) → base (x ∷ xs) window ≤ a → in_time (x ∷ xs) a window ≡ false → length (positions_in_time ((x ∷ xs) ++ a ∷ []) window) ≡ length (positions_in_time (x ∷ xs) window) + 1
new_count x xs a window low late =
    let events = x ∷ xs in
    let m = highest_arrival (events ++ a ∷ []) + 1 in
    let top = highest-append 0 a events in
    one_more (λ i. in_time events i window) (λ i. in_time (events ++ a ∷ []) i window) a m (omega (arith, top)) late (new_arrival x xs a window low late) (λ i n. other_position events a i window n)
    ∙ ap (λ k. k + 1) (count_to events window m (omega (arith, top)))

-- and an old one isn't
pub old_count : (x : ℕ) (xs : List ℕ) (a window : ℕ) → 1 ≤ window → (a < base (x ∷ xs) window) ⊎ (in_time (x ∷ xs) a window ≡ true) → length (positions_in_time ((x ∷ xs) ++ a ∷ []) window) ≡ length (positions_in_time (x ∷ xs) window)
old_count x xs a window some old =
    let events = x ∷ xs in
    let m = highest_arrival (events ++ a ∷ []) + 1 in
    let top = highest-append 0 a events in
    ap length (same_filter (λ i. in_time (events ++ a ∷ []) i window) (λ i. in_time events i window) 0 m (λ i l h. old_position x xs a i window some old))
    ∙ count_to events window m (omega (arith, top))

-- one of two holds
either_of : (b c : Bool) → c ≡ true → (b || c) ≡ true
either_of true c e = refl
either_of false c e = e

-- the first of two holds
either_first : (b c : Bool) → b ≡ true → (b || c) ≡ true
either_first b c e = rw e refl

-- the greatest of numbers is one of them
greatest : (b : ℕ) (xs : List ℕ) → (fold max b xs ≡ b) ⊎ (has_arrived xs (fold max b xs) ≡ true)
greatest b [] = inl refl
greatest b (x ∷ xs) = elim (greatest (max b x) xs) [
  | inr t ↦ inr (either_of (x == fold max (max b x) xs) (has_arrived xs (fold max (max b x) xs)) t)
  | inl e ↦ elim (cases_lt b x) [
    | inr most ↦ inl (omega (arith, e, most))
    | inl less ↦ let s : x ≡ fold max (max b x) xs = omega (arith, e, less) in let t : (x == fold max (max b x) xs) ≡ true = ap (λ k. x == k) (sym s) ∙ same_number x in inr (rw t refl)
  ]
]

-- the highest arrival is in time
pub highest_in_time : (x : ℕ) (xs : List ℕ) (window : ℕ) → 1 ≤ window → in_time (x ∷ xs) (highest_arrival (x ∷ xs)) window ≡ true
highest_in_time x xs window some =
    let events = x ∷ xs in
    let h = highest_arrival events in
    let low = start-le-fold (max 0 x) xs in
    let first : nat_le x h ≡ true = le-leb x h (omega (arith, low)) in
    let c : clear h window events ≡ true = clear_all h window events (all_below 0 (h + window) events (omega arith)) in
    let there : has_arrived events h ≡ true = elim (greatest 0 events) [
      | inr t ↦ t
      | inl e ↦ let s : x ≡ h = omega (arith, low, e) in let t : (x == h) ≡ true = ap (λ k. x == k) (sym s) ∙ same_number x in either_first (x == h) (has_arrived xs h) t
    ] in
    rw (there, first, c) refl
