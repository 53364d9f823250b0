-- The base as a least position, and how it moves.
use Rattle.std.proofs.Common.{◌≡◌, ◌<◌, ◌≤◌, ◌⊎◌, ◌+◌, ◌-◌, ℕ, max, Bool, true, false, List, [], ◌∷◌, ◌++◌, length, get_or, refl, sym, ap, ◌∙◌, inl, inr, arith}
use Rattle.std.specs.Prelude.{◌==◌, ◌||◌, nat_le}
use Rattle.std.specs.List.{fold, prefix_len, range_with_len}
use Rattle.std.proofs.lemmas.List.Sums.{prefix_len_passes, prefix_len_stops, prefix_len-le-length}
use Rattle.std.proofs.lemmas.List.FromFn.{length-range_with_len, get_or-range_with_len}
use Rattle.std.proofs.lemmas.Bool.{eqb-true}
use Rattle.stream_model.specs.Arrivals.{has_arrived, first_arrival, highest_arrival, in_time, floor, base}
use Rattle.stream_model.proofs.InTime.{clear, parts, in_time_stays}

-- the greatest of numbers isn't below where it began,
pub start-le-fold : (b : ℕ) (xs : List ℕ) → b ≤ fold max b xs
start-le-fold b [] = omega arith
start-le-fold b (x ∷ xs) = let h : max b x ≤ fold max (max b x) xs = start-le-fold (max b x) xs in omega arith

-- nor below what arrived,
arrived-le_by : (b x i : ℕ) (xs : List ℕ) (c : Bool) → (c ≡ true → x ≡ i) → (has_arrived xs i ≡ true → i ≤ fold max (max b x) xs) → (c || has_arrived xs i) ≡ true → i ≤ fold max (max b x) xs
arrived-le_by b x i xs true e ih h = let s : x ≡ i = e refl in let m : max b x ≤ fold max (max b x) xs = start-le-fold (max b x) xs in omega arith
arrived-le_by b x i xs false e ih h = ih h

pub arrived-le : (b i : ℕ) (xs : List ℕ) → has_arrived xs i ≡ true → i ≤ fold max b xs
arrived-le b i [] h = absurd (cc)
arrived-le b i (x ∷ xs) h = arrived-le_by b x i xs (x == i) (eqb-true x i) (arrived-le (max b x) i xs) h

-- and grows with the numbers
pub fold-le-append : (b : ℕ) (xs ys : List ℕ) → fold max b xs ≤ fold max b (xs ++ ys)
fold-le-append b [] ys = start-le-fold b ys
fold-le-append b (x ∷ xs) ys = fold-le-append (max b x) xs ys

-- what is in time isn't above the highest arrival
pub in_time-le-highest : (events : List ℕ) (i window : ℕ) → in_time events i window ≡ true → i ≤ highest_arrival events
in_time-le-highest events i window h = arrived-le 0 i events (parts (has_arrived events i) (nat_le (first_arrival events) i) (clear i window events) h).0

-- a test that isn't true is false
pub not_true : (b : Bool) → (b ≡ true → ⊥) → b ≡ false
not_true true h = absurd (h refl)
not_true false h = refl

pub not_both : (b : Bool) → b ≡ true → b ≡ false → ⊥
not_both true h e = cc
not_both false h e = cc

-- how many positions from the floor up to the highest arrival there are, and how many from the floor on are in time
abbrev reach : List ℕ → ℕ → ℕ
reach events window = highest_arrival events + 1 - floor events window

abbrev run : List ℕ → ℕ → ℕ
run events window = prefix_len (λ i. in_time events i window) (range_with_len (floor events window) (reach events window))

run-le-reach : (events : List ℕ) (window : ℕ) → run events window ≤ reach events window
run-le-reach events window =
    let k : run events window ≤ length (range_with_len (floor events window) (reach events window)) = prefix_len-le-length (λ i. in_time events i window) (range_with_len (floor events window) (reach events window)) in
    omega (arith, length-range_with_len (floor events window) (reach events window))

-- the base isn't in time
base_is_late_by : (events : List ℕ) (window : ℕ) → ((run events window < reach events window) ⊎ (run events window ≡ reach events window)) → in_time events (base events window) window ≡ false
base_is_late_by events window (inl h) =
    let xs : List ℕ = range_with_len (floor events window) (reach events window) in
    let here : run events window < length xs = omega (arith, length-range_with_len (floor events window) (reach events window)) in
    let stop : in_time events (get_or xs (run events window) 0) window ≡ false = prefix_len_stops (λ i. in_time events i window) xs 0 here in
    let place : get_or xs (run events window) 0 ≡ base events window = get_or-range_with_len (floor events window) (reach events window) (run events window) 0 h in
    ap (λ i. in_time events i window) (sym place) ∙ stop
base_is_late_by events window (inr h) =
    not_true (in_time events (base events window) window)
    (λ t. let low : base events window ≤ highest_arrival events = in_time-le-highest events (base events window) window t in omega arith)

less_or_same : (a b : ℕ) → a ≤ b → (a < b) ⊎ (a ≡ b)
less_or_same a b h = grind arith

pub base_is_late : (events : List ℕ) (window : ℕ) → in_time events (base events window) window ≡ false
base_is_late events window = base_is_late_by events window (less_or_same (run events window) (reach events window) (run-le-reach events window))

-- what is below the base, from the floor on, is in time
pub below_base : (events : List ℕ) (window i : ℕ) → floor events window ≤ i → i < base events window → in_time events i window ≡ true
below_base events window i low high =
    let xs : List ℕ = range_with_len (floor events window) (reach events window) in
    let few : run events window ≤ reach events window = run-le-reach events window in
    let j : ℕ = i - floor events window in
    let here : j < run events window = omega arith in
    let there : j < reach events window = omega arith in
    let pass : in_time events (get_or xs j 0) window ≡ true = prefix_len_passes (λ i. in_time events i window) xs j 0 here in
    let same : floor events window + j ≡ i = omega arith in
    let place : get_or xs j 0 ≡ i = get_or-range_with_len (floor events window) (reach events window) j 0 there ∙ same in
    ap (λ i. in_time events i window) (sym place) ∙ pass

-- so the base is the least that isn't
pub le_by : (a b : ℕ) → (a < b → ⊥) → b ≤ a
le_by a b h = grind arith

pub base-le-late : (events : List ℕ) (window i : ℕ) → floor events window ≤ i → in_time events i window ≡ false → base events window ≤ i
base-le-late events window i low late = le_by i (base events window) (λ high. not_both (in_time events i window) (below_base events window i low high) late)

-- the floor never falls,
pub floor-le-append : (events more : List ℕ) (window : ℕ) → 1 ≤ window → floor events window ≤ floor (events ++ more) window
floor-le-append [] more window h = omega arith
floor-le-append (x ∷ xs) more window h = let m : fold max (max 0 x) xs ≤ fold max (max 0 x) (xs ++ more) = fold-le-append (max 0 x) xs more in omega arith

-- and no more does the base
pub base-le-append : (events more : List ℕ) (window : ℕ) → 1 ≤ window → base events window ≤ base (events ++ more) window
base-le-append events more window h =
    base-le-late events window (base (events ++ more) window)
    (let f : floor events window ≤ floor (events ++ more) window = floor-le-append events more window h in omega arith)
    (not_true (in_time events (base (events ++ more) window) window)
    (λ t. not_both (in_time (events ++ more) (base (events ++ more) window) window)
    (in_time_stays events more (base (events ++ more) window) window t)
    (base_is_late (events ++ more) window)))

-- the base, in words
pub base_is_least :
    (events : List ℕ) (window : ℕ)
    → (floor events window ≤ base events window)
    × (in_time events (base events window) window ≡ false)
    × ((i : ℕ) → floor events window ≤ i → in_time events i window ≡ false → base events window ≤ i)
base_is_least events window = (omega arith, base_is_late events window, base-le-late events window)
