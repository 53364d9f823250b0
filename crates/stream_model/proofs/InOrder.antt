-- Everything that arrives in order and without loss is in time; and what being in time says.
use Rattle.std.proofs.Common.{◌≡◌, ◌<◌, ◌≤◌, ◌≢◌, ◌+◌, ℕ, zero, suc, Bool, true, false, cond, List, [], ◌∷◌, ◌++◌, refl, sym, ap, ◌∙◌, arith}
use Rattle.std.specs.Prelude.{◌==◌, ◌&&◌, ◌||◌, ◌↔◌, nat_lt, nat_le}
use Rattle.std.specs.List.{AllByRecursion, list_all, range_with_len}
use Rattle.std.proofs.lemmas.Bool.{eqb-true, eq-eqb, lt-ltb, ltb-true, le-leb, leb-true}
use Rattle.stream_model.specs.Arrivals.{has_arrived, first_arrival, in_time}
use Rattle.stream_model.specs.Laws.{IsInTime}
use Rattle.stream_model.proofs.InTime.{clear, clear-cons, clear_unseen, parts, both, arrived-append}
use Rattle.stream_model.proofs.Bases.{not_true}

-- tests of numbers and of truth values
pub differ : (x i : ℕ) → (x == i) ≡ false → x ≢ i
differ x i e s = let t : (x == i) ≡ true = eq-eqb x i s in cc

pub no_test : (x i : ℕ) → x ≢ i → (x == i) ≡ false
no_test x i n = not_true (x == i) (λ t. n (eqb-true x i t))

pub three : (a b c : Bool) → a ≡ true → b ≡ true → c ≡ true → (a && b && c) ≡ true
three true true true h k l = refl
three false b c h k l = absurd (cc)
three true false c h k l = absurd (cc)
three true true false h k l = absurd (cc)

and_true : (a : Bool) → (a && true) ≡ a
and_true true = refl
and_true false = refl

or_true : (a : Bool) → (a || true) ≡ true
or_true true = refl
or_true false = refl

-- arrivals in which a position is: some without it, then it, then others
abbrev pub Found : ℕ → List ℕ → Type 0
Found i events = (before : List ℕ) × (after : List ℕ) × (events ≡ before ++ i ∷ after) × AllByRecursion (λ a. a ≢ i) before

-- each number of a range arrives with it
above_by : (a i : ℕ) → a ≤ i → (a ≡ i → ⊥) → a + 1 ≤ i
above_by a i low n = grind arith

above : (a i : ℕ) → a ≤ i → (a == i) ≡ false → a + 1 ≤ i
above a i low e = above_by a i low (differ a i e)

range_arrived_by : (a i : ℕ) (b c : Bool) → (b ≡ false → c ≡ true) → (b || c) ≡ true
range_arrived_by a i true c h = refl
range_arrived_by a i false c h = h refl

pub range_arrived : (a n i : ℕ) → a ≤ i → i < a + n → has_arrived (range_with_len a n) i ≡ true
range_arrived a zero i low high = absurd (omega arith)
range_arrived a (suc n) i low high =
    range_arrived_by a i (a == i) (has_arrived (range_with_len (a + 1) n) i)
    (λ e. range_arrived (a + 1) n i (above a i low e) (omega arith))

-- and none before it is ahead of it
range_clear_by : (b c d : Bool) → c ≡ true → (b ≡ false → d ≡ true) → cond b true (c && d) ≡ true
range_clear_by true c d h k = refl
range_clear_by false true d h k = k refl
range_clear_by false false d h k = absurd (cc)

pub range_clear : (a n i window : ℕ) → 1 ≤ window → a ≤ i → clear i window (range_with_len a n) ≡ true
range_clear a zero i window some low = refl
range_clear a (suc n) i window some low =
    rw (clear-cons i window a (range_with_len (a + 1) n))
    (range_clear_by (a == i) (nat_lt a (i + window)) (clear i window (range_with_len (a + 1) n)) (lt-ltb a (i + window) (omega arith))
    (λ e. range_clear (a + 1) n i window some (above a i low e)))

pub ordered_is_in_time : (n i window : ℕ) → 1 ≤ window → i < n → in_time (range_with_len 0 n) i window ≡ true
ordered_is_in_time zero i window some h = absurd (omega arith)
ordered_is_in_time (suc n) i window some h =
    let seen : has_arrived (range_with_len 0 (suc n)) i ≡ true = range_arrived 0 (suc n) i (omega arith) (omega arith) in
    let low : nat_le 0 i ≡ true = le-leb 0 i (omega arith) in
    let free : clear i window (range_with_len 0 (suc n)) ≡ true = range_clear 0 (suc n) i window some (omega arith) in
    three (has_arrived (range_with_len 0 (suc n)) i) (nat_le 0 i) (clear i window (range_with_len 0 (suc n))) seen low free

-- an arrival of a position has some before it in which the position isn't
seen_by : (i x : ℕ) (xs : List ℕ) (b : Bool) → (b ≡ true → x ≡ i) → (b ≡ false → x ≢ i) → (has_arrived xs i ≡ true → Found i xs) → (b || has_arrived xs i) ≡ true → Found i (x ∷ xs)
seen_by i x xs true e n ih h = ([], xs, ap (λ y. y ∷ xs) (e refl), tt)
seen_by i x xs false e n ih h = let f = ih h in (x ∷ f.0, f.1, ap (λ ys. x ∷ ys) f.2, (n refl, f.3))

pub seen : (i : ℕ) (events : List ℕ) → has_arrived events i ≡ true → Found i events
seen i [] h = absurd (cc)
seen i (x ∷ xs) h = seen_by i x xs (x == i) (eqb-true x i) (differ x i) (seen i xs) h

-- where a position isn't among them, it didn't arrive
pub unseen : (i : ℕ) (before : List ℕ) → AllByRecursion (λ a. a ≢ i) before → has_arrived before i ≡ false
unseen i [] h = refl
unseen i (x ∷ xs) h = rw (no_test x i h.0) (unseen i xs h.1)

-- what is clear, of arrivals that are split so
pub clear_split : (i window : ℕ) (before after : List ℕ) → AllByRecursion (λ a. a ≢ i) before → clear i window (before ++ i ∷ after) ≡ list_all (λ a. nat_lt a (i + window)) before
clear_split i window before after h =
    clear_unseen i window before (i ∷ after) (unseen i before h)
    ∙ (rw (clear-cons i window i after, eq-eqb i i refl) (and_true (list_all (λ a. nat_lt a (i + window)) before)))

in_reach : (n : ℕ) (xs : List ℕ) → list_all (λ a. nat_lt a n) xs ≡ true → AllByRecursion (λ a. a < n) xs
in_reach n [] h = tt
in_reach n (x ∷ xs) h = let t = both (nat_lt x n) (list_all (λ a. nat_lt a n) xs) h in (ltb-true x n t.0, in_reach n xs t.1)

reach_in : (n : ℕ) (xs : List ℕ) → AllByRecursion (λ a. a < n) xs → list_all (λ a. nat_lt a n) xs ≡ true
reach_in n [] h = refl
reach_in n (x ∷ xs) h = rw (lt-ltb x n h.0) (reach_in n xs h.1)

-- what is in time, in words
says_from : (events : List ℕ) (i window : ℕ) → in_time events i window ≡ true → IsInTime events i window
says_from events i window h =
    let t : (has_arrived events i ≡ true) × ((nat_le (first_arrival events) i && clear i window events) ≡ true) = parts (has_arrived events i) (nat_le (first_arrival events) i) (clear i window events) h in
    let f : Found i events = seen i events t.0 in
    let u : (nat_le (first_arrival events) i ≡ true) × (clear i window events ≡ true) = both (nat_le (first_arrival events) i) (clear i window events) t.1 in
    let free : list_all (λ a. nat_lt a (i + window)) f.0 ≡ true = sym (clear_split i window f.0 f.1 f.3) ∙ (ap (clear i window) (sym f.2) ∙ u.1) in
    record {
      before = f.0;
      after = f.1;
      splits = f.2;
      not_yet = f.3;
      in_reach = in_reach (i + window) f.0 free;
      not_below = leb-true (first_arrival events) i u.0;
    }

says_back : (events : List ℕ) (i window : ℕ) → IsInTime events i window → in_time events i window ≡ true
says_back events i window r =
    let here : has_arrived (r.before ++ i ∷ r.after) i ≡ true = arrived-append r.before (i ∷ r.after) i ∙ (rw (eq-eqb i i refl) (or_true (has_arrived r.before i))) in
    let there : has_arrived events i ≡ true = ap (λ xs. has_arrived xs i) r.splits ∙ here in
    let free : clear i window events ≡ true = ap (clear i window) r.splits ∙ (clear_split i window r.before r.after r.not_yet ∙ reach_in (i + window) r.before r.in_reach) in
    three (has_arrived events i) (nat_le (first_arrival events) i) (clear i window events) there (le-leb (first_arrival events) i r.not_below) free

pub in_time_is_computed : (events : List ℕ) (i window : ℕ) → (in_time events i window ≡ true) ↔ IsInTime events i window
in_time_is_computed events i window = (says_from events i window, says_back events i window)
