-- What is below the base is decided, and where the base is when everything arrived in order.
use Rattle.std.proofs.Common.{◌≡◌, ◌<◌, ◌≤◌, ◌⊎◌, ◌+◌, ◌-◌, ℕ, zero, suc, max, true, false, List, [], ◌∷◌, ◌++◌, refl, sym, ◌∙◌, inl, inr, arith}
use Rattle.std.specs.Prelude.{◌&&◌, nat_lt, nat_le}
use Rattle.std.specs.List.{fold, list_all, range_with_len}
use Rattle.std.proofs.lemmas.Bool.{leb-true, ltb-true}
use Rattle.stream_model.specs.Arrivals.{has_arrived, first_arrival, highest_arrival, in_time, floor, base}
use Rattle.stream_model.proofs.InTime.{clear, clear_seen, clear_unseen, parts, both, arrived_or_not, arrived-append, first-append}
use Rattle.stream_model.proofs.Bases.{not_true, not_both, le_by, base_is_late, below_base, base-le-late, in_time-le-highest}
use Rattle.stream_model.proofs.InOrder.{ordered_is_in_time}

-- numbers below a limit have their greatest below it
pub fold-below : (b m : ℕ) (xs : List ℕ) → b < m → list_all (λ a. nat_lt a m) xs ≡ true → fold max b xs < m
fold-below b m [] low h = low
fold-below b m (x ∷ xs) low h =
    let t : (nat_lt x m ≡ true) × (list_all (λ a. nat_lt a m) xs ≡ true) = both (nat_lt x m) (list_all (λ a. nat_lt a m) xs) h in
    let here : x < m = ltb-true x m t.0 in
    fold-below (max b x) m xs (omega arith) t.1

pub fold-range-below : (b m a n : ℕ) → b < m → a + n ≤ m → fold max b (range_with_len a n) < m
fold-range-below b m a zero low h = low
fold-range-below b m a (suc n) low h = fold-range-below (max b a) m (a + 1) n (omega arith) (omega arith)

-- in order and without loss the base is after the last
pub base_of_all : (n window : ℕ) → 1 ≤ window → base (range_with_len 0 n) window ≡ n
base_of_all zero window some = let z : 1 - window ≡ 0 = omega arith in rw z refl
base_of_all (suc n) window some =
    let events : List ℕ = range_with_len 0 (suc n) in
    let high : highest_arrival events < suc n = fold-range-below 0 (suc n) 0 (suc n) (omega arith) (omega arith) in
    let late : in_time events (suc n) window ≡ false = not_true (in_time events (suc n) window) (λ t. let k : suc n ≤ highest_arrival events = in_time-le-highest events (suc n) window t in omega arith) in
    let low : floor events window ≤ suc n = omega arith in
    let most : base events window ≤ suc n = base-le-late events window (suc n) low late in
    let least : suc n ≤ base events window = le_by (base events window) (suc n) (λ less. not_both (in_time events (base events window) window) (ordered_is_in_time (suc n) (base events window) window some less) (base_is_late events window)) in
    omega arith

-- a position that arrived is in time or it isn't, whatever follows
pub decided_seen : (events more : List ℕ) (i window : ℕ) → has_arrived events i ≡ true → in_time (events ++ more) i window ≡ in_time events i window
decided_seen events more i window seen =
    rw (arrived-append events more i, seen, first-append events more i seen, clear_seen i window events more seen)
    refl

-- and one below the base that didn't arrive never is
never_by : (more : List ℕ) (x : ℕ) (xs : List ℕ) (i window : ℕ) → 1 ≤ window → i < floor (x ∷ xs) window → has_arrived (x ∷ xs) i ≡ false → in_time ((x ∷ xs) ++ more) i window ≡ true → ⊥
never_by more x xs i window some low unseen t =
    let p : (has_arrived ((x ∷ xs) ++ more) i ≡ true) × ((nat_le x i && clear i window ((x ∷ xs) ++ more)) ≡ true) = parts (has_arrived ((x ∷ xs) ++ more) i) (nat_le x i) (clear i window ((x ∷ xs) ++ more)) t in
    let q : (nat_le x i ≡ true) × (clear i window ((x ∷ xs) ++ more) ≡ true) = both (nat_le x i) (clear i window ((x ∷ xs) ++ more)) p.1 in
    let above : x ≤ i = leb-true x i q.0 in
    let free : (list_all (λ a. nat_lt a (i + window)) (x ∷ xs) && clear i window more) ≡ true = sym (clear_unseen i window (x ∷ xs) more unseen) ∙ q.1 in
    let few : list_all (λ a. nat_lt a (i + window)) (x ∷ xs) ≡ true = (both (list_all (λ a. nat_lt a (i + window)) (x ∷ xs)) (clear i window more) free).0 in
    let high : fold max 0 (x ∷ xs) < i + window = fold-below 0 (i + window) (x ∷ xs) (omega arith) few in
    omega arith

lt_by : (a b : ℕ) → (b ≤ a → ⊥) → a < b
lt_by a b h = grind arith

never : (events more : List ℕ) (i window : ℕ) → 1 ≤ window → i < base events window → has_arrived events i ≡ false → in_time (events ++ more) i window ≡ false
never [] more i window some low unseen = let z : base [] window ≡ 0 = base_of_all 0 window some in absurd (omega arith)
never (x ∷ xs) more i window some low unseen =
    let late : in_time (x ∷ xs) i window ≡ false = not_true (in_time (x ∷ xs) i window) (λ t. not_both (has_arrived (x ∷ xs) i) (parts (has_arrived (x ∷ xs) i) (nat_le x i) (clear i window (x ∷ xs)) t).0 unseen) in
    let under : i < floor (x ∷ xs) window = lt_by i (floor (x ∷ xs) window) (λ h. not_both (in_time (x ∷ xs) i window) (below_base (x ∷ xs) window i h low) late) in
    not_true (in_time ((x ∷ xs) ++ more) i window) (never_by more x xs i window some under unseen)

decided_by : (events more : List ℕ) (i window : ℕ) → 1 ≤ window → i < base events window → ((has_arrived events i ≡ true) ⊎ (has_arrived events i ≡ false)) → in_time (events ++ more) i window ≡ in_time events i window
decided_by events more i window some low (inl seen) = decided_seen events more i window seen
decided_by events more i window some low (inr unseen) =
    never events more i window some low unseen
    ∙ sym (not_true (in_time events i window) (λ t. not_both (has_arrived events i) (parts (has_arrived events i) (nat_le (first_arrival events) i) (clear i window events) t).0 unseen))

pub below_base_is_decided : (events more : List ℕ) (i window : ℕ) → 1 ≤ window → i < base events window → in_time (events ++ more) i window ≡ in_time events i window
below_base_is_decided events more i window some low = decided_by events more i window some low (arrived_or_not (has_arrived events i))
