-- When a position is in time, by induction over the arrivals.
use Rattle.std.proofs.Common.{◌≡◌, ◌⊎◌, ◌+◌, ℕ, Bool, true, false, cond, not, List, [], ◌∷◌, ◌++◌, refl, sym, ap, ◌∙◌, inl, inr}
use Rattle.std.specs.Prelude.{◌==◌, ◌&&◌, ◌||◌, nat_lt, nat_le}
use Rattle.std.specs.List.{list_all, before_first}
use Rattle.std.proofs.lemmas.List.Sums.{take_while-cons}
use Rattle.std.proofs.lemmas.Bool.{eqb-true}
use Rattle.stream_model.specs.Arrivals.{has_arrived, first_arrival, in_time}

-- before the first arrival of a position no position arrived that is ahead of it by the window's size or more
abbrev pub clear : ℕ → ℕ → List ℕ → Bool
clear i window events = list_all (λ a. nat_lt a (i + window)) (before_first (λ a. a == i) events)

-- one arrival at a time
clear_by : (i window x : ℕ) (xs : List ℕ) (b : Bool) → list_all (λ a. nat_lt a (i + window)) (cond (not b) (x ∷ xs) []) ≡ cond b true (nat_lt x (i + window) && list_all (λ a. nat_lt a (i + window)) xs)
clear_by i window x xs true = refl
clear_by i window x xs false = refl

pub clear-cons : (i window x : ℕ) (xs : List ℕ) → clear i window (x ∷ xs) ≡ cond (x == i) true (nat_lt x (i + window) && clear i window xs)
clear-cons i window x xs =
    ap (list_all (λ a. nat_lt a (i + window))) (take_while-cons (λ a. not (a == i)) x xs)
    ∙ clear_by i window x (before_first (λ a. a == i) xs) (x == i)

-- where the position arrived, what follows doesn't matter;
clear_seen_by : (i window x : ℕ) (front back : List ℕ) (b : Bool) → (has_arrived front i ≡ true → clear i window (front ++ back) ≡ clear i window front) → (b || has_arrived front i) ≡ true → cond b true (nat_lt x (i + window) && clear i window (front ++ back)) ≡ cond b true (nat_lt x (i + window) && clear i window front)
clear_seen_by i window x front back true ih h = refl
clear_seen_by i window x front back false ih h = ap (λ c. nat_lt x (i + window) && c) (ih h)

pub clear_seen : (i window : ℕ) (front back : List ℕ) → has_arrived front i ≡ true → clear i window (front ++ back) ≡ clear i window front
clear_seen i window [] back h = absurd (cc)
clear_seen i window (x ∷ front) back h =
    rw (clear-cons i window x (front ++ back), clear-cons i window x front)
    (clear_seen_by i window x front back (x == i) (clear_seen i window front back) h)

-- and where it didn't, each arrival does
and_assoc : (a b c : Bool) → (a && (b && c)) ≡ ((a && b) && c)
and_assoc true b c = refl
and_assoc false b c = refl

clear_unseen_by : (i window x : ℕ) (front back : List ℕ) (b : Bool) → (has_arrived front i ≡ false → clear i window (front ++ back) ≡ (list_all (λ a. nat_lt a (i + window)) front && clear i window back)) → (b || has_arrived front i) ≡ false → cond b true (nat_lt x (i + window) && clear i window (front ++ back)) ≡ ((nat_lt x (i + window) && list_all (λ a. nat_lt a (i + window)) front) && clear i window back)
clear_unseen_by i window x front back true ih h = absurd (cc)
clear_unseen_by i window x front back false ih h = ap (λ c. nat_lt x (i + window) && c) (ih h) ∙ and_assoc (nat_lt x (i + window)) (list_all (λ a. nat_lt a (i + window)) front) (clear i window back)

pub clear_unseen : (i window : ℕ) (front back : List ℕ) → has_arrived front i ≡ false → clear i window (front ++ back) ≡ (list_all (λ a. nat_lt a (i + window)) front && clear i window back)
clear_unseen i window [] back h = refl
clear_unseen i window (x ∷ front) back h =
    rw (clear-cons i window x (front ++ back))
    (clear_unseen_by i window x front back (x == i) (clear_unseen i window front back) h)

-- a position has arrived or it hasn't
pub arrived_or_not : (b : Bool) → (b ≡ true) ⊎ (b ≡ false)
arrived_or_not true = inl refl
arrived_or_not false = inr refl

-- both of two tests
pub both : (a b : Bool) → (a && b) ≡ true → (a ≡ true) × (b ≡ true)
both true true e = (refl, refl)
both true false e = absurd (cc)
both false b e = absurd (cc)

or_assoc : (a b c : Bool) → (a || (b || c)) ≡ ((a || b) || c)
or_assoc true b c = refl
or_assoc false b c = refl

-- the three tests of being in time
pub parts : (a b c : Bool) → (a && b && c) ≡ true → (a ≡ true) × ((b && c) ≡ true)
parts true true true e = (refl, refl)
parts false b c e = absurd (cc)
parts true false c e = absurd (cc)
parts true true false e = absurd (cc)

-- who arrived in one part or the other
pub arrived-append : (front back : List ℕ) (i : ℕ) → has_arrived (front ++ back) i ≡ (has_arrived front i || has_arrived back i)
arrived-append [] back i = refl
arrived-append (x ∷ front) back i = ap (λ c. (x == i) || c) (arrived-append front back i) ∙ or_assoc (x == i) (has_arrived front i) (has_arrived back i)

-- the first arrival of two parts is that of the first, where it has one
pub first-append : (front back : List ℕ) (a : ℕ) → has_arrived front a ≡ true → first_arrival (front ++ back) ≡ first_arrival front
first-append [] back a h = absurd (cc)
first-append (x ∷ front) back a h = refl

-- what all arrivals have, one that arrived has
within_by : (p : ℕ → Bool) (x a : ℕ) (front : List ℕ) (b : Bool) → (b ≡ true → x ≡ a) → (list_all p front ≡ true → has_arrived front a ≡ true → p a ≡ true) → (p x && list_all p front) ≡ true → (b || has_arrived front a) ≡ true → p a ≡ true
within_by p x a front true e ih all h = let same : x ≡ a = e refl in ap p (sym same) ∙ (both (p x) (list_all p front) all).0
within_by p x a front false e ih all h = ih (both (p x) (list_all p front) all).1 h

pub within : (p : ℕ → Bool) (front : List ℕ) (a : ℕ) → list_all p front ≡ true → has_arrived front a ≡ true → p a ≡ true
within p [] a all h = absurd (cc)
within p (x ∷ front) a all h = within_by p x a front (x == a) (eqb-true x a) (within p front a) all h

-- a position that arrived isn't one that didn't
apart_by : (front : List ℕ) (a i : ℕ) → has_arrived front a ≡ true → has_arrived front i ≡ false → (b : Bool) → (b ≡ true → a ≡ i) → b ≡ false
apart_by front a i h n true e = absurd (let same : has_arrived front a ≡ has_arrived front i = ap (has_arrived front) (e refl) in cc)
apart_by front a i h n false e = refl

pub apart : (front : List ℕ) (a i : ℕ) → has_arrived front a ≡ true → has_arrived front i ≡ false → (a == i) ≡ false
apart front a i h n = apart_by front a i h n (a == i) (eqb-true a i)

-- an arrival after the first of its position changes nothing
dropped_by : (x y c : Bool) → (x ≡ true → y ≡ true) → (x && (y && c)) ≡ (x && c)
dropped_by true y c h = ap (λ b. b && c) (h refl)
dropped_by false y c h = refl

repeat_by : (front back : List ℕ) (a i window : ℕ) → has_arrived front a ≡ true → ((has_arrived front i ≡ true) ⊎ (has_arrived front i ≡ false)) → in_time (front ++ a ∷ back) i window ≡ in_time (front ++ back) i window
repeat_by front back a i window h (inl seen) =
    rw (arrived-append front (a ∷ back) i, arrived-append front back i, seen, first-append front (a ∷ back) a h, first-append front back a h, clear_seen i window front (a ∷ back) seen, clear_seen i window front back seen)
    refl
repeat_by front back a i window h (inr unseen) =
    let other : (a == i) ≡ false = apart front a i h unseen in
    let one : clear i window (a ∷ back) ≡ (nat_lt a (i + window) && clear i window back) = rw (clear-cons i window a back, other) refl in
    let rest : (list_all (λ x. nat_lt x (i + window)) front && (nat_lt a (i + window) && clear i window back)) ≡ (list_all (λ x. nat_lt x (i + window)) front && clear i window back) =
    dropped_by (list_all (λ x. nat_lt x (i + window)) front) (nat_lt a (i + window)) (clear i window back) (λ all. within (λ x. nat_lt x (i + window)) front a all h) in
    rw (arrived-append front (a ∷ back) i, arrived-append front back i, unseen, other, first-append front (a ∷ back) a h, first-append front back a h, clear_unseen i window front (a ∷ back) unseen, clear_unseen i window front back unseen, one, rest)
    refl

pub repeat_changes_nothing : (front back : List ℕ) (a i window : ℕ) → has_arrived front a ≡ true → in_time (front ++ a ∷ back) i window ≡ in_time (front ++ back) i window
repeat_changes_nothing front back a i window h =
    repeat_by front back a i window h (arrived_or_not (has_arrived front i))

-- what is in time stays in time
pub in_time_stays : (events more : List ℕ) (i window : ℕ) → in_time events i window ≡ true → in_time (events ++ more) i window ≡ true
in_time_stays events more i window h =
    let t : (has_arrived events i ≡ true) × ((nat_le (first_arrival events) i && clear i window events) ≡ true) = parts (has_arrived events i) (nat_le (first_arrival events) i) (clear i window events) h in
    let seen : has_arrived events i ≡ true = t.0 in
    rw (arrived-append events more i, seen, first-append events more i seen, clear_seen i window events more seen)
    t.1
