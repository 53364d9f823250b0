-- Thinning a stream on its way: what it takes away doesn't arrive.
use Rattle.std.proofs.Common.{◌≡◌, ◌<◌, ℕ, Bool, true, false, cond, List, [], ◌∷◌, map, length, refl, sym, ap, ◌∙◌}
use Rattle.std.specs.Prelude.{◌==◌, ◌&&◌, Some}
use Rattle.std.specs.List.{AllByRecursion, filter}
use Rattle.wire_model.specs.Thinning.{is_kept, kept}
use Rattle.stream_model.specs.Arrivals.{is_of_kind, source_of, picked, Arrive, datagram_at}

-- to filter what a function gives is to filter by what it gives
filtered_by : {A B : Type 0} (f : A → B) (x : A) (xs : List A) (rest : List B) (b : Bool) → rest ≡ map f xs → cond b (f x ∷ rest) rest ≡ map f (cond b (x ∷ xs) xs)
filtered_by f x xs rest true e = ap (λ ys. f x ∷ ys) e
filtered_by f x xs rest false e = e

pub filter-map : {A B : Type 0} (f : A → B) (p : B → Bool) (xs : List A) → filter p (map f xs) ≡ map f (filter (λ x. p (f x)) xs)
filter-map f p [] = refl
filter-map f p (x ∷ xs) = filtered_by f x (filter (λ y. p (f y)) xs) (filter p (map f xs)) (p (f x)) (filter-map f p xs)

-- what holds of each item holds of those that are left
kept_by : {A : Type 0} (P : A → Type 0) (x : A) (xs : List A) (b : Bool) → P x → AllByRecursion P xs → AllByRecursion P (cond b (x ∷ xs) xs)
kept_by P x xs true h k = (h, k)
kept_by P x xs false h k = k

pub all-filter : {A : Type 0} (P : A → Type 0) (p : A → Bool) (xs : List A) → AllByRecursion P xs → AllByRecursion P (filter p xs)
all-filter P p [] h = tt
all-filter P p (x ∷ xs) h = kept_by P x (filter p xs) (p x) h.0 (all-filter P p xs h.1)

-- a datagram that is thinned away is a position that doesn't arrive
pub thinned_does_not_arrive : (limit : ℕ) (datagrams frames : List (List ℕ)) (events : List ℕ) → Arrive datagrams frames events → Arrive datagrams (kept limit frames) (filter (λ i. is_kept limit (datagram_at datagrams i)) events)
thinned_does_not_arrive limit datagrams frames events r = record {
  within = all-filter (λ i. i < length datagrams) (λ i. is_kept limit (datagram_at datagrams i)) events r.within;
  each = ap (kept limit) r.each ∙ filter-map (datagram_at datagrams) (is_kept limit) events;
}

-- filters can change places
filter-cons : {A : Type 0} (p : A → Bool) (x : A) (xs : List A) (b : Bool) → filter p (cond b (x ∷ xs) xs) ≡ cond b (filter p (x ∷ xs)) (filter p xs)
filter-cons p x xs true = refl
filter-cons p x xs false = refl

swap_cases : {A : Type 0} (x : A) (ys : List A) (a b : Bool) → cond b (cond a (x ∷ ys) ys) ys ≡ cond a (cond b (x ∷ ys) ys) ys
swap_cases x ys true true = refl
swap_cases x ys true false = refl
swap_cases x ys false true = refl
swap_cases x ys false false = refl

pub filters-swap : {A : Type 0} (p q : A → Bool) (xs : List A) → filter p (filter q xs) ≡ filter q (filter p xs)
filters-swap p q [] = refl
filters-swap p q (x ∷ xs) =
    filter-cons p x (filter q xs) (q x)
    ∙ (swap_cases x (filter p (filter q xs)) (p x) (q x)
    ∙ (ap (λ ys. cond (p x) (cond (q x) (x ∷ ys) ys) ys) (filters-swap p q xs)
    ∙ sym (filter-cons q x (filter p xs) (p x))))

pub thinned_then_picked : (limit kind source : ℕ) (frames : List (List ℕ)) → picked kind (Some source) (kept limit frames) ≡ kept limit (picked kind (Some source) frames)
thinned_then_picked limit kind source frames = filters-swap (λ frame. is_of_kind kind frame && (source_of frame == source)) (is_kept limit) frames
