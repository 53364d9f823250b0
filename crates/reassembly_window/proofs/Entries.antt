-- What is held, in the places and by its numbers.
use Rattle.std.proofs.Common.{◌≡◌, ◌⊎◌, ◌<◌, ◌≤◌, ◌+◌, ◌-◌, ◌%◌, ◌^◌, ◌==◌, ◌||◌, ℕ, zero, suc, min, max, Bool, true, false, not, List, [], ◌∷◌, ◌++◌, map, filter, length, take, drop, set, replicate, nat_lt, Option, Some, None, refl, sym, ◌∙◌, ap, ap₂, inl, inr, arith, if◌then◌else◌}
use Rattle.std.specs.Prelude.{find}
use Rattle.std.specs.List.{fold}
use Rattle.std.proofs.lemmas.Bool.{cases_lt, lt-ltb, le-ltb, eq-eqb}
use Rattle.std.proofs.lemmas.Bool.Decides.{eqb_tells}
use Rattle.stream_model.specs.Window.{Held, ahead, insert, is_held}
use Rattle.reassembly_window.specs.Slots.{entries, is_filled, front, lead, reach, reach_after, filled_count}

-- the number of a place
abbrev pub number : ℕ → ℕ → ℕ
number base d = (base + d) % 2 ^ 24

abbrev pub entry : {T : Type 0} → ℕ → ℕ → T → Held T
entry base d x = record { number = number base d; item = x }

-- it is so far ahead
pub ahead-number : (base d : ℕ) → base < 2 ^ 24 → d < 2 ^ 24 → ahead base (number base d) ≡ d
ahead-number base d b few = let e : ((base + d) % 16777216 + 16777216 - base) % 16777216 ≡ d = omega arith in e

-- no two places have one number
number_test : (base i j : ℕ) → base < 2 ^ 24 → i < 2 ^ 24 → j < 2 ^ 24 → (number base i == number base j) ≡ (i == j)
number_test base i j b a c = elim (eqb_tells i j) [
  | inl t ↦ let e : (number base i == number base j) ≡ true = eq-eqb (number base i) (number base j) (ap (number base) t.1) in e ∙ sym t.0
  | inr t ↦ elim (eqb_tells (number base i) (number base j)) [
    | inl u ↦ absurd (t.1 (let v : (base + i) % 16777216 ≡ (base + j) % 16777216 = u.1 in omega arith))
    | inr u ↦ u.0 ∙ sym t.0
  ]
]

-- a number that comes before all of them is put before them
insert_first : {T : Type 0} (base d e : ℕ) (x : T) (s : List (Option T)) → base < 2 ^ 24 → d < e → e + length s ≤ 2 ^ 24 → insert base (entry base d x) (entries base e s) ≡ entry base d x ∷ entries base e s
insert_first base d e x [] b less few = refl
insert_first base d e x (None ∷ s) b less few = insert_first base d (e + 1) x s b (omega arith) (omega arith)
insert_first base d e x (Some y ∷ s) b less few =
    let f = ahead-number base d b (omega arith) in
    let g = ahead-number base e b (omega arith) in
    let t : nat_lt d e ≡ true = lt-ltb d e less in
    ap (λ (c : Bool). if c then entry base d x ∷ entry base e y ∷ entries base (e + 1) s else entry base e y ∷ insert base (entry base d x) (entries base (e + 1) s)) (ap₂ nat_lt f g ∙ t)

-- what is put into a place takes its place among what is held
pub entries-set : {T : Type 0} (base e d : ℕ) (x : T) (s : List (Option T)) → base < 2 ^ 24 → d < length s → e + length s ≤ 2 ^ 24 → is_filled d s ≡ false → entries base e (set s d (Some x)) ≡ insert base (entry base (e + d) x) (entries base e s)
entries-set base e d x [] b less few empty = absurd (omega arith)
entries-set base e zero x (Some y ∷ s) b less few empty = absurd (cc)
entries-set base e zero x (None ∷ s) b less few empty =
    let z : e ≡ e + 0 = omega arith in
    ap (λ k. entry base k x ∷ entries base (e + 1) s) z ∙ sym (insert_first base (e + 0) (e + 1) x s b (omega arith) (omega arith))
entries-set base e (suc d) x (None ∷ s) b less few empty =
    let z : e + 1 + d ≡ e + suc d = omega arith in
    entries-set base (e + 1) d x s b (omega arith) (omega arith) empty ∙ ap (λ k. insert base (entry base k x) (entries base (e + 1) s)) z
entries-set base e (suc d) x (Some y ∷ s) b less few empty =
    let z : e + 1 + d ≡ e + suc d = omega arith in
    let f = ahead-number base (e + suc d) b (omega arith) in
    let g = ahead-number base e b (omega arith) in
    let t : nat_lt (e + suc d) e ≡ false = le-ltb (e + suc d) e (omega arith) in
    ap (λ l. entry base e y ∷ l) (entries-set base (e + 1) d x s b (omega arith) (omega arith) empty ∙ ap (λ k. insert base (entry base k x) (entries base (e + 1) s)) z)
    ∙ sym (ap (λ (c : Bool). if c then entry base (e + suc d) x ∷ entry base e y ∷ entries base (e + 1) s else entry base e y ∷ insert base (entry base (e + suc d) x) (entries base (e + 1) s)) (ap₂ nat_lt f g ∙ t))

-- a number before them isn't held
not_held : {T : Type 0} (base d e : ℕ) (s : List (Option T)) → base < 2 ^ 24 → d < e → e + length s ≤ 2 ^ 24 → is_held (number base d) (entries base e s) ≡ false
not_held base d e [] b less few = refl
not_held base d e (None ∷ s) b less few = not_held base d (e + 1) s b (omega arith) (omega arith)
not_held base d e (Some y ∷ s) b less few =
    let t : (e == d) ≡ false = elim (eqb_tells e d) [ inl u ↦ absurd (omega (arith, u.1)) | inr u ↦ u.0 ] in
    ap₂ ◌||◌ (number_test base e d b (omega arith) (omega arith) ∙ t) (not_held base d (e + 1) s b (omega arith) (omega arith))

-- a number is held where its place is filled
pub is_held-number : {T : Type 0} (base e d : ℕ) (s : List (Option T)) → base < 2 ^ 24 → d < length s → e + length s ≤ 2 ^ 24 → is_held (number base (e + d)) (entries base e s) ≡ is_filled d s
is_held-number base e d [] b less few = absurd (omega arith)
is_held-number base e zero (None ∷ s) b less few = let z : e + 0 ≡ e = omega arith in ap (λ k. is_held (number base k) (entries base (e + 1) s)) z ∙ not_held base e (e + 1) s b (omega arith) (omega arith)
is_held-number base e zero (Some x ∷ s) b less few =
    let t : (e == (e + 0)) ≡ true = eq-eqb e (e + 0) (omega arith) in
    ap (λ c. c || is_held (number base (e + 0)) (entries base (e + 1) s)) (number_test base e (e + 0) b (omega arith) (omega arith) ∙ t)
is_held-number base e (suc d) (None ∷ s) b less few = let z : e + suc d ≡ e + 1 + d = omega arith in ap (λ k. is_held (number base k) (entries base (e + 1) s)) z ∙ is_held-number base (e + 1) d s b (omega arith) (omega arith)
is_held-number base e (suc d) (Some x ∷ s) b less few =
    let z : e + suc d ≡ e + 1 + d = omega arith in
    let t : (e == (e + suc d)) ≡ false = elim (eqb_tells e (e + suc d)) [ inl u ↦ absurd (omega (arith, u.1)) | inr u ↦ u.0 ] in
    ap₂ ◌||◌ (number_test base e (e + suc d) b (omega arith) (omega arith) ∙ t) (ap (λ k. is_held (number base k) (entries base (e + 1) s)) z ∙ is_held-number base (e + 1) d s b (omega arith) (omega arith))

base_test : (base e : ℕ) → base < 2 ^ 24 → 0 < e → e < 2 ^ 24 → (number base e == base) ≡ false
base_test base e b less few = elim (eqb_tells (number base e) base) [
  | inl u ↦ absurd (let v : (base + e) % 16777216 ≡ base = u.1 in omega arith)
  | inr u ↦ u.0
]

-- nothing is found or left out where nothing has the number
find_none : {T : Type 0} (base e : ℕ) (s : List (Option T)) → base < 2 ^ 24 → 0 < e → e + length s ≤ 2 ^ 24 → find (λ h. h.number == base) (entries base e s) ≡ None
find_none base e [] b less few = refl
find_none base e (None ∷ s) b less few = find_none base (e + 1) s b (omega arith) (omega arith)
find_none base e (Some y ∷ s) b less few =
    ap (λ (c : Bool). if c then Some (entry base e y) else find (λ h. h.number == base) (entries base (e + 1) s)) (base_test base e b less (omega arith)) ∙ find_none base (e + 1) s b (omega arith) (omega arith)

filter_all : {T : Type 0} (base e : ℕ) (s : List (Option T)) → base < 2 ^ 24 → 0 < e → e + length s ≤ 2 ^ 24 → filter (λ h. not (h.number == base)) (entries base e s) ≡ entries base e s
filter_all base e [] b less few = refl
filter_all base e (None ∷ s) b less few = filter_all base (e + 1) s b (omega arith) (omega arith)
filter_all base e (Some y ∷ s) b less few =
    ap (λ (c : Bool). if not c then entry base e y ∷ filter (λ h. not (h.number == base)) (entries base (e + 1) s) else filter (λ h. not (h.number == base)) (entries base (e + 1) s)) (base_test base e b less (omega arith))
    ∙ ap (λ l. entry base e y ∷ l) (filter_all base (e + 1) s b (omega arith) (omega arith))

-- the first place has the base's own number
first_test : (base : ℕ) → base < 2 ^ 24 → (number base 0 == base) ≡ true
first_test base b = eq-eqb (number base 0) base (let v : (base + 0) % 16777216 ≡ base = omega arith in v)

pub find_first : {T : Type 0} (base : ℕ) (s : List (Option T)) (x : T) → base < 2 ^ 24 → front s ≡ Some x → find (λ h. h.number == base) (entries base 0 s) ≡ Some (entry base 0 x)
find_first base [] x b e = absurd (cc)
find_first base (None ∷ s) x b e = absurd (cc)
find_first base (Some y ∷ s) x b e =
    ap (λ (c : Bool). if c then Some (entry base 0 y) else find (λ h. h.number == base) (entries base (0 + 1) s)) (first_test base b)
    ∙ ap (λ (o : Option _). elim o [ None ↦ None | Some z ↦ Some (entry base 0 z) ]) e

pub find_nothing : {T : Type 0} (base : ℕ) (s : List (Option T)) → base < 2 ^ 24 → length s < 2 ^ 24 → is_filled 0 s ≡ false → find (λ h. h.number == base) (entries base 0 s) ≡ None
find_nothing base [] b few e = refl
find_nothing base (None ∷ s) b few e = find_none base (0 + 1) s b (omega arith) (omega arith)
find_nothing base (Some y ∷ s) b few e = absurd (cc)

pub filter_first : {T : Type 0} (base : ℕ) (s : List (Option T)) → base < 2 ^ 24 → length s < 2 ^ 24 → is_filled 0 s ≡ true → filter (λ h. not (h.number == base)) (entries base 0 s) ≡ entries base 1 (drop 1 s)
filter_first base [] b few e = absurd (cc)
filter_first base (None ∷ s) b few e = absurd (cc)
filter_first base (Some y ∷ s) b few e =
    ap (λ (c : Bool). if not c then entry base 0 y ∷ filter (λ h. not (h.number == base)) (entries base (0 + 1) s) else filter (λ h. not (h.number == base)) (entries base (0 + 1) s)) (first_test base b)
    ∙ filter_all base (0 + 1) s b (omega arith) (omega arith)

-- places after the base are places of a later base
pub entries_moved : {T : Type 0} (base count e : ℕ) (s : List (Option T)) → base < 2 ^ 24 → entries base (count + e) s ≡ entries ((base + count) % 2 ^ 24) e s
entries_moved base count e [] b = refl
entries_moved base count e (None ∷ s) b = let z : count + e + 1 ≡ count + (e + 1) = omega arith in ap (λ k. entries base k s) z ∙ entries_moved base count (e + 1) s b
entries_moved base count e (Some x ∷ s) b =
    let z : count + e + 1 ≡ count + (e + 1) = omega arith in
    let n : number base (count + e) ≡ number ((base + count) % 2 ^ 24) e = (let m : (base + (count + e)) % 16777216 ≡ ((base + count) % 16777216 + e) % 16777216 = omega arith in m) in
    ap (λ k. (record { number = k; item = x }) ∷ entries base (count + e + 1) s) n
    ∙ ap (λ l. entry ((base + count) % 2 ^ 24) e x ∷ l) (ap (λ k. entries base k s) z ∙ entries_moved base count (e + 1) s b)

-- empty places at the end hold nothing
pub entries-append : {T : Type 0} (base e : ℕ) (s t : List (Option T)) → entries base e (s ++ t) ≡ entries base e s ++ entries base (e + length s) t
entries-append base e [] t = let z : e ≡ e + 0 = omega arith in ap (λ k. entries base k t) z
entries-append base e (None ∷ s) t = let z : e + 1 + length s ≡ e + suc (length s) = omega arith in entries-append base (e + 1) s t ∙ ap (λ k. entries base (e + 1) s ++ entries base k t) z
entries-append base e (Some x ∷ s) t = let z : e + 1 + length s ≡ e + suc (length s) = omega arith in ap (λ l. entry base e x ∷ l) (entries-append base (e + 1) s t ∙ ap (λ k. entries base (e + 1) s ++ entries base k t) z)

-- nothing is in the places before the first that is filled
pub entries-take : {T : Type 0} (base e k : ℕ) (s : List (Option T)) → k ≤ lead s → entries base e (take k s) ≡ []
entries-take base e zero s le = refl
entries-take base e (suc k) [] le = refl
entries-take base e (suc k) (None ∷ s) le = entries-take base (e + 1) k s (omega arith)
entries-take base e (suc k) (Some x ∷ s) le = absurd (omega arith)

pub entries-drop : {T : Type 0} (base e k : ℕ) (s : List (Option T)) → k ≤ lead s → entries base e s ≡ entries base (e + k) (drop k s)
entries-drop base e zero s le = let z : e ≡ e + 0 = omega arith in ap (λ j. entries base j s) z
entries-drop base e (suc k) [] le = refl
entries-drop base e (suc k) (None ∷ s) le = let z : e + 1 + k ≡ e + suc k = omega arith in entries-drop base (e + 1) k s (omega arith) ∙ ap (λ j. entries base j (drop k s)) z
entries-drop base e (suc k) (Some x ∷ s) le = absurd (omega arith)

-- nothing at all where none is filled
pub entries-none : {T : Type 0} (base e : ℕ) (s : List (Option T)) → length s ≤ lead s → entries base e s ≡ []
entries-none base e [] le = refl
entries-none base e (None ∷ s) le = entries-none base (e + 1) s (omega arith)
entries-none base e (Some x ∷ s) le = absurd (omega arith)

-- how far the nearest is ahead
fold_min : {T : Type 0} (base v e : ℕ) (s : List (Option T)) → base < 2 ^ 24 → v ≤ e → e + length s ≤ 2 ^ 24 → fold min v (map (λ h. ahead base h.number) (entries base e s)) ≡ v
fold_min base v e [] b le few = refl
fold_min base v e (None ∷ s) b le few = fold_min base v (e + 1) s b (omega arith) (omega arith)
fold_min base v e (Some x ∷ s) b le few =
    let f : min v (ahead base (number base e)) ≡ v = ap (λ k. min v k) (ahead-number base e b (omega arith)) ∙ omega arith in
    ap (λ k. fold min k (map (λ h. ahead base h.number) (entries base (e + 1) s))) f ∙ fold_min base v (e + 1) s b (omega arith) (omega arith)

suc_lt : (a b : ℕ) → nat_lt (suc a) (suc b) ≡ nat_lt a b
suc_lt a b = elim (cases_lt a b) [
  | inl t ↦ lt-ltb (suc a) (suc b) (omega arith) ∙ sym (lt-ltb a b t)
  | inr t ↦ le-ltb (suc a) (suc b) (omega arith) ∙ sym (le-ltb a b t)
]

pub gap_is : {T : Type 0} (base u e : ℕ) (s : List (Option T)) → base < 2 ^ 24 → e + length s ≤ 2 ^ 24
    → fold min u (map (λ h. ahead base h.number) (entries base e s)) ≡ (if nat_lt (lead s) (length s) then min u (e + lead s) else u)
gap_is base u e [] b few = refl
gap_is base u e (None ∷ s) b few =
    let z : e + 1 + lead s ≡ e + (lead s + 1) = omega arith in
    let t : nat_lt (lead s) (length s) ≡ nat_lt (lead s + 1) (suc (length s)) = (let n : lead s + 1 ≡ suc (lead s) = omega arith in sym (ap (λ k. nat_lt k (suc (length s))) n ∙ suc_lt (lead s) (length s))) in
    gap_is base u (e + 1) s b (omega arith) ∙ ap₂ (λ c k. if c then min u k else u) t z
gap_is base u e (Some x ∷ s) b few =
    let f : min u (ahead base (number base e)) ≡ min u (e + 0) = ap (λ k. min u k) (ahead-number base e b (omega arith) ∙ omega arith) in
    let t : nat_lt 0 (suc (length s)) ≡ true = lt-ltb 0 (suc (length s)) (omega arith) in
    ap (λ k. fold min k (map (λ h. ahead base h.number) (entries base (e + 1) s))) f
    ∙ (fold_min base (min u (e + 0)) (e + 1) s b (omega arith) (omega arith) ∙ sym (ap (λ (c : Bool). if c then min u (e + 0) else u) t))

reach_suc_of : {T : Type 0} (o : Option T) (n : ℕ) → 0 < n → reach_after o n ≡ suc n
reach_suc_of o zero some = absurd (omega arith)
reach_suc_of o (suc n) some = refl

-- how far the farthest is
pub reach_is : (T : Type 0) (base u e : ℕ) (s : List (Option T)) → base < 2 ^ 24 → e + length s ≤ 2 ^ 24
    → ((reach s ≡ 0) × (fold max u (map (λ h. ahead base h.number + 1) (entries base e s)) ≡ u)) ⊎ ((0 < reach s) × (fold max u (map (λ h. ahead base h.number + 1) (entries base e s)) ≡ max u (e + reach s)))
reach_is T base u e [] b few = inl (refl, refl)
reach_is T base u e (None ∷ s) b few = elim (reach_is T base u (e + 1) s b (omega arith)) [
  | inl (z, f) ↦ inl (ap (reach_after {T = T} None) z, f)
  | inr (some, f) ↦ let n : reach (None ∷ s) ≡ suc (reach s) = reach_suc_of {T = T} None (reach s) some in inr (omega (arith, n), f ∙ ap (λ k. max u k) (omega (arith, n)))
]
reach_is T base u e (Some x ∷ s) b few =
    let g : max u (ahead base (number base e) + 1) ≡ max u (e + 1) = ap (λ k. max u (k + 1)) (ahead-number base e b (omega arith)) in
    elim (reach_is T base (max u (e + 1)) (e + 1) s b (omega arith)) [
      | inl (z, f) ↦ let n : reach (Some x ∷ s) ≡ 1 = ap (reach_after (Some x)) z in inr (omega (arith, n), ap (λ k. fold max k (map (λ h. ahead base h.number + 1) (entries base (e + 1) s))) g ∙ (f ∙ ap (λ k. max u k) (omega (arith, n))))
      | inr (some, f) ↦ let n : reach (Some x ∷ s) ≡ suc (reach s) = reach_suc_of (Some x) (reach s) some in inr (omega (arith, n), ap (λ k. fold max k (map (λ h. ahead base h.number + 1) (entries base (e + 1) s))) g ∙ (f ∙ omega (arith, n)))
    ]

-- how many are held
pub length-entries : {T : Type 0} (base e : ℕ) (s : List (Option T)) → length (entries base e s) ≡ filled_count s
length-entries base e [] = refl
length-entries base e (None ∷ s) = length-entries base (e + 1) s
length-entries base e (Some x ∷ s) = omega (arith, length-entries base (e + 1) s)

pub filled_count-append : {T : Type 0} (s t : List (Option T)) → filled_count (s ++ t) ≡ filled_count s + filled_count t
filled_count-append [] t = omega arith
filled_count-append (None ∷ s) t = filled_count-append s t
filled_count-append (Some x ∷ s) t = omega (arith, filled_count-append s t)

pub filled_count-set : {T : Type 0} (s : List (Option T)) (d : ℕ) (x : T) → d < length s → is_filled d s ≡ false → filled_count (set s d (Some x)) ≡ filled_count s + 1
filled_count-set [] d x less e = absurd (omega arith)
filled_count-set (None ∷ s) zero x less e = refl
filled_count-set (Some y ∷ s) zero x less e = absurd (cc)
filled_count-set (None ∷ s) (suc d) x less e = filled_count-set s d x (omega arith) e
filled_count-set (Some y ∷ s) (suc d) x less e = omega (arith, filled_count-set s d x (omega arith) e)

pub filled_count-front : {T : Type 0} (s : List (Option T)) → is_filled 0 s ≡ true → filled_count (drop 1 s) + 1 ≡ filled_count s
filled_count-front [] e = absurd (cc)
filled_count-front (None ∷ s) e = absurd (cc)
filled_count-front (Some x ∷ s) e = refl

pub filled_count-most : {T : Type 0} (s : List (Option T)) → filled_count s ≤ length s
filled_count-most [] = omega arith
filled_count-most (None ∷ s) = omega (arith, filled_count-most s)
filled_count-most (Some x ∷ s) = omega (arith, filled_count-most s)

-- none where all places are empty
pub filled_count-replicate : (T : Type 0) (n : ℕ) → filled_count {T = T} (replicate n None) ≡ 0
filled_count-replicate T zero = refl
filled_count-replicate T (suc n) = filled_count-replicate T n

pub is_filled-replicate : (T : Type 0) (n d : ℕ) → is_filled {T = T} d (replicate n None) ≡ false
is_filled-replicate T zero d = refl
is_filled-replicate T (suc n) zero = refl
is_filled-replicate T (suc n) (suc d) = is_filled-replicate T n d

pub entries-replicate : (T : Type 0) (base e n : ℕ) → entries {T = T} base e (replicate n None) ≡ []
entries-replicate T base e zero = refl
entries-replicate T base e (suc n) = entries-replicate T base (e + 1) n

pub lead-most : {T : Type 0} (s : List (Option T)) → lead s ≤ length s
lead-most [] = omega arith
lead-most (None ∷ s) = omega (arith, lead-most s)
lead-most (Some x ∷ s) = omega arith

reach_step : {T : Type 0} (o : Option T) (n : ℕ) → reach_after o n ≤ n + 1
reach_step None zero = omega arith
reach_step (Some x) zero = omega arith
reach_step o (suc n) = omega arith

pub reach-most : {T : Type 0} (s : List (Option T)) → reach s ≤ length s
reach-most [] = omega arith
reach-most (x ∷ s) = let m = reach-most s in omega (arith, m, reach_step x (reach s))
