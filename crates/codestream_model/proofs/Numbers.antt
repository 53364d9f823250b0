-- The numbers of precincts: no two precincts share one, and none below the last is left out.
use Rattle.std.proofs.Common.{◌≡◌, ◌<◌, ◌≤◌, ◌+◌, ◌-◌, ◌*◌, ◌^◌, ℕ, zero, suc, Bool, true, List, [], ◌∷◌, length, refl, sym, ◌∙◌, ap, inl, inr, arith, mul-le-mul_right}
use Rattle.std.specs.Prelude.{nat_lt}
use Rattle.std.specs.List.{list_any, range_with_len}
use Rattle.std.proofs.lemmas.Bool.{cases_lt, cases_order, lt-ltb, ltb-true, or_cases, or_left, or_right}
use Rattle.std.proofs.lemmas.Nat.{same_from_place}
use Rattle.codestream_model.specs.Values.{Head, Place}
use Rattle.codestream_model.specs.Precincts.{precinct_count, IsPrecinct}
use Rattle.codestream_model.specs.PacketOrder.{sum_below, precincts_below, pid}
use Rattle.codestream_model.specs.SegmentTests.{pids_end}
use Rattle.codestream_model.specs.GeometryLaws.{PidsAreDistinct, PidsAreDense, GreatPidsAreFound}
use Rattle.codestream_model.proofs.Members.{Has, has_range, range_has}

-- the sum of one value more
sum_more : (f : ℕ → ℕ) (n : ℕ) → sum_below f (suc n) ≡ sum_below f n + f n
unfolding sum_below
sum_more f n = refl

-- and of none
sum_none : (f : ℕ → ℕ) → sum_below f 0 ≡ 0
unfolding sum_below
sum_none f = refl

-- a sum with a value in it is at least the sum before that value and the value
pub sum_grows : (f : ℕ → ℕ) (r n : ℕ) → r < n → sum_below f r + f r ≤ sum_below f n
sum_grows f r zero lt = absurd (omega arith)
sum_grows f r (suc n) lt = elim (cases_lt r n) [
  | inl below ↦ omega (arith, sum_grows f r n below, sum_more f n)
  | inr above ↦ let e : r ≡ n = omega arith in rw (e, sum_more f n) (omega arith)
]

-- two places in the values of a function, counted through, that are one
pub same_place_in : (f : ℕ → ℕ) (r k q j : ℕ) → k < f r → j < f q → sum_below f r + k ≡ sum_below f q + j → (r ≡ q) × (k ≡ j)
same_place_in f r k q j kb jb e = elim (cases_order r q) [
  | inl same ↦ (same, let s : sum_below f r ≡ sum_below f q = ap (sum_below f) same in omega arith)
  | inr (inl lt) ↦ absurd (omega (arith, sum_grows f r q lt))
  | inr (inr gt) ↦ absurd (omega (arith, sum_grows f q r gt))
]

-- each number below a sum is a place in the values
pub place_in : (f : ℕ → ℕ) (n s : ℕ) → s < sum_below f n → (r : ℕ) × (k : ℕ) × (r < n) × (k < f r) × (sum_below f r + k ≡ s)
place_in f zero s lt = absurd (omega (arith, sum_none f))
place_in f (suc n) s lt = elim (cases_lt s (sum_below f n)) [
  | inl below ↦ let p = place_in f n s below in (p.0, p.1, omega arith, p.3, p.4)
  | inr above ↦ (n, s - sum_below f n, omega arith, omega (arith, sum_more f n), omega arith)
]

-- precincts with the same three numbers are one
pub same_place : (p q : Place) → p.c ≡ q.c → p.r ≡ q.r → p.k ≡ q.k → p ≡ q
same_place p q c r k =
    let e : record { c = p.c; r = p.r; k = p.k } ≡ record { c = q.c; r = q.r; k = q.k } = cc in
    e

-- a component and a place in it, from their number
numbers_apart : (n c d s t : ℕ) → c < n → d < n → c + s * n ≡ d + t * n → (c ≡ d) × (s ≡ t)
numbers_apart n c d s t cb db e =
    let parts = same_from_place s c t d n cb db (omega arith) in
    (parts.1, parts.0)

-- two precincts have two numbers
pub pids_are_distinct : PidsAreDistinct
pids_are_distinct h p q a b e =
    let apart = numbers_apart (length h.steps) p.c q.c (precincts_below h p.c p.r + p.k) (precincts_below h q.c q.r + q.k) a.component b.component e in
    let b_number : q.k < precinct_count h p.c q.r = rw apart.0 b.number in
    let sums : precincts_below h p.c p.r + p.k ≡ precincts_below h p.c q.r + q.k = apart.1 ∙ ap (λ (c : ℕ). precincts_below h c q.r + q.k) (sym apart.0) in
    let same = same_place_in (precinct_count h p.c) p.r p.k q.r q.k a.number b_number sums in
    same_place p q apart.0 same.0 same.1

-- each number up to the last is that of a precinct
pub pids_are_dense : PidsAreDense
pids_are_dense h c s cb sb =
    let p = place_in (precinct_count h c) (h.levels + 1) s sb in
    (record { c = c; r = p.0; k = p.1 }, record { component = cb; resolution = omega arith; number = p.3 }, refl, ap (λ (t : ℕ). c + t * length h.steps) p.4)

-- a test that some item passes
pub any_has : {X : Type 0} (test : X → Bool) (xs : List X) → list_any test xs ≡ true → (x : X) × Has xs x × (test x ≡ true)
any_has test [] e = absurd (cc)
any_has test (x ∷ xs) e = elim (or_cases (test x) (list_any test xs) e) [
  | inl here ↦ (x, inl refl, here)
  | inr there ↦ let m = any_has test xs there in (m.0, inr m.1, m.2)
]

-- and some item passes where one does
pub has_any : {X : Type 0} (test : X → Bool) (xs : List X) (x : X) → Has xs x → test x ≡ true → list_any test xs ≡ true
has_any test [] x h e = absurd h
has_any test (y ∷ xs) x (inl same) e = or_left (test y) (list_any test xs) (ap test same ∙ e)
has_any test (y ∷ xs) x (inr h) e = or_right (test y) (list_any test xs) (has_any test xs x h e)

-- a great number in a component gives a last precinct with it
last_is_great : (h : Head) (c : ℕ) → length h.steps ≤ 2 ^ 20 → c < length h.steps → 2 ^ 20 < pids_end h c → (p : Place) × IsPrecinct h p × (2 ^ 20 ≤ pid h p)
last_is_great h c few cb great = elim (cases_lt 0 (precincts_below h c (h.levels + 1))) [
  | inl some ↦
      let p = pids_are_dense h c (precincts_below h c (h.levels + 1) - 1) cb (omega arith) in
      (p.0, p.1, rw p.3 (omega arith))
  | inr none ↦
      let zero_sum : precincts_below h c (h.levels + 1) - 1 ≡ 0 = omega arith in
      let small : pids_end h c ≡ c + 1 = ap (λ (t : ℕ). t * length h.steps + c + 1) zero_sum ∙ omega arith in
      absurd (omega arith)
]

-- a precinct's number is below the end of its component's
pid_below_end : (h : Head) (p : Place) → IsPrecinct h p → pid h p < pids_end h p.c
pid_below_end h p a =
    let grows : precincts_below h p.c p.r + precinct_count h p.c p.r ≤ precincts_below h p.c (h.levels + 1) = sum_grows (precinct_count h p.c) p.r (h.levels + 1) (let r : p.r ≤ h.levels = a.resolution in omega arith) in
    let number : p.k < precinct_count h p.c p.r = a.number in
    let fewer : precincts_below h p.c p.r + p.k ≤ precincts_below h p.c (h.levels + 1) - 1 = omega arith in
    omega (arith, mul-le-mul_right (length h.steps) fewer)

-- a great PID is found exactly where a precinct has one
pub great_pids_are_found : GreatPidsAreFound
great_pids_are_found h few = (
  λ e.
      let found = any_has (λ c. nat_lt (2 ^ 20) (pids_end h c)) (range_with_len 0 (length h.steps)) e in
      let inside = range_has 0 (length h.steps) found.0 found.1 in
      last_is_great h found.0 few (omega arith) (ltb-true (2 ^ 20) (pids_end h found.0) found.2),
  λ (p, a, great).
      has_any (λ c. nat_lt (2 ^ 20) (pids_end h c)) (range_with_len 0 (length h.steps)) p.c
      (has_range 0 (length h.steps) p.c (omega arith) (let c : p.c < length h.steps = a.component in omega arith))
      (lt-ltb (2 ^ 20) (pids_end h p.c) (omega (arith, pid_below_end h p a))),
)
