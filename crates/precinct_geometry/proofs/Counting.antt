-- Precincts counted through the resolutions of a component.
use Rattle.std.proofs.Common.{◌≡◌, ◌<◌, ◌≤◌, ◌+◌, ◌-◌, ◌*◌, ◌^◌, ◌/◌, ◌%◌, ℕ, zero, suc, length, refl, sym, ap, subst, ◌∙◌, arith, inl, inr}
use Rattle.std.proofs.Math.Nat.{mul-le-mul_left, mod-lt, mod-add-div}
use Rattle.std.proofs.lemmas.Bool.{cases_lt}
use Rattle.std.proofs.lemmas.Nat.{same_from_place}
use Rattle.codestream_model.specs.Values.{Head, Place}
use Rattle.codestream_model.specs.Precincts.{precinct_count, IsPrecinct}
use Rattle.codestream_model.specs.PacketOrder.{sum_below, precincts_below, pid}
use Rattle.codestream_model.specs.HeadLimits.{IsWithinLimits}

-- none below the first resolution, and one resolution more
pub below_none : (h : Head) (c : ℕ) → precincts_below h c 0 ≡ 0
unfolding sum_below
below_none h c = refl

pub below_more : (h : Head) (c r : ℕ) → precincts_below h c (suc r) ≡ precincts_below h c r + precinct_count h c r
unfolding sum_below
below_more h c r = refl

-- a factor of at least 1 makes no number less
at_least : (a n : ℕ) → 1 ≤ n → a ≤ a * n
at_least a n some = let m : a * 1 ≤ a * n = mul-le-mul_left a some in omega arith

-- where each number is small, a component has no more precincts than that, up to any resolution
pub few_below : (h : Head) (c r : ℕ) → IsWithinLimits h → c < length h.steps → r ≤ h.levels + 1 → precincts_below h c r ≤ 2 ^ 20
few_below h c zero limits component resolution = omega (arith, below_none h c)
few_below h c (suc r) limits component resolution = elim (cases_lt 0 (precinct_count h c r)) [
  | inl some ↦
      let last : Place = record { c = c; r = r; k = precinct_count h c r - 1 } in
      let few : c + (precincts_below h c r + (precinct_count h c r - 1)) * length h.steps < 2 ^ 20 =
      limits.few_pids last (record { component = component; resolution = omega arith; number = omega arith }) in
      let grown = at_least (precincts_below h c r + (precinct_count h c r - 1)) (length h.steps) limits.some_component in
      omega (arith, below_more h c r)
  | inr none ↦ omega (arith, below_more h c r, few_below h c r limits component (omega arith))
]

-- what comes before a resolution and its precincts lie within what comes before a later one
pub below_grows : (h : Head) (c r n : ℕ) → r < n → precincts_below h c r + precinct_count h c r ≤ precincts_below h c n
below_grows h c r zero lt = absurd (omega arith)
below_grows h c r (suc n) lt = elim (cases_lt r n) [
  | inl below ↦ omega (arith, below_grows h c r n below, below_more h c n)
  | inr above ↦ let e : r ≡ n = omega arith in rw (e, below_more h c n) (omega arith)
]

-- a total below one resolution, with that one's precincts, is the total below the next
pub below_next : (h : Head) (c r total count : ℕ) → total ≡ precincts_below h c r → count ≡ precinct_count h c r → total + count ≡ precincts_below h c (r + 1)
below_next h c r total count t k = let next : r + 1 ≡ suc r = omega arith in rw (next, below_more h c r, t, k) refl

-- a number is that of the precinct whose component is the remainder, and whose place in it the quotient
pub found : (h : Head) (n number r left : ℕ)
    → n ≡ length h.steps
    → 1 ≤ n
    → r < h.levels + 1
    → precincts_below h (number % n) r + left ≡ number / n
    → left < precinct_count h (number % n) r
    → IsPrecinct h (record { c = number % n; r = r; k = left }) × (pid h (record { c = number % n; r = r; k = left }) ≡ number)
found h n number r left same some resolution place few =
    let component : number % n < n = mod-lt number some in
    let parts : number % n + number / n * n ≡ number = omega (arith, mod-add-div number n) in
    (record { component = rw (sym same) component; resolution = omega arith; number = few }, rw (sym same, place) parts)

-- and where the quotient is beyond the component's precincts, no precinct has the number
pub missing : (h : Head) (n number r left : ℕ)
    → n ≡ length h.steps
    → r ≡ h.levels + 1
    → precincts_below h (number % n) r + left ≡ number / n
    → (p : Place)
    → IsPrecinct h p
    → pid h p ≡ number
    → ⊥
missing h n number r left same end beyond p is e =
    let component : p.c < n = rw same is.component in
    let parts : number / n * n + number % n ≡ number = omega (arith, mod-add-div number n) in
    let whole : (precincts_below h p.c p.r + p.k) * n + p.c ≡ number = rw same (omega (arith, e)) in
    let apart = same_from_place (precincts_below h p.c p.r + p.k) p.c (number / n) (number % n) n component (mod-lt number (omega arith)) (whole ∙ sym parts) in
    let within : precincts_below h p.c p.r + p.k < precincts_below h p.c r = omega (arith, is.number, is.resolution, end, below_grows h p.c p.r r (omega arith)) in
    let there : precincts_below h p.c r + left ≡ number / n = rw apart.1 beyond in
    omega (arith, apart.0)

-- the parts of a number are small
pub small_parts : (h within : Head) (p : Place) (below n : ℕ)
    → within ≡ h
    → IsWithinLimits within
    → IsPrecinct h p
    → below ≡ precincts_below h p.c p.r
    → n ≡ length within.steps
    → (below + p.k < 2 ^ 20) × ((below + p.k) * n < 2 ^ 20) × (p.c + (below + p.k) * n < 2 ^ 20)
small_parts h within p below n one limits is b components =
    let same : n ≡ length h.steps = components ∙ ap (λ (w : Head). length w.steps) one in
    let few : p.c + (below + p.k) * n < 2 ^ 20 = rw (b, same) ((subst IsWithinLimits one limits).few_pids p is) in
    let grown = at_least (below + p.k) n (rw components limits.some_component) in
    (omega arith, omega arith, few)
