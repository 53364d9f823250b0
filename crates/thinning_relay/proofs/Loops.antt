-- A list whose items are changed one after another, each by a relation of its own.
use Rattle.std.proofs.Common.{◌≡◌, ◌≤◌, ◌<◌, ◌+◌, inl, inr, ℕ, List, Some, length, length-set, refl, sym, ◌∙◌, subst, arith, set, get_or}
use Rattle.std.specs.List.{slice_get}
use Rattle.std.proofs.lemmas.Option.{slice_get_within}
use Rattle.thinning_relay.proofs.Flushing.{get-set_same, get-set_other, get_at, at_or_below}

-- the first items were changed so, and the others weren't
pub record Changing {A : Type 0} (R : A → A → Type 0) (i : ℕ) (xs ys : List A) : Type 0 where
  pub count : length ys ≡ length xs
  pub each : (j : ℕ) → j < i → (x y : A) → slice_get xs j ≡ Some x → slice_get ys j ≡ Some y → R x y
  pub same : (j : ℕ) → i ≤ j → slice_get ys j ≡ slice_get xs j

pub changing_none : {A : Type 0} (R : A → A → Type 0) (xs : List A) → Changing R 0 xs xs
changing_none R xs = record { count = refl; each = λ j below. absurd (omega arith); same = λ j above. refl }

pub changing_more : {A : Type 0} (R : A → A → Type 0) (i : ℕ) (xs ys : List A) (d y : A) → i < length ys → Changing R i xs ys → R (get_or ys i d) y → Changing R (i + 1) xs (set ys i y)
changing_more {A} R i xs ys d y within f one = record {
  count = length-set ys i y ∙ f.count;
  each = each;
  same = λ j above. (get-set_other ys i j y (λ e. omega arith) ∙ f.same j (omega arith));
} where
  here : (a c : A) → slice_get xs i ≡ Some a → slice_get (set ys i y) i ≡ Some c → R a c
  here a c h k =
      let ra : Some (get_or ys i d) ≡ Some a = sym (get_at ys i d within) ∙ (f.same i (omega arith) ∙ h) in
      let yc : Some y ≡ Some c = sym (get-set_same ys i y within) ∙ k in
      let e : get_or ys i d ≡ a = cc in
      let g : y ≡ c = cc in
      let P : A → Type 0 = λ x. R x c in
      let Q : A → Type 0 = λ x. R (get_or ys i d) x in
      subst P e (subst Q g one)

  each : (j : ℕ) → j < i + 1 → (a c : A) → slice_get xs j ≡ Some a → slice_get (set ys i y) j ≡ Some c → R a c
  each j below a c h k = elim (at_or_below j i below) [
    | inl e ↦ (let O : ℕ → Type 0 = λ x. slice_get xs x ≡ Some a in let K : ℕ → Type 0 = λ x. slice_get (set ys i y) x ≡ Some c in here a c (subst O e h) (subst K e k))
    | inr e ↦ f.each j e a c h (sym (get-set_other ys i j y (λ x. omega arith)) ∙ k)
  ]

pub changed : {A : Type 0} (R : A → A → Type 0) (i : ℕ) (xs ys : List A) → length xs ≤ i → Changing R i xs ys → (j : ℕ) (x y : A) → slice_get xs j ≡ Some x → slice_get ys j ≡ Some y → R x y
changed R i xs ys all f j x y h k = f.each j (let w = slice_get_within xs j x h in omega arith) x y h k
