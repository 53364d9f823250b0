-- Frames of one source can be thinned and picked in either order.
use Rattle.std.proofs.Common.{◌≡◌, ℕ, Bool, true, false, cond, List, [], ◌∷◌, map, Some, None, refl, sym, ap, ◌∙◌}
use Rattle.std.specs.Prelude.{◌==◌, ◌&&◌, slice_index}
use Rattle.std.specs.List.{AllByRecursion, filter}
use Rattle.std.proofs.lemmas.Bool.{eq-eqb}
use Rattle.wire_model.specs.Thinning.{is_kept, kept}
use Rattle.stream_model.specs.Arrivals.{is_of_kind, source_of, picked_source, picked}
use Rattle.stream_model.proofs.Thinned.{all-filter, filters-swap, thinned_then_picked}
use Rattle.delivery_model.specs.PickingLaws.{HaveOneSource, ThinnedAndPicked}

-- a test that holds wherever another does adds nothing to it
both_tests : (a b : Bool) → (a ≡ true → b ≡ true) → (a && b) ≡ a
both_tests true b h = h refl
both_tests false b h = refl

one_test : (t u : List ℕ → Bool) (xs : List (List ℕ)) → AllByRecursion (λ x. t x ≡ true → u x ≡ true) xs → filter (λ x. t x && u x) xs ≡ filter t xs
one_test t u [] h = refl
one_test t u (x ∷ xs) h =
    ap (λ (b : Bool). cond b (x ∷ filter (λ y. t y && u y) xs) (filter (λ y. t y && u y) xs)) (both_tests (t x) (u x) h.0)
    ∙ ap (λ (l : List (List ℕ)). cond (t x) (x ∷ l) l) (one_test t u xs h.1)

-- where no frame passes a test, none passes two
none_passes : (t u : List ℕ → Bool) (xs : List (List ℕ)) → filter t xs ≡ [] → filter (λ x. t x && u x) xs ≡ []
none_passes t u [] e = refl
none_passes t u (x ∷ xs) e = by (t x) e (none_passes t u xs) where
  by : (b : Bool) → cond b (x ∷ filter t xs) (filter t xs) ≡ [] → (filter t xs ≡ [] → filter (λ y. t y && u y) xs ≡ []) → cond (b && u x) (x ∷ filter (λ y. t y && u y) xs) (filter (λ y. t y && u y) xs) ≡ []
  by true f ih = absurd (cc)
  by false f ih = ih f

-- the first frame that passes has what each that passes has
first_has : (t : List ℕ → Bool) (source : ℕ) (xs : List (List ℕ)) (k : List ℕ) (ks : List (List ℕ)) → AllByRecursion (λ x. t x ≡ true → source_of x ≡ source) xs → filter t xs ≡ k ∷ ks → source_of k ≡ source
first_has t source [] k ks h e = absurd (cc)
first_has t source (x ∷ xs) k ks h e = by (t x) refl e (first_has t source xs k ks h.1) where
  by : (b : Bool) → t x ≡ b → cond b (x ∷ filter t xs) (filter t xs) ≡ k ∷ ks → (filter t xs ≡ k ∷ ks → source_of k ≡ source) → source_of k ≡ source
  by true g f ih = (let same : x ≡ k = cc in ap source_of (sym same)) ∙ h.0 g
  by false g f ih = ih f

-- each has the source of the first
each_has : (t : List ℕ → Bool) (source n : ℕ) (xs : List (List ℕ)) → source ≡ n → AllByRecursion (λ x. t x ≡ true → source_of x ≡ source) xs → AllByRecursion (λ x. t x ≡ true → (source_of x == n) ≡ true) xs
each_has t source n [] e h = tt
each_has t source n (x ∷ xs) e h = (λ g. eq-eqb (source_of x) n (h.0 g ∙ e), each_has t source n xs e h.1)

-- so of frames of one source all of the payload type are picked
by_first : (kind source : ℕ) (frames v : List (List ℕ)) → HaveOneSource kind source frames → filter (is_of_kind kind) frames ≡ v → picked kind None frames ≡ filter (is_of_kind kind) frames
by_first kind source frames [] h e = none_passes (is_of_kind kind) (λ f. source_of f == picked_source kind None frames) frames e ∙ sym e
by_first kind source frames (k ∷ ks) h e =
    let here : picked_source kind None frames ≡ source_of k = ap (λ l. slice_index (map source_of l) 0) e in
    let one : source ≡ picked_source kind None frames = sym (here ∙ first_has (is_of_kind kind) source frames k ks h e) in
    one_test (is_of_kind kind) (λ f. source_of f == picked_source kind None frames) frames (each_has (is_of_kind kind) source (picked_source kind None frames) frames one h)

all_picked : (kind source : ℕ) (frames : List (List ℕ)) → HaveOneSource kind source frames → picked kind None frames ≡ filter (is_of_kind kind) frames
all_picked kind source frames h = by_first kind source frames (filter (is_of_kind kind) frames) h refl

pub thinned_and_picked : ThinnedAndPicked
thinned_and_picked limit kind source (Some n) frames h = thinned_then_picked limit kind n frames
thinned_and_picked limit kind source None frames h =
    all_picked kind source (kept limit frames) (all-filter (λ f. is_of_kind kind f ≡ true → source_of f ≡ source) (is_kept limit) frames h)
    ∙ (filters-swap (is_of_kind kind) (is_kept limit) frames ∙ ap (kept limit) (sym (all_picked kind source frames h)))
