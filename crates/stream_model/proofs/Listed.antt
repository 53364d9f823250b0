-- The list of the positions in time has each of them.
use Rattle.std.proofs.Common.{◌≡◌, ◌≤◌, ◌+◌, ℕ, Bool, true, false, cond, List, [], ◌∷◌, refl, sym, ap, ◌∙◌, inl, inr, arith}
use Rattle.std.specs.Prelude.{◌==◌, ◌&&◌, ◌||◌}
use Rattle.std.specs.List.{filter, range_with_len}
use Rattle.std.proofs.lemmas.Bool.{eqb-true}
use Rattle.stream_model.specs.Arrivals.{has_arrived, highest_arrival, in_time, positions_in_time}
use Rattle.stream_model.proofs.InTime.{arrived_or_not}
use Rattle.stream_model.proofs.Bases.{in_time-le-highest}
use Rattle.stream_model.proofs.InOrder.{range_arrived}

-- what a filter leaves: what was there and passes
left_by : (p : ℕ → Bool) (x i : ℕ) (xs : List ℕ) (c b : Bool) → p x ≡ c → (b ≡ true → x ≡ i) → (x == i) ≡ b → has_arrived (filter p xs) i ≡ (p i && has_arrived xs i) → has_arrived (cond c (x ∷ filter p xs) (filter p xs)) i ≡ (p i && (b || has_arrived xs i))
left_by p x i xs true true h e f ih = let t : p i ≡ true = ap p (sym (e refl)) ∙ h in rw (f, t) refl
left_by p x i xs false true h e f ih = let t : p i ≡ false = ap p (sym (e refl)) ∙ h in ih ∙ (rw t refl)
left_by p x i xs true false h e f ih = rw f ih
left_by p x i xs false false h e f ih = ih

and_false : (b : Bool) → false ≡ (b && false)
and_false true = refl
and_false false = refl

left : (p : ℕ → Bool) (i : ℕ) (xs : List ℕ) → has_arrived (filter p xs) i ≡ (p i && has_arrived xs i)
left p i [] = and_false (p i)
left p i (x ∷ xs) = left_by p x i xs (p x) (x == i) refl (eqb-true x i) refl (left p i xs)

pub in_time_is_listed : (events : List ℕ) (i window : ℕ) → has_arrived (positions_in_time events window) i ≡ in_time events i window
in_time_is_listed events i window =
    left (λ i. in_time events i window) i (range_with_len 0 (highest_arrival events + 1))
    ∙ (elim (arrived_or_not (in_time events i window)) [
      | inl t ↦ (let high : i ≤ highest_arrival events = in_time-le-highest events i window t in
          let here : has_arrived (range_with_len 0 (highest_arrival events + 1)) i ≡ true = range_arrived 0 (highest_arrival events + 1) i (omega arith) (omega arith) in
          rw (t, here) refl)
      | inr f ↦ rw f refl
    ])
