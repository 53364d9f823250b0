-- The first place that is filled, and the last.
use Rattle.std.proofs.Common.{◌≡◌, ◌<◌, ◌+◌, ℕ, zero, suc, true, false, List, [], ◌∷◌, length, take, drop, Option, Some, None, refl, sym, ◌∙◌, ap, arith}
use Rattle.reassembly_window.specs.Slots.{is_filled, lead, reach, reach_after}

-- a place that isn't filled is before the first that is
lead_suc : {T : Type 0} (s : List (Option T)) (k : ℕ) → is_filled k s ≡ false → k < length s → lead (drop k s) ≡ lead (drop (suc k) s) + 1
lead_suc [] k e less = absurd (omega arith)
lead_suc (None ∷ s) zero e less = refl
lead_suc (Some x ∷ s) zero e less = absurd (cc)
lead_suc (x ∷ s) (suc k) e less = lead_suc s k e (omega arith)

pub lead_more : {T : Type 0} (s : List (Option T)) (k : ℕ) → is_filled k s ≡ false → k < length s → lead (drop k s) ≡ lead (drop (k + 1) s) + 1
lead_more s k e less = let f : suc k ≡ k + 1 = omega arith in lead_suc s k e less ∙ ap (λ j. lead (drop j s) + 1) f

pub lead_here : {T : Type 0} (s : List (Option T)) (k : ℕ) → is_filled k s ≡ true → lead (drop k s) ≡ 0
lead_here [] k e = absurd (cc)
lead_here (None ∷ s) zero e = absurd (cc)
lead_here (Some x ∷ s) zero e = refl
lead_here (x ∷ s) (suc k) e = lead_here s k e

-- and one that isn't after the last that is
reach_suc : {T : Type 0} (s : List (Option T)) (k : ℕ) → is_filled k s ≡ false → k < length s → reach (take (suc k) s) ≡ reach (take k s)
reach_suc [] k e less = absurd (omega arith)
reach_suc (None ∷ s) zero e less = refl
reach_suc (Some x ∷ s) zero e less = absurd (cc)
reach_suc (x ∷ s) (suc k) e less = ap (reach_after x) (reach_suc s k e (omega arith))

pub reach_less : {T : Type 0} (s : List (Option T)) (n k : ℕ) → n ≡ k + 1 → is_filled k s ≡ false → k < length s → reach (take n s) ≡ reach (take k s)
reach_less s n k f e less = let g : n ≡ suc k = omega arith in ap (λ j. reach (take j s)) g ∙ reach_suc s k e less

reach_full : {T : Type 0} (s : List (Option T)) (k : ℕ) → is_filled k s ≡ true → reach (take (suc k) s) ≡ suc k
reach_full [] k e = absurd (cc)
reach_full (None ∷ s) zero e = absurd (cc)
reach_full (Some x ∷ s) zero e = refl
reach_full (x ∷ s) (suc k) e = ap (reach_after x) (reach_full s k e)

pub reach_here : {T : Type 0} (s : List (Option T)) (n k : ℕ) → n ≡ k + 1 → is_filled k s ≡ true → reach (take n s) ≡ n
reach_here s n k f e = let g : n ≡ suc k = omega arith in ap (λ j. reach (take j s)) g ∙ (reach_full s k e ∙ sym g)
