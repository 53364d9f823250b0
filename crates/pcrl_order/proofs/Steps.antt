-- A step of the packet order: the least precinct from just after one on is the next.
use Rattle.std.proofs.Common.{◌≡◌, ◌≤◌, ◌+◌, ℕ, zero, suc, [], ◌∷◌, None, refl, inl, inr, arith}
use Rattle.std.proofs.lemmas.Bool.{cases_lt}
use Rattle.codestream_model.specs.Values.{Head, Place}
use Rattle.codestream_model.specs.Precincts.{precinct_count, IsPrecinct}
use Rattle.codestream_model.specs.PacketOrder.{anchor, rank, key, IsBefore, packet_order}
use Rattle.codestream_model.specs.HeadLimits.{IsWithinLimits}
use Rattle.codestream_model.proofs.StripLaws.{each_component_has_precincts}
use Rattle.pcrl_order.specs.declared.anchored.Anchored.{Anchored}
use Rattle.pcrl_order.specs.Anchors.{place_in}
use Rattle.pcrl_order.specs.Later.{later}
use Rattle.pcrl_order.specs.Least.{IsUpTo, IsLeast, IsLeastOf}
use Rattle.pcrl_order.proofs.InOrder.{has_steps}
use Rattle.pcrl_order.proofs.Behind.{is_next, is_first, is_last}

-- numbers after others are those from the others with one more at the end on,
pub up_to_more : (t y x c r v a b d s : ℕ) → IsBefore (t ∷ y ∷ x ∷ c ∷ r ∷ []) (v ∷ a ∷ b ∷ d ∷ s ∷ []) → IsUpTo (t ∷ y ∷ x ∷ c ∷ (r + 1) ∷ []) (v ∷ a ∷ b ∷ d ∷ s ∷ [])
up_to_more t y x c r v a b d s (inl lt) = inl (inl lt)
up_to_more t y x c r v a b d s (inr (q, inl lt)) = inl (inr (q, inl lt))
up_to_more t y x c r v a b d s (inr (q, inr (e, inl lt))) = inl (inr (q, inr (e, inl lt)))
up_to_more t y x c r v a b d s (inr (q, inr (e, inr (f, inl lt)))) = inl (inr (q, inr (e, inr (f, inl lt))))
up_to_more t y x c r v a b d s (inr (q, inr (e, inr (f, inr (g, inl lt))))) = elim (cases_lt (r + 1) s) [
  | inl less ↦ inl (inr (q, inr (e, inr (f, inr (g, inl less)))))
  | inr ge ↦ let same : r + 1 ≡ s = omega arith in inr (cc)
]
up_to_more t y x c r v a b d s (inr (q, inr (e, inr (f, inr (g, inr (i, none)))))) = absurd none

-- and there are no others
pub more_up_to : (t y x c r v a b d s : ℕ) → IsUpTo (t ∷ y ∷ x ∷ c ∷ (r + 1) ∷ []) (v ∷ a ∷ b ∷ d ∷ s ∷ []) → IsBefore (t ∷ y ∷ x ∷ c ∷ r ∷ []) (v ∷ a ∷ b ∷ d ∷ s ∷ [])
more_up_to t y x c r v a b d s (inl (inl lt)) = inl lt
more_up_to t y x c r v a b d s (inl (inr (q, inl lt))) = inr (q, inl lt)
more_up_to t y x c r v a b d s (inl (inr (q, inr (e, inl lt)))) = inr (q, inr (e, inl lt))
more_up_to t y x c r v a b d s (inl (inr (q, inr (e, inr (f, inl lt))))) = inr (q, inr (e, inr (f, inl lt)))
more_up_to t y x c r v a b d s (inl (inr (q, inr (e, inr (f, inr (g, inl lt)))))) = inr (q, inr (e, inr (f, inr (g, inl (omega arith)))))
more_up_to t y x c r v a b d s (inl (inr (q, inr (e, inr (f, inr (g, inr (i, none))))))) = absurd none
more_up_to t y x c r v a b d s (inr e) = let last : r + 1 ≡ s = cc in inr (cc, inr (cc, inr (cc, inr (cc, inl (omega arith)))))

-- all numbers are from zeros on
zeros_up_to : (v a b d s : ℕ) → IsUpTo (0 ∷ 0 ∷ 0 ∷ 0 ∷ 0 ∷ []) (v ∷ a ∷ b ∷ d ∷ s ∷ [])
zeros_up_to (suc v) a b d s = inl (inl (omega arith))
zeros_up_to zero (suc a) b d s = inl (inr (refl, inl (omega arith)))
zeros_up_to zero zero (suc b) d s = inl (inr (refl, inr (refl, inl (omega arith))))
zeros_up_to zero zero zero (suc d) s = inl (inr (refl, inr (refl, inr (refl, inl (omega arith)))))
zeros_up_to zero zero zero zero (suc s) = inl (inr (refl, inr (refl, inr (refl, inr (refl, inl (omega arith))))))
zeros_up_to zero zero zero zero zero = inr refl

-- the numbers just after those of a precinct: its rank and its anchor
pub record IsJustAfter (h : Head) (p : Place) (t y x : ℕ) : Type 0 where
  pub rank_is : t ≡ rank h p.r
  pub y_is : y ≡ (anchor h p).y
  pub x_is : x ≡ (anchor h p).x

-- a precinct is after another where its key is from just after the other's on
from_behind : (h : Head) (p z : Place) (t y x : ℕ) → IsJustAfter h p t y x → IsBefore (key h p) (key h z) → IsUpTo (t ∷ y ∷ x ∷ p.c ∷ (p.r + 1) ∷ []) (key h z)
from_behind h p z t y x is before = rw (is.rank_is, is.y_is, is.x_is) (up_to_more (rank h p.r) (anchor h p).y (anchor h p).x p.c p.r (rank h z.r) (anchor h z).y (anchor h z).x z.c z.r before)

behind_from : (h : Head) (p z : Place) (t y x : ℕ) → IsJustAfter h p t y x → IsUpTo (t ∷ y ∷ x ∷ p.c ∷ (p.r + 1) ∷ []) (key h z) → IsBefore (key h p) (key h z)
behind_from h p z t y x is up = more_up_to (rank h p.r) (anchor h p).y (anchor h p).x p.c p.r (rank h z.r) (anchor h z).y (anchor h z).x z.c z.r (rw (is.rank_is, is.y_is, is.x_is) at up)

-- the least from there on is the next,
pub next_is : (h : Head) (p : Place) (t y x : ℕ) (a : Anchored) → IsWithinLimits h → IsJustAfter h p t y x → IsLeast h (t ∷ y ∷ x ∷ p.c ∷ (p.r + 1) ∷ []) (IsPrecinct h) a → later h p ≡ place_in a ∷ later h (place_in a)
next_is h p t y x a limits behind least = is_next h (has_steps h limits) p (place_in a) least.is (behind_from h p (place_in a) t y x behind least.onward)
    (λ z is before. least.least z is is (from_behind h p z t y x behind before))

-- where there is none, the precinct is the last,
pub last_is : (h : Head) (p : Place) (t y x : ℕ) → IsWithinLimits h → IsJustAfter h p t y x → IsLeastOf h (t ∷ y ∷ x ∷ p.c ∷ (p.r + 1) ∷ []) (IsPrecinct h) None → later h p ≡ []
last_is h p t y x limits behind none = is_last h (has_steps h limits) p (λ z is before. none z is is (from_behind h p z t y x behind before))

-- the least of all is the first,
pub first_is : (h : Head) (a : Anchored) → IsWithinLimits h → IsLeast h (0 ∷ 0 ∷ 0 ∷ 0 ∷ 0 ∷ []) (IsPrecinct h) a → packet_order h ≡ place_in a ∷ later h (place_in a)
first_is h a limits least = is_first h (has_steps h limits) (place_in a) least.is (λ z is. least.least z is is (zeros_up_to (rank h z.r) (anchor h z).y (anchor h z).x z.c z.r))

-- and there is one
pub first_is_there : (h : Head) → IsWithinLimits h → IsLeastOf h (0 ∷ 0 ∷ 0 ∷ 0 ∷ 0 ∷ []) (IsPrecinct h) None → ⊥
first_is_there h limits none =
    let z : Place = record { c = 0; r = h.levels; k = 0 } in
    let some : 1 ≤ precinct_count h 0 h.levels = each_component_has_precincts h 0 (limits.each_component 0 (record { x = 1; y = 1 }) limits.some_component) in
    let is : IsPrecinct h z = record { component = limits.some_component; resolution = omega arith; number = some } in
    none z is is (zeros_up_to (rank h h.levels) (anchor h z).y (anchor h z).x 0 h.levels)
