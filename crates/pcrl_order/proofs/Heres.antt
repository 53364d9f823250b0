-- The least of one resolution from a key on, and that of more of them.
use Rattle.std.proofs.Common.{◌≡◌, ◌<◌, ◌≤◌, ◌+◌, ℕ, true, false, is_lt, List, [], ◌∷◌, length, Option, Some, None, IfSome, IsNone, inl, inr, refl, sym, ◌∙◌, ap, subst, arith}
use Rattle.codestream_model.specs.Values.{Head, Place}
use Rattle.codestream_model.specs.Precincts.{precinct_count, IsPrecinct}
use Rattle.codestream_model.specs.PacketOrder.{anchor, key, rank}
use Rattle.codestream_model.proofs.Numbers.{same_place}
use Rattle.pcrl_order.specs.declared.anchored.Anchored.{Anchored}
use Rattle.pcrl_order.specs.declared.cursor.Key.{Key}
use Rattle.pcrl_order.specs.Ahead.{numbers_of}
use Rattle.pcrl_order.specs.Anchors.{anchored_of, place_in, by_fields}
use Rattle.pcrl_order.specs.Least.{IsFrom, IsLeastIn, NoneIn, IsUpTo, IsLeast, numbers_in, IsStartIn, IsLeastOf, IsOfEarlier, IsInResolution, IsPast}
use Rattle.pcrl_order.proofs.InOrder.{up_to, less_up_to}
use Rattle.pcrl_order.proofs.Leasts.{from_beside, here_or_behind}
use Rattle.pcrl_order.proofs.Ranks.{of_same_rank}

-- a precinct here has this place
place_here : (h : Head) (c r : ℕ) (z : Place) → IsPrecinct h z → IsInResolution c r z → (z ≡ record { c = c; r = r; k = z.k }) × (z.k < precinct_count h c r)
place_here h c r z is here = (same_place z (record { c = c; r = r; k = z.k }) here.0 here.1 refl, let few : z.k < precinct_count h z.c z.r = is.number in rw here.0 at (rw here.1 at few))

-- where all anchors of the resolution are before the key, none is here
pub none_from : (h : Head) (from : Key) (c r : ℕ) → IsStartIn from (rank h r) c r None → (z : Place) → IsPrecinct h z → IsInResolution c r z → IsUpTo (numbers_in from) (key h z) → ⊥
none_from h from c r before z is here up =
    let P : Place → Type 0 = λ w. IsUpTo (numbers_in from) (key h w) in
    before (anchor h (record { c = c; r = r; k = z.k })) (subst P (place_here h c r z is here).0 up)

-- its anchor is from the place on at which the resolution starts
from_here : (h : Head) (from : Key) (c r y x : ℕ) (z : Place) → IsStartIn from (rank h r) c r (Some (y, x)) → z ≡ record { c = c; r = r; k = z.k } → IsUpTo (numbers_in from) (key h z) → IsFrom y x (anchor h (record { c = c; r = r; k = z.k }))
from_here h from c r y x z start e up =
    let P : Place → Type 0 = λ w. IsUpTo (numbers_in from) (key h w) in
    (start (anchor h (record { c = c; r = r; k = z.k }))).0 (subst P e up)

-- so where there is none in the resolution, none is here
pub none_here : (h : Head) (from : Key) (c r y x : ℕ) → IsStartIn from (rank h r) c r (Some (y, x)) → NoneIn h c r y x → (z : Place) → IsPrecinct h z → IsInResolution c r z → IsUpTo (numbers_in from) (key h z) → ⊥
none_here h from c r y x start none z is here up = let at = place_here h c r z is here in none z.k at.1 (from_here h from c r y x z start at.0 up)

-- and the least of the resolution is the least here
pub least_here : (h : Head) (from : Key) (c r y x : ℕ) (one : Anchored) → c < length h.steps → r ≤ h.levels → IsStartIn from (rank h r) c r (Some (y, x)) → IsLeastIn h c r y x one → IsLeast h (numbers_in from) (IsInResolution c r) one
least_here h from c r y x one component resolution start least =
    let place : Place = record { c = c; r = r; k = one.k } in
    let same : place_in one ≡ place = ap place_in least.anchored in
    let ys : one.y ≡ (anchor h place).y = ap (λ (a : Anchored). a.y) least.anchored in
    let xs : one.x ≡ (anchor h place).x = ap (λ (a : Anchored). a.x) least.anchored in
    let P : Place → Type 0 = λ w. IsUpTo (numbers_in from) (key h w) in
    record {
      is = subst (IsPrecinct h) (sym same) (record { component = component; resolution = resolution; number = least.number });
      anchored = least.anchored ∙ ap (anchored_of h) (sym same);
      onward = subst P (sym same) ((start (anchor h place)).1 least.from);
      least = λ z is here up.
          let at = place_here h c r z is here in
          let there : Place = record { c = c; r = r; k = z.k } in
          let f : IsFrom one.y one.x (anchor h there) = least.least z.k at.1 (from_here h from c r y x z start at.0 up) in
          let g : IsFrom (anchor h place).y (anchor h place).x (anchor h there) = rw ys at (rw xs at f) in
          let v = (from_beside (anchor h place).y (anchor h place).x c r c r (anchor h there) (λ lt. omega arith) (λ e. omega arith)).1 g in
          let u : IsUpTo (key h place) (key h there) =
          (of_same_rank (rank h r) (rank h r) ((anchor h place).y ∷ (anchor h place).x ∷ c ∷ r ∷ []) ((anchor h there).y ∷ (anchor h there).x ∷ c ∷ r ∷ []) refl).1 v in
          let Q : Place → Type 0 = λ w. IsUpTo (key h w) (key h there) in
          let R : Place → Type 0 = λ w. IsUpTo (key h (place_in one)) (key h w) in
          subst R (sym at.0) (subst Q (sym same) u);
    }

-- the numbers of one with its anchor are its key
pub numbers_are_key : (h : Head) (a : Anchored) → a ≡ anchored_of h (place_in a) → numbers_of a ≡ key h (place_in a)
numbers_are_key h a e = ap (λ (b : Anchored). numbers_of b) e

-- one of two is up to the other by the comparison
pub less_key : (h : Head) (a b : Anchored) → a ≡ anchored_of h (place_in a) → b ≡ anchored_of h (place_in b) → is_lt (by_fields a b) ≡ true → IsUpTo (key h (place_in a)) (key h (place_in b))
less_key h a b i j e =
    let P : List ℕ → Type 0 = λ w. IsUpTo w (key h (place_in b)) in
    let Q : List ℕ → Type 0 = λ w. IsUpTo (numbers_of a) w in
    subst P (numbers_are_key h a i) (subst Q (numbers_are_key h b j) (less_up_to a b e))

pub not_less_key : (h : Head) (a b : Anchored) → a ≡ anchored_of h (place_in a) → b ≡ anchored_of h (place_in b) → is_lt (by_fields b a) ≡ false → IsUpTo (key h (place_in a)) (key h (place_in b))
not_less_key h a b i j e =
    let P : List ℕ → Type 0 = λ w. IsUpTo w (key h (place_in b)) in
    let Q : List ℕ → Type 0 = λ w. IsUpTo (numbers_of a) w in
    subst P (numbers_are_key h a i) (subst Q (numbers_are_key h b j) (up_to a b e))

-- a precinct here comes after one of a lesser rank
after_lesser : (h : Head) (c r : ℕ) (a : Anchored) (z : Place) → a ≡ anchored_of h (place_in a) → a.rank < rank h r → z.r ≡ r → IsUpTo (key h (place_in a)) (key h z)
after_lesser h c r a z anchored less same =
    let one : a.rank ≡ rank h a.r = ap (λ (b : Anchored). b.rank) anchored in
    let other : rank h z.r ≡ rank h r = ap (λ (n : ℕ). rank h n) same in
    let before : rank h a.r < rank h z.r = omega (arith, one, other, less) in
    inl (inl before)

-- so one of a lesser rank stays the least
pub past_more : (h : Head) (from : List ℕ) (c r : ℕ) (best : Option Anchored) → IsLeastOf h from (IsOfEarlier c r) best → IsPast best (rank h r) → IsLeastOf h from (IsOfEarlier c (r + 1)) best
past_more h from c r None none past = absurd past
past_more h from c r (Some a) least past = record {
  is = least.is;
  anchored = least.anchored;
  onward = least.onward;
  least = λ z is behind up. elim (here_or_behind c r z behind) [
    | inl early ↦ least.least z is early up
    | inr here ↦ after_lesser h c r a z least.anchored past here.1
  ];
}

-- the least of the resolution, or that there is none, is that of those here
pub least_of_here : (h : Head) (from : Key) (c r y x : ℕ) (best : Option Anchored) → c < length h.steps → r ≤ h.levels → IsStartIn from (rank h r) c r (Some (y, x)) → IfSome best (λ a. IsLeastIn h c r y x a) → (IsNone best → NoneIn h c r y x)
    → IsLeastOf h (numbers_in from) (IsInResolution c r) best
least_of_here h from c r y x None component resolution start some none = none_here h from c r y x start (none refl)
least_of_here h from c r y x (Some a) component resolution start some none = least_here h from c r y x a component resolution start some
