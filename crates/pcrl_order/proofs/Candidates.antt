-- The candidates of a walk: the least of them is the next precinct, and what they are once it was taken.
use Rattle.std.proofs.Common.{◌≡◌, ◌<◌, ◌+◌, ◌⊎◌, ℕ, List, [], ◌∷◌, ◌++◌, length, set, take, drop, Option, None, Some, refl, sym, ◌∙◌, ap, subst, inl, inr, arith}
use Rattle.std.proofs.lemmas.Bool.{cases_eq, cases_lt, cases_order}
use Rattle.std.proofs.lemmas.List.{get_or-set_same, get_or-set_other, length-set, length-append}
use Rattle.std.proofs.Math.ListN.{get_or-append}
use Rattle.std.proofs.Math.Seq.{get_or-append_seam}
use Rattle.std.specs.List.{refill}
use Rattle.codestream_model.specs.Values.{Head, Place}
use Rattle.codestream_model.specs.HeadLimits.{IsWithinLimits}
use Rattle.codestream_model.specs.Precincts.{IsPrecinct}
use Rattle.codestream_model.specs.PacketOrder.{key, rank, anchor, IsBefore}
use Rattle.pcrl_order.specs.declared.anchored.Anchored.{Anchored}
use Rattle.pcrl_order.specs.Anchors.{place_in}
use Rattle.pcrl_order.specs.Ahead.{numbers_of, numbers_after, candidate_at, IsLeastAt, IsThere, IsCandidate, IsAheadIn, IsAhead}
use Rattle.pcrl_order.specs.Least.{IsUpTo, IsLeast, IsLeastOf, IsNear, IsInResolution, IsOfEarlier}
use Rattle.pcrl_order.proofs.Leasts.{up_to_along, here_or_behind}
use Rattle.pcrl_order.proofs.Ranks.{of_same_rank}
use Rattle.pcrl_order.proofs.Heres.{numbers_are_key}
use Rattle.pcrl_order.specs.Later.{later}
use Rattle.pcrl_order.proofs.Steps.{up_to_more, more_up_to, IsJustAfter, next_is, last_is}

-- of two lists of a length, one is up to the other
up_to_or_from : (a b : List ℕ) → length a ≡ length b → IsUpTo a b ⊎ IsUpTo b a
up_to_or_from [] [] n = inl (inr refl)
up_to_or_from [] (y ∷ b) n = absurd (omega arith)
up_to_or_from (x ∷ a) [] n = absurd (omega arith)
up_to_or_from (x ∷ a) (y ∷ b) n = elim (cases_order x y) [
  | inl same ↦ elim (up_to_or_from a b (omega arith)) [
    | inl up ↦ inl ((of_same_rank x y a b same).1 up)
    | inr down ↦ inr ((of_same_rank y x b a (sym same)).1 down)
  ]
  | inr (inl lt) ↦ inl (inl (inl lt))
  | inr (inr gt) ↦ inr (inl (inl gt))
]

-- the numbers of the candidate at an index
abbrev pub numbers_at : List Anchored → ℕ → List ℕ
numbers_at nexts i = numbers_of (candidate_at nexts i)

-- a candidate that is before `from` changes nothing,
pub none_onward : (nexts : List Anchored) (from : List ℕ) (n : ℕ) (best : Option ℕ) → IsLeastAt nexts from n best → (IsUpTo from (numbers_at nexts n) → ⊥) → IsLeastAt nexts from (n + 1) best
none_onward nexts from n None least before = λ i lt up. elim (cases_lt i n) [
  | inl less ↦ least i less up
  | inr ge ↦ let same : i ≡ n = omega arith in before (subst (λ (j : ℕ). IsUpTo from (numbers_at nexts j)) same up)
]
none_onward nexts from n (Some b) least before = (
  omega (arith, least.0),
  least.1,
  λ i lt up. elim (cases_lt i n) [
    | inl less ↦ least.2 i less up
    | inr ge ↦ let same : i ≡ n = omega arith in absurd (before (subst (λ (j : ℕ). IsUpTo from (numbers_at nexts j)) same up))
  ],
)

-- the first one that isn't is the least,
pub first_onward : (nexts : List Anchored) (from : List ℕ) (n : ℕ) → IsLeastAt nexts from n None → IsUpTo from (numbers_at nexts n) → IsLeastAt nexts from (n + 1) (Some n)
first_onward nexts from n none onward = (
  omega arith,
  onward,
  λ i lt up. elim (cases_lt i n) [
    | inl less ↦ absurd (none i less up)
    | inr ge ↦ let same : n ≡ i = omega arith in inr (ap (numbers_at nexts) same)
  ],
)

-- so is one that the least so far isn't up to,
pub less_onward : (nexts : List Anchored) (from : List ℕ) (n b : ℕ) → IsLeastAt nexts from n (Some b) → IsUpTo from (numbers_at nexts n) → (IsUpTo (numbers_at nexts b) (numbers_at nexts n) → ⊥) → IsLeastAt nexts from (n + 1) (Some n)
less_onward nexts from n b least onward less = (
  omega arith,
  onward,
  λ i lt up. elim (cases_lt i n) [
    | inl early ↦ elim (up_to_or_from (numbers_at nexts n) (numbers_at nexts b) refl) [
      | inl down ↦ up_to_along (numbers_at nexts n) (numbers_at nexts b) (numbers_at nexts i) down (least.2 i early up)
      | inr not ↦ absurd (less not)
    ]
    | inr ge ↦ let same : n ≡ i = omega arith in inr (ap (numbers_at nexts) same)
  ],
)

-- and one that it is up to is not
pub not_less_onward : (nexts : List Anchored) (from : List ℕ) (n b : ℕ) → IsLeastAt nexts from n (Some b) → IsUpTo (numbers_at nexts b) (numbers_at nexts n) → IsLeastAt nexts from (n + 1) (Some b)
not_less_onward nexts from n b least up_to = (
  omega (arith, least.0),
  least.1,
  λ i lt up. elim (cases_lt i n) [
    | inl less ↦ least.2 i less up
    | inr ge ↦ let same : n ≡ i = omega arith in subst (λ (j : ℕ). IsUpTo (numbers_at nexts b) (numbers_at nexts j)) same up_to
  ],
)

-- the least candidate is the least precinct,
pub least_of_all : (h : Head) (from : List ℕ) (nexts : List Anchored) (b : ℕ) → IsAhead h from nexts → IsLeastAt nexts from (length nexts) (Some b) → IsLeast h from (IsPrecinct h) (candidate_at nexts b)
least_of_all h from nexts b ahead least =
    let there = ahead.each b least.0 in
    let numbers = numbers_are_key h (candidate_at nexts b) there.anchored in
    record {
      is = there.is;
      anchored = there.anchored;
      onward = subst (λ (w : List ℕ). IsUpTo from w) numbers least.1;
      least = λ z is among up.
          let at = ahead.whole z is among up in
          let below = up_to_along (numbers_at nexts b) (numbers_at nexts at.0) (key h z) (least.2 at.0 at.1 at.2.onward) at.2.before in
          subst (λ (w : List ℕ). IsUpTo w (key h z)) numbers below;
    }

-- and where each is before `from`, there is none
pub none_of_all : (h : Head) (from : List ℕ) (nexts : List Anchored) → IsAhead h from nexts → IsLeastAt nexts from (length nexts) None → IsLeastOf h from (IsPrecinct h) None
none_of_all h from nexts ahead none = λ z is among up. let at = ahead.whole z is among up in none at.0 at.1 at.2.onward

-- a precinct after the one that was taken is in its resolution, or it has another candidate, which stays
elsewhere : (h : Head) (from : List ℕ) (nexts : List Anchored) (b : ℕ) → IsAhead h from nexts → IsLeastAt nexts from (length nexts) (Some b) → (z : Place) → IsPrecinct h z → IsUpTo (numbers_after (candidate_at nexts b)) (key h z)
    → IsInResolution (candidate_at nexts b).c (candidate_at nexts b).r z ⊎ ((i : ℕ) × (i < length nexts) × (i ≡ b → ⊥) × IsCandidate (numbers_after (candidate_at nexts b)) h z (candidate_at nexts i))
elsewhere h from nexts b ahead least z is up =
    let a = candidate_at nexts b in
    let after : IsBefore (numbers_of a) (key h z) = more_up_to a.rank a.y a.x a.c a.r (rank h z.r) (anchor h z).y (anchor h z).x z.c z.r up in
    let at = ahead.whole z is is (up_to_along from (numbers_of a) (key h z) least.1 (inl after)) in
    let e = candidate_at nexts at.0 in
    let away : (IsInResolution a.c a.r z → ⊥) → IsUpTo (numbers_after a) (numbers_of e) = λ apart. elim (least.2 at.0 at.1 at.2.onward) [
      | inl before ↦ up_to_more a.rank a.y a.x a.c a.r e.rank e.y e.x e.c e.r before
      | inr same ↦ absurd (apart (sym at.2.beside.0 ∙ sym (fourth _ _ _ _ _ _ _ _ _ _ same), sym at.2.beside.1 ∙ sym (fifth _ _ _ _ _ _ _ _ _ _ same)))
    ] in
    let other : (IsInResolution a.c a.r z → ⊥) → at.0 ≡ b → ⊥ = λ apart same. apart (
      sym at.2.beside.0 ∙ ap (λ (j : ℕ). (candidate_at nexts j).c) same,
      sym at.2.beside.1 ∙ ap (λ (j : ℕ). (candidate_at nexts j).r) same,
    ) in
    let found : (IsInResolution a.c a.r z → ⊥) → (i : ℕ) × (i < length nexts) × (i ≡ b → ⊥) × IsCandidate (numbers_after a) h z (candidate_at nexts i) =
    λ apart. (at.0, at.1, other apart, record { beside = at.2.beside; onward = away apart; before = at.2.before }) in
    elim (cases_eq z.c a.c) [
      | inl c ↦ elim (cases_eq z.r a.r) [ inl r ↦ inl (c, r) | inr not ↦ inr (found (λ both. not both.1)) ]
      | inr not ↦ inr (found (λ both. not both.0))
    ]
  where
    fourth : (t y x c r v a b d s : ℕ) → t ∷ y ∷ x ∷ c ∷ r ∷ [] ≡ v ∷ a ∷ b ∷ d ∷ s ∷ [] → c ≡ d
    fourth t y x c r v a b d s e = cc

    fifth : (t y x c r v a b d s : ℕ) → t ∷ y ∷ x ∷ c ∷ r ∷ [] ≡ v ∷ a ∷ b ∷ d ∷ s ∷ [] → r ≡ s
    fifth t y x c r v a b d s e = cc

-- the candidates once the least was replaced by the next one of its resolution,
pub ahead_replaced : (h : Head) (from : List ℕ) (nexts : List Anchored) (b : ℕ) (next : Anchored) → IsAhead h from nexts → IsLeastAt nexts from (length nexts) (Some b)
    → IsLeast h (numbers_after (candidate_at nexts b)) (IsInResolution (candidate_at nexts b).c (candidate_at nexts b).r) next
    → IsInResolution (candidate_at nexts b).c (candidate_at nexts b).r (place_in next)
    → IsNear next
    → IsAhead h (numbers_after (candidate_at nexts b)) (set nexts b next)
ahead_replaced h from nexts b next ahead least one beside near =
    let nowhere : Anchored = record { rank = 0; y = 0; x = 0; c = 0; r = 0; k = 0 } in
    let count = length-set nexts b next in
    let here : candidate_at (set nexts b next) b ≡ next = get_or-set_same nexts b next nowhere least.0 in
    let kept : (i : ℕ) → (i ≡ b → ⊥) → candidate_at (set nexts b next) i ≡ candidate_at nexts i = λ i not. get_or-set_other nexts b i next nowhere not in
    let there : IsThere h next = record { is = one.is; anchored = one.anchored; near = near } in
    let from_there : Place → Anchored → Type 0 = λ z a. IsCandidate (numbers_after (candidate_at nexts b)) h z a in
    let numbers = sym (numbers_are_key h next one.anchored) in
    record {
      each = λ i lt. elim (cases_eq i b) [
        | inl same ↦ subst (λ (j : ℕ). IsThere h (candidate_at (set nexts b next) j)) (sym same) (subst (IsThere h) (sym here) there)
        | inr not ↦ subst (IsThere h) (sym (kept i not)) (ahead.each i (omega (arith, count)))
      ];
      whole = λ z is among up. elim (elsewhere h from nexts b ahead least z is up) [
        | inl same ↦ (
          b,
          omega (arith, count, least.0),
          subst (from_there z) (sym here) (record {
            beside = (beside.0 ∙ sym same.0, beside.1 ∙ sym same.1);
            onward = subst (λ (w : List ℕ). IsUpTo (numbers_after (candidate_at nexts b)) w) numbers one.onward;
            before = subst (λ (w : List ℕ). IsUpTo w (key h z)) numbers (one.least z is same up);
          }),
        )
        | inr (i, lt, not, candidate) ↦ (i, omega (arith, count), subst (from_there z) (sym (kept i not)) candidate)
      ];
    }

-- and where it has none
pub ahead_without : (h : Head) (from : List ℕ) (nexts : List Anchored) (b : ℕ) → IsAhead h from nexts → IsLeastAt nexts from (length nexts) (Some b)
    → IsLeastOf h (numbers_after (candidate_at nexts b)) (IsInResolution (candidate_at nexts b).c (candidate_at nexts b).r) None
    → IsAhead h (numbers_after (candidate_at nexts b)) nexts
ahead_without h from nexts b ahead least none = record {
  each = ahead.each;
  whole = λ z is among up. elim (elsewhere h from nexts b ahead least z is up) [
    | inl same ↦ absurd (none z is same up)
    | inr (i, lt, not, candidate) ↦ (i, lt, candidate)
  ];
}

-- no candidates, before the first resolution,
pub ahead_at_first : (h : Head) (from : List ℕ) → IsAheadIn h (IsOfEarlier 0 0) from []
ahead_at_first h from = record {
  each = λ i lt. absurd (omega arith);
  whole = λ z is among up. absurd (elim among [ inl lt ↦ omega arith | inr same ↦ omega (arith, same.1) ]);
}

-- with that of one more resolution,
pub ahead_added : (h : Head) (from : List ℕ) (c r : ℕ) (nexts : List Anchored) (one : Anchored) → IsAheadIn h (IsOfEarlier c r) from nexts → IsLeast h from (IsInResolution c r) one → IsInResolution c r (place_in one) → IsNear one
    → IsAheadIn h (IsOfEarlier c (r + 1)) from (nexts ++ one ∷ [])
ahead_added h from c r nexts one ahead least beside near =
    let nowhere : Anchored = record { rank = 0; y = 0; x = 0; c = 0; r = 0; k = 0 } in
    let count : length (nexts ++ one ∷ []) ≡ length nexts + 1 = omega (arith, length-append nexts (one ∷ [])) in
    let here : candidate_at (nexts ++ one ∷ []) (length nexts) ≡ one = get_or-append_seam nexts one [] nowhere in
    let kept : (i : ℕ) → i < length nexts → candidate_at (nexts ++ one ∷ []) i ≡ candidate_at nexts i = λ i lt. get_or-append nexts (one ∷ []) nowhere i lt in
    let there : IsThere h one = record { is = least.is; anchored = least.anchored; near = near } in
    let numbers = sym (numbers_are_key h one least.anchored) in
    record {
      each = λ i lt. elim (cases_lt i (length nexts)) [
        | inl less ↦ subst (IsThere h) (sym (kept i less)) (ahead.each i less)
        | inr ge ↦
            let same : length nexts ≡ i = omega (arith, count) in
            subst (λ (j : ℕ). IsThere h (candidate_at (nexts ++ one ∷ []) j)) same (subst (IsThere h) (sym here) there)
      ];
      whole = λ z is among up. elim (here_or_behind c r z among) [
        | inl early ↦
            let at = ahead.whole z is early up in
            (at.0, omega (arith, count, at.1), subst (IsCandidate from h z) (sym (kept at.0 at.1)) at.2)
        | inr same ↦ (
          length nexts,
          omega (arith, count),
          subst (IsCandidate from h z) (sym here) (record {
            beside = (beside.0 ∙ sym same.0, beside.1 ∙ sym same.1);
            onward = subst (λ (w : List ℕ). IsUpTo from w) numbers least.onward;
            before = subst (λ (w : List ℕ). IsUpTo w (key h z)) numbers (least.least z is same up);
          }),
        )
      ];
    }

-- or of one that has none,
pub ahead_no_more : (h : Head) (from : List ℕ) (c r : ℕ) (nexts : List Anchored) → IsAheadIn h (IsOfEarlier c r) from nexts → IsLeastOf h from (IsInResolution c r) None → IsAheadIn h (IsOfEarlier c (r + 1)) from nexts
ahead_no_more h from c r nexts ahead none = record {
  each = ahead.each;
  whole = λ z is among up. elim (here_or_behind c r z among) [ inl early ↦ ahead.whole z is early up | inr same ↦ absurd (none z is same up) ];
}

-- and those of some precincts are those of others among them
pub ahead_among : (h : Head) (from : List ℕ) (A B : Place → Type 0) (nexts : List Anchored) → ((z : Place) → IsPrecinct h z → B z → A z) → IsAheadIn h A from nexts → IsAheadIn h B from nexts
ahead_among h from A B nexts fewer ahead = record { each = ahead.each; whole = λ z is among up. ahead.whole z is (fewer z is among) up }

-- a list cut or filled up by one as long is that one
pub refilled : (xs ws : List Anchored) → length ws ≡ length xs → refill (length xs) xs ws ≡ ws
refilled xs ws same = subst (λ (n : ℕ). take n (ws ++ drop (length ws) xs) ≡ ws) same (front ws (drop (length ws) xs)) where
  front : (ws zs : List Anchored) → take (length ws) (ws ++ zs) ≡ ws
  front [] zs = refl
  front (w ∷ ws) zs = ap (λ (l : List Anchored). w ∷ l) (front ws zs)

-- the key just after a precinct that is there
just_after : (h : Head) (a : Anchored) → IsThere h a → IsJustAfter h (place_in a) a.rank a.y a.x
just_after h a there = record {
  rank_is = ap (λ (b : Anchored). b.rank) there.anchored;
  y_is = ap (λ (b : Anchored). b.y) there.anchored;
  x_is = ap (λ (b : Anchored). b.x) there.anchored;
}

-- the least precinct after one is the next,
pub next_after : (h : Head) (a next : Anchored) → IsWithinLimits h → IsThere h a → IsLeast h (numbers_after a) (IsPrecinct h) next → later h (place_in a) ≡ place_in next ∷ later h (place_in next)
next_after h a next limits there least = next_is h (place_in a) a.rank a.y a.x next limits (just_after h a there) least

-- and where there is none, that one is the last
pub none_after : (h : Head) (a : Anchored) → IsWithinLimits h → IsThere h a → IsLeastOf h (numbers_after a) (IsPrecinct h) None → later h (place_in a) ≡ []
none_after h a limits there none = last_is h (place_in a) a.rank a.y a.x limits (just_after h a there) none
