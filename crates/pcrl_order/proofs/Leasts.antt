-- The least precinct from a key on: of a resolution, and of more and more of them.
use Rattle.std.proofs.Common.{◌≡◌, ◌<◌, ◌≤◌, ◌↔◌, ◌+◌, ◌*◌, ◌⊎◌, ℕ, List, [], ◌∷◌, length, Option, None, Some, sym, ◌∙◌, subst, inl, inr, arith, mul-le-mul_right}
use Rattle.std.proofs.lemmas.Bool.{cases_lt}
use Rattle.codestream_model.specs.Values.{Pair, Head, Place}
use Rattle.codestream_model.specs.Precincts.{IsPrecinct}
use Rattle.codestream_model.specs.PacketOrder.{key, IsBefore}
use Rattle.codestream_model.proofs.Orders.{before_along}
use Rattle.precinct_geometry.specs.declared.course.Course.{Course}
use Rattle.precinct_geometry.specs.Courses.{corner_of, IsFirstFrom}
use Rattle.pcrl_order.specs.declared.anchored.Anchored.{Anchored}
use Rattle.pcrl_order.specs.Anchors.{place_in}
use Rattle.pcrl_order.specs.Least.{IsFrom, corner, IsChoice, IsUpTo, IsLeast, IsLeastOf, IsOfEarlier, IsInResolution}

-- later strips have no lesser anchors
later_corner : (s : Course) (i j : ℕ) → i ≤ j → corner_of s i ≤ corner_of s j
later_corner s i j le = let more : (s.first + i) * s.width ≤ (s.first + j) * s.width = mul-le-mul_right s.width (omega arith) in omega arith

-- a row is the first, with its first column, of all that aren't earlier
first_of_row : (rows columns : Course) (row j i : ℕ) → row ≤ j → IsFrom (corner_of rows row) (corner_of columns 0) (corner rows columns j i)
first_of_row rows columns row j i le =
    let up : corner_of rows row ≤ corner_of rows j = later_corner rows row j le in
    let over : corner_of columns 0 ≤ corner_of columns i = later_corner columns 0 i (omega arith) in
    elim (cases_lt (corner_of rows row) (corner_of rows j)) [
      | inl lt ↦ inl lt
      | inr ge ↦ inr (omega (arith, up, ge), over)
    ]

-- what is from a row and a column on has no earlier row
row_from : (rows columns : Course) (y x there j i : ℕ) → IsFirstFrom rows y there → IsFrom y x (corner rows columns j i) → there ≤ j
row_from rows columns y x there j i a (inl later) = (a j).0 (omega arith)
row_from rows columns y x there j i a (inr beside) = (a j).0 (omega (arith, beside.0))

-- the choice where the first row from there on is a later one, or none,
pub chosen_later : (rows columns : Course) (y x there : ℕ) → IsFirstFrom rows y there → (there < rows.count → y < corner_of rows there) → IsChoice rows columns y x there 0
chosen_later rows columns y x there a later = record {
  from = λ lt. inl (later lt);
  least = λ j i few f. let le = row_from rows columns y x there j i a f in (le, first_of_row rows columns there j i le);
}

-- where it is this row, which has a column from there on,
pub chosen_there : (rows columns : Course) (y x there right : ℕ) → IsFirstFrom rows y there → corner_of rows there ≤ y → IsFirstFrom columns x right → IsChoice rows columns y x there right
chosen_there rows columns y x there right a here d =
    let low : y ≤ corner_of rows there = (a there).1 (omega arith) in
    let same : y ≡ corner_of rows there = omega (arith, here, low) in
    let at : x ≤ corner_of columns right = (d right).1 (omega arith) in
    record {
      from = λ lt. inr (same, at);
      least = λ j i few f. (
        row_from rows columns y x there j i a f,
        elim f [
          | inl later ↦ inl (omega (arith, same))
          | inr beside ↦ inr (sym same ∙ beside.0, later_corner columns right i ((d i).0 beside.1))
        ],
      );
    }

-- and where it is this row, which has none
pub chosen_below : (rows columns : Course) (y x below right : ℕ) → IsFirstFrom rows (y + 1) below → IsFirstFrom columns x right → columns.count ≤ right → IsChoice rows columns y x below 0
chosen_below rows columns y x below right b d none =
    let low : y + 1 ≤ corner_of rows below = (b below).1 (omega arith) in
    record {
      from = λ lt. inl (omega arith);
      least = λ j i few f. elim f [
        | inl later ↦ let le : below ≤ j = (b j).0 (omega arith) in (le, first_of_row rows columns below j i le)
        | inr beside ↦ let column : right ≤ i = (d i).0 beside.1 in absurd (omega (arith, column))
      ];
    }

-- what is up to something that is up to a third is up to that
pub up_to_along : (a b c : List ℕ) → IsUpTo a b → IsUpTo b c → IsUpTo a c
up_to_along a b c (inl f) (inl g) = inl (before_along a b c f g)
up_to_along a b c (inl f) (inr e) = inl (subst (λ (w : List ℕ). IsBefore a w) e f)
up_to_along a b c (inr e) g = subst (λ (w : List ℕ). IsUpTo w c) (sym e) g

pub here_or_behind : (c r : ℕ) (z : Place) → IsOfEarlier c (r + 1) z → IsOfEarlier c r z ⊎ IsInResolution c r z
here_or_behind c r z (inl lt) = inl (inl lt)
here_or_behind c r z (inr (e, lt)) = elim (cases_lt z.r r) [
  | inl less ↦ inl (inr (e, less))
  | inr ge ↦ inr (e, omega arith)
]

-- none more is found,
pub none_more : (h : Head) (from : List ℕ) (c r : ℕ) (best : Option Anchored) → IsLeastOf h from (IsOfEarlier c r) best → ((z : Place) → IsPrecinct h z → IsInResolution c r z → IsUpTo from (key h z) → ⊥) → IsLeastOf h from (IsOfEarlier c (r + 1)) best
none_more h from c r None none here = λ z is behind up. elim (here_or_behind c r z behind) [ inl early ↦ none z is early up | inr at ↦ here z is at up ]
none_more h from c r (Some a) least here = record {
  is = least.is;
  anchored = least.anchored;
  onward = least.onward;
  least = λ z is behind up. elim (here_or_behind c r z behind) [ inl early ↦ least.least z is early up | inr at ↦ absurd (here z is at up) ];
}

-- or the first,
pub first_more : (h : Head) (from : List ℕ) (c r : ℕ) (one : Anchored) → IsLeastOf h from (IsOfEarlier c r) None → IsLeast h from (IsInResolution c r) one → IsLeast h from (IsOfEarlier c (r + 1)) one
first_more h from c r one none at = record {
  is = at.is;
  anchored = at.anchored;
  onward = at.onward;
  least = λ z is behind up. elim (here_or_behind c r z behind) [ inl early ↦ absurd (none z is early up) | inr here ↦ at.least z is here up ];
}

-- or one that is less than the least so far,
pub less_more : (h : Head) (from : List ℕ) (c r : ℕ) (one best : Anchored) → IsLeast h from (IsOfEarlier c r) best → IsLeast h from (IsInResolution c r) one → IsUpTo (key h (place_in one)) (key h (place_in best)) → IsLeast h from (IsOfEarlier c (r + 1)) one
less_more h from c r one best least at less = record {
  is = at.is;
  anchored = at.anchored;
  onward = at.onward;
  least = λ z is behind up. elim (here_or_behind c r z behind) [
    | inl early ↦ up_to_along (key h (place_in one)) (key h (place_in best)) (key h z) less (least.least z is early up)
    | inr here ↦ at.least z is here up
  ];
}

-- or one that isn't
pub same_more : (h : Head) (from : List ℕ) (c r : ℕ) (one best : Anchored) → IsLeast h from (IsOfEarlier c r) best → IsLeast h from (IsInResolution c r) one → IsUpTo (key h (place_in best)) (key h (place_in one)) → IsLeast h from (IsOfEarlier c (r + 1)) best
same_more h from c r one best least at less = record {
  is = least.is;
  anchored = least.anchored;
  onward = least.onward;
  least = λ z is behind up. elim (here_or_behind c r z behind) [
    | inl early ↦ least.least z is early up
    | inr here ↦ up_to_along (key h (place_in best)) (key h (place_in one)) (key h z) less (at.least z is here up)
  ];
}

-- the numbers of a precinct from a key on: where its resolution isn't before that of the key,
pub from_beside : (y x c r d s : ℕ) (a : Pair) → (d < c → ⊥) → (d ≡ c → r ≤ s) → IsUpTo (y ∷ x ∷ c ∷ r ∷ []) (a.y ∷ a.x ∷ d ∷ s ∷ []) ↔ IsFrom y x a
from_beside y x c r d s a component resolution = (λ up. there y x c r d s a up, λ f. back y x c r d s a component resolution f) where
  there : (y x c r d s : ℕ) (a : Pair) → IsUpTo (y ∷ x ∷ c ∷ r ∷ []) (a.y ∷ a.x ∷ d ∷ s ∷ []) → IsFrom y x a
  there y x c r d s a (inl (inl lt)) = inl lt
  there y x c r d s a (inl (inr (e, inl lt))) = inr (e, omega arith)
  there y x c r d s a (inl (inr (e, inr f))) = inr (e, omega (arith, f.0))
  there y x c r d s a (inr e) = inr (cc, let same : x ≡ a.x = cc in omega arith)

  back : (y x c r d s : ℕ) (a : Pair) → (d < c → ⊥) → (d ≡ c → r ≤ s) → IsFrom y x a → IsUpTo (y ∷ x ∷ c ∷ r ∷ []) (a.y ∷ a.x ∷ d ∷ s ∷ [])
  back y x c r d s a component resolution (inl lt) = inl (inl lt)
  back y x c r d s a component resolution (inr (e, le)) = elim (cases_lt x a.x) [
    | inl lt ↦ inl (inr (e, inl lt))
    | inr ge ↦ elim (cases_lt c d) [
      | inl less ↦ inl (inr (e, inr (omega arith, inl less)))
      | inr more ↦
          let same : c ≡ d = omega (arith, component) in
          elim (cases_lt r s) [
            | inl lower ↦ inl (inr (e, inr (omega arith, inr (same, inl lower))))
            | inr higher ↦
                let xs : x ≡ a.x = omega arith in
                let rs : r ≡ s = omega (arith, resolution (sym same)) in
                inr (cc)
          ]
    ]
  ]

-- and where it is
pub from_beyond : (y x c r d s : ℕ) (a : Pair) → (d < c) ⊎ ((d ≡ c) × (s < r)) → IsUpTo (y ∷ x ∷ c ∷ r ∷ []) (a.y ∷ a.x ∷ d ∷ s ∷ []) ↔ IsFrom y (x + 1) a
from_beyond y x c r d s a before = (λ up. there y x c r d s a before up, λ f. back y x c r d s a f) where
  there : (y x c r d s : ℕ) (a : Pair) → (d < c) ⊎ ((d ≡ c) × (s < r)) → IsUpTo (y ∷ x ∷ c ∷ r ∷ []) (a.y ∷ a.x ∷ d ∷ s ∷ []) → IsFrom y (x + 1) a
  there y x c r d s a before (inl (inl lt)) = inl lt
  there y x c r d s a before (inl (inr (e, inl lt))) = inr (e, omega arith)
  there y x c r d s a before (inl (inr (e, inr (f, inl lt)))) = absurd (elim before [ inl less ↦ omega arith | inr same ↦ omega (arith, same.0) ])
  there y x c r d s a before (inl (inr (e, inr (f, inr (g, inl lt))))) = absurd (elim before [ inl less ↦ omega (arith, g) | inr same ↦ omega (arith, same.1) ])
  there y x c r d s a before (inl (inr (e, inr (f, inr (g, inr (i, none)))))) = absurd none
  there y x c r d s a before (inr e) = let cs : c ≡ d = cc in let rs : r ≡ s = cc in absurd (elim before [ inl less ↦ omega arith | inr same ↦ omega (arith, same.1) ])

  back : (y x c r d s : ℕ) (a : Pair) → IsFrom y (x + 1) a → IsUpTo (y ∷ x ∷ c ∷ r ∷ []) (a.y ∷ a.x ∷ d ∷ s ∷ [])
  back y x c r d s a (inl lt) = inl (inl lt)
  back y x c r d s a (inr (e, le)) = inl (inr (e, inl (omega arith)))

-- the least among some is the least among others, if these are among those
pub among_others : (h : Head) (from : List ℕ) (A B : Place → Type 0) (best : Option Anchored) → ((z : Place) → IsPrecinct h z → B z → A z) → IsLeastOf h from A best → IsLeastOf h from B best
among_others h from A B None fewer none = λ z is b up. none z is (fewer z is b) up
among_others h from A B (Some a) fewer least = record { is = least.is; anchored = least.anchored; onward = least.onward; least = λ z is b up. least.least z is (fewer z is b) up }

-- none is after the first resolution of the first component,
pub none_behind : (h : Head) (from : List ℕ) → IsLeastOf h from (IsOfEarlier 0 0) None
none_behind h from = λ z is behind up. elim behind [ inl lt ↦ omega arith | inr (e, lt) ↦ omega arith ]

-- those of a component are after the next,
pub component_behind : (h : Head) (c r : ℕ) → r ≡ h.levels + 1 → (z : Place) → IsPrecinct h z → IsOfEarlier (c + 1) 0 z → IsOfEarlier c r z
component_behind h c r e z is behind = elim behind [
  | inl lt ↦ elim (cases_lt z.c c) [ inl less ↦ inl less | inr ge ↦ inr (omega arith, omega (arith, is.resolution)) ]
  | inr (s, lt) ↦ absurd (omega arith)
]

-- and all are after the last
pub all_behind : (h : Head) (c : ℕ) → c ≡ length h.steps → (z : Place) → IsPrecinct h z → IsPrecinct h z → IsOfEarlier c 0 z
all_behind h c e z is more = inl (omega (arith, is.component))
