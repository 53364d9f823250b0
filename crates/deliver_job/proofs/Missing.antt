-- The first missing position of a list, item by item.
use Rattle.std.proofs.Common.{◌≡◌, ◌<◌, ◌≤◌, ◌+◌, ◌-◌, ℕ, zero, suc, max, Bool, true, false, List, [], ◌∷◌, ◌++◌, length, drop, get_or, nat_le, Option, Some, None, refl, sym, ◌∙◌, ap, inl, inr, arith, if◌then◌else◌}
use Rattle.std.specs.List.{find, range_with_len}
use Rattle.std.proofs.lemmas.Bool.{lt-leb, cases_lt}
use Rattle.std.proofs.lemmas.List.{append-nil, drop_more}
use Rattle.delivery_model.specs.Delivering.{Range, positions_of, first_missing}
use Rattle.delivery_model.proofs.Delivered.{missing_is_greater}
use Rattle.deliver_job.specs.declared.items.Item.{Item}
use Rattle.deliver_job.specs.Items.{range_of, ranges_of}

-- the first of two lists that passes a test
find_later : (t : ℕ → Bool) (xs ys : List ℕ) → find t xs ≡ None → find t (xs ++ ys) ≡ find t ys
find_later t [] ys e = refl
find_later t (x ∷ xs) ys e = by (t x) e (find_later t xs ys) where
  by : (b : Bool) → (if b then Some x else find t xs) ≡ None → (find t xs ≡ None → find t (xs ++ ys) ≡ find t ys) → (if b then Some x else find t (xs ++ ys)) ≡ find t ys
  by true f ih = absurd (cc)
  by false f ih = ih f

find_first : (t : ℕ → Bool) (xs ys : List ℕ) (at : ℕ) → find t xs ≡ Some at → find t (xs ++ ys) ≡ Some at
find_first t [] ys at e = absurd (cc)
find_first t (x ∷ xs) ys at e = by (t x) e (find_first t xs ys at) where
  by : (b : Bool) → (if b then Some x else find t xs) ≡ Some at → (find t xs ≡ Some at → find t (xs ++ ys) ≡ Some at) → (if b then Some x else find t (xs ++ ys)) ≡ Some at
  by true f ih = f
  by false f ih = ih f

-- the positions of one item
one_item : (r : Range) (n : ℕ) → find (λ i. nat_le n i) (range_with_len r.first (r.last + 1 - r.first)) ≡ first_missing (r ∷ []) n
one_item r n = ap (find (λ i. nat_le n i)) (sym (append-nil (range_with_len r.first (r.last + 1 - r.first))))

pub has_item : (r : Range) (list : List Range) (n : ℕ) → first_missing (r ∷ []) n ≡ None → first_missing (r ∷ list) n ≡ first_missing list n
has_item r list n e = find_later (λ i. nat_le n i) (range_with_len r.first (r.last + 1 - r.first)) (positions_of list) (one_item r n ∙ e)

pub lacks_item : (r : Range) (list : List Range) (n at : ℕ) → first_missing (r ∷ []) n ≡ Some at → first_missing (r ∷ list) n ≡ Some at
lacks_item r list n at e = find_first (λ i. nat_le n i) (range_with_len r.first (r.last + 1 - r.first)) (positions_of list) at (one_item r n ∙ e)

-- consecutive positions below the number of frames
all_there : (n first k : ℕ) → first + k ≤ n → find (λ i. nat_le n i) (range_with_len first k) ≡ None
all_there n first zero fits = refl
all_there n first (suc k) fits =
    ap (λ (b : Bool). if b then Some first else find (λ i. nat_le n i) (range_with_len (first + 1) k)) (lt-leb n first (omega arith))
    ∙ all_there n (first + 1) k (omega arith)

-- an item without positions
pub empty_item : (r : Range) (n : ℕ) → r.last < r.first → first_missing (r ∷ []) n ≡ None
empty_item r n none =
    let e : r.last + 1 - r.first ≡ 0 = omega arith in
    sym (one_item r n) ∙ ap (λ (k : ℕ). find (λ i. nat_le n i) (range_with_len r.first k)) e

-- an item whose last position is there
pub item_within : (r : Range) (n : ℕ) → r.first ≤ r.last → r.last < n → first_missing (r ∷ []) n ≡ None
item_within r n up low = sym (one_item r n) ∙ all_there n r.first (r.last + 1 - r.first) (omega arith)

-- an item whose last position isn't there
pub item_past : (r : Range) (n at : ℕ) → r.first ≤ r.last → n ≤ r.last → at ≡ max r.first n → first_missing (r ∷ []) n ≡ Some at
item_past r n at up past is = missing_is_greater r n up past ∙ ap Some (sym is)

-- an item that lacks nothing has its last position
pub last_is_there : (r : Range) (n : ℕ) → first_missing (r ∷ []) n ≡ None → r.first ≤ r.last → r.last < n
last_is_there r n e up = elim (cases_lt r.last n) [
  | inl low ↦ low
  | inr past ↦ let f : None ≡ Some (max r.first n) = sym e ∙ missing_is_greater r n up past in absurd (cc)
]

-- the item at an index of a list, and those after it
pub next_item : (list : List Item) (i n : ℕ) (d : Item) → i < length list → first_missing (range_of (get_or list i d) ∷ []) n ≡ None → first_missing (ranges_of (drop i list)) n ≡ first_missing (ranges_of (drop (i + 1) list)) n
next_item list i n d low none =
    ap (λ (l : List Item). first_missing (ranges_of l) n) (drop_more list i d low)
    ∙ has_item (range_of (get_or list i d)) (ranges_of (drop (i + 1) list)) n none

pub last_item : (list : List Item) (i n at : ℕ) (d : Item) → i < length list → first_missing (range_of (get_or list i d) ∷ []) n ≡ Some at → first_missing (ranges_of (drop i list)) n ≡ Some at
last_item list i n at d low missing =
    ap (λ (l : List Item). first_missing (ranges_of l) n) (drop_more list i d low)
    ∙ lacks_item (range_of (get_or list i d)) (ranges_of (drop (i + 1) list)) n at missing

-- where no position of a list is missing, none of an item is
pub item_there : (list : List Item) (i n : ℕ) (d : Item) → i < length list → first_missing (ranges_of (drop i list)) n ≡ None → first_missing (range_of (get_or list i d) ∷ []) n ≡ None
item_there list i n d low none = by (first_missing (range_of (get_or list i d) ∷ []) n) refl where
  by : (o : Option ℕ) → first_missing (range_of (get_or list i d) ∷ []) n ≡ o → first_missing (range_of (get_or list i d) ∷ []) n ≡ None
  by None e = e
  by (Some at) e = let f : Some at ≡ None = sym (last_item list i n at d low e) ∙ none in absurd (cc)
