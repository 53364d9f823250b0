-- The positions of grids: they are distinct, and each is one of its grid.
use Rattle.std.proofs.Common.{◌≡◌, ◌≢◌, ◌<◌, ◌≤◌, ◌+◌, ◌==◌, ◌&&◌, ◌||◌, ℕ, zero, suc, Bool, true, false, List, [], ◌∷◌, ◌++◌, map, refl, sym, ◌∙◌, ap, inl, inr, arith}
use Rattle.std.specs.List.{AllByRecursion, filter, flat_map, list_any, range_with_len}
use Rattle.std.proofs.lemmas.Bool.Decides.{eqb_tells}
use Rattle.codestream_model.specs.Values.{Grid, Block}
use Rattle.codestream_model.specs.TagTrees.{Seat, IsSeat, seats, seat_of}
use Rattle.codestream_model.specs.HeaderPieces.{stands_at}
use Rattle.codestream_model.specs.PacketHeader.{is_included}
use Rattle.codestream_model.proofs.TreeLemmas.{AreDistinct, either, and_false, same_number}

-- a fact of all items of two lists
pub all-append : {X : Type 0} (P : X → Type 0) (xs ys : List X) → AllByRecursion P xs → AllByRecursion P ys → AllByRecursion P (xs ++ ys)
all-append P [] ys a b = b
all-append P (x ∷ xs) ys a b = (a.0, all-append P xs ys a.1 b)

-- a fact of all items, of those after some
pub all-behind : {X : Type 0} (P : X → Type 0) (xs ys : List X) → AllByRecursion P (xs ++ ys) → AllByRecursion P xs × AllByRecursion P ys
all-behind P [] ys a = (tt, a)
all-behind P (x ∷ xs) ys a =
    let more = all-behind P xs ys a.1 in
    ((a.0, more.0), more.1)

-- a fact that follows from another one
pub all-map : {X : Type 0} (P Q : X → Type 0) (xs : List X) → ((x : X) → P x → Q x) → AllByRecursion P xs → AllByRecursion Q xs
all-map P Q [] f a = tt
all-map P Q (x ∷ xs) f a = (f x a.0, all-map P Q xs f a.1)

-- a fact of all items, of those that pass a test
pub all-filter : {X : Type 0} (P : X → Type 0) (test : X → Bool) (xs : List X) → AllByRecursion P xs → AllByRecursion P (filter test xs)
all-filter P test [] a = tt
all-filter P test (x ∷ xs) a = elim (either (test x)) [
  | inl t ↦ rw t (a.0, all-filter P test xs a.1)
  | inr t ↦ rw t (all-filter P test xs a.1)
]

-- distinct positions that pass a test are distinct
pub distinct-filter : (test : Seat → Bool) (xs : List Seat) → AreDistinct xs → AreDistinct (filter test xs)
distinct-filter test [] d = tt
distinct-filter test (x ∷ xs) d = elim (either (test x)) [
  | inl t ↦ rw t (all-filter (λ (t : Seat). ((t.col == x.col) && (t.row == x.row)) ≡ false) test xs d.0, distinct-filter test xs d.1)
  | inr t ↦ rw t (distinct-filter test xs d.1)
]

-- distinct positions after others that are distinct from them all
distinct-append : (xs ys : List Seat) → AreDistinct xs → AreDistinct ys
    → AllByRecursion (λ x. AllByRecursion (λ t. ((t.col == x.col) && (t.row == x.row)) ≡ false) ys) xs → AreDistinct (xs ++ ys)
distinct-append [] ys a b c = b
distinct-append (x ∷ xs) ys a b c = (all-append (λ (t : Seat). ((t.col == x.col) && (t.row == x.row)) ≡ false) xs ys a.0 c.0, distinct-append xs ys a.1 b c.1)

-- the positions of a row, from a column on
abbrev pub row_from : ℕ → ℕ → ℕ → ℕ → List Seat
row_from band row col n = map (λ c. record { band = band; col = c; row = row }) (range_with_len col n)

-- the positions of rows of n columns, from a row on
abbrev pub rows_from : ℕ → ℕ → ℕ → ℕ → List Seat
rows_from band cols row n = flat_map (λ r. row_from band r 0 cols) (range_with_len row n)

-- numbers that differ
differ : (a b : ℕ) → (a ≢ b) → (a == b) ≡ false
differ a b h = elim (eqb_tells a b) [ inl t ↦ absurd (h t.1) | inr t ↦ t.0 ]

-- the positions of a row to the right of a column are others than one in it
row_beside : (band row col n : ℕ) (x : Seat) → x.col < col → AllByRecursion (λ t. ((t.col == x.col) && (t.row == x.row)) ≡ false) (row_from band row col n)
row_beside band row col zero x h = tt
row_beside band row col (suc n) x h = (rw (differ col x.col (λ e. omega arith)) refl, row_beside band row (col + 1) n x (omega arith))

-- the positions of a row are distinct
row_distinct : (band row col n : ℕ) → AreDistinct (row_from band row col n)
row_distinct band row col zero = tt
row_distinct band row col (suc n) = (row_beside band row (col + 1) n (record { band = band; col = col; row = row }) (omega arith), row_distinct band row (col + 1) n)

-- the positions of a row are others than one in a row above
row_below : (band row col n : ℕ) (x : Seat) → x.row < row → AllByRecursion (λ t. ((t.col == x.col) && (t.row == x.row)) ≡ false) (row_from band row col n)
row_below band row col zero x h = tt
row_below band row col (suc n) x h = (rw (differ row x.row (λ e. omega arith)) (and_false (col == x.col)), row_below band row (col + 1) n x h)

rows_below : (band cols row n : ℕ) (x : Seat) → x.row < row → AllByRecursion (λ t. ((t.col == x.col) && (t.row == x.row)) ≡ false) (rows_from band cols row n)
rows_below band cols row zero x h = tt
rows_below band cols row (suc n) x h =
    all-append (λ (t : Seat). ((t.col == x.col) && (t.row == x.row)) ≡ false) (row_from band row 0 cols) (rows_from band cols (row + 1) n)
    (row_below band row 0 cols x h) (rows_below band cols (row + 1) n x (omega arith))

-- each position of a row is above the rows below it
row_above : (band cols row col m n : ℕ) → AllByRecursion (λ x. AllByRecursion (λ t. ((t.col == x.col) && (t.row == x.row)) ≡ false) (rows_from band cols (row + 1) n)) (row_from band row col m)
row_above band cols row col zero n = tt
row_above band cols row col (suc m) n =
    (rows_below band cols (row + 1) n (record { band = band; col = col; row = row }) (omega arith), row_above band cols row (col + 1) m n)

-- the positions of rows are distinct
rows_distinct : (band cols row n : ℕ) → AreDistinct (rows_from band cols row n)
rows_distinct band cols row zero = tt
rows_distinct band cols row (suc n) =
    distinct-append (row_from band row 0 cols) (rows_from band cols (row + 1) n) (row_distinct band row 0 cols) (rows_distinct band cols (row + 1) n) (row_above band cols row 0 cols n)

-- the positions of a grid are distinct
pub seats_distinct : (g : Grid) → AreDistinct (seats g)
seats_distinct g = rows_distinct g.band g.cols 0 g.rows

-- and each is one of the grid
row_seats : (g : Grid) (row col n : ℕ) → row < g.rows → col + n ≤ g.cols → AllByRecursion (IsSeat g) (row_from g.band row col n)
row_seats g row col zero r c = tt
row_seats g row col (suc n) r c = (record { band = refl; col = omega arith; row = r }, row_seats g row (col + 1) n r (omega arith))

rows_seats : (g : Grid) (row n : ℕ) → row + n ≤ g.rows → AllByRecursion (IsSeat g) (rows_from g.band g.cols row n)
rows_seats g row zero h = tt
rows_seats g row (suc n) h =
    all-append (IsSeat g) (row_from g.band row 0 g.cols) (rows_from g.band g.cols (row + 1) n) (row_seats g row 0 g.cols (omega arith) (omega arith)) (rows_seats g (row + 1) n (omega arith))

pub seats_are_seats : (g : Grid) → AllByRecursion (IsSeat g) (seats g)
seats_are_seats g = rows_seats g 0 g.rows (omega arith)

-- equality of numbers is the same both ways
pub eqb_sym : (a b : ℕ) → (a == b) ≡ (b == a)
eqb_sym a b = elim (eqb_tells a b) [
  | inl t ↦ t.0 ∙ elim (eqb_tells b a) [ inl u ↦ sym u.0 | inr u ↦ absurd (u.1 (sym t.1)) ]
  | inr t ↦ t.0 ∙ elim (eqb_tells b a) [ inl u ↦ absurd (t.1 (sym u.1)) | inr u ↦ sym u.0 ]
]

-- a code-block that isn't included is at no position
pub none_stands : (s : Seat) (blocks : List Block) → is_included blocks s ≡ false → filter (stands_at s) blocks ≡ []
none_stands s [] e = refl
none_stands s (b ∷ blocks) e = elim (either (stands_at s b)) [
  | inl t ↦ let f : (true || list_any (stands_at s) blocks) ≡ false = rw t at e in absurd (cc)
  | inr t ↦ let f : list_any (stands_at s) blocks ≡ false = rw t at e in rw t (none_stands s blocks f)
]

-- a test after a weaker one is the test
pub filter_within : {X : Type 0} (p q : X → Bool) (xs : List X) → ((x : X) → p x ≡ true → q x ≡ true) → filter p xs ≡ filter p (filter q xs)
filter_within {X} p q [] f = refl
filter_within {X} p q (x ∷ xs) f = elim (either (p x)) [
  | inl t ↦ rw (f x t, t) (ap (λ (l : List X). x ∷ l) (filter_within p q xs f))
  | inr t ↦ elim (either (q x)) [
    | inl u ↦ rw (u, t) (filter_within p q xs f)
    | inr u ↦ rw (u, t) (filter_within p q xs f)
  ]
]

-- a code-block is at its own position alone
pub stands_beside : (s : Seat) (b : Block) → ((s.col == b.col) && (s.row == b.row)) ≡ false → stands_at s b ≡ false
stands_beside s b e =
    let f : ((b.col == s.col) && (b.row == s.row)) ≡ false = rw (eqb_sym b.col s.col, eqb_sym b.row s.row) e in
    ap (λ (x : Bool). (b.band == s.band) && x) f ∙ and_false (b.band == s.band)

pub stands_apart : (s : Seat) (b : Block) → ((b.col == s.col) && (b.row == s.row)) ≡ false → stands_at s b ≡ false
stands_apart s b e = ap (λ (x : Bool). (b.band == s.band) && x) e ∙ and_false (b.band == s.band)

-- no code-block at another position passes
none_pass : (s : Seat) (blocks : List Block) → AllByRecursion (λ (t : Seat). ((t.col == s.col) && (t.row == s.row)) ≡ false) (map seat_of blocks) → filter (stands_at s) blocks ≡ []
none_pass s [] a = refl
none_pass s (b ∷ blocks) a = rw (stands_apart s b a.0) (none_pass s blocks a.1)

-- a code-block is at its own position
pub stands_here : (b : Block) → stands_at (seat_of b) b ≡ true
stands_here b = rw (same_number b.band, same_number b.col, same_number b.row) refl

-- a fact of what all items become, of one of them
pub among_map : {X Y : Type 0} (P : Y → Type 0) (f : X → Y) (xs : List X) (x : X) (ys : List X) → AllByRecursion P (map f (xs ++ x ∷ ys)) → P (f x)
among_map P f [] x ys a = a.0
among_map P f (y ∷ xs) x ys a = among_map P f xs x ys a.1

-- of code-blocks with distinct positions one alone is at a position
pub one_stands : (b : Block) (done left : List Block) → AreDistinct (map seat_of (done ++ b ∷ left)) → filter (stands_at (seat_of b)) (done ++ b ∷ left) ≡ b ∷ []
one_stands b [] left d = rw (stands_here b) (ap (λ (l : List Block). b ∷ l) (none_pass (seat_of b) left d.0))
one_stands b (x ∷ done) left d =
    let other : ((b.col == x.col) && (b.row == x.row)) ≡ false = among_map (λ (t : Seat). ((t.col == x.col) && (t.row == x.row)) ≡ false) seat_of done b left d.0 in
    rw (stands_beside (seat_of b) x other) (one_stands b done left d.1)
