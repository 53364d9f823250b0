-- The trees of a grid keep their shape, and the rows of its positions.
use Rattle.std.proofs.Common.{◌≡◌, ◌<◌, ◌+◌, ℕ, zero, suc, List, [], ◌∷◌, ◌++◌, map, refl, ◌∙◌, ap, arith}
use Rattle.std.specs.List.{range_with_len, flat_map}
use Rattle.std.proofs.lemmas.Grind.{flat_map-append}
use Rattle.std.proofs.lemmas.List.{append-nil, map-append}
use Rattle.codestream_model.specs.TagTrees.{Seat}
use Rattle.tag_tree.specs.TreeState.{TreeState}
use Rattle.tag_tree.specs.LeafReading.{IsSameShape}
use Rattle.packet_header.specs.Positions.{HasGrid, row_seats}
use Rattle.packet_header.specs.declared.grids.TagTrees.{TagTrees}

-- a shape that is kept
pub shape_kept : (x y z : TreeState) → IsSameShape x y → IsSameShape y z → IsSameShape x z
shape_kept x y z a b = record { leaves = b.leaves ∙ a.leaves; cols = b.cols ∙ a.cols; rows = b.rows ∙ a.rows; root = b.root ∙ a.root }

pub same_shape : (x : TreeState) → IsSameShape x x
same_shape x = record { leaves = refl; cols = refl; rows = refl; root = refl }

pub grid_kept : (t u : TagTrees) (cols rows : ℕ) → HasGrid t cols rows → IsSameShape t.inclusion u.inclusion → IsSameShape t.planes u.planes → HasGrid u cols rows
grid_kept t u cols rows g a b = record { inclusion_cols = a.cols ∙ g.inclusion_cols; inclusion_rows = a.rows ∙ g.inclusion_rows; planes_cols = b.cols ∙ g.planes_cols; planes_rows = b.rows ∙ g.planes_rows }

-- a number within a range: those before it, it, and those after it
pub range_at : (a k n : ℕ) → k < n → (rest : List ℕ) × (range_with_len a n ≡ range_with_len a k ++ (a + k) ∷ rest)
range_at a zero zero h = absurd (omega arith)
range_at a (suc k) zero h = absurd (omega arith)
range_at a zero (suc n) h = let e : a ≡ a + 0 = omega arith in (range_with_len (a + 1) n, ap (λ (x : ℕ). x ∷ range_with_len (a + 1) n) e)
range_at a (suc k) (suc n) h =
    let r = range_at (a + 1) k n (omega arith) in
    let e : (a + 1) + k ≡ a + suc k = omega arith in
    (r.0, ap (λ (l : List ℕ). a ∷ l) (r.1 ∙ ap (λ (x : ℕ). range_with_len (a + 1) k ++ x ∷ r.0) e))

-- and one number more
pub range_more : (a k : ℕ) → range_with_len a (k + 1) ≡ range_with_len a k ++ (a + k) ∷ []
range_more a zero = let e : a ≡ a + 0 = omega arith in ap (λ (x : ℕ). x ∷ []) e
range_more a (suc k) =
    let e : (a + 1) + k ≡ a + suc k = omega arith in
    let f : suc k + 1 ≡ suc (k + 1) = omega arith in
    ap (range_with_len a) f ∙ ap (λ (l : List ℕ). a ∷ l) (range_more (a + 1) k ∙ ap (λ (x : ℕ). range_with_len (a + 1) k ++ x ∷ []) e)

-- a position of a row, and those after it
pub row_at : (band cols row col : ℕ) → col < cols → (rest : List Seat) × (row_seats band cols row ≡ row_seats band col row ++ (record { band = band; col = col; row = row } ∷ [] ++ rest))
row_at band cols row col h =
    let seat : ℕ → Seat = λ c. record { band = band; col = c; row = row } in
    let r = range_at 0 col cols h in
    let e : 0 + col ≡ col = omega arith in
    (map seat r.0, ap (map seat) r.1 ∙ (map-append seat (range_with_len 0 col) ((0 + col) ∷ r.0) ∙ ap (λ (c : ℕ). row_seats band col row ++ seat c ∷ map seat r.0) e))

pub row_more : (band row col : ℕ) → row_seats band (col + 1) row ≡ row_seats band col row ++ record { band = band; col = col; row = row } ∷ []
row_more band row col =
    let seat : ℕ → Seat = λ c. record { band = band; col = c; row = row } in
    let e : 0 + col ≡ col = omega arith in
    ap (map seat) (range_more 0 col) ∙ (map-append seat (range_with_len 0 col) ((0 + col) ∷ []) ∙ ap (λ (c : ℕ). row_seats band col row ++ seat c ∷ []) e)

-- the rows of a grid before one, that row, and those after it
abbrev pub rows_of : ℕ → ℕ → ℕ → List Seat
rows_of band cols rows = flat_map (row_seats band cols) (range_with_len 0 rows)

pub rows_at : (band cols rows row : ℕ) → row < rows → (rest : List Seat) × (rows_of band cols rows ≡ rows_of band cols row ++ (row_seats band cols row ++ rest))
rows_at band cols rows row h =
    let r = range_at 0 row rows h in
    let e : 0 + row ≡ row = omega arith in
    let f = row_seats band cols in
    (flat_map f r.0, ap (flat_map f) r.1 ∙ (flat_map-append f (range_with_len 0 row) ((0 + row) ∷ r.0) ∙ ap (λ (n : ℕ). rows_of band cols row ++ (f n ++ flat_map f r.0)) e))

pub rows_more : (band cols row : ℕ) → rows_of band cols (row + 1) ≡ rows_of band cols row ++ row_seats band cols row
rows_more band cols row =
    let e : 0 + row ≡ row = omega arith in
    let f = row_seats band cols in
    ap (flat_map f) (range_more 0 row) ∙ (flat_map-append f (range_with_len 0 row) ((0 + row) ∷ []) ∙ (ap (λ (l : List Seat). rows_of band cols row ++ l) (append-nil (f (0 + row))) ∙ ap (λ (n : ℕ). rows_of band cols row ++ f n) e))
