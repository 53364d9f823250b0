-- The bits that a leaf adds are those of its pieces in a packet header.
use Rattle.std.proofs.Common.{◌≡◌, ◌++◌, ℕ, Bool, not, List, [], ◌∷◌, map, refl, sym, ◌∙◌, ap}
use Rattle.std.specs.List.{filter, flat_map, list_any}
use Rattle.std.proofs.lemmas.List.Folds.{flat_map-map}
use Rattle.codestream_model.specs.Values.{Grid}
use Rattle.codestream_model.specs.TagTrees.{Seat, Labels, Step, label, parent_label, seats, shares, is_first, levels_from, root_level, inclusion_bits, value_steps, met_first}
use Rattle.codestream_model.specs.HeaderPieces.{InclusionPiece, PlanesPiece, bits_of, piece_bits}
use Rattle.codestream_model.proofs.TreeLemmas.{AreDistinct, first_is}
use Rattle.codestream_model.proofs.GridLemmas.{first_here}
use Rattle.tag_tree.specs.TreeState.{TreeState}
use Rattle.tag_tree.specs.LeafWriting.{grid_of, leaf_bits, inclusion_step, value_step}

-- tests that say the same choose the same
filter_same : {X : Type 0} (p q : X → Bool) (xs : List X) → ((x : X) → p x ≡ q x) → filter p xs ≡ filter q xs
filter_same p q [] h = refl
filter_same p q (x ∷ xs) h = rw (h x, filter_same p q xs h) refl

-- the bits of a leaf are those of the nodes that it is the first to meet
pub bits_of_first : (step : ℕ → ℕ → List Bool) (g : Grid) (labels : Labels) (before among : List Seat) (s : Seat) → ((level : ℕ) → is_first level s among ≡ not (list_any (shares level s) before))
    → leaf_bits step g labels before s ≡ flat_map (λ level. step (parent_label g labels level s) (label labels level s)) (met_first g s among)
bits_of_first step g labels before among s first =
    ap (flat_map (λ level. step (parent_label g labels level s) (label labels level s)))
    (sym (filter_same (λ level. is_first level s among) (λ level. not (list_any (shares level s) before)) (levels_from (root_level g)) first))

-- a tree's grid serves as another one of its size
pub bits_on_grid : (step : ℕ → ℕ → List Bool) (t : TreeState) (g : Grid) (labels : Labels) (before : List Seat) (s : Seat) → t.cols ≡ g.cols → t.rows ≡ g.rows → leaf_bits step (grid_of t) labels before s ≡ leaf_bits step g labels before s
bits_on_grid step t g labels before s c r =
    ap (λ (n : ℕ). leaf_bits step (record { band = 0; cols = n; rows = t.rows }) labels before s) c
    ∙ ap (λ (n : ℕ). leaf_bits step (record { band = 0; cols = g.cols; rows = n }) labels before s) r

-- the bits of inclusion pieces
pub inclusion_pieces : (bits : List Bool) → bits_of (map InclusionPiece bits) ≡ bits
inclusion_pieces [] = refl
inclusion_pieces (b ∷ bits) = ap (λ (l : List Bool). b ∷ l) (inclusion_pieces bits)

-- in the inclusion tree of a grid, where all leaves are written in raster order
pub inclusion_written : (t : TreeState) (g : Grid) (labels : Labels) (before after : List Seat) (s : Seat) → t.cols ≡ g.cols → t.rows ≡ g.rows → seats g ≡ before ++ s ∷ after
    → leaf_bits inclusion_step (grid_of t) labels before s ≡ bits_of (map InclusionPiece (inclusion_bits g labels s))
inclusion_written t g labels before after s c r e =
    bits_on_grid inclusion_step t g labels before s c r
    ∙ (bits_of_first inclusion_step g labels before (seats g) s (first_here g before after s e) ∙ sym (inclusion_pieces (inclusion_bits g labels s)))

-- in the value tree of a grid, where distinct leaves are written one after another
pub value_written : (t : TreeState) (g : Grid) (labels : Labels) (before after : List Seat) (s : Seat) → t.cols ≡ g.cols → t.rows ≡ g.rows → AreDistinct (before ++ s ∷ after)
    → leaf_bits value_step (grid_of t) labels before s ≡ bits_of (map PlanesPiece (value_steps g labels (before ++ s ∷ after) s))
value_written t g labels before after s c r d =
    let among = before ++ s ∷ after in
    let steps : ℕ → Step = λ level. record { from = parent_label g labels level s; to = label labels level s } in
    bits_on_grid value_step t g labels before s c r
    ∙ (bits_of_first value_step g labels before among s (λ level. first_is level s before after d)
    ∙ sym (flat_map-map piece_bits PlanesPiece (map steps (met_first g s among)) ∙ flat_map-map (λ x. piece_bits (PlanesPiece x)) steps (met_first g s among)))
