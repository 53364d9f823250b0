-- The places of nodes are within the list, and apart.
use Rattle.std.proofs.Common.{◌≡◌, ◌≢◌, ◌<◌, ◌≤◌, ◌+◌, ◌-◌, ◌*◌, ◌/◌, ◌^◌, ℕ, zero, suc, refl, sym, ◌∙◌, ap, subst, inl, inr, arith}
use Rattle.std.proofs.lemmas.Grind.{div_ceil_times}
use Rattle.std.proofs.lemmas.Nat.{pow_pos, mul-add-lt, div-mul-add}
use Rattle.std.proofs.Math.Nat.{pow-suc, div-lt_iff_lt-mul, lt_of_mul-lt-mul_left, mul-le-mul}
use Rattle.std.proofs.lemmas.Bool.Decides.{leb_tells}
use Rattle.codestream_model.specs.TagTrees.{exponent}
use Rattle.codestream_model.proofs.ExponentLemmas.{exponent_is_least}
use Rattle.tag_tree.specs.Places.{width_of, size_of, base_of, place_of}
use Rattle.tag_tree.specs.TreeState.{nodes_of}

-- a leaf's path stays within the columns and rows of each level
pub path_within : (n level x : ℕ) → x < n → x / 2 ^ level < width_of n level
path_within n level x h = (div-lt_iff_lt-mul (pow_pos level)).1 (omega (arith, (div_ceil_times n (2 ^ level) (pow_pos level)).0))

-- a quotient that is rounded up, by the number before
rounded_up : (n w p : ℕ) → 0 < n → n ≤ w * p → w * p < n + p → (n - 1) / p + 1 ≡ w
rounded_up n zero p some low high = absurd (omega (arith, some, low))
rounded_up n (suc w) p some low high =
    let r : n - 1 ≡ w * p + (n - 1 - w * p) = omega (arith, some, high) in
    let small : n - 1 - w * p < p = omega (arith, some, low) in
    let e : (n - 1) / p ≡ w = ap (λ (k : ℕ). k / p) r ∙ div-mul-add w p (n - 1 - w * p) small in
    omega (arith, e)

-- the columns of a level, by the last column of the leaves
pub width_by_last : (n level : ℕ) → 0 < n → (n - 1) / 2 ^ level + 1 ≡ width_of n level
width_by_last n level some =
    let bounds = div_ceil_times n (2 ^ level) (pow_pos level) in
    rounded_up n (width_of n level) (2 ^ level) some bounds.0 bounds.1

-- what two bounds on a number say of the factors
halved : (w v p n : ℕ) → n ≤ w * p → v * (p * 2) < n + p * 2 → p * (2 * v) < p * (w + 2)
halved w v p n h t = omega (arith, h, t)

-- a level has no more than half the columns of the one below, rounded up
half_width : (n level : ℕ) → 2 * width_of n (suc level) ≤ width_of n level + 1
half_width n level =
    let low : n ≤ width_of n level * 2 ^ level = (div_ceil_times n (2 ^ level) (pow_pos level)).0 in
    let high : width_of n (suc level) * 2 ^ suc level < n + 2 ^ suc level = (div_ceil_times n (2 ^ suc level) (pow_pos (suc level))).1 in
    let e : 2 ^ suc level ≡ 2 ^ level * 2 = pow-suc 2 level in
    let v = width_of n (suc level) in
    let P : ℕ → Type 0 = λ q. v * q < n + q in
    let c : 2 * v < width_of n level + 2 = lt_of_mul-lt-mul_left (2 ^ level) (halved (width_of n level) v (2 ^ level) n low (subst P e high)) in
    omega (arith, c)

-- nor of the nodes
half_product : (a b c d : ℕ) → 2 * c ≤ a + 1 → 2 * d ≤ b + 1 → 2 * (c * d) ≤ a * b + 1
half_product zero b c d h t = let e : c ≡ 0 = omega arith in rw e (omega arith)
half_product (suc a) zero c d h t = let e : d ≡ 0 = omega arith in rw e (omega arith)
half_product (suc a) (suc b) c d h t =
    let m : (2 * c) * (2 * d) ≤ (suc a + 1) * (suc b + 1) = mul-le-mul h t in
    omega (arith, m)

-- the leaves' level has all columns
leaf_width : (n : ℕ) → width_of n 0 ≡ n
leaf_width n = omega arith

-- the nodes of the levels below, and twice those of this one
base_bound : (cols rows level : ℕ) → base_of cols rows level + 2 * size_of cols rows level ≤ 2 * (cols * rows) + level
unfolding base_of
base_bound cols rows zero = rw (leaf_width cols, leaf_width rows) (omega arith)
base_bound cols rows (suc level) = omega (arith, base_bound cols rows level, half_product (width_of cols level) (width_of rows level) (width_of cols (suc level)) (width_of rows (suc level)) (half_width cols level) (half_width rows level))

-- a level's nodes are within the list
pub level_within : (cols rows level : ℕ) → base_of cols rows (suc level) ≤ 2 * (cols * rows) + level
unfolding base_of
level_within cols rows level = omega (arith, base_bound cols rows level)

-- a place is within its level
pub place_within : (cols rows level col row : ℕ) → col < cols → row < rows → place_of cols rows level col row < base_of cols rows (suc level)
unfolding base_of
place_within cols rows level col row h t =
    omega (arith, mul-add-lt (row / 2 ^ level) (width_of cols level) (col / 2 ^ level) (width_of rows level) (path_within rows level row t) (path_within cols level col h))

-- a place is within the list
pub place_in_list : (cols rows level col row leaves : ℕ) → col < cols → row < rows → level ≤ 16 → cols * rows ≤ leaves → place_of cols rows level col row < nodes_of leaves
place_in_list cols rows level col row leaves h t low small = omega (arith, place_within cols rows level col row h t, level_within cols rows level)

-- the nodes of the levels below a level that isn't the leaves'
pub base_step : (cols rows level : ℕ) → level ≢ 0 → base_of cols rows level ≡ base_of cols rows (level - 1) + size_of cols rows (level - 1)
unfolding base_of
base_step cols rows zero h = absurd (h refl)
base_step cols rows (suc level) h = let e : suc level - 1 ≡ level = omega arith in rw e refl

pub base_small : (cols rows level : ℕ) → level ≢ 0 → base_of cols rows level ≤ 2 * (cols * rows) + level
base_small cols rows zero h = absurd (h refl)
base_small cols rows (suc level) h = omega (arith, level_within cols rows level)

-- the exponent is reached where all lower powers are below the number, and this one isn't
pub exponent_reached : (most level : ℕ) → ((k : ℕ) → k < level → 2 ^ k < most) → most ≤ 2 ^ level → level ≡ exponent most
exponent_reached most level below h =
    let least = exponent_is_least most in
    let up : exponent most ≤ level = least.1 level h in
    let enough : most ≤ 2 ^ exponent most = least.0 in
    elim (leb_tells level (exponent most)) [
      | inl t ↦ let down : level ≤ exponent most = t.1 in omega arith
      | inr t ↦ let late : exponent most < level = t.1 in absurd (let q : 2 ^ exponent most < most = below (exponent most) late in omega arith)
    ]

-- the levels below a level's own nodes come before it
base_grows : (cols rows l d : ℕ) → base_of cols rows l ≤ base_of cols rows (l + d)
unfolding base_of
base_grows cols rows l zero = let e : l + 0 ≡ l = omega arith in rw e (omega arith)
base_grows cols rows l (suc d) = let e : l + suc d ≡ suc (l + d) = omega arith in rw e (omega (arith, base_grows cols rows l d))

-- places of different levels are apart
pub levels_apart : (cols rows l m x y u v : ℕ) → x < cols → y < rows → l < m → place_of cols rows l x y ≡ place_of cols rows m u v → ⊥
levels_apart cols rows l m x y u v h t below e =
    let d : suc l + (m - suc l) ≡ m = omega arith in
    let P : ℕ → Type 0 = λ k. base_of cols rows (suc l) ≤ base_of cols rows k in
    let grows : base_of cols rows (suc l) ≤ base_of cols rows m = subst P d (base_grows cols rows (suc l) (m - suc l)) in
    omega (arith, place_within cols rows l x y h t, grows, e)

-- a row and a column of a level, by the place
pub same_node : (cols rows l x y u v : ℕ) → x < cols → u < cols → place_of cols rows l x y ≡ place_of cols rows l u v → (x / 2 ^ l ≡ u / 2 ^ l) × (y / 2 ^ l ≡ v / 2 ^ l)
same_node cols rows l x y u v h t e =
    let w = width_of cols l in
    let a : x / 2 ^ l < w = path_within cols l x h in
    let b : u / 2 ^ l < w = path_within cols l u t in
    let f : y / 2 ^ l * w + x / 2 ^ l ≡ v / 2 ^ l * w + u / 2 ^ l = omega (arith, e) in
    let row : y / 2 ^ l ≡ v / 2 ^ l = sym (div-mul-add (y / 2 ^ l) w (x / 2 ^ l) a) ∙ (ap (λ (k : ℕ). k / w) f ∙ div-mul-add (v / 2 ^ l) w (u / 2 ^ l) b) in
    let P : ℕ → Type 0 = λ k. k * w + x / 2 ^ l ≡ v / 2 ^ l * w + u / 2 ^ l in
    let g : v / 2 ^ l * w + x / 2 ^ l ≡ v / 2 ^ l * w + u / 2 ^ l = subst P row f in
    (omega (arith, g), row)
