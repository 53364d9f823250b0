-- The least precinct of a resolution, from its rows and columns.
use Rattle.std.proofs.Common.{◌≡◌, ◌<◌, ◌≤◌, ◌+◌, ◌-◌, ◌*◌, ◌/◌, ◌%◌, ◌^◌, ℕ, suc, length, refl, sym, ◌∙◌, ap, subst, arith}
use Rattle.std.proofs.lemmas.Nat.{div-mul-add, mod-mul-add}
use Rattle.std.proofs.Math.Nat.{mul-le-mul_right, mul_comm}
use Rattle.codestream_model.specs.Values.{Pair, Head}
use Rattle.codestream_model.specs.Areas.{resolution_area, step_of}
use Rattle.codestream_model.specs.Precincts.{precinct_exponents, precinct_count, precinct_columns, precinct_rows}
use Rattle.codestream_model.specs.PacketOrder.{anchor, rank}
use Rattle.codestream_model.specs.HeadLimits.{IsWithinLimits}
use Rattle.precinct_geometry.specs.declared.course.Course.{Course}
use Rattle.precinct_geometry.specs.Courses.{corner_of}
use Rattle.precinct_geometry.proofs.Corners.{column_within, row_within}
use Rattle.precinct_geometry.proofs.Counting.{few_below, below_more}
use Rattle.pcrl_order.specs.declared.anchored.Anchored.{Anchored}
use Rattle.pcrl_order.specs.Least.{IsFrom, corner, IsChoice, IsLeastIn, NoneIn}

-- the rows and the columns of a resolution
pub record AreOf (h : Head) (c r : ℕ) (rows columns : Course) : Type 0 where
  pub y_start : rows.start ≡ h.y0
  pub y_first : rows.first ≡ (resolution_area h c r).y.from / 2 ^ (precinct_exponents h r).y
  pub y_width : rows.width ≡ (step_of h c).y * 2 ^ ((precinct_exponents h r).y + (h.levels - r))
  pub y_count : rows.count ≡ precinct_rows h c r
  pub x_start : columns.start ≡ h.x0
  pub x_first : columns.first ≡ (resolution_area h c r).x.from / 2 ^ (precinct_exponents h r).x
  pub x_width : columns.width ≡ (step_of h c).x * 2 ^ ((precinct_exponents h r).x + (h.levels - r))
  pub x_count : columns.count ≡ precinct_columns h c r

-- the anchor of a precinct is that of its row and column
anchor_is : (h : Head) (c r : ℕ) (rows columns : Course) (k : ℕ) → AreOf h c r rows columns → anchor h (record { c = c; r = r; k = k }) ≡ corner rows columns (k / columns.count) (k % columns.count)
anchor_is h c r rows columns k a = rw (a.y_start, a.y_first, a.y_width, a.x_start, a.x_first, a.x_width, a.x_count) refl

-- the anchor at a row and a column
anchor_at : (h : Head) (c r : ℕ) (rows columns : Course) (row column : ℕ) → AreOf h c r rows columns → column < columns.count → anchor h (record { c = c; r = r; k = row * columns.count + column }) ≡ corner rows columns row column
anchor_at h c r rows columns row column a few =
    anchor_is h c r rows columns (row * columns.count + column) a
    ∙ (ap (λ (j : ℕ). corner rows columns j ((row * columns.count + column) % columns.count)) (div-mul-add row columns.count column few)
    ∙ ap (λ (i : ℕ). corner rows columns row i) (mod-mul-add row columns.count column few))

-- a number with this row and column is below the count
number_within : (h : Head) (c r : ℕ) (rows columns : Course) (row column : ℕ) → AreOf h c r rows columns → row < rows.count → column < columns.count → row * columns.count + column < precinct_count h c r
number_within h c r rows columns row column a below few =
    let more : (row + 1) * columns.count ≤ rows.count * columns.count = mul-le-mul_right columns.count (omega arith) in
    let whole : precinct_count h c r ≡ rows.count * columns.count = rw (← a.y_count, ← a.x_count) (mul_comm columns.count rows.count) in
    let step : (row + 1) * columns.count ≡ row * columns.count + columns.count = omega arith in
    omega arith

-- the row and the column of a number below the count
row_of : (h : Head) (c r : ℕ) (rows columns : Course) (k : ℕ) → AreOf h c r rows columns → k < precinct_count h c r → (k / columns.count < rows.count) × (k % columns.count < columns.count)
row_of h c r rows columns k a few =
    let whole : k < columns.count * rows.count = rw (a.x_count, a.y_count) few in
    (row_within columns.count rows.count k whole, column_within columns.count rows.count k whole)

-- what is chosen is the least
pub least_is : (h : Head) (c r y x : ℕ) (rows columns : Course) (row column : ℕ) → AreOf h c r rows columns → IsChoice rows columns y x row column → row < rows.count → column < columns.count
    → IsLeastIn h c r y x (record { rank = rank h r; y = corner_of rows row; x = corner_of columns column; c = c; r = r; k = row * columns.count + column })
least_is h c r y x rows columns row column a choice below few =
    let at = anchor_at h c r rows columns row column a few in
    let make : Pair → Anchored = λ w. record { rank = rank h r; y = w.y; x = w.x; c = c; r = r; k = row * columns.count + column } in
    let P : Pair → Type 0 = λ w. IsFrom y x w in
    let Q : Pair → Type 0 = λ w. IsFrom (corner_of rows row) (corner_of columns column) w in
    record {
      number = number_within h c r rows columns row column a below few;
      anchored = sym (ap make at);
      from = subst P (sym at) (choice.from below);
      least = λ k lt f.
          let of = row_of h c r rows columns k a lt in
          let is = anchor_is h c r rows columns k a in
          subst Q (sym is) (choice.least (k / columns.count) (k % columns.count) of.1 (subst P is f)).1;
    }

-- and where its row is beyond the last, or there are no columns, there is none
pub none_is : (h : Head) (c r y x : ℕ) (rows columns : Course) (row column : ℕ) → AreOf h c r rows columns → IsChoice rows columns y x row column → rows.count ≤ row → NoneIn h c r y x
none_is h c r y x rows columns row column a choice beyond = λ k lt f.
    let of = row_of h c r rows columns k a lt in
    let is = anchor_is h c r rows columns k a in
    let P : Pair → Type 0 = λ w. IsFrom y x w in
    let later = (choice.least (k / columns.count) (k % columns.count) of.1 (subst P is f)).0 in
    omega (arith, of.0, later)

pub none_without : (h : Head) (c r y x : ℕ) (rows columns : Course) → AreOf h c r rows columns → columns.count ≡ 0 → NoneIn h c r y x
none_without h c r y x rows columns a none = λ k lt f. let of = row_of h c r rows columns k a lt in omega (arith, of.1, none)

-- the number of the chosen one is small
pub small_number : (h : Head) (c r : ℕ) (rows columns : Course) (row column : ℕ) → IsWithinLimits h → c < length h.steps → r ≤ h.levels → AreOf h c r rows columns → row < rows.count → column < columns.count → row * columns.count + column < 2 ^ 20
small_number h c r rows columns row column limits component resolution a below few =
    let within = number_within h c r rows columns row column a below few in
    let most = few_below h c (suc r) limits component (omega arith) in
    let more = below_more h c r in
    omega arith
