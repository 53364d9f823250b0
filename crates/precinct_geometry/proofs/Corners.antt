-- Where strips of precincts begin.
use Rattle.std.proofs.Common.{◌≡◌, ◌<◌, ◌≤◌, ◌+◌, ◌-◌, ◌*◌, ◌/◌, ◌%◌, ◌^◌, ◌==◌, ℕ, suc, zero, Bool, true, false, arith, if◌then◌else◌}
use Rattle.std.proofs.Math.Nat.{mul-le-mul_right, div-mul-le_self, mod-lt, div-lt_iff_lt-mul, mul_comm}
use Rattle.std.proofs.Math.Pow.{pow_mono}
use Rattle.codestream_model.specs.Areas.{ceil_div}
use Rattle.codestream_model.specs.Precincts.{strips}

-- a product that something is below has no factor 0
pub some_left : (a b k : ℕ) → k < a * b → 0 < a
some_left zero b k h = absurd (omega arith)
some_left (suc a) b k h = omega arith

-- the column of a number in n columns and rows, and the row
pub column_within : (cols rows k : ℕ) → k < cols * rows → k % cols < cols
column_within cols rows k h = mod-lt k (some_left cols rows k h)

pub row_within : (cols rows k : ℕ) → k < cols * rows → k / cols < rows
row_within cols rows k h = (div-lt_iff_lt-mul {k = cols} {x = k} {y = rows} (some_left cols rows k h)).1 (rw (mul_comm rows cols) h)

-- a strip below the last one ends before the stretch does
begins : (from to w s : ℕ) → 0 < w → s < (to + (w - 1)) / w → s * w < to
begins from to w s some h =
    let q = (to + (w - 1)) / w in
    let m : suc s * w ≤ (to + (w - 1)) / w * w = mul-le-mul_right w (omega arith) in
    let d : (to + (w - 1)) / w * w ≤ to + (w - 1) = div-mul-le_self (to + (w - 1)) w in
    let e : suc s * w ≡ s * w + w = omega arith in
    omega arith

some_power : (e : ℕ) → 0 < 2 ^ e
some_power e = let h : 2 ^ 0 ≤ 2 ^ e = pow_mono {i = 0} {j = e} (omega arith) in omega arith

-- a strip that a stretch has places in begins within it, or with it
pub inside : (from to e k : ℕ) → k < strips e (record { from = from; to = to }) → (from / 2 ^ e + k) * 2 ^ e < to
inside from to e k h = by_test (to == from) h where
  by_test : (b : Bool) → k < (if b then 0 else ceil_div to (2 ^ e) - from / 2 ^ e) → (from / 2 ^ e + k) * 2 ^ e < to
  by_test true few = absurd (omega arith)
  by_test false few = begins from to (2 ^ e) (from / 2 ^ e + k) (some_power e) (omega arith)

-- the same, by the numbers that the code has
pub inside_as : (from to e f k power : ℕ) → power ≡ 2 ^ e → e ≡ f → k < strips f (record { from = from; to = to }) → to < 2 ^ 31 → (from / power + k) * 2 ^ f < 2 ^ 31
inside_as from to e f k power p same h small = let i = inside from to f k h in rw (p, same) (omega arith)
