-- Bytes that are written into a buffer.
use Rattle.std.proofs.Common.{◌≡◌, ◌≤◌, ◌+◌, ◌-◌, ℕ, List, ◌++◌, length, take, drop, sym, ap, ◌∙◌, arith}
use Rattle.std.specs.Prelude.{slice_range}
use Rattle.std.proofs.lemmas.List.{length-take, length-drop, drop-take, drop-drop, drop-append-le}
use Rattle.std.proofs.Math.Seq.{take-append-add, take-append_seam, drop-append-add}

drop_more : (m n : ℕ) (xs : List ℕ) → drop n (drop m xs) ≡ drop (m + n) xs
drop_more m n xs = drop-drop n m xs

-- after the headers, where bytes are put after the payload
pub put_part : (b xs : List ℕ) (n m : ℕ) → 20 + n ≤ length b → slice_range (take (20 + n) b ++ (xs ++ drop m b)) 20 (20 + (n + length xs)) ≡ slice_range b 20 (20 + n) ++ xs
put_part b xs n m fits =
    let more = xs ++ drop m b in
    let l : length (take (20 + n) b) ≡ 20 + n = omega (arith, length-take (20 + n) b) in
    let t : drop 20 (take (20 + n) b) ≡ take n (drop 20 b) = drop-take 20 n b in
    let d : drop 20 (take (20 + n) b ++ more) ≡ take n (drop 20 b) ++ more = drop-append-le 20 (take (20 + n) b) more (omega (arith, l)) ∙ ap (λ (k : List ℕ). k ++ more) t in
    let k : length (take n (drop 20 b)) ≡ n = omega (arith, length-take n (drop 20 b), length-drop 20 b) in
    let size : 20 + (n + length xs) - 20 ≡ length (take n (drop 20 b)) + length xs = omega (arith, k) in
    let s : 20 + n - 20 ≡ n = omega arith in
    ap (λ (j : ℕ). take j (drop 20 (take (20 + n) b ++ more))) size
    ∙ (ap (λ (y : List ℕ). take (length (take n (drop 20 b)) + length xs) y) d
    ∙ (take-append-add (take n (drop 20 b)) more (length xs)
    ∙ (ap (λ (y : List ℕ). take n (drop 20 b) ++ y) (take-append_seam xs (drop m b)) ∙ ap (λ (j : ℕ). take j (drop 20 b) ++ xs) (sym s))))

-- the headers, and after them the payload
pub show_part : (b fixed header : List ℕ) (n : ℕ) → length fixed ≡ 12 → length header ≡ 8 → 20 ≤ length b
    → take (20 + n) (take 12 (take 0 b ++ (fixed ++ drop (0 + length fixed) b)) ++ (header ++ drop (12 + length header) (take 0 b ++ (fixed ++ drop (0 + length fixed) b)))) ≡ fixed ++ (header ++ slice_range b 20 (20 + n))
show_part b fixed header n a h fits =
    let i = fixed ++ drop (0 + length fixed) b in
    let first : take 12 i ≡ fixed = ap (λ (k : ℕ). take k i) (sym a) ∙ take-append_seam fixed (drop (0 + length fixed) b) in
    let z : 12 + length header ≡ length fixed + 8 = omega (arith, a, h) in
    let after : drop (12 + length header) i ≡ drop 20 b =
    ap (λ (k : ℕ). drop k i) z ∙ (drop-append-add fixed (drop (0 + length fixed) b) 8 ∙ (drop_more (0 + length fixed) 8 b ∙ ap (λ (k : ℕ). drop k b) (let e : 0 + length fixed + 8 ≡ 20 = omega (arith, a) in e))) in
    let size : 20 + n ≡ length fixed + (length header + n) = omega (arith, a, h) in
    let s : 20 + n - 20 ≡ n = omega arith in
    ap (λ (k : List ℕ). take (20 + n) (k ++ (header ++ drop (12 + length header) i))) first
    ∙ (ap (λ (k : List ℕ). take (20 + n) (fixed ++ (header ++ k))) after
    ∙ (ap (λ (k : ℕ). take k (fixed ++ (header ++ drop 20 b))) size
    ∙ (take-append-add fixed (header ++ drop 20 b) (length header + n)
    ∙ ap (λ (k : List ℕ). fixed ++ k) (take-append-add header (drop 20 b) n ∙ ap (λ (k : ℕ). header ++ take k (drop 20 b)) (sym s)))))
