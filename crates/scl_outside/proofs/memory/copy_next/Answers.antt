use Rattle.std.proofs.Common.{arith, ap, ◌∙◌, ◌≡◌, ◌≤◌, ◌+◌, ◌-◌, ℕ, List, length, drop, take, ◌++◌, length-take-le}
use Rattle.std.proofs.lemmas.List.{take_at}
use Rattle.std.proofs.Math.Seq.{take-add}
use Rattle.std.proofs.lemmas.List.Folds.{drop_split}
use Rattle.scl_outside.proofs.memory.copy_next.Goals as goal

-- a read of n bytes takes them
left_of : (input copied buf : List ℕ) (at n : ℕ) → at + n ≤ length input → copied ≡ take ((at + n) - at) (drop at input) → length copied ≡ n → drop at input ≡ take n (copied ++ drop n buf) ++ drop (at + n) input
left_of input copied buf at n fits is len = rw (take_at copied (drop n buf) n len, is) (drop_split input at (at + n) (omega arith))

read_of : (input copied buf : List ℕ) (at n : ℕ) → at + n ≤ length input → copied ≡ take ((at + n) - at) (drop at input) → length copied ≡ n → take (at + n) input ≡ take at input ++ take n (copied ++ drop n buf)
read_of input copied buf at n fits is len = rw (take_at copied (drop n buf) n len, is, take-add) (ap (λ k. take at input ++ take k (drop at input)) (let e : n ≡ (at + n) - at = omega arith in e))

pub returns-clause-read : goal.returns-clause-read
returns-clause-read c =
    let size : length c.copy_from_slice.new.self ≡ c.min-count.result = c.copy_from_slice.ensures.len ∙ length-take-le c.min-count.result c.args.buf.now (omega arith) in
    read_of _ _ _ _ _ (omega arith) c.copy_from_slice.ensures.after size

pub returns-clause-left : goal.returns-clause-left
returns-clause-left c =
    let size : length c.copy_from_slice.new.self ≡ c.min-count.result = c.copy_from_slice.ensures.len ∙ length-take-le c.min-count.result c.args.buf.now (omega arith) in
    left_of _ _ _ _ _ (omega arith) c.copy_from_slice.ensures.after size
