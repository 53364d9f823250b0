-- Ranges of a buffer as bytes are given and added.
use Rattle.std.proofs.Common.{◌≡◌, ◌≤◌, ◌+◌, ◌-◌, ℕ, List, [], ◌++◌, length, take, drop, slice_range, refl, sym, ◌∙◌, ap, arith, length-take-le}
use Rattle.std.proofs.Math.Seq.{take-append-add, take-append-le, drop-append-le, take-take, drop-drop}
use Rattle.std.proofs.lemmas.List.{append-nil, length-append, length-drop, drop-take}
use borrow.Rule.Slice.PartMut.{post_of}
use Rattle.codestream_walk.specs.InHand.{in_buffer, giving, with_more}

-- the size of a range
pub size_of_range : (buf : List ℕ) (from to : ℕ) → from ≤ to → to ≤ length buf → length (slice_range buf from to) ≡ to - from
size_of_range buf from to p q = length-take-le (to - from) (drop from buf) (omega (arith, length-drop from buf))

-- the front of a range,
front_range : (buf : List ℕ) (from to n : ℕ) → n ≤ to - from → slice_range buf from (from + n) ≡ take n (slice_range buf from to)
front_range buf from to n few = let e : from + n - from ≡ n = omega arith in ap (λ (k : ℕ). take k (drop from buf)) e ∙ sym (take-take n (to - from) (drop from buf) few)

-- and what is after it
back_range : (buf : List ℕ) (from to n : ℕ) → n ≤ to - from → slice_range buf (from + n) to ≡ drop n (slice_range buf from to)
back_range buf from to n few =
    let e : n + (to - (from + n)) ≡ to - from = omega arith in
    ap (λ (l : List ℕ). take (to - (from + n)) l) (sym (drop-drop n from buf)) ∙ (sym (drop-take n (to - (from + n)) (drop from buf)) ∙ ap (λ (k : ℕ). drop n (take k (drop from buf))) e)

pub view_given : (buf : List ℕ) (given from to read n : ℕ) → from ≤ to → n ≤ to - from → to - from ≤ read → in_buffer buf n (from + n) to read ≡ giving n (in_buffer buf given from to read)
view_given buf given from to read n range few within =
    let start : from + n - n ≡ from = omega arith in
    let place : read - (to - (from + n)) ≡ read - (to - from) + n = omega arith in
    rw (start, front_range buf from to n few, back_range buf from to n few, place) refl

-- a range with what was put after it
more_range : (mem part post : List ℕ) (from to n : ℕ) → from ≤ to → to ≤ length mem → n ≤ length part → slice_range (take to mem ++ (part ++ post)) from (to + n) ≡ slice_range mem from to ++ take n part
more_range mem part post from to n range within few =
    let size : length (take to mem) ≡ to = length-take-le to mem within in
    let e : (to + n) - from ≡ (to - from) + n = omega arith in
    let f : from + (to - from) ≡ to = omega arith in
    let here : drop from (take to mem ++ (part ++ post)) ≡ slice_range mem from to ++ (part ++ post) =
    drop-append-le from (take to mem) (part ++ post) (omega arith) ∙ ap (λ (l : List ℕ). l ++ (part ++ post)) (ap (λ (k : ℕ). drop from (take k mem)) (sym f) ∙ drop-take from (to - from) mem) in
    let range_size : length (slice_range mem from to) ≡ to - from = size_of_range mem from to range within in
    ap (λ (l : List ℕ). take ((to + n) - from) l) here
    ∙ (ap (λ (k : ℕ). take k (slice_range mem from to ++ (part ++ post))) (e ∙ ap (λ (k : ℕ). k + n) (sym range_size))
    ∙ (take-append-add (slice_range mem from to) (part ++ post) n ∙ ap (λ (l : List ℕ). slice_range mem from to ++ l) (take-append-le n part post few)))

pub view_grown : (mem part post old : List ℕ) (given from to f t read n : ℕ) → from ≤ to → to ≤ length mem → n ≤ length part → slice_range mem from to ≡ slice_range old f t → to ≡ from + (t - f) → f ≤ t → t - f ≤ read
    → in_buffer (take to mem ++ (part ++ post)) 0 from (to + n) (read + n) ≡ with_more (in_buffer old given f t read) (take n part)
view_grown mem part post old given from to f t read n range within few same size order in_read =
    let place : read + n - (to + n - from) ≡ read - (t - f) = omega arith in
    let bytes : slice_range (take to mem ++ (part ++ post)) from (to + n) ≡ slice_range old f t ++ take n part = more_range mem part post from to n range within few ∙ ap (λ (l : List ℕ). l ++ take n part) same in
    let none : from - (from - 0) ≡ 0 = omega arith in
    rw (bytes, place, none) refl

pub view_same : (mem part post old : List ℕ) (given from to f t read : ℕ) → from ≤ to → to ≤ length mem → slice_range mem from to ≡ slice_range old f t → to ≡ from + (t - f) → f ≤ t → t - f ≤ read
    → in_buffer (take to mem ++ (part ++ post)) 0 from to read ≡ with_more (in_buffer old given f t read) []
view_same mem part post old given from to f t read range within same size order in_read =
    let place : read - (to - from) ≡ read - (t - f) = omega arith in
    let none : from - (from - 0) ≡ 0 = omega arith in
    let to_zero : to + 0 ≡ to = omega arith in
    let more : slice_range (take to mem ++ (part ++ post)) from (to + 0) ≡ slice_range mem from to ++ take 0 part = more_range mem part post from to 0 range within (omega arith) in
    let bytes : slice_range (take to mem ++ (part ++ post)) from to ≡ slice_range old f t ++ [] = ap (λ (k : ℕ). slice_range (take to mem ++ (part ++ post)) from k) (sym to_zero) ∙ (more ∙ ap (λ (l : List ℕ). l ++ []) same) in
    rw (bytes, place, none) refl

pub view_settled : (mem old : List ℕ) (given from to f t read : ℕ) → slice_range mem from to ≡ slice_range old f t → to ≡ from + (t - f) → f ≤ t → t - f ≤ read
    → in_buffer mem 0 from to read ≡ with_more (in_buffer old given f t read) []
view_settled mem old given from to f t read same size order in_read =
    let place : read - (to - from) ≡ read - (t - f) = omega arith in
    let none : from - (from - 0) ≡ 0 = omega arith in
    let bytes : slice_range mem from to ≡ slice_range old f t ++ [] = same ∙ sym (append-nil (slice_range old f t)) in
    rw (bytes, place, none) refl

-- the size of a buffer stays where a part of it is written
pub size_put : (mem part : List ℕ) (to k : ℕ) → length part ≡ k → to + k ≤ length mem → length (take to mem ++ (part ++ post_of to k mem)) ≡ length mem
size_put mem part to k size fits =
    omega (arith, length-append (take to mem) (part ++ post_of to k mem), length-append part (post_of to k mem), length-take-le to mem (omega arith), length-drop k (drop to mem), length-drop to mem)
