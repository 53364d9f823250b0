-- Bytes in hexadecimal, and the lines of code-blocks one after another.
use Rattle.std.proofs.Common.{◌≡◌, ◌<◌, ◌/◌, ◌%◌, ◌++◌, ℕ, zero, suc, List, [], ◌∷◌, refl, sym, ◌∙◌, ap, append_assoc, arith, get_or, drop-cons, length-drop}
use Rattle.std.specs.Prelude.{slice_index, drop, take, length, ◌+◌, ◌≤◌}
use Rattle.std.specs.List.{sum_by}
use Rattle.std.proofs.lemmas.List.Sums.{sum_by-cons}
use Rattle.std.specs.Prelude.{Result, Ok, Err, IsOk, OnOk}
use Rattle.std.proofs.lemmas.Grind.{flat_map-append}
use Rattle.stream_model.specs.Report.{hex, hex_digit, block_line, block_lines}
use Rattle.packet_header.specs.Answers.{block_of}
use Rattle.packet_header.specs.declared.block.Block.{Block}
use Rattle.precinct_report.specs.Lines.{blocks_of}
use Rattle.hex.specs.Hex.{encode_with, encode_lower, lower_digits}

-- a digit
digit : (n : ℕ) → n < 16 → slice_index lower_digits n ≡ hex_digit n
digit zero h = refl
digit (suc zero) h = refl
digit (suc (suc zero)) h = refl
digit (suc (suc (suc zero))) h = refl
digit (suc (suc (suc (suc zero)))) h = refl
digit (suc (suc (suc (suc (suc zero))))) h = refl
digit (suc (suc (suc (suc (suc (suc zero)))))) h = refl
digit (suc (suc (suc (suc (suc (suc (suc zero))))))) h = refl
digit (suc (suc (suc (suc (suc (suc (suc (suc zero)))))))) h = refl
digit (suc (suc (suc (suc (suc (suc (suc (suc (suc zero))))))))) h = refl
digit (suc (suc (suc (suc (suc (suc (suc (suc (suc (suc zero)))))))))) h = refl
digit (suc (suc (suc (suc (suc (suc (suc (suc (suc (suc (suc zero))))))))))) h = refl
digit (suc (suc (suc (suc (suc (suc (suc (suc (suc (suc (suc (suc zero)))))))))))) h = refl
digit (suc (suc (suc (suc (suc (suc (suc (suc (suc (suc (suc (suc (suc zero))))))))))))) h = refl
digit (suc (suc (suc (suc (suc (suc (suc (suc (suc (suc (suc (suc (suc (suc zero)))))))))))))) h = refl
digit (suc (suc (suc (suc (suc (suc (suc (suc (suc (suc (suc (suc (suc (suc (suc zero))))))))))))))) h = refl
digit (suc (suc (suc (suc (suc (suc (suc (suc (suc (suc (suc (suc (suc (suc (suc (suc n)))))))))))))))) h = absurd (omega arith)

-- bytes in two digits each
pub hex_is : (bytes : List ℕ) → ((i : ℕ) → slice_index bytes i < 256) → encode_lower bytes ≡ hex bytes
unfolding encode_with
hex_is [] h = refl
hex_is (b ∷ bytes) h =
    let low : b < 256 = h 0 in
    let high = digit (b / 16) (omega arith) in
    let last = digit (b % 16) (omega arith) in
    let rest = hex_is bytes (λ i. h (suc i)) in
    ap (λ n. n ∷ slice_index lower_digits (b % 16) ∷ encode_lower bytes) high ∙ (ap (λ n. hex_digit (b / 16) ∷ n ∷ encode_lower bytes) last ∙ ap (λ l. hex_digit (b / 16) ∷ hex_digit (b % 16) ∷ l) rest)

pub on_ok : {A B : Type 0} (r : Result A B) (P : Type 0) → IsOk r → OnOk r P → P
on_ok (Ok x) P i h = h
on_ok (Err x) P i h = absurd (cc)

pub hex-append : (a b : List ℕ) → hex (a ++ b) ≡ hex a ++ hex b
hex-append a b = flat_map-append (λ b. hex_digit (b / 16) ∷ hex_digit (b % 16) ∷ []) a b

-- the code-blocks ahead
pub ahead : (blocks : List Block) (i : ℕ) (d : Block) → i < length blocks → drop i blocks ≡ get_or blocks i d ∷ drop (i + 1) blocks
ahead blocks i d low = let e : suc i ≡ i + 1 = omega arith in drop-cons blocks i d low ∙ ap (λ n. get_or blocks i d ∷ drop n blocks) e

-- the line of one of them, and the others
pub one_line : (blocks : List Block) (i : ℕ) (d : Block) (rest own behind : List ℕ) → i < length blocks → own ≡ take ((get_or blocks i d).cleanup + (get_or blocks i d).refine) rest → behind ≡ drop ((get_or blocks i d).cleanup + (get_or blocks i d).refine) rest
    → block_lines (blocks_of (drop i blocks)) rest ≡ block_line (block_of (get_or blocks i d)) own ++ block_lines (blocks_of (drop (i + 1) blocks)) behind
one_line blocks i d rest own behind low f g =
    ap (λ l. block_lines (blocks_of l) rest) (ahead blocks i d low)
    ∙ (ap (λ l. block_line (block_of (get_or blocks i d)) l ++ block_lines (blocks_of (drop (i + 1) blocks)) (drop ((get_or blocks i d).cleanup + (get_or blocks i d).refine) rest)) (sym f)
    ∙ ap (λ l. block_line (block_of (get_or blocks i d)) own ++ block_lines (blocks_of (drop (i + 1) blocks)) l) (sym g))

-- and their bytes
pub one_sum : (blocks : List Block) (i : ℕ) (d : Block) → i < length blocks → sum_by (λ (b : Block). b.cleanup + b.refine) (drop i blocks) ≡ (get_or blocks i d).cleanup + (get_or blocks i d).refine + sum_by (λ (b : Block). b.cleanup + b.refine) (drop (i + 1) blocks)
one_sum blocks i d low = ap (sum_by (λ (b : Block). b.cleanup + b.refine)) (ahead blocks i d low) ∙ sum_by-cons (λ (b : Block). b.cleanup + b.refine) (get_or blocks i d) (drop (i + 1) blocks)

pub one_fits : (blocks : List Block) (i : ℕ) (d : Block) (rest : List ℕ) → i < length blocks → length rest ≡ sum_by (λ (b : Block). b.cleanup + b.refine) (drop i blocks) → (get_or blocks i d).cleanup + (get_or blocks i d).refine ≤ length rest
one_fits blocks i d rest low e = let s = one_sum blocks i d low in omega (arith, s, e)

pub left_sum : (blocks : List Block) (i : ℕ) (d : Block) (rest behind : List ℕ) → i < length blocks → behind ≡ drop ((get_or blocks i d).cleanup + (get_or blocks i d).refine) rest → length rest ≡ sum_by (λ (b : Block). b.cleanup + b.refine) (drop i blocks)
    → length behind ≡ sum_by (λ (b : Block). b.cleanup + b.refine) (drop (i + 1) blocks)
left_sum blocks i d rest behind low f e =
    let s = one_sum blocks i d low in
    let n = ap (λ (l : List ℕ). length l) f in
    let m = length-drop ((get_or blocks i d).cleanup + (get_or blocks i d).refine) rest in
    omega (arith, s, e, n, m)

-- one more line, whole or a prefix of it
pub one_more : (all front own ahead more : List ℕ) → all ≡ front ++ ahead → ahead ≡ own ++ more → all ≡ (front ++ own) ++ more
one_more all front own ahead more e f = e ∙ (ap (λ l. front ++ l) f ∙ sym (append_assoc front own more))
