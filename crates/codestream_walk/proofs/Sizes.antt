-- Numbers of bytes of the segments of code-blocks.
use Rattle.std.proofs.Common.{◌≡◌, ◌≤◌, ◌+◌, ℕ, List, [], ◌∷◌, map, take, refl, sym, ◌∙◌, ap, arith}
use Rattle.std.specs.List.{sum_by}
use Rattle.std.proofs.lemmas.List.Sums.{sum_by-take-drop, sum_by-cons}
use Rattle.codestream_model.specs.Values as values
use Rattle.codestream_model.specs.Packet.{segment_bytes}
use Rattle.packet_header.specs.Answers.{block_of}
use Rattle.packet_header.specs.declared.block.Block.{Block}

-- what the code sums
abbrev pub summed : List Block → ℕ
summed blocks = sum_by (λ b. b.cleanup + b.refine) blocks

pub summed_is : (blocks : List Block) → summed blocks ≡ segment_bytes (map block_of blocks)
summed_is [] = refl
summed_is (b ∷ blocks) =
    sum_by-cons (λ (x : Block). x.cleanup + x.refine) b blocks
    ∙ (ap (λ (n : ℕ). b.cleanup + b.refine + n) (summed_is blocks) ∙ sym (sum_by-cons (λ (x : values.Block). x.cleanup + x.refine) (block_of b) (map block_of blocks)))

pub summed_front : (blocks : List Block) (i : ℕ) → summed (take i blocks) ≤ segment_bytes (map block_of blocks)
summed_front blocks i = let e = sum_by-take-drop (λ (b : Block). b.cleanup + b.refine) blocks i in let f = summed_is blocks in omega arith
