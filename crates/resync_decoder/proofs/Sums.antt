-- The bytes of segments, one code-block after another.
use Rattle.std.proofs.Common.{◌≡◌, ◌<◌, ◌+◌, ℕ, List, ◌∷◌, map, length, drop, get_or, sym, ◌∙◌, ap}
use Rattle.std.proofs.lemmas.List.{drop_more}
use Rattle.std.proofs.lemmas.List.Sums.{sum_by-cons}
use Rattle.codestream_model.specs.Packet.{segment_bytes}
use Rattle.packet_header.specs.Answers.{block_of}
use Rattle.packet_header.specs.declared.block.Block.{Block}

pub segments_more : (blocks : List Block) (i : ℕ) (x : Block) → i < length blocks → x ≡ get_or blocks i x → segment_bytes (map block_of (drop i blocks)) ≡ (x.cleanup + x.refine) + segment_bytes (map block_of (drop (i + 1) blocks))
segments_more blocks i x less is =
    ap (λ l. segment_bytes (map block_of l)) (drop_more blocks i x less ∙ ap (λ y. y ∷ drop (i + 1) blocks) (sym is))
    ∙ sum_by-cons (λ b. b.cleanup + b.refine) (block_of x) (map block_of (drop (i + 1) blocks))
