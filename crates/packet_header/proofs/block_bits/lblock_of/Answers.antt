-- The greatest of the least.
use Rattle.std.proofs.Common.{◌≡◌, ◌≤◌, ◌+◌, ◌-◌, ℕ, max, ap, ◌∙◌, arith}
use Rattle.codestream_model.specs.TagTrees.{exponent}
use Rattle.codestream_model.specs.PacketHeader.{least_lblock}
use Rattle.codestream_model.proofs.WrittenLemmas.{lblock_fits}
use Rattle.packet_header.specs.Answers.{block_of}
use Rattle.packet_header.proofs.block_bits.lblock_of.Goals as goal

pub returns-clause-least : goal.returns-clause-least
returns-clause-least c =
    let b = c.args.block.now in
    c.max-2.ensures ∙ ap (max 3) (c.max.ensures
    ∙ (ap (λ (n : ℕ). max n c.saturating_sub-refine.result) c.bits_in-2.ensures.exponent
    ∙ ap (max (exponent (b.cleanup + 1))) (c.saturating_sub-refine.ensures
    ∙ (ap (λ (n : ℕ). n - c.further_bits.result) c.bits_in.ensures.exponent ∙ ap (λ (n : ℕ). exponent (b.refine + 1) - n) c.further_bits.ensures))))

pub returns-clause-low : goal.returns-clause-low
returns-clause-low c =
    let b = block_of c.args.block.now in
    let e : c.max-2.result ≡ least_lblock b = returns-clause-least c in
    let low : least_lblock b ≤ 24 = (lblock_fits b c.requires).1 in
    omega (arith, e, low)
