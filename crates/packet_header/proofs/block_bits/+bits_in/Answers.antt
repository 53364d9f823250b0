-- Bit by bit.
use Rattle.std.proofs.Common.{◌≡◌, ◌≤◌, ◌+◌, ℕ, sym, ◌∙◌, ap, subst, arith}
use Rattle.codestream_model.specs.TagTrees.{exponent}
use Rattle.packet_header.proofs.Widths.{bits_of_half, bits_of_none, bits_within}
use Rattle.packet_header.proofs.block_bits.+bits_in.Goals as goal

pub returns-then-number-eq0-clause-exponent : goal.returns-then-number-eq0-clause-exponent
returns-then-number-eq0-clause-exponent t c = let P : ℕ → Type 0 = λ n. 0 ≡ exponent (n + 1) in subst P (sym c.if-number-eq0.true) (sym bits_of_none)

pub returns-clause-exponent : goal.returns-clause-exponent
returns-clause-exponent t c = ap (λ (n : ℕ). n + 1) c.bits_in.ensures.exponent ∙ bits_of_half c.args.number c.if-number-eq0.false

pub returns-clause-low : goal.returns-clause-low
returns-clause-low t c =
    let e = ap (λ (n : ℕ). n + 1) c.bits_in.ensures.exponent ∙ bits_of_half c.args.number c.if-number-eq0.false in
    let low : exponent (c.args.number + 1) ≤ 32 = bits_within c.args.number 32 (omega arith) in
    omega arith
