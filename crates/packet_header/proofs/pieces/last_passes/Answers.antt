-- A code that is refused, or what follows it.
use Rattle.std.proofs.Common.{◌≡◌, ◌==◌, false, Ok, refl, sym, ◌∙◌, ap, inl, inr}
use Rattle.std.proofs.lemmas.Result.{err_from_is_err_and}
use Rattle.std.proofs.lemmas.Bool.Decides.{eqb_tells}
use Rattle.codestream_model.specs.HeaderPieces as refusal
use Rattle.codestream_model.specs.PacketHeaderReading.{and_then, read_number}
use Rattle.packet_header.specs.Steps.{block_rest, block_then, by_passes, position_of}
use Rattle.packet_header.specs.declared.block.Block.{Block}
use Rattle.packet_header.specs.declared.step.Step.TheVariants.{LastPasses, Lblock}
use Rattle.packet_header.proofs.Moving.{value_err, value_refused, value_then}
use Rattle.packet_header.proofs.BlockValues.{by_last, last_rest, refused_code}
use Rattle.packet_header.proofs.pieces.last_passes.Goals as goal

pub returns-in_err-code-clause-reads : goal.returns-in_err-code-clause-reads
returns-in_err-code-clause-reads c =
    let p = err_from_is_err_and c.from_residual.result c.from_residual.ensures.1 in
    let b = c.args.known in
    let s = position_of b in
    rw (p.1, p.2, c.in_err-code.ensures.noted) (value_err Block (block_rest s (LastPasses b.planes)) (read_number 2) (λ n m. and_then (by_last n m) (by_passes s b.planes)) c.args.source.now c.number.new.source c.number.result _ (last_rest s b.planes) c.number.ensures.gets (sym c.noted.ensures.same ∙ c.in_err-code.was))

pub returns-then-code-ne0-clause-reads : goal.returns-then-code-ne0-clause-reads
returns-then-code-ne0-clause-reads c =
    let b = c.args.known in
    let s = position_of b in
    let n = c.in_ok-code.code in
    let other : (n == 0) ≡ false = elim (eqb_tells n 0) [ inl t ↦ absurd (c.if-code-ne0.true t.1) | inr t ↦ t.0 ] in
    value_refused Block (block_rest s (LastPasses b.planes)) (read_number 2) (λ n m. and_then (by_last n m) (by_passes s b.planes)) (block_rest s c.noted.new.step) c.args.source.now c.number.new.source c.number.result n refusal.Passes c.number.ensures.piece (last_rest s b.planes) c.number.ensures.gets (sym c.noted.ensures.same ∙ c.in_ok-code.was)
    (λ l. refused_code s b.planes n l other)

pub returns-clause-reads : goal.returns-clause-reads
returns-clause-reads c =
    let b = c.args.known in
    let s = position_of b in
    value_then (block_rest s (LastPasses b.planes)) (block_rest s (Lblock b.planes 3)) (block_then s c.lblock.new.step c.lblock.result) (read_number 2) (λ n m. and_then (by_last n m) (by_passes s b.planes))
    c.args.source.now c.number.new.source c.lblock.new.source c.number.result 0 c.lblock.result c.number.ensures.piece (last_rest s b.planes) c.number.ensures.gets (sym c.noted.ensures.same ∙ c.in_ok-code.was ∙ ap Ok c.if-code-ne0.false) (λ m. refl) c.lblock.ensures.reads
