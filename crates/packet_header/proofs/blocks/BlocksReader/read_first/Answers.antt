-- By the first bit.
use Rattle.std.proofs.Common.{Bool, Result, Ok, ◌∙◌, ap, subst, arith}
use Rattle.std.proofs.lemmas.Result.{err_from_is_err_and}
use Rattle.codestream_model.specs.PacketHeaderReading.{read_bit}
use Rattle.packet_header.specs.Moves.{Moved, behind_answer}
use Rattle.packet_header.specs.declared.refusal.HeaderStop.{HeaderStop}
use Rattle.packet_header.proofs.GridMoves.{first_filled, first_empty, first_stops}
use Rattle.packet_header.proofs.blocks.BlocksReader.read_first.Goals as goal

pub returns-in_err-bit-clause-read : goal.returns-in_err-bit-clause-read
returns-in_err-bit-clause-read c = λ first before t.
    let p = err_from_is_err_and c.from_residual.result c.from_residual.ensures.1 in
    let R : Result Bool HeaderStop → Type 0 = λ x. Moved read_bit (behind_answer read_bit x) before t.done c.args.source.now c.bit.new.source x in
    let here = subst R c.in_err-bit.was (c.bit.ensures.gets before t.done (record { read = t.read })) in
    rw (p.1, p.2) (first_stops first c.args.self.now before c.args.source.now c.bit.new.source c.in_err-bit.field-0.0 t c.requires.begun c.bit.ensures.free here)

pub returns-then-branch-clause-read : goal.returns-then-branch-clause-read
returns-then-branch-clause-read c = λ first before t.
    let R : Result Bool HeaderStop → Type 0 = λ x. Moved read_bit (behind_answer read_bit x) before t.done c.args.source.now c.bit.new.source x in
    let here = subst R (c.in_ok-bit.was ∙ ap Ok c.if-branch.true) (c.bit.ensures.gets before t.done (record { read = t.read })) in
    first_filled first c.args.self.now before c.args.source.now c.bit.new.source t c.requires.begun c.bit.ensures.free here

pub returns-clause-read : goal.returns-clause-read
returns-clause-read c = λ first before t.
    let R : Result Bool HeaderStop → Type 0 = λ x. Moved read_bit (behind_answer read_bit x) before t.done c.args.source.now c.bit.new.source x in
    let here = subst R (c.in_ok-bit.was ∙ ap Ok c.if-branch.false) (c.bit.ensures.gets before t.done (record { read = t.read })) in
    first_empty first c.args.self.now before c.args.source.now c.bit.new.source c.len-self.result t c.requires.begun c.bit.ensures.free (omega (arith, c.len-self.ensures)) here
