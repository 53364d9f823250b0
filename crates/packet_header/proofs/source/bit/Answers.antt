-- A bit, of the bytes at hand.
use Rattle.std.proofs.Common.{Bool, Result, refl, subst}
use Rattle.std.proofs.lemmas.Result.{err_from_is_err_and}
use Rattle.codestream_model.specs.PacketHeaderReading.{read_bit}
use Rattle.stuffed_bits.specs.declared.source.Source.{Source}
use Rattle.stuffed_bits.specs.declared.stop.Stop.{Stop}
use Rattle.packet_header.specs.Answers.{header_answer}
use Rattle.packet_header.specs.Moves.{Gets}
use Rattle.packet_header.proofs.Sources.{bit_gets}
use Rattle.packet_header.proofs.source.bit.Goals as goal

pub returns-in_err-bit-clause-gets : goal.returns-in_err-bit-clause-gets
returns-in_err-bit-clause-gets c =
    let p = err_from_is_err_and c.from_residual.result c.from_residual.ensures.1 in
    let new : Source = record { piece = c.args.source.now.piece; at = c.bit.new.at; bits = c.bit.new.self } in
    let P : Result Bool Stop → Type 0 = λ x. Gets read_bit c.args.source.now new (header_answer x) in
    rw (p.1, p.2) (subst P c.in_err-bit.was (bit_gets c.args.source.now new c.bit.result c.bit.ensures.onward refl c.bit.ensures.whole c.bit.ensures.exact c.bit.ensures.gives))

pub returns-clause-gets : goal.returns-clause-gets
returns-clause-gets c =
    let new : Source = record { piece = c.args.source.now.piece; at = c.bit.new.at; bits = c.bit.new.self } in
    let P : Result Bool Stop → Type 0 = λ x. Gets read_bit c.args.source.now new (header_answer x) in
    subst P c.in_ok-bit.was (bit_gets c.args.source.now new c.bit.result c.bit.ensures.onward refl c.bit.ensures.whole c.bit.ensures.exact c.bit.ensures.gives)
