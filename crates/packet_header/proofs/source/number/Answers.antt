-- A number, of the bytes at hand.
use Rattle.std.proofs.Common.{ℕ, Result, refl, subst}
use Rattle.std.proofs.lemmas.Result.{err_from_is_err_and}
use Rattle.codestream_model.specs.PacketHeaderReading.{read_number}
use Rattle.stuffed_bits.specs.declared.source.Source.{Source}
use Rattle.stuffed_bits.specs.declared.stop.Stop.{Stop}
use Rattle.packet_header.specs.Answers.{header_answer}
use Rattle.packet_header.specs.Moves.{Gets}
use Rattle.packet_header.proofs.Sources.{number_gets}
use Rattle.packet_header.proofs.source.number.Goals as goal

pub returns-in_err-number-clause-gets : goal.returns-in_err-number-clause-gets
returns-in_err-number-clause-gets c =
    let p = err_from_is_err_and c.from_residual.result c.from_residual.ensures.1 in
    let new : Source = record { piece = c.args.source.now.piece; at = c.number.new.at; bits = c.number.new.self } in
    let P : Result ℕ Stop → Type 0 = λ x. Gets (read_number c.args.width) c.args.source.now new (header_answer x) in
    rw (p.1, p.2) (subst P c.in_err-number.was (number_gets c.args.width c.args.source.now new c.number.result c.number.ensures.onward refl c.number.ensures.whole c.number.ensures.exact c.number.ensures.gives c.number.ensures.waits c.number.ensures.small))

pub returns-clause-gets : goal.returns-clause-gets
returns-clause-gets c =
    let new : Source = record { piece = c.args.source.now.piece; at = c.number.new.at; bits = c.number.new.self } in
    let P : Result ℕ Stop → Type 0 = λ x. Gets (read_number c.args.width) c.args.source.now new (header_answer x) in
    subst P c.in_ok-number.was (number_gets c.args.width c.args.source.now new c.number.result c.number.ensures.onward refl c.number.ensures.whole c.number.ensures.exact c.number.ensures.gives c.number.ensures.waits c.number.ensures.small)
