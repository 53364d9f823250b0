-- A run, of the bytes at hand.
use Rattle.std.proofs.Common.{ℕ, Result, refl, subst}
use Rattle.std.proofs.lemmas.Result.{err_from_is_err_and}
use Rattle.stuffed_bits.specs.declared.source.Source.{Source}
use Rattle.stuffed_bits.specs.declared.stop.Stop.{Stop}
use Rattle.packet_header.specs.Answers.{header_answer}
use Rattle.packet_header.specs.Moves.{GetsRun}
use Rattle.packet_header.proofs.Sources.{run_gets}
use Rattle.packet_header.proofs.source.run.Goals as goal

pub returns-in_err-run-clause-gets : goal.returns-in_err-run-clause-gets
returns-in_err-run-clause-gets c =
    let p = err_from_is_err_and c.from_residual.result c.from_residual.ensures.1 in
    let new : Source = record { piece = c.args.source.now.piece; at = c.run.new.at; bits = c.run.new.self } in
    let P : Result ℕ Stop → Type 0 = λ x. GetsRun c.args.of c.args.most c.args.source.now new (header_answer x) in
    rw (p.1, p.2) (subst P c.in_err-run.was (run_gets c.args.of c.args.most c.args.source.now new c.run.result c.run.ensures.onward refl c.run.ensures.whole c.run.ensures.exact c.run.ensures.gives c.run.ensures.waits))

pub returns-clause-gets : goal.returns-clause-gets
returns-clause-gets c =
    let new : Source = record { piece = c.args.source.now.piece; at = c.run.new.at; bits = c.run.new.self } in
    let P : Result ℕ Stop → Type 0 = λ x. GetsRun c.args.of c.args.most c.args.source.now new (header_answer x) in
    subst P c.in_ok-run.was (run_gets c.args.of c.args.most c.args.source.now new c.run.result c.run.ensures.onward refl c.run.ensures.whole c.run.ensures.exact c.run.ensures.gives c.run.ensures.waits)
