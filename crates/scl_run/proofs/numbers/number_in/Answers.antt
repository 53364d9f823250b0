use Rattle.std.proofs.Common.{◌≡◌, ℕ, true, false, Some, sym, ap, ◌∙◌}
use Rattle.std.specs.Prelude.{decimal}
use Rattle.std.proofs.lemmas.Fmt.{parse-decimal}
use lib.Pointwise.{bytes_decides}
use Rattle.scl_run.proofs.numbers.number_in.Goals as goal

pub returns-in_default-clause-all : goal.returns-in_default-clause-all
returns-in_default-clause-all c = λ n small is. absurd (c.in_default.not-Ok n (parse-decimal 64 n c.args.word.now c.parse.result small small is c.parse.ensures.value.0))

pub returns-then-eq-clause-all : goal.returns-then-eq-clause-all
returns-then-eq-clause-all c = λ n small is.
    let e = sym c.in-Ok.is ∙ parse-decimal 64 n c.args.word.now c.parse.result small small is c.parse.ensures.value.0 in
    let f : c.in-Ok.n ≡ n = cc in
    ap (λ (m : ℕ). Some m) f

pub returns-else-eq-clause-all : goal.returns-else-eq-clause-all
returns-else-eq-clause-all c = λ n small is.
    let e = sym c.in-Ok.is ∙ parse-decimal 64 n c.args.word.now c.parse.result small small is c.parse.ensures.value.0 in
    let f : c.in-Ok.n ≡ n = cc in
    let same = (bytes_decides c.format.result.now c.args.word.now).1 (c.format.ensures.text ∙ (ap decimal f ∙ sym is)) in
    absurd (let d : false ≡ true = sym c.if-eq.false ∙ (c.eq.ensures ∙ same) in cc)
