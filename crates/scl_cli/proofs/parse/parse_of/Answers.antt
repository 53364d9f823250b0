use Rattle.std.proofs.Common.{refl, ◌∙◌, arith}
use Rattle.scl_cli.specs.declared.command.Verb.TheVariants as verbs
use Rattle.scl_cli.proofs.Grammar.{with_two}
use Rattle.scl_cli.proofs.parse.parse_of.Goals as goal

pub returns-clause-spelt : goal.returns-clause-spelt
returns-clause-spelt c =
    let first = c.in_ok-first.ensures in
    let step = c.in_ok-step.ensures in (
      record { first = omega (arith, first.most); some = omega (arith, step.least); step = omega (arith, step.most) },
      with_two c.args.words.now verbs.Parse _ _ c.requires (omega arith) c.get.ensures c.get-2.ensures ∙ rw (first.spelt, step.spelt) refl,
    )
