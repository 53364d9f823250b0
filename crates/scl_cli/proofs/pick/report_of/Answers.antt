use Rattle.std.proofs.Common.{arith}
use Rattle.scl_cli.specs.declared.command.Verb.TheVariants as verbs
use Rattle.scl_cli.proofs.Grammar.{with_three}
use Rattle.scl_cli.proofs.pick.report_of.Goals as goal

pub returns-clause-spelt : goal.returns-clause-spelt
returns-clause-spelt c =
    let pick = c.in_ok-pick_in.ensures.spelt in
    (pick.range, with_three c.args.words.now verbs.Report _ _ _ c.requires (omega arith) pick.kind pick.source pick.window)
