use Rattle.std.proofs.Common.{◌∙◌, refl, arith}
use Rattle.scl_cli.specs.declared.command.Verb.TheVariants as verbs
use Rattle.scl_cli.proofs.Grammar.{with_one}
use Rattle.scl_cli.proofs.deliver.deliver_of.Goals as goal

pub returns-clause-spelt : goal.returns-clause-spelt
returns-clause-spelt c =
    (c.in_ok-list.ensures.spelt.0, with_one c.args.words.now verbs.Deliver _ c.requires (omega arith) c.get.ensures ∙ rw c.in_ok-list.ensures.spelt.1 refl)
