use Rattle.std.proofs.Common.{arith}
use Rattle.scl_cli.specs.declared.command.Verb.TheVariants as verbs
use Rattle.scl_cli.proofs.Grammar.{with_seven}
use Rattle.scl_cli.proofs.pack.pack_of.Goals as goal

pub returns-clause-spelt : goal.returns-clause-spelt
returns-clause-spelt c =
    let p = c.in_ok-plan_in.ensures.spelt in
    (p.range, with_seven c.args.words.now verbs.Pack _ _ _ _ _ _ _ c.requires (omega arith) p.mtu p.mode p.kind p.source p.number p.stamp p.step)
