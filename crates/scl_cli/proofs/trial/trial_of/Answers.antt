use Rattle.std.proofs.Common.{refl, ◌∙◌, arith}
use Rattle.scl_cli.specs.declared.command.Verb.TheVariants as verbs
use Rattle.scl_cli.proofs.Grammar.{with_five}
use Rattle.scl_cli.proofs.trial.trial_of.Goals as goal

pub returns-clause-spelt : goal.returns-clause-spelt
returns-clause-spelt c =
    let seed = c.in_ok-seed.ensures in
    let count = c.in_ok-count.ensures in
    let loss = c.in_ok-loss.ensures in
    let window = c.in_ok-window.ensures in
    let limit = c.in_ok-limit.ensures in (
      record {
        seed = omega (arith, seed.most);
        some = omega (arith, count.least);
        few = omega (arith, count.most);
        loss = omega (arith, loss.most);
        a_window = omega (arith, window.least);
        window = omega (arith, window.most);
        limit = omega (arith, limit.most);
      },
      with_five c.args.words.now verbs.Trial _ _ _ _ _ c.requires (omega arith) c.get.ensures c.get-2.ensures c.get-3.ensures c.get-4.ensures c.get-5.ensures
          ∙ rw (seed.spelt, count.spelt, loss.spelt, window.spelt, limit.spelt) refl,
    )
