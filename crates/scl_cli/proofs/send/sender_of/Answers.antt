use Rattle.std.proofs.Common.{List, ℕ, Some, sym, ◌∙◌, ap, subst, arith}
use Rattle.send_job.specs.Settings.{Settings}
use Rattle.scl_cli.specs.declared.command.Command.TheVariants.{Send}
use Rattle.scl_cli.specs.declared.command.Verb.TheVariants as verbs
use Rattle.scl_cli.specs.Commands.{Spells}
use Rattle.scl_cli.proofs.SendSpelt.{are_eleven}
use Rattle.scl_cli.proofs.send.sender_of.Goals as goal

pub returns-clause-spelt : goal.returns-clause-spelt
returns-clause-spelt c =
    let p = c.in_ok-plan.ensures.spelt in
    let idle = c.in_ok-idle.ensures in
    let P : Settings → Type 0 = λ s. Spells (Send s) c.args.words.now in
    subst P (sym c.new-settings.ensures) (
      record {
        plan = p.range;
        idles = omega (arith, idle.least);
        idle = omega (arith, idle.most);
        local = c.requires.local _ c.get-2.ensures;
        peer = c.requires.peer _ c.get-3.ensures;
      },
      are_eleven c.args.words.now verbs.Send c.in_ok-plan.plan _ _ _ c.requires.begins c.requires.count p (c.get.ensures ∙ ap (λ (w : List ℕ). Some w) idle.spelt) c.get-2.ensures c.get-3.ensures,
    )
