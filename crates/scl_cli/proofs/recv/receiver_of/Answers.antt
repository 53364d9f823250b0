use Rattle.std.proofs.Common.{◌≡◌, List, ℕ, Some, None, refl, sym, ◌∙◌, ap, subst, arith}
use Rattle.recv_job.specs.Settings.{Settings}
use Rattle.scl_cli.specs.declared.command.Command.{Command}
use Rattle.scl_cli.specs.declared.command.Command.TheVariants.{Recv}
use Rattle.scl_cli.specs.declared.command.Verb.TheVariants as verbs
use Rattle.scl_cli.specs.Commands.{Spells}
use Rattle.scl_cli.proofs.RecvSpelt.{are_seven, as_recv, picked, has_pick, word_is, settings_are}
use Rattle.scl_cli.proofs.recv.receiver_of.Goals as goal

pub returns-in_err-pick-clause-all : goal.returns-in_err-pick-clause-all
returns-in_err-pick-clause-all c = λ command verb spells.
    let (s, is) = as_recv command verb in
    let same : Spells (Recv s) c.args.words.now = subst (λ (x : Command). Spells x c.args.words.now) is spells in
    let e : None ≡ Some (picked s) = c.in_err-pick.ensures.all (picked s) (has_pick c.args.words.now s same.0 same.1) in
    absurd (cc)

pub returns-clause-spelt : goal.returns-clause-spelt
returns-clause-spelt c =
    let p = c.in_ok-pick.ensures.spelt in
    let max = c.in_ok-max.ensures in
    let idle = c.in_ok-idle.ensures in
    let address = c.requires.local _ c.get-3.ensures in
    let P : Settings → Type 0 = λ s. Spells (Recv s) c.args.words.now in
    subst P (sym c.new-settings.ensures) (
      record {
        kind = p.range.kind;
        source = p.range.source;
        settings = record {
          some_window = p.range.some;
          most_window = p.range.few;
          some = omega (arith, max.least);
          most = omega (arith, max.most);
          idles = omega (arith, idle.least);
          idle = omega (arith, idle.most);
          some_address = address.some;
          short_address = address.few;
        };
      },
      are_seven c.args.words.now verbs.Recv _ _ _ _ _ _ c.requires.begins c.requires.count p.kind p.source p.window (c.get.ensures ∙ ap (λ (w : List ℕ). Some w) max.spelt) (c.get-2.ensures ∙ ap (λ (w : List ℕ). Some w) idle.spelt) c.get-3.ensures,
    )

pub returns-clause-all : goal.returns-clause-all
returns-clause-all c = λ command verb spells.
    let (s, is) = as_recv command verb in
    let words = c.args.words.now in
    let same : Spells (Recv s) words = subst (λ (x : Command). Spells x words) is spells in
    let range = same.0.settings in
    let pick = c.in_ok-pick.ensures.all (picked s) (has_pick words s same.0 same.1) in
    let max = c.in_ok-max.ensures.all s.max (omega (arith, range.some)) (omega (arith, range.most)) (word_is words s 4 _ _ same.1 c.get.ensures refl) in
    let idle = c.in_ok-idle.ensures.all s.idle (omega (arith, range.idles)) (omega (arith, range.idle)) (word_is words s 5 _ _ same.1 c.get-2.ensures refl) in
    let local = word_is words s 6 _ _ same.1 c.get-3.ensures refl in
    let e = settings_are s c.new-settings.result c.in_ok-pick.pick c.in_ok-max.max c.in_ok-idle.idle c.get-3.result.now c.new-settings.ensures pick max idle local in
    ap (λ (x : Settings). Some (Recv x)) e ∙ ap (λ (x : Command). Some x) (sym is)
