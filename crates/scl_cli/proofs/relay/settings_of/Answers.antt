use Rattle.scl_cli.proofs.RelaySpelt.{settings_spelt}
use Rattle.scl_cli.proofs.relay.settings_of.Goals as goal

pub returns-then-added-clause-spelt : goal.returns-then-added-clause-spelt
returns-then-added-clause-spelt c = settings_spelt c.args.words.now c.in_ok-max.max c.in_ok-idle.idle _ _ _ _ c.get-3.result.now c.requires.begins c.requires.many c.get.ensures c.get-2.ensures c.get-3.ensures c.in_ok-max.ensures.spelt c.in_ok-idle.ensures.spelt (c.requires.local _ c.get-3.ensures)
    c.in_ok-max.ensures.least c.in_ok-max.ensures.most c.in_ok-idle.ensures.least c.in_ok-idle.ensures.most c.new-settings.ensures (c.add_targets-added.ensures.spelt c.if-added.true)
