use Rattle.scl_cli.proofs.RelaySpelt.{adds}
use Rattle.scl_cli.proofs.relay.add_numbers.Goals as goal

pub returns-clause-spelt : goal.returns-clause-spelt
returns-clause-spelt c = λ done. adds c.args.words.now c.args.at c.in-Some.limit c.in-Some-number_within.depth _ _ c.get-address.result.now _ _ (c.requires.address _ c.get-address.ensures) c.in-Some.ensures.most c.in-Some-number_within.ensures.least c.in-Some-number_within.ensures.most
    c.get-address.ensures c.get.ensures c.get-2.ensures c.in-Some.ensures.spelt c.in-Some-number_within.ensures.spelt c.add.ensures
