use Rattle.std.proofs.Common.{◌∙◌, sym, subst}
use Rattle.relay_job.specs.Settings.{IsAddress}
use Rattle.scl_cli.proofs.RelaySpelt.{address_is}
use Rattle.scl_cli.proofs.relay.add_target.Goals as goal

pub returns-else-good-clause-all : goal.returns-else-good-clause-all
returns-else-good-clause-all c = λ r rest is e.
    let same = address_is c.args.words.now _ c.args.at _ _ c.get.ensures e in
    let address : IsAddress c.get.result.now = subst IsAddress (sym same) is.address in
    sym c.if-good.false ∙ c.is_address-good.ensures.1 address
