use Rattle.std.proofs.Common.{◌≡◌, ◌∙◌, arith}
use Rattle.hex.specs.Hex.{encode_lower}
use Rattle.precinct_report.proofs.Written.{on_ok, hex_is}
use Rattle.precinct_report.proofs.page.spell.Goals as goal

pub returns : goal.returns
returns c =
    let e : c.encode_to_slice.new.output ≡ encode_lower c.args.bytes.now = on_ok c.encode_to_slice.result _ (c.encode_to_slice.ensures.fits.1 c.requires) c.encode_to_slice.ensures.written in
    e ∙ hex_is c.args.bytes.now (λ i. omega (arith, c.type_inv.bytes i))
