use Rattle.std.proofs.Common.{subst}
use Rattle.codestream_model.specs.Values.{Head}
use Rattle.codestream_model.specs.Precincts.{IsPrecinct}
use Rattle.precinct_geometry.specs.Spans.{place_of}
use Rattle.codestream_rebuild.proofs.Opens.{fits_under, spelt_under}
use Rattle.codestream_rebuild.proofs.tests.put_one.Goals as goal

pub put-requires : goal.put-requires
put-requires g c =
    let p = place_of c.place_at-place.result in
    let P : Head → Type 0 = λ h. IsPrecinct h p in
    fits_under c.args.rebuild.now c.args.call.heads c.args.header.now p c.accepted.result c.requires c.accepted.ensures (subst P c.new-geometry.ensures c.place_at-place.ensures)

pub returns : goal.returns
returns g c = λ done. spelt_under c.put.new.self c.args.call.heads c.args.header.now (c.put.ensures.under done)
