use Rattle.precinct_geometry.specs.Spans.{place_of}
use Rattle.precinct_geometry.proofs.ThreeBands.{three_bands}
use Rattle.precinct_geometry.proofs.geometry.Geometry.bands.Goals as goal

pub returns-else-p-eq0 : goal.returns-else-p-eq0
returns-else-p-eq0 c = three_bands c.args.self.now (place_of c.args.p) _ _ _ _ _ _ _ c.if-p-eq0.false c.new-bands.ensures c.push-else-p-eq0.ensures.items c.push-else-p-eq0-2.ensures.items c.push-else-p-eq0-3.ensures.items c.grid-else-p-eq0.ensures.grid c.grid-else-p-eq0-2.ensures.grid c.grid-else-p-eq0-3.ensures.grid
