use Rattle.precinct_geometry.specs.Spans.{place_of}
use Rattle.precinct_geometry.proofs.ThreeBands.{three_counts}
use Rattle.precinct_geometry.proofs.geometry.Geometry.blocks.Goals as goal

pub returns-else-p-eq0 : goal.returns-else-p-eq0
returns-else-p-eq0 c =
    three_counts c.args.self.now (place_of c.args.p) _ _ _ c.if-p-eq0.false c.blocks_in-else-p-eq0.ensures.blocks c.blocks_in-else-p-eq0-2.ensures.blocks c.blocks_in-else-p-eq0-3.ensures.blocks
