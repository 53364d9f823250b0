use Rattle.std.proofs.Common.{arith}
use Rattle.codestream_model.specs.SegmentTests.{cod_precinct}
use Rattle.j2k_markers.proofs.Pairs.{pair_more}
use Rattle.j2k_markers.proofs.styles.cod_precincts.Goals as goal

pub loop-r-preserved : goal.loop-r-preserved
loop-r-preserved c = record {
  count = omega arith;
  precincts = rw c.push.ensures.items (pair_more (cod_precinct c.args.content.now) c.loop-r.precincts.items c.loop-r.r c.cod_precinct.result c.loop-r.invariant.precincts c.cod_precinct.ensures);
}
