use Rattle.std.proofs.Common.{◌≡◌, map, length}
use Rattle.std.specs.List.{range_with_len}
use Rattle.codestream_model.specs.SegmentTests.{cod_precinct}
use Rattle.j2k_markers.specs.Fields.{pair}
use Rattle.j2k_markers.proofs.styles.cod_precincts.Given as goal

abbrev pub invariant-loop-r : goal.invariant-loop-r
invariant-loop-r l = record {
  count : length l.precincts.items ≡ l.r;
  precincts : map pair l.precincts.items ≡ map (cod_precinct l.content) (range_with_len 0 l.r);
}
