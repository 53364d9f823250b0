use Rattle.std.proofs.Common.{arith}
use Rattle.j2k_markers.proofs.SoundFields.{some_steps, small_precincts, each_precinct}
use Rattle.j2k_markers.proofs.tiles.fields_of.Goals as goal

pub returns-clause-sound : goal.returns-clause-sound
returns-clause-sound c = record {
  few = rw c.cod_levels.ensures c.requires.cod.is_whole.few;
  each = rw c.cod_levels.ensures (each_precinct c.args.cod.now c.cod_precincts.result.items c.cod_precincts.ensures);
  steps = rw c.siz_steps.ensures (some_steps _ c.requires.siz.steps);
  exponents = rw c.cod_precincts.ensures (small_precincts c.args.cod.now (λ i. omega (arith, c.type_inv.cod i)));
}
