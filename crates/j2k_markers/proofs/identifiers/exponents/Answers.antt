use Rattle.std.proofs.Common.{◌≤◌, arith}
use Rattle.codestream_model.specs.Values.{Pair}
use Rattle.j2k_markers.proofs.Pairs.{pair_of}
use Rattle.j2k_markers.proofs.identifiers.exponents.Goals as goal

pub returns-clause-few_x : goal.returns-clause-few_x
returns-clause-few_x c = rw c.deref.ensures.0 (pair_of (λ (e : Pair). (e.x ≤ 15) × (e.y ≤ 15)) c.args.fields.now.precincts.items c.args.r c.requires.sound.exponents (omega (arith, c.requires.sound.each, c.requires.resolution))).0

pub returns-clause-few_y : goal.returns-clause-few_y
returns-clause-few_y c = rw c.deref.ensures.0 (pair_of (λ (e : Pair). (e.x ≤ 15) × (e.y ≤ 15)) c.args.fields.now.precincts.items c.args.r c.requires.sound.exponents (omega (arith, c.requires.sound.each, c.requires.resolution))).1
