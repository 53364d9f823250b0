use Rattle.std.proofs.Common.{◌<◌}
use Rattle.codestream_model.specs.Values.{Pair}
use Rattle.j2k_markers.proofs.Pairs.{pair_of}
use Rattle.j2k_markers.proofs.identifiers.step.Goals as goal

pub returns-clause-some_x : goal.returns-clause-some_x
returns-clause-some_x c = rw c.deref.ensures.0 (pair_of (λ (step : Pair). (0 < step.x) × (0 < step.y)) c.args.fields.now.steps.items c.args.c c.requires.sound.steps c.requires.component).0

pub returns-clause-some_y : goal.returns-clause-some_y
returns-clause-some_y c = rw c.deref.ensures.0 (pair_of (λ (step : Pair). (0 < step.x) × (0 < step.y)) c.args.fields.now.steps.items c.args.c c.requires.sound.steps c.requires.component).1
