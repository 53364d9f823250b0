use Rattle.std.proofs.Common.{◌≡◌, map}
use Rattle.std.specs.List.{range_with_len}
use Rattle.codestream_make.specs.Generating.{shape_of, step_pair}
use Rattle.codestream_make.proofs.shape.steps_of.Given as goal

abbrev pub invariant-loop-c : goal.invariant-loop-c
invariant-loop-c l = l.steps.items ≡ map (step_pair (shape_of l.shape)) (range_with_len 0 l.c)
