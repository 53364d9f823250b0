-- The job of `gen`.
use Rattle.std.specs.Prelude.{ℕ}
use Rattle.trial_model.specs.Generator.{Shape, generated}
use Rattle.scl_run.specs.Job.{Job, writing}
use Rattle.codestream_make.specs.Generating.{asked}
use Rattle.gen_job.specs.declared.generation.Generation.{Generation}

-- The shape that is asked for.
abbrev pub shape_of : Generation → Shape
shape_of g = asked g.width g.height g.components g.levels g.sub g.order g.eph

-- `gen` reads nothing and writes the generated codestream; it may find no memory before anything is written.
abbrev pub gen_job : Shape → ℕ → Job
gen_job shape seed = writing (generated shape seed)
