-- `parse`: the precincts of an input of codestreams, with what their packets say.
use Rattle.std.specs.Prelude.{ℕ}
use Rattle.stream_model.specs.Commands.{parse_lines}
use Rattle.scl_run.specs.Job.{Job, plain, BeforeInput}
use Rattle.parse_job.specs.Inputs.{codestreams_input}

-- The job of `parse`: the lines of all whole packets up to the first fault; memory may be wanted only before anything is read.
abbrev pub parse_job : ℕ → ℕ → Job
parse_job stamp step = plain codestreams_input (λ read ended. parse_lines stamp step read) BeforeInput
