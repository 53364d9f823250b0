-- `thin`: the frames of a capture that serve a receiver with a limit.
use Rattle.std.specs.Prelude.{ℕ}
use Rattle.stream_model.specs.Commands.{thin_output}
use Rattle.scl_run.specs.CaptureInput.{capture_input}
use Rattle.scl_run.specs.Job.{Job, plain, Never}

abbrev pub thin_job : ℕ → Job
thin_job limit = plain capture_input (λ read ended. thin_output limit read) Never
