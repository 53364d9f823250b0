-- The job of `rebuild`.
use Rattle.stream_model.specs.Receiver.{Pick}
use Rattle.rebuild_model.specs.Rebuilding.{rebuild_output}
use Rattle.scl_run.specs.CaptureInput.{capture_input}
use Rattle.scl_run.specs.Job.{Job, plain, BeforeInput}

-- `rebuild` reads a capture and writes the codestreams that are built again of the stream that is
-- picked; it may find no memory before it asks for input.
abbrev pub rebuild_job : Pick → Job
rebuild_job pick = plain capture_input (rebuild_output pick) BeforeInput
