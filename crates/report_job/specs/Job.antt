-- The job of `report`.
use Rattle.stream_model.specs.Receiver.{Pick}
use Rattle.stream_model.specs.Commands.{report_lines}
use Rattle.scl_run.specs.CaptureInput.{capture_input}
use Rattle.scl_run.specs.Job.{Job, plain, BeforeInput}

-- `report` reads a capture and writes the lines of the precincts of the stream that is picked; it
-- may find no memory before it asks for input.
abbrev pub report_job : Pick → Job
report_job pick = plain capture_input (report_lines pick) BeforeInput
