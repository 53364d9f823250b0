-- The job of `deliver`.
use Rattle.std.specs.Prelude.{List}
use Rattle.delivery_model.specs.Delivering.{Range, deliver_output}
use Rattle.scl_run.specs.Job.{Job, plain, BeforeOutput}
use Rattle.deliver_job.specs.DeliverInput.{delivered_input}

-- `deliver` reads a capture and writes its listed frames at the end; it may find no memory before
-- it writes.
abbrev pub deliver_job : List Range → Job
deliver_job list = plain (delivered_input list) (deliver_output list) BeforeOutput
