-- `pack`: the datagrams of codestreams as the frames of a capture.
use Rattle.stream_model.specs.Cut.{Plan}
use Rattle.sender_model.specs.Outputs.{pack_output}
use Rattle.scl_run.specs.Job.{Job, plain, BeforeInput}
use Rattle.pack_job.specs.SentInput.{sent_input}

-- The job of `pack`: the framing of the datagrams that the bytes read fix; memory may be wanted only before anything is
-- read.
abbrev pub pack_job : Plan → Job
pack_job p = plain (sent_input p) (λ read ended. pack_output p read) BeforeInput
