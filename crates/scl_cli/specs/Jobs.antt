-- What each command is to do.
use Rattle.scl_run.specs.Job.{Job}
use Rattle.scl_cli.specs.declared.command.Command.{Command}
use Rattle.scl_cli.specs.declared.command.Command.TheVariants.{Thin, Head, Order, Parse, Pack, Report, Rebuild, Recv, Send, Relay, Deliver, Gen, Trial}
use Rattle.stream_receiver.specs.States.{pick_of}
use Rattle.parse_job.specs.ParseJob.{parse_job}
use Rattle.pack_job.specs.PackJob.{pack_job}
use Rattle.report_job.specs.Job.{report_job}
use Rattle.rebuild_job.specs.Job.{rebuild_job}
use Rattle.recv_job.specs.Job.{recv_job}
use Rattle.relay_job.specs.Job.{relay_job}
use Rattle.send_job.specs.Job.{send_job}
use Rattle.deliver_job.specs.DeliverJob.{deliver_job}
use Rattle.gen_job.specs.GenJob.{shape_of, gen_job}
use Rattle.trial_job.specs.Job.{trial_job}
use Rattle.deliver_job.specs.Items.{ranges_of}
use Rattle.scl_cli.specs.ThinJob.{thin_job}
use Rattle.scl_cli.specs.HeaderJobs.{head_job, order_job}

-- The job of each command.
abbrev pub job : Command → Job
job (Thin limit) = thin_job limit
job Head = head_job
job Order = order_job
job (Parse stamps) = parse_job stamps.first stamps.step
job (Pack plan) = pack_job plan
job (Report pick) = report_job (pick_of pick)
job (Rebuild pick) = rebuild_job (pick_of pick)
job (Recv settings) = recv_job settings
job (Send settings) = send_job settings
job (Relay settings) = relay_job settings
job (Deliver list) = deliver_job (ranges_of list)
job (Gen g) = gen_job (shape_of g) g.seed
job (Trial asked) = trial_job asked
