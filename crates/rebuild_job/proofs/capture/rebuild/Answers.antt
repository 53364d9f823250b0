use Rattle.std.proofs.Common.{◌∙◌}
use Rattle.rebuild_job.specs.Growing.{nothing_is_open}
use Rattle.rebuild_job.proofs.capture.rebuild.Goals as goal

pub receive_capture-requires-clause-none : goal.receive_capture-requires-clause-none
receive_capture-requires-clause-none g c = c.in-Ok.ensures ∙ nothing_is_open
