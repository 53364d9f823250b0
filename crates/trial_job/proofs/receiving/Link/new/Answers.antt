use Rattle.std.proofs.Common.{refl}
use Rattle.trial_job.proofs.Taken.{new_link}
use Rattle.trial_job.proofs.receiving.Link.new.Goals as goal

pub returns : goal.returns
returns c = new_link c.args.window _ c.in_ok-new.ensures refl refl
