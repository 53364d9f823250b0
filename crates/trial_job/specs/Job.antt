-- The job of `trial`.
use Rattle.std.specs.Prelude.{◌≤◌, ◌<◌, ◌^◌, List, ℕ}
use Rattle.trial_model.specs.Trial.{trial_counts, trial_line}
use Rattle.scl_run.specs.Job.{Job, writing}
use Rattle.trial_job.specs.declared.asked.Trial.{Trial}

-- The ranges of what is asked of a trial.
pub record IsTrial (asked : Trial) : Type 0 where
  pub seed : asked.seed < 2 ^ 64
  pub some : 1 ≤ asked.count
  pub few : asked.count ≤ 64
  pub loss : asked.loss ≤ 1000
  pub a_window : 1 ≤ asked.window
  pub window : asked.window ≤ 16384
  pub limit : asked.limit ≤ 7

-- The line of the trial that is asked for.
abbrev pub line_for : Trial → List ℕ
line_for asked = trial_line (trial_counts asked.seed asked.count asked.loss asked.window asked.limit)

-- `trial` reads nothing and writes one line with the numbers of the trial; it may be out of memory
-- before it writes.
abbrev pub trial_job : Trial → Job
trial_job asked = writing (line_for asked)
