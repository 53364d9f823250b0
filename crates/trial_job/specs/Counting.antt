-- The numbers that a trial counts.
use Rattle.trial_model.specs.Trial.{TrialCounts}
use Rattle.trial_job.specs.declared.counting.Counts.{Counts}

-- The numbers of the line, as they were counted.
abbrev pub counts_as : Counts → TrialCounts
counts_as c = record {
  datagrams = c.datagrams;
  delivered = c.delivered;
  thinned = c.thinned;
  kept = c.kept;
  precincts = c.precincts;
  released = c.released;
}
