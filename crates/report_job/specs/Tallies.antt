-- The counts of the END line.
use Rattle.stream_model.specs.Report as report
use Rattle.stream_receiver.specs.declared.pick.Tally.{Tally}

-- The counts of a tally.
abbrev pub tally_counts : Tally → report.Counts
tally_counts t = record {
  kept = t.kept;
  old = t.old;
  refused = t.refused;
  unsupported = t.unsupported;
  disagreed = t.disagreed;
  broken = t.broken;
}
