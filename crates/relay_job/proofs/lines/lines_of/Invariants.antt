use Rattle.thinning_relay.specs.Relaying.{receivers_of}
use Rattle.relay_job.specs.Serving.{word_of}
use Rattle.relay_job.specs.Lines.{end_line}
use Rattle.relay_job.proofs.Lists.{LinesTo}
use Rattle.relay_job.proofs.lines.lines_of.Given as goal

abbrev pub invariant-loop-j : goal.invariant-loop-j
invariant-loop-j l = LinesTo l.j (receivers_of l.relay) (end_line (word_of l.fn.end) l.relay.received l.relay.refused) l.lines.bytes
