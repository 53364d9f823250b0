-- Room is made, and then the digits are on the page.
use Rattle.std.proofs.Common.{◌++◌, []}
use Rattle.stream_model.specs.Report.{hex}
use Rattle.precinct_report.proofs.Gathered.{gathers_pushed, gathers_done, gathers_front}
use Rattle.precinct_report.proofs.writing.gather_part.Goals as goal

pub returns-in-WriteFault : goal.returns-in-WriteFault
returns-in-WriteFault g c = (c.in-WriteFault.ensures.gathers.0, gathers_front [] (hex c.args.bytes.now) _ _ _ _ _ c.in-WriteFault.ensures.gathers.1)

pub returns : goal.returns
returns g c = (c.in-Done.ensures.gathers.0 ++ [], gathers_done [] (hex c.args.bytes.now) _ _ _ _ _ _ _ _ c.in-Done.ensures.gathers.1 (gathers_pushed (hex c.args.bytes.now) _ _ _ c.push_hex.ensures))
