-- Room for a line, the line up to its digits, the digits, and the line feed.
use Rattle.std.proofs.Common.{◌++◌, []}
use Rattle.std.specs.Prelude.{codes}
use Rattle.stream_model.specs.Report.{hex, block_line}
use Rattle.packet_header.specs.Answers.{block_of}
use Rattle.precinct_report.specs.Lines.{block_start}
use Rattle.precinct_report.proofs.Gathered.{gathers_pushed, gathers_done, gathers_failed, gathers_front}
use Rattle.precinct_report.proofs.lines.gather_block.Goals as goal

pub returns-in-WriteFault : goal.returns-in-WriteFault
returns-in-WriteFault g c =
    (c.in-WriteFault.ensures.gathers.0, gathers_front [] (block_line (block_of c.args.block.now) c.args.bytes.now) _ _ _ _ _ c.in-WriteFault.ensures.gathers.1)

pub returns-in-WriteFault-gather_hex : goal.returns-in-WriteFault-gather_hex
returns-in-WriteFault-gather_hex g c =
    let start = block_start (block_of c.args.block.now) in
    let digits = hex c.args.bytes.now in
    let one = gathers_done [] start _ _ _ _ _ _ _ _ c.in-Done.ensures.gathers.1 (gathers_pushed start _ _ _ c.push_block.ensures) in
    ((c.in-Done.ensures.gathers.0 ++ []) ++ c.in-WriteFault-gather_hex.ensures.0, gathers_front (start ++ digits) (codes "\n") _ _ _ _ _ (gathers_failed start digits _ _ _ _ _ _ _ _ one c.in-WriteFault-gather_hex.ensures.1))

pub returns-in-WriteFault-make_room : goal.returns-in-WriteFault-make_room
returns-in-WriteFault-make_room g c =
    let start = block_start (block_of c.args.block.now) in
    let digits = hex c.args.bytes.now in
    let one = gathers_done [] start _ _ _ _ _ _ _ _ c.in-Done.ensures.gathers.1 (gathers_pushed start _ _ _ c.push_block.ensures) in
    let two = gathers_done start digits _ _ _ _ _ _ _ _ one c.in-Done-gather_hex.ensures.1 in
    (((c.in-Done.ensures.gathers.0 ++ []) ++ c.in-Done-gather_hex.ensures.0) ++ c.in-WriteFault-make_room.ensures.gathers.0, gathers_failed (start ++ digits) (codes "\n") _ _ _ _ _ _ _ _ two (gathers_front [] (codes "\n") _ _ _ _ _ c.in-WriteFault-make_room.ensures.gathers.1))

pub returns : goal.returns
returns g c =
    let start = block_start (block_of c.args.block.now) in
    let digits = hex c.args.bytes.now in
    let one = gathers_done [] start _ _ _ _ _ _ _ _ c.in-Done.ensures.gathers.1 (gathers_pushed start _ _ _ c.push_block.ensures) in
    let two = gathers_done start digits _ _ _ _ _ _ _ _ one c.in-Done-gather_hex.ensures.1 in
    let end = gathers_done [] (codes "\n") _ _ _ _ _ _ _ _ c.in-Done-make_room.ensures.gathers.1 (gathers_pushed (codes "\n") _ _ _ c.push.ensures.text) in
    (((c.in-Done.ensures.gathers.0 ++ []) ++ c.in-Done-gather_hex.ensures.0) ++ (c.in-Done-make_room.ensures.gathers.0 ++ []), gathers_done (start ++ digits) (codes "\n") _ _ _ _ _ _ _ _ two end)
