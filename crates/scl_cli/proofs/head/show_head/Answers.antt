use Rattle.std.proofs.Common.{◌++◌}
use Rattle.scl_cli.specs.HeadLines.{head_lines}
use Rattle.scl_cli.proofs.Shown.{found_none, found_whole}
use Rattle.scl_cli.proofs.head.show_head.Goals as goal

pub returns-in-Ok : goal.returns-in-Ok
returns-in-Ok g c =
    let found = c.in-Ok.ensures in
    let shown = c.write_values.ensures in
    (found.0 ++ shown.0, found_whole head_lines _ _ _ c.in-Ok.head _ _ _ found.1 shown.1)

pub returns-in-Err : goal.returns-in-Err
returns-in-Err g c = let found = c.in-Err.ensures in (found.0, found_none head_lines _ _ _ _ found.1)
