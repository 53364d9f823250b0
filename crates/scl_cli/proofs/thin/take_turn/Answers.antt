use Rattle.std.proofs.Common.{◌++◌, arith}
use Rattle.scl_cli.proofs.TurnsTaken.{turn_done, turn_broken, turn_empty, turn_oversize, turn_end, turn_cut, turn_past, turn_failed}
use Rattle.scl_cli.proofs.thin.take_turn.Goals as goal

pub returns-in-Done : goal.returns-in-Done
returns-in-Done g c =
    let a = c.in-Whole.ensures in
    let b = c.in-Done.ensures in
    (a.frame.0 ++ b.0, turn_done _ _ _ _ _ _ _ _ _ _ (omega arith) a.state a.within c.requires a.frame.1 b.1)

pub returns-in-WriteFault : goal.returns-in-WriteFault
returns-in-WriteFault g c =
    let a = c.in-Whole.ensures in
    let b = c.in-WriteFault.ensures in
    (a.frame.0 ++ b.0, turn_broken _ _ _ _ _ _ _ _ _ _ (omega arith) a.frame.1 b.1)

pub returns-in-Empty : goal.returns-in-Empty
returns-in-Empty g c = let a = c.in-Empty.ensures in (a.frame.0, turn_empty _ _ _ _ _ _ _ a.state a.within c.requires a.frame.1)

pub returns-in-Oversize : goal.returns-in-Oversize
returns-in-Oversize g c = let a = c.in-Oversize.ensures in (a.frame.0, turn_oversize _ _ _ _ _ _ _ _ a.state a.within c.requires a.frame.1)

pub returns-in-End : goal.returns-in-End
returns-in-End g c = let a = c.in-End.ensures in (a.frame.0, turn_end _ _ _ _ _ _ _ a.frame.1)

pub returns-in-Cut : goal.returns-in-Cut
returns-in-Cut g c = let a = c.in-Cut.ensures in (a.frame.0, rw c.refused.ensures (turn_cut _ _ _ _ _ _ _ _ a.frame.1))

pub returns-in-TooLong : goal.returns-in-TooLong
returns-in-TooLong g c = let a = c.in-TooLong.ensures in (a.frame.0, rw c.refused-in-TooLong.ensures (turn_past _ _ _ _ _ _ _ a.frame.1))

pub returns-in-ReadFault : goal.returns-in-ReadFault
returns-in-ReadFault g c = let a = c.in-ReadFault.ensures in (a.frame.0, turn_failed _ _ _ _ _ _ _ a.frame.1)
