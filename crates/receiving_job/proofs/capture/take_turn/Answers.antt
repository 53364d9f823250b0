use Rattle.std.proofs.Common.{◌<◌, ◌-◌, ◌^◌, ◌++◌, arith}
use Rattle.stream_receiver.specs.States.{counted}
use Rattle.receiving_job.proofs.TurnsTaken.{turn_done, turn_broken, turn_empty, turn_oversize, turn_end, turn_end_broken, turn_cut, turn_past, turn_failed}
use Rattle.receiving_job.proofs.capture.take_turn.Goals as goal

pub returns-in-Done-clause-turns : goal.returns-in-Done-clause-turns
returns-in-Done-clause-turns g c = λ xs stands.
    let a = c.in-Whole.ensures in
    let b = c.in-Done.ensures.takes xs stands in
    (a.frame.0 ++ b.0, turn_done g.S.Sink.so_far g.S.Sink.made (g.S.Sink.HasPut c.take.new.sink) xs c.args.capture.now.receiver _ _ _ _ _ _ _ _ a.frame.0 b.0 c.next.array_long a.state a.within c.requires.live c.are_bytes.ensures a.frame.1 b.1)

pub returns-in-WriteFault-clause-turns : goal.returns-in-WriteFault-clause-turns
returns-in-WriteFault-clause-turns g c = λ xs stands.
    let a = c.in-Whole.ensures in
    let b = c.in-WriteFault.ensures.takes xs stands in
    (a.frame.0 ++ b.0, turn_broken g.S.Sink.so_far g.S.Sink.made (g.S.Sink.HasPut c.take.new.sink) xs (g.S.Sink.HasPut c.take.new.sink) c.args.capture.now.receiver _ c.take.new.receiver _ _ _ _ _ _ _ a.frame.0 b.0 c.next.array_long a.frame.1 b.1)

pub returns-in-Done-finish-clause-turns : goal.returns-in-Done-finish-clause-turns
returns-in-Done-finish-clause-turns g c = λ xs stands.
    let a = c.in-End.ensures in
    let p = c.in-Done-finish.ensures.ends xs stands in
    (a.frame.0 ++ p.0, turn_end g.S.Sink.so_far g.S.Sink.made (g.S.Sink.HasPut c.finish.new.sink) xs c.args.capture.now.receiver _ _ _ _ _ _ _ a.frame.0 p.0 a.frame.1 p.1)

pub returns-in-WriteFault-finish-clause-turns : goal.returns-in-WriteFault-finish-clause-turns
returns-in-WriteFault-finish-clause-turns g c = λ xs stands.
    let a = c.in-End.ensures in
    let p = c.in-WriteFault-finish.ensures.ends xs stands in
    (a.frame.0 ++ p.0, turn_end_broken g.S.Sink.so_far g.S.Sink.made (g.S.Sink.HasPut c.finish.new.sink) xs c.args.capture.now.receiver _ _ _ _ _ _ _ a.frame.0 p.0 a.frame.1 p.1)

pub returns-in-Empty-clause-turns : goal.returns-in-Empty-clause-turns
returns-in-Empty-clause-turns g c = λ xs stands.
    let a = c.in-Empty.ensures in
    let few : counted c.args.capture.now.receiver.rules < 2 ^ 64 - 1 = omega (arith, c.requires.few) in
    (a.frame.0, turn_empty g.S.Sink.so_far g.S.Sink.made (g.S.Sink.HasPut c.args.sink.now) xs c.args.capture.now.receiver _ _ _ _ _ _ a.frame.0 a.state a.within c.requires.live c.requires.ready few c.refuse.ensures stands.has_put a.frame.1)

pub returns-in-Oversize-clause-turns : goal.returns-in-Oversize-clause-turns
returns-in-Oversize-clause-turns g c = λ xs stands.
    let a = c.in-Oversize.ensures in
    let few : counted c.args.capture.now.receiver.rules < 2 ^ 64 - 1 = omega (arith, c.requires.few) in
    (a.frame.0, turn_oversize g.S.Sink.so_far g.S.Sink.made (g.S.Sink.HasPut c.args.sink.now) xs c.args.capture.now.receiver _ _ _ _ _ _ _ a.frame.0 a.state a.within c.requires.live c.requires.ready few c.refuse-in-Oversize.ensures stands.has_put a.frame.1)

pub returns-in-Cut-clause-turns : goal.returns-in-Cut-clause-turns
returns-in-Cut-clause-turns g c = λ xs stands.
    let a = c.in-Cut.ensures in
    (a.frame.0, rw c.refused.ensures (turn_cut g.S.Sink.so_far g.S.Sink.made (g.S.Sink.HasPut c.args.sink.now) xs c.args.capture.now.receiver _ _ _ _ _ _ _ a.frame.0 a.frame.1))

pub returns-in-TooLong-clause-turns : goal.returns-in-TooLong-clause-turns
returns-in-TooLong-clause-turns g c = λ xs stands.
    let a = c.in-TooLong.ensures in
    (a.frame.0, rw c.refused-in-TooLong.ensures (turn_past g.S.Sink.so_far g.S.Sink.made (g.S.Sink.HasPut c.args.sink.now) xs c.args.capture.now.receiver _ _ _ _ _ _ a.frame.0 a.frame.1))

pub returns-in-ReadFault-clause-turns : goal.returns-in-ReadFault-clause-turns
returns-in-ReadFault-clause-turns g c = λ xs stands.
    let a = c.in-ReadFault.ensures in
    (a.frame.0, turn_failed g.S.Sink.so_far g.S.Sink.made (g.S.Sink.HasPut c.args.sink.now) xs c.args.capture.now.receiver _ _ _ _ _ _ a.frame.0 a.frame.1)
