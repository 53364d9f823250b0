use Rattle.std.proofs.Common.{[], ◌∷◌, refl}
use Rattle.wire_model.specs.Receptions.{Arrived, NotReady, Closed, Failed}
use Rattle.scl_outside.specs.Events.{OnWire, Received}
use Rattle.recv_job.specs.Turns.{progress_of}
use Rattle.recv_job.proofs.Turned.{turn_waited, turn_closed, turn_failed, turn_came, turn_broken}
use Rattle.recv_job.proofs.link.take_turn.Goals as goal

pub returns-in-Done-clause-turns : goal.returns-in-Done-clause-turns
returns-in-Done-clause-turns g c = λ xs given.
    let got = c.in-Ready.ensures.polled in
    let k = c.in-Done.ensures.takes got.0 xs got.1 got.2 given in
    (OnWire (Received (Arrived got.0)) ∷ k.0, turn_came c.args.settings.now xs (progress_of c.args.link.now) (progress_of c.take_datagram.new.link) got.0 _ _ _ c.turn_after.result k.0 got.3 k.1 c.take_datagram.ensures.came c.take_datagram.ensures.idle c.turn_after.ensures)

pub returns-in-WriteFault-clause-turns : goal.returns-in-WriteFault-clause-turns
returns-in-WriteFault-clause-turns g c = λ xs given.
    let got = c.in-Ready.ensures.polled in
    let k = c.in-WriteFault.ensures.takes got.0 xs got.1 got.2 given in
    (OnWire (Received (Arrived got.0)) ∷ k.0, turn_broken c.args.settings.now xs (progress_of c.args.link.now) (progress_of c.take_datagram.new.link) got.0 c.take_datagram.new.link.receiver _ _ _ k.0 got.3 k.1)

pub returns-in-Pending-clause-turns : goal.returns-in-Pending-clause-turns
returns-in-Pending-clause-turns g c = λ xs given.
    (OnWire (Received NotReady) ∷ [], turn_waited c.args.settings.now xs (progress_of c.args.link.now) _ _ _ c.turn_after-in-Pending.result c.in-Pending.ensures.polled refl refl refl c.turn_after-in-Pending.ensures c.requires.came)

pub returns-in-Ended-clause-turns : goal.returns-in-Ended-clause-turns
returns-in-Ended-clause-turns g c = λ xs given. (OnWire (Received Closed) ∷ [], turn_closed c.args.settings.now xs (progress_of c.args.link.now) _ _ _ c.in-Ended.ensures.polled refl)

pub returns-in-Failed-clause-turns : goal.returns-in-Failed-clause-turns
returns-in-Failed-clause-turns g c = λ xs given. (OnWire (Received Failed) ∷ [], turn_failed c.args.settings.now xs (progress_of c.args.link.now) _ _ _ c.in-Failed.ensures.polled)
