use Rattle.std.proofs.Common.{refl, ap}
use Rattle.stream_receiver.specs.declared.pick.Tally.{Tally}
use Rattle.trial_job.proofs.Taken.{stands_of, counted_at_end}
use Rattle.trial_job.proofs.receiving.Link.end.Goals as goal

pub returns : goal.returns
returns c = λ window frames t.
    let g = c.give_rest.ensures.gives t.packets (stands_of window frames c.args.self t) in
    counted_at_end window frames c.args.self c.give_rest.new.receiver c.give_rest.new.out c.give_rest.new.sink.released _ c.give_rest.result g.0 t g.1 refl (ap (λ (y : Tally). y.kept) c.tally.ensures) refl
