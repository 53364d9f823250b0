use Rattle.stream_model.specs.Receiver.{flushed}
use Rattle.stream_receiver.specs.States.{rest}
use Rattle.receiving_job.proofs.Takes.{first_flushed, flushed_is, gives_same}
use Rattle.receiving_job.proofs.giving.give_rest.Goals as goal

pub give-requires-clause-first : goal.give-requires-clause-first
give-requires-clause-first g c =
    let (xs, stands) = c.requires.stands in
    (xs, stands.has_put, first_flushed c.args.receiver.now c.flush.new.self xs c.requires.ready stands.has_given c.requires.few c.flush.ensures.rest)

pub returns-clause-gives : goal.returns-clause-gives
returns-clause-gives g c = λ xs stands.
    let s = c.args.receiver.now in
    let t = c.flush.new.self in
    let h = c.give.ensures.gives xs stands.has_put in
    (h.0, gives_same g.S.Sink.so_far (g.S.Sink.HasPut c.give.new.sink) xs (rest t) (flushed s.rules) c.give.result c.give.new.receiver _ _ h.0 (flushed_is s t c.requires.ready c.flush.ensures.rest) h.1)
