use Rattle.std.proofs.Common.{◌++◌, sym, subst, List}
use Rattle.stream_model.specs.Decoder.{Release}
use Rattle.stream_model.specs.ReceiverJoins.{having_given}
use Rattle.receiving_job.proofs.Takes.{end_failed, end_put, end_counts, end_done}
use Rattle.receiving_job.proofs.giving.finish.Goals as goal

pub returns-in-WriteFault-clause-ends : goal.returns-in-WriteFault-clause-ends
returns-in-WriteFault-clause-ends g c = λ xs stands.
    let h = c.in-WriteFault.ensures.gives xs stands in
    (h.0, end_failed g.S.Sink.so_far g.S.Sink.made (g.S.Sink.HasPut c.give_rest.new.sink) xs c.args.receiver.now c.give_rest.new.receiver _ _ h.0 g.met.S.Sink.at_end h.1)

pub returns-clause-ends : goal.returns-clause-ends
returns-clause-ends g c = λ xs stands.
    let s = c.args.receiver.now in
    let u = c.give_rest.new.receiver in
    let h = c.in-Done.ensures.gives xs stands in
    let P : List Release → Type 0 = λ l. g.S.Sink.HasPut c.give_rest.new.sink l in
    let put = subst P (sym (end_put s xs)) h.1.put in
    let counts = end_counts s u xs h.1.left.0 in
    let e = c.close.ensures (having_given xs s.rules) put counts in
    (h.0 ++ e.0, end_done g.S.Sink.so_far g.S.Sink.made (g.S.Sink.HasPut c.give_rest.new.sink) xs s u c.close.result _ _ _ h.0 e.0 h.1 e.1)
