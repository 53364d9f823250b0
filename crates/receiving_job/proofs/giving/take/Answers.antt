use Rattle.std.proofs.Common.{◌≡◌, ◌<◌, ◌-◌, ◌^◌, ◌++◌, ◌∙◌, [], ap, sym, arith}
use Rattle.stream_receiver.specs.States.{ReceiverState, counted, rest}
use Rattle.receiving_job.proofs.Gives.{first_same}
use Rattle.receiving_job.proofs.Takes.{takes_old, takes_refused, kept_is, gives_same, first_of_frame, first_drained, first_again, again_is, drain_failed, drain_done, counts_drained}
use Rattle.receiving_job.proofs.giving.take.Goals as goal

pub give-requires-clause-first : goal.give-requires-clause-first
give-requires-clause-first g c =
    let s = c.args.receiver.now in
    let (xs, stands) = c.requires.stands in
    let few : counted s.rules < 2 ^ 64 - 1 = omega (arith, c.requires.few) in
    let kept = kept_is s c.offer.new.self c.args.frame.now c.requires.ready (c.in-Kept.ensures.takes few) in
    let first = first_of_frame s xs c.args.frame.now stands.has_given c.are_bytes.ensures c.requires.few in
    (xs, stands.has_put, first_same _ _ (ap (λ r. xs ++ r.releases) (sym kept)) first)

pub give-requires-in-Drain-clause-first : goal.give-requires-in-Drain-clause-first
give-requires-in-Drain-clause-first g c =
    let s = c.args.receiver.now in
    let (xs, stands) = c.requires.stands in
    let few : counted s.rules < 2 ^ 64 - 1 = omega (arith, c.requires.few) in
    let o = c.in-Drain.ensures.takes few c.requires.ready.undue in
    let first = first_of_frame s xs c.args.frame.now stands.has_given c.are_bytes.ensures c.requires.few in
    (xs, stands.has_put, first_drained s c.offer.new.self xs c.args.frame.now c.requires.ready o.0 first)

pub returns-in-WriteFault-clause-takes : goal.returns-in-WriteFault-clause-takes
returns-in-WriteFault-clause-takes g c =
    let s = c.args.receiver.now in
    let few : counted s.rules < 2 ^ 64 - 1 = omega (arith, c.requires.few) in
    let o = c.in-Drain.ensures.takes few c.requires.ready.undue in
    λ xs stands.
    let h = c.in-WriteFault.ensures.gives xs stands.has_put in
    (h.0, drain_failed g.S.Sink.so_far (g.S.Sink.HasPut c.give-in-Drain.new.sink) (g.S.Sink.HasPut c.give-in-Drain.new.sink) xs s c.offer.new.self c.give-in-Drain.new.receiver c.args.frame.now _ _ h.0 g.met.S.Sink.grows c.requires.ready o.0 h.1)

pub give-requires-in-Drain-2-clause-first : goal.give-requires-in-Drain-2-clause-first
give-requires-in-Drain-2-clause-first g c =
    let s = c.args.receiver.now in
    let t = c.offer.new.self in
    let u = c.give-in-Drain.new.receiver in
    let v = c.offer-in-Drain.new.self in
    let frame = c.args.frame.now in
    let (xs, stands) = c.requires.stands in
    let few : counted s.rules < 2 ^ 64 - 1 = omega (arith, c.requires.few) in
    let o = c.in-Drain.ensures.takes few c.requires.ready.undue in
    let h = c.in-Done.ensures.gives xs stands.has_put in
    let same = counts_drained s t u frame c.requires.ready o.0 h.1.left.0 in
    let fewer : counted u.rules < 2 ^ 64 - 1 = omega (arith, same, c.requires.few) in
    let pick : u.pick ≡ s.pick = c.give-in-Drain.ensures.pick ∙ ap (λ (x : ReceiverState). x.pick) c.offer.ensures.state in
    let now = again_is s t u v frame c.offer-in-Drain.result o.1 h.1.left.0 h.1.left.1 pick c.offer-in-Drain.ensures.answer (c.offer-in-Drain.ensures.takes fewer) in
    let first = first_of_frame s xs frame stands.has_given c.are_bytes.ensures c.requires.few in
    (xs ++ (rest t).releases, h.1.put, first_again s t v xs frame c.requires.ready o.0 now first)

pub returns-in-Kept-clause-takes : goal.returns-in-Kept-clause-takes
returns-in-Kept-clause-takes g c =
    let s = c.args.receiver.now in
    let few : counted s.rules < 2 ^ 64 - 1 = omega (arith, c.requires.few) in
    let kept = kept_is s c.offer.new.self c.args.frame.now c.requires.ready (c.in-Kept.ensures.takes few) in
    λ xs stands.
    let h = c.give.ensures.gives xs stands.has_put in
    (h.0, gives_same g.S.Sink.so_far (g.S.Sink.HasPut c.give.new.sink) xs _ _ c.give.result c.give.new.receiver _ _ h.0 kept h.1)

pub returns-in-Old-clause-takes : goal.returns-in-Old-clause-takes
returns-in-Old-clause-takes g c =
    let s = c.args.receiver.now in
    let few : counted s.rules < 2 ^ 64 - 1 = omega (arith, c.requires.few) in
    λ xs stands. ([], takes_old g.S.Sink.so_far (g.S.Sink.HasPut c.args.sink.now) xs s c.offer.new.self c.args.frame.now _ stands.has_put c.requires.ready c.in-Old.ensures.state (c.in-Old.ensures.takes few))

pub returns-in-Refused-clause-takes : goal.returns-in-Refused-clause-takes
returns-in-Refused-clause-takes g c =
    let s = c.args.receiver.now in
    let few : counted s.rules < 2 ^ 64 - 1 = omega (arith, c.requires.few) in
    λ xs stands.
    ([], takes_refused g.S.Sink.so_far (g.S.Sink.HasPut c.args.sink.now) xs s c.offer.new.self c.args.frame.now c.in-Refused.field-0 _ stands.has_put c.requires.ready c.in-Refused.ensures.state (c.in-Refused.ensures.takes few))

pub returns-in-Done-clause-takes : goal.returns-in-Done-clause-takes
returns-in-Done-clause-takes g c =
    let s = c.args.receiver.now in
    let t = c.offer.new.self in
    let u = c.give-in-Drain.new.receiver in
    let v = c.offer-in-Drain.new.self in
    let frame = c.args.frame.now in
    let few : counted s.rules < 2 ^ 64 - 1 = omega (arith, c.requires.few) in
    let o = c.in-Drain.ensures.takes few c.requires.ready.undue in
    let pick : u.pick ≡ s.pick = c.give-in-Drain.ensures.pick ∙ ap (λ (x : ReceiverState). x.pick) c.offer.ensures.state in
    λ xs stands.
    let first = c.in-Done.ensures.gives xs stands.has_put in
    let same = counts_drained s t u frame c.requires.ready o.0 first.1.left.0 in
    let fewer : counted u.rules < 2 ^ 64 - 1 = omega (arith, same, c.requires.few) in
    let now = again_is s t u v frame c.offer-in-Drain.result o.1 first.1.left.0 first.1.left.1 pick c.offer-in-Drain.ensures.answer (c.offer-in-Drain.ensures.takes fewer) in
    let last = c.give-in-Drain-2.ensures.gives (xs ++ (rest t).releases) first.1.put in (
      first.0 ++ last.0,
      drain_done g.S.Sink.so_far (g.S.Sink.HasPut c.give-in-Drain.new.sink) (g.S.Sink.HasPut c.give-in-Drain-2.new.sink) xs s t u v c.give-in-Drain-2.new.receiver frame c.give-in-Drain-2.result _ _ _ first.0 last.0 c.requires.ready o.0 now first.1 last.1,
    )
