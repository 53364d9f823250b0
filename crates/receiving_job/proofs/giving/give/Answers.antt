use Rattle.std.proofs.Common.{◌++◌, ◌∙◌, [], ◌∷◌, refl, sym, subst, List, append_assoc}
use Rattle.std.proofs.lemmas.List.{append-nil}
use Rattle.stream_model.specs.Decoder.{Release}
use Rattle.stream_receiver.specs.States.{rest}
use Rattle.receiving_job.proofs.Gives.{left_whole, given_is, first_whole, one_more, next_is, puts_none, puts_more, gives_some}
use Rattle.receiving_job.proofs.giving.give.Goals as goal

pub loop-sink-init : goal.loop-sink-init
loop-sink-init g c = ([], refl, left_whole c.args.receiver.now c.requires.fresh, refl, λ xs put. (subst (g.S.Sink.HasPut c.args.sink.now) (sym (append-nil xs)) put, ([], puts_none g.S.Sink.so_far xs _)))

pub put-requires : goal.put-requires
put-requires g c =
    let so = c.loop-sink.invariant in
    let first = c.requires.first in
    let r = rest c.loop-sink.receiver in
    let left = rest c.step.new.self in
    let (x, is, e) = given_is r left c.step.new.self.given c.in-Ready.ensures.rules in
    let whole = (first_whole r left x e so.2).0 in
    (first.0 ++ so.0, x, (so.4 first.0 first.1).0, is, next_is (rest c.args.receiver.now) r left first.0 so.0 x so.1 e first.2 whole)

pub loop-sink-preserved : goal.loop-sink-preserved
loop-sink-preserved g c =
    let so = c.loop-sink.invariant in
    let r = rest c.loop-sink.receiver in
    let left = rest c.step.new.self in
    let (x, is, e) = given_is r left c.step.new.self.given c.in-Ready.ensures.rules in
    let P : List Release → Type 0 = λ l. g.S.Sink.HasPut c.put.new.self l in (
      so.0 ++ x ∷ [],
      one_more (rest c.args.receiver.now) r left so.0 x so.1 e,
      (first_whole r left x e so.2).1,
      c.step.ensures.pick ∙ so.3,
      λ xs put.
          let now = so.4 xs put in
          let p = c.in-Done.ensures.puts (xs ++ so.0) x now.0 is in (
            subst P (append_assoc xs so.0 (x ∷ [])) (c.in-Done.ensures.put (xs ++ so.0) x now.0 is refl),
            (now.1.0 ++ p.0, puts_more g.S.Sink.so_far xs so.0 (x ∷ []) _ _ _ _ now.1.0 p.0 now.1.1 p.1),
          ),
    )

pub returns-in-WriteFault-clause-gives : goal.returns-in-WriteFault-clause-gives
returns-in-WriteFault-clause-gives g c =
    let so = c.loop-sink.invariant in
    let r = rest c.loop-sink.receiver in
    let u = c.step.new.self in
    let (x, is, e) = given_is r (rest u) u.given c.in-Ready.ensures.rules in
    let far = g.S.Sink.so_far in
    λ xs put.
    let now = so.4 xs put in
    let p = c.in-WriteFault.ensures.puts (xs ++ so.0) x now.0 is in
    let all = puts_more far xs so.0 (x ∷ []) _ _ _ _ now.1.0 p.0 now.1.1 p.1 in
    let more = one_more (rest c.args.receiver.now) r (rest u) so.0 x so.1 e in
    (now.1.0 ++ p.0, gives_some far (g.S.Sink.HasPut c.put.new.self) xs so.0 c.args.receiver.now u u x _ _ (now.1.0 ++ p.0) g.met.S.Sink.grows more all)
