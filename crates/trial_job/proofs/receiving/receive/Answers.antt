use Rattle.std.proofs.Common.{◌++◌, ◌∷◌, [], List, ℕ, subst, arith}
use Rattle.std.specs.Prelude.{get_or}
use Rattle.std.proofs.lemmas.List.{drop_all, drop_more}
use Rattle.wire_model.specs.Thinning.{kept}
use Rattle.stream_model.specs.Arrivals.{datagram_at}
use Rattle.trial_job.specs.Receiving.{HasTaken}
use Rattle.trial_job.proofs.Taken.{next_within, kept_next, kept_all}
use Rattle.trial_job.proofs.receiving.receive.Goals as goal

pub loop-position-preserved : goal.loop-position-preserved
loop-position-preserved c =
    let positions = c.args.positions.now in
    let i = c.loop-position.position-index in
    let position = get_or positions i 0 in
    let f = datagram_at c.args.datagrams.now in
    let limit = c.args.wanted.limit in
    let (left, few, (frames, taken, so)) = c.loop-position.invariant in
    let here = drop_more positions i 0 c.loop-position-test.true in
    let next = next_within _ positions i position _ here left in
    let P : List ℕ → Type 0 = λ frame. HasTaken c.args.wanted.window (frames ++ kept limit (frame ∷ [])) c.pass.new.self in (
      next.1,
      omega (arith, few, c.pass.ensures.few),
      (frames ++ kept limit (f position ∷ []), subst P c.get.ensures (c.pass.ensures.taken c.args.wanted.window frames taken), kept_next limit f _ frames _ _ position here so),
    )

pub returns : goal.returns
returns c =
    let positions = c.args.positions.now in
    let (left, few, (frames, taken, so)) = c.loop-position.invariant in
    let none = drop_all c.loop-position.position-index positions c.loop-position-test.false in
    c.end.ensures c.args.wanted.window _ (kept_all c.args.wanted.window c.args.wanted.limit (datagram_at c.args.datagrams.now) _ frames _ c.loop-position.link none so taken)
