use Rattle.std.proofs.Common.{◌≡◌, ◌<◌, ◌≤◌, ◌-◌, ◌^◌, ◌==◌, ◌⊎◌, ◌∙◌, [], arith, inl, inr}
use Rattle.wire_model.specs.Datagram.{datagram_of}
use Rattle.stream_receiver.specs.States.{counted}
use Rattle.recv_job.proofs.Datagrams.{is_malformed, takes_refused, got_is, takes_given}
use Rattle.recv_job.proofs.link.take_datagram.Goals.{then-len-eq0-via-then-len-eq0, then-len-eq0-via-else-len-eq0+then-len-gt9000}
use Rattle.recv_job.proofs.link.take_datagram.Goals as goal

pub returns-then-len-eq0-clause-takes : goal.returns-then-len-eq0-clause-takes
returns-then-len-eq0-clause-takes g c = λ d xs size is given.
    let r = c.args.link.now.receiver in
    let few : counted r.rules < 2 ^ 64 - 1 = omega (arith, c.requires.few) in
    let outside : (c.args.len ≡ 0) ⊎ (9000 < c.args.len) = elim c.then-len-eq0.branch [
      | then-len-eq0-via-then-len-eq0 w ↦ inl w.if-len-eq0.true
      | then-len-eq0-via-else-len-eq0+then-len-gt9000 w ↦ inr w.if-len-gt9000.true
    ] in
    let wrong = is_malformed d c.args.len ((datagram_of d).rtp.kind == r.pick.kind) size outside in
    ([], takes_refused xs r c.refuse.new.self d _ wrong c.requires.ready few c.refuse.ensures)

pub returns-clause-takes : goal.returns-clause-takes
returns-clause-takes g c = λ d xs size is given.
    let few : c.args.len ≤ 9000 = omega (arith, c.if-len-gt9000.false) in
    let t = c.take.ensures.takes xs (record { has_put = tt; has_given = given }) in
    let same = got_is d c.bytes-bytes.result.now c.args.len size (c.bytes-bytes.ensures ∙ is) few in
    let are = c.are_bytes.ensures in
    (t.0, takes_given xs (λ l. Unit {0}) c.args.link.now.receiver c.take.new.receiver d c.bytes-bytes.result.now c.take.result _ _ t.0 same are t.1)
