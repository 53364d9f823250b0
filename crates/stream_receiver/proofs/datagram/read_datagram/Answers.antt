use Rattle.std.proofs.Common.{◌≡◌, ◌≤◌, ◌+◌, ◌*◌, ◌-◌, ℕ, List, length, length-drop, length-take, take, drop, refl, sym, ◌∙◌, ap, arith}
use Rattle.rtp_header.specs.Reading.{fields_of}
use Rattle.wire_model.proofs.DatagramLaws.{bytes-range}
use Rattle.std.proofs.lemmas.Grind.{common_steps}
use Rattle.stream_receiver.proofs.Datagrams.{payload_fault, read_is, other_kind, not_payload}
use Rattle.stream_receiver.proofs.datagram.read_datagram.Goals as goal

take_most : (n : ℕ) (xs : List ℕ) → length (take n xs) ≤ length xs
take_most n xs = omega (arith, length-take n xs)

pub returns-then-rtp-kind : goal.returns-then-rtp-kind
returns-then-rtp-kind c = (
  other_kind c.args.kind c.args.bytes.now (fields_of c.in-Ok.rtp) _ _ c.in-Ok.ensures.found c.if-rtp-kind.true,
  (c.if-bytes-gt-MOST_BYTES.false, fields_of c.in-Ok.rtp, _, _, c.in-Ok.ensures.found, c.if-rtp-kind.true),
)

pub returns-in-Ok-read_payload : goal.returns-in-Ok-read_payload
returns-in-Ok-read_payload c =
    read_is c.args.kind c.args.bytes.now (fields_of c.in-Ok.rtp) _ _ _ _ c.if-bytes-gt-MOST_BYTES.false c.in-Ok.ensures.found c.in-Ok-read_payload.ensures.found c.if-rtp-kind.false refl refl
    (omega (arith, c.extended.ensures, c.eseq.ensures)) (grind (arith, common_steps))
    (let a = length-drop c.in-Ok-read_payload.start (take (c.in-Ok.rtp.body_to - c.in-Ok.rtp.body_from) (drop c.in-Ok.rtp.body_from c.args.bytes.now)) in
    let b = length-drop c.in-Ok.rtp.body_from c.args.bytes.now in
    let d = take_most (c.in-Ok.rtp.body_to - c.in-Ok.rtp.body_from) (drop c.in-Ok.rtp.body_from c.args.bytes.now) in omega (arith, a, b, d, c.if-bytes-gt-MOST_BYTES.false))

pub returns-in-Err-read_payload : goal.returns-in-Err-read_payload
returns-in-Err-read_payload c = (
  not_payload c.args.kind c.args.bytes.now (fields_of c.in-Ok.rtp) _ _ c.in-Ok.ensures.found (λ p codestream laid_out. let f = c.in-Err-read_payload.ensures.only p codestream laid_out in absurd (cc)) (bytes-range c.args.bytes.now _ _ (λ i. omega (arith, c.type_inv.bytes i))),
  (c.if-bytes-gt-MOST_BYTES.false, fields_of c.in-Ok.rtp, _, _, c.in-Ok.ensures.found, c.if-rtp-kind.false, payload_fault _ c.read_payload.result c.in-Err-read_payload.fault c.in-Err-read_payload.is c.read_payload.ensures.short c.read_payload.ensures.extension c.read_payload.ensures.pos),
)
