-- The lemmas on one bit more, where there is room for it.
use Rattle.std.proofs.Common.{◌≡◌, ◌<◌, ◌≤◌, ◌*◌, length, refl, ◌∙◌, ap, arith}
use Rattle.stuffed_bits.specs.BitWriterState.{BitWriterState}
use Rattle.stuffed_bits.specs.BitsWritten.{added}
use Rattle.stuffed_bits.proofs.WriterLemmas.{writes_on, reach_within, reach_more}
use Rattle.stuffed_bits.proofs.bit_writer.BitWriter.put.Goals as goal
use Rattle.stuffed_bits.proofs.bit_writer.BitWriter.put.Goals.{else-self-eq0-via-then-self-eq0+else-self-buf, else-self-eq0-via-else-self-eq0}

pub returns-then-self-buf-clause-full : goal.returns-then-self-buf-clause-full
returns-then-self-buf-clause-full c = λ bits r.
    let none : c.args.self.now.free ≡ 0 = rw (← c.self.view_is) c.if-self-eq0.true in
    let end : c.args.self.now.len ≡ length c.args.buf.now = rw (← c.self.view_is) c.if-self-buf.true in
    (λ e. omega (arith, reach_more bits c.args.buf.now c.args.self.now c.args.bit none r), λ h. refl)

room : (c : goal.After-self-2) → c.args.self.now.free ≡ 0 → c.args.self.now.len < length c.args.buf.now
room c e =
    let none : c.self.inside.free ≡ 0 = ap (λ (w : BitWriterState). w.free) c.self.view_is ∙ e in
    let below : c.args.self.now.len ≤ length c.args.buf.now = c.requires in
    elim c.else-self-eq0.branch [
      | else-self-eq0-via-then-self-eq0+else-self-buf w ↦ let same : c.self.inside.len ≡ c.args.self.now.len = ap (λ (p : BitWriterState). p.len) c.self.view_is in omega (arith, w.if-self-buf.false)
      | else-self-eq0-via-else-self-eq0 w ↦ absurd (omega (arith, w.if-self-eq0.false))
    ]

begun_one : (c : goal.After-self-2) → c.args.self.now.free ≤ 8 * c.args.self.now.len
begun_one c = rw (← c.self.view_is) c.self.invariant.1

pub returns-clause-full : goal.returns-clause-full
returns-clause-full c = λ bits r. (
  λ e. absurd (cc),
  λ h. absurd (omega (arith, reach_within bits c.args.buf.now c.args.self.now c.args.bit (begun_one c) (room c) r)),
)

pub returns-clause-writes : goal.returns-clause-writes
returns-clause-writes c = λ bits r.
    let whole : c.add.new.self ≡ added c.args.bit c.args.self.now = c.add.ensures in
    let len : c.self-2.inside.len ≡ (added c.args.bit c.args.self.now).len = ap (λ (w : BitWriterState). w.len) (c.self-2.view_is ∙ whole) in
    let last : c.self-2.inside.last ≡ (added c.args.bit c.args.self.now).last = ap (λ (w : BitWriterState). w.last) (c.self-2.view_is ∙ whole) in
    rw (len, last, whole) (writes_on bits c.args.buf.now c.args.self.now c.args.bit (begun_one c) (room c) r)
