-- What closes the bits, by their last byte.
use Rattle.std.proofs.Common.{◌≡◌, ◌≢◌, ◌<◌, ◌≤◌, length, refl, sym, ap, arith}
use Rattle.stuffed_bits.specs.BitWriterState.{BitWriterState}
use Rattle.stuffed_bits.proofs.WriterLemmas.{closed_other, length_ff, length_other, writes_closing}
use Rattle.stuffed_bits.proofs.bit_writer.BitWriter.finish.Goals as goal
use Rattle.stuffed_bits.proofs.bit_writer.BitWriter.finish.Goals.{then-self+else-len-buf, else-self}

pub returns-then-len-buf-clause-full : goal.returns-then-len-buf-clause-full
returns-then-len-buf-clause-full c = λ bits r.
    let ff : c.args.self.now.last ≡ 255 = rw (← c.self.view_is) c.if-self.true in
    let end : c.args.self.now.len ≡ length c.args.buf.now = rw (← c.self.view_is) c.if-len-buf.true in
    (λ e. omega (arith, length_ff bits c.args.buf.now c.args.self.now ff r), λ h. refl)

pub returns-clause-full : goal.returns-clause-full
returns-clause-full c = λ bits r.
    let below : c.args.self.now.len ≤ length c.args.buf.now = c.requires.inside in (
      λ e. absurd (cc),
      λ h. absurd (elim c.if-self.branch [
        | then-self+else-len-buf w ↦
            let ff : c.args.self.now.last ≡ 255 = rw (← c.self.view_is) w.if-self.true in
            let len : c.self.inside.len ≡ c.args.self.now.len = ap (λ (p : BitWriterState). p.len) c.self.view_is in
            omega (arith, w.if-len-buf.false, length_ff bits c.args.buf.now c.args.self.now ff r)
        | else-self w ↦
            let other : c.args.self.now.last ≢ 255 = rw (← c.self.view_is) w.if-self.false in
            omega (arith, length_other bits c.args.buf.now c.args.self.now other r)
      ]),
    )

pub returns-clause-packed : goal.returns-clause-packed
returns-clause-packed c = λ bits r.
    let below : c.args.self.now.len ≤ length c.args.buf.now = c.requires.inside in
    let len : c.self.inside.len ≡ c.args.self.now.len = ap (λ (p : BitWriterState). p.len) c.self.view_is in
    elim c.if-self.branch [
      | then-self+else-len-buf w ↦
          let ff : c.args.self.now.last ≡ 255 = rw (← c.self.view_is) w.if-self.true in
          let room : c.args.self.now.len < length c.args.buf.now = omega (arith, w.if-len-buf.false) in
          rw (w.buf-is, w.len-is, len) (writes_closing bits c.args.buf.now c.args.self.now ff room r)
      | else-self w ↦
          let other : c.args.self.now.last ≢ 255 = rw (← c.self.view_is) w.if-self.false in
          rw (w.buf-is, w.len-is, len) (sym (closed_other bits c.args.buf.now c.args.self.now other r))
    ]
