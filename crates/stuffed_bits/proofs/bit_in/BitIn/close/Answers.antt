-- Bits are closed by no byte, or after FF by one.
use Rattle.std.proofs.Common.{◌≡◌, ℕ, Ok, Err, drop, sym, ◌∙◌, ap, arith}
use Rattle.codestream_model.specs.Bytes.{IsBytes}
use Rattle.stuffed_bits.specs.Carried.{before_next}
use Rattle.stuffed_bits.specs.BitsRead.{next_of}
use Rattle.stuffed_bits.proofs.ReadLemmas.{closed_by_none, closed_by_one, byte_next, byte_of_piece, nothing_closes}
use Rattle.stuffed_bits.proofs.PartsRead.{drawn_free}
use Rattle.stuffed_bits.proofs.bit_in.BitIn.close.Goals as goal
use Rattle.stuffed_bits.proofs.bit_in.BitIn.close.Goals.{then-before+in_ok-next_byte, else-before}

pub returns-clause-packed : goal.returns-clause-packed
returns-clause-packed c = λ bits bytes r.
    let before : before_next c.args.self.now.last ≡ c.before-before.result = sym c.before-before.ensures in
    elim c.if-before.branch [
      | then-before+in_ok-next_byte w ↦
          let more = drop c.args.at.now c.args.piece.now in
          let b = w.in_ok-next_byte.field-0 in
          let e : next_of (before_next c.args.self.now.last) more ≡ Ok b = ap (λ (k : ℕ). next_of k more) before ∙ (sym w.next_byte.ensures.next ∙ w.in_ok-next_byte.was) in
          let each : IsBytes c.args.piece.now = λ i. omega (arith, c.type_inv.piece i) in
          let next = byte_next (before_next c.args.self.now.last) more b e in
          rw w.at-is (closed_by_one bits bytes c.args.piece.now c.args.at.now b c.args.self.now c.requires.begun (before ∙ w.if-before.true)
          (byte_of_piece c.args.piece.now next.0 c.args.at.now b next.1 each) e (drawn_free bits bytes c.args.self.now c.requires.free r))
      | else-before w ↦
          rw w.at-is (closed_by_none bits bytes c.args.piece.now c.args.at.now c.args.self.now c.requires.begun (λ f. w.if-before.false (sym before ∙ f)) (drawn_free bits bytes c.args.self.now c.requires.free r))
    ]

pub returns-in_err-next_byte-clause-only : goal.returns-in_err-next_byte-clause-only
returns-in_err-next_byte-clause-only c = λ bits bytes n r p.
    let before : before_next c.args.self.now.last ≡ c.before-before.result = sym c.before-before.ensures in
    let more = drop c.args.at.now c.args.piece.now in
    let e : next_of (before_next c.args.self.now.last) more ≡ Err c.in_err-next_byte.field-0.0 = ap (λ (k : ℕ). next_of k more) before ∙ (sym c.next_byte.ensures.next ∙ c.in_err-next_byte.was) in
    absurd (nothing_closes bits bytes more n c.args.self.now c.in_err-next_byte.field-0.0 c.requires.begun (before ∙ c.if-before.true) e (drawn_free bits bytes c.args.self.now c.requires.free r) p)
