-- A bit of the last byte, or of the next one.
use Rattle.std.proofs.Common.{◌≡◌, ◌+◌, ◌++◌, ℕ, Some, Ok, Err, drop, sym, ◌∙◌, ap, subst, arith}
use Rattle.std.proofs.lemmas.Result.{err_from_is_err_and}
use Rattle.std.specs.List.{slice_range}
use Rattle.codestream_model.specs.Bytes.{IsBytes}
use Rattle.codestream_model.specs.StuffedBits.{width_after}
use Rattle.stuffed_bits.specs.Carried.{before_next}
use Rattle.stuffed_bits.specs.BitsRead.{HasBegun, next_of}
use Rattle.stuffed_bits.specs.BitInState.{BitInState}
use Rattle.stuffed_bits.specs.declared.part.Part.{Part}
use Rattle.stuffed_bits.proofs.ReadLemmas.{answer_stops}
use Rattle.stuffed_bits.proofs.PartLemmas.{begins_piece}
use Rattle.stuffed_bits.proofs.bit_in.BitIn.ready.Goals as goal

pub returns-in_err-next_byte-clause-ended : goal.returns-in_err-next_byte-clause-ended
returns-in_err-next_byte-clause-ended c = λ bits bytes r.
    let p = err_from_is_err_and c.from_residual.result c.from_residual.ensures.1 in
    let none : c.args.self.now.left ≡ 0 = rw (← c.self.view_is) (omega arith) in
    let more = drop c.args.at.now c.args.piece.now in
    let e : next_of (before_next c.args.self.now.last) more ≡ Err c.in_err-next_byte.field-0.0 = ap (λ (k : ℕ). next_of k more) (sym c.before-before.ensures) ∙ (sym c.next_byte.ensures.next ∙ c.in_err-next_byte.was) in
    rw (p.1, p.2) (answer_stops bits bytes more c.args.self.now c.in_err-next_byte.field-0.0 none e r)

pub returns-clause-begun : goal.returns-clause-begun
returns-clause-begun c = λ bits bytes r.
    let none : c.args.self.now.left ≡ 0 = rw (← c.self.view_is) (omega arith) in
    let more = drop c.args.at.now c.args.piece.now in
    let b = c.in_ok-next_byte.field-0 in
    let e : next_of (before_next c.args.self.now.last) more ≡ Ok b = ap (λ (k : ℕ). next_of k more) (sym c.before-before.ensures) ∙ (sym c.next_byte.ensures.next ∙ c.in_ok-next_byte.was) in
    let w : c.width_after-self-inside.result ≡ width_after (before_next c.args.self.now.last) = c.width_after-self-inside.ensures ∙ ap width_after c.before-before.ensures in
    let each : IsBytes c.args.piece.now = λ i. omega (arith, c.type_inv.piece i) in
    let P : Part → Type 0 = λ p. HasBegun bits (bytes ++ slice_range c.args.piece.now c.args.at.now (c.args.at.now + 1)) (record { last = Some b; left = c.width_after-self-inside.result; part = p }) in
    subst P (sym (ap (λ (h : BitInState). h.part) c.self.view_is)) (begins_piece bits bytes c.args.piece.now c.args.at.now b c.width_after-self-inside.result c.args.self.now none each e w r)
