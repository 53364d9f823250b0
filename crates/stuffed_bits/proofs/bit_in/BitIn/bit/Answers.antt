-- The next bit is the first that wasn't read.
use Rattle.std.proofs.Common.{◌<◌, ◌-◌, ◌++◌, ℕ, Bool, List, [], ◌∷◌, sym, ◌∙◌, ap, arith}
use Rattle.std.proofs.lemmas.Result.{err_from_is_err_and}
use Rattle.std.specs.List.{slice_range}
use Rattle.stuffed_bits.specs.Carried.{before_next}
use Rattle.stuffed_bits.specs.BitInState.{BitInState}
use Rattle.stuffed_bits.specs.BitsRead.{HasDrawn, HasRead, first_unread}
use Rattle.stuffed_bits.proofs.ReadLemmas.{first_bit, bit_is, same_end}
use Rattle.stuffed_bits.proofs.PartLemmas.{gives_front}
use Rattle.stuffed_bits.proofs.PartsRead.{drawn_free, read_free}
use Rattle.stuffed_bits.proofs.bit_in.BitIn.bit.Goals as goal

pub returns-in_err-ready-clause-exact : goal.returns-in_err-ready-clause-exact
returns-in_err-ready-clause-exact c = λ bits bytes r.
    let p = err_from_is_err_and c.from_residual.result c.from_residual.ensures.1 in
    rw (p.1, p.2) (sym (same_end _ c.ready.result c.in_err-ready.field-0.0 c.in_err-ready.was (c.ready.ensures.ended bits bytes (drawn_free bits bytes c.args.self.now c.requires.free r))))

-- the bit was read
drawn : (c : goal.After-give) (bits : List Bool) (bytes : List ℕ) → HasRead bits bytes c.args.self.now → HasDrawn (bits ++ c.give.result ∷ []) (bytes ++ slice_range c.args.piece.now c.args.at.now c.ready.new.at) c.give.new.self
drawn c bits bytes r =
    let h = c.ready.new.self in
    let all = bytes ++ slice_range c.args.piece.now c.args.at.now c.ready.new.at in
    let some : 0 < h.left = c.in_ok-ready.ensures.some in
    rw (c.give.ensures.bit, c.give.ensures.rest)
    (gives_front bits (first_unread h ∷ []) all h (h.left - 1) (omega arith) (first_bit h.left (before_next h.last) some) (c.in_ok-ready.ensures.begun bits bytes (drawn_free bits bytes c.args.self.now c.requires.free r)))

pub returns-clause-kept : goal.returns-clause-kept
returns-clause-kept c = ap (λ (h : BitInState). h.part) c.give.ensures.rest ∙ (c.ready.ensures.kept ∙ c.requires.free)

pub returns-clause-gives : goal.returns-clause-gives
returns-clause-gives c = λ bits bytes r.
    read_free (bits ++ c.give.result ∷ []) (bytes ++ slice_range c.args.piece.now c.args.at.now c.ready.new.at) c.give.new.self (returns-clause-kept c) (drawn c bits bytes r)

pub returns-clause-exact : goal.returns-clause-exact
returns-clause-exact c = λ bits bytes r.
    bit_is c.give.result bits bytes c.args.piece.now c.args.at.now c.ready.new.at c.give.new.self c.ready.ensures.onward (drawn c bits bytes r)
