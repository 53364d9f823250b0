-- A run is that of the bits in hand, or a part of it.
use Rattle.std.proofs.Common.{◌≡◌, ◌<◌, ◌-◌, ◌+◌, ◌++◌, not, [], ◌∷◌, replicate, sym, ap, subst, arith}
use Rattle.std.proofs.lemmas.List.{length-append, length-replicate}
use Rattle.codestream_model.specs.StuffedBits.{number_bits}
use Rattle.stuffed_bits.specs.Carried.{before_next}
use Rattle.stuffed_bits.specs.BitInState.{BitInState}
use Rattle.stuffed_bits.specs.BitsRead.{HasDrawn}
use Rattle.stuffed_bits.specs.RunsRead.{BeginsWith}
use Rattle.stuffed_bits.proofs.PartLemmas.{gives_front}
use Rattle.stuffed_bits.proofs.FirstRuns.{ended_front, whole_front, begins_unread}
use Rattle.stuffed_bits.proofs.bit_in.BitIn.give_run.Goals as goal
use Rattle.stuffed_bits.proofs.bit_in.BitIn.give_run.Goals.{else-run-self-via-then-run-self+else-run-wanted, else-run-self-via-else-run-self}

pub returns-then-run-wanted-clause-draws : goal.returns-then-run-wanted-clause-draws
returns-then-run-wanted-clause-draws c = λ bits bytes r.
    let h = c.args.self.now in
    let of = c.args.of in
    let run = c.first_run-run.result in
    let left : c.self.inside.left ≡ h.left = ap (λ (x : BitInState). x.left) c.self.view_is in
    let begins : BeginsWith of run (number_bits h.left (before_next h.last)) = begins_unread of run c.self.inside.left h.left c.before-2.result (before_next h.last) left c.before-2.ensures c.first_run-run.ensures.run in
    let front = replicate run of ++ not of ∷ [] in
    let P : BitInState → Type 0 = λ x. HasDrawn (bits ++ front) bytes (record x { left = x.left - (run + 1) }) in
    subst P (sym c.self.view_is) (gives_front bits front bytes h (h.left - (run + 1)) (omega (arith, length-append (replicate run of) (not of ∷ []))) (ended_front of run h.left (before_next h.last) (omega (arith, left)) begins) r)

pub returns-clause-draws : goal.returns-clause-draws
returns-clause-draws c = λ bits bytes r.
    let h = c.args.self.now in
    let of = c.args.of in
    let run = c.first_run-run.result in
    let count = c.min-count.result in
    let left : c.self.inside.left ≡ h.left = ap (λ (x : BitInState). x.left) c.self.view_is in
    let begins : BeginsWith of run (number_bits h.left (before_next h.last)) = begins_unread of run c.self.inside.left h.left c.before-2.result (before_next h.last) left c.before-2.ensures c.first_run-run.ensures.run in
    let some : 0 < count = elim c.else-run-self.branch [
      | else-run-self-via-then-run-self+else-run-wanted w ↦ omega (arith, c.min-count.ensures, w.if-run-wanted.false, c.requires.wanted)
      | else-run-self-via-else-run-self w ↦ omega (arith, c.min-count.ensures, w.if-run-self.false, c.requires.wanted, c.requires.some, left)
    ] in
    let P : BitInState → Type 0 = λ x. HasDrawn (bits ++ replicate count of) bytes (record x { left = x.left - count }) in
    subst P (sym c.self.view_is) (gives_front bits (replicate count of) bytes h (h.left - count) (omega (arith, length-replicate count of))
    (whole_front of run count h.left (before_next h.last) (omega (arith, c.min-count.ensures)) (omega (arith, left, c.first_run-run.ensures.low)) begins) r)
