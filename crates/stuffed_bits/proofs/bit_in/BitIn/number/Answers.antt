-- A number, part by part.
use Rattle.std.proofs.Common.{◌≡◌, ◌<◌, ◌≤◌, ◌+◌, ◌-◌, ◌++◌, ℕ, refl, ◌∙◌, ap, arith}
use Rattle.stuffed_bits.specs.BitInState.{BitInState}
use Rattle.std.specs.List.{slice_range}
use Rattle.codestream_model.specs.StuffedBits.{number_bits}
use Rattle.stuffed_bits.proofs.PartLemmas.{Joins, joins, gives_part}
use Rattle.stuffed_bits.proofs.PartAnswers.{number_stops, number_is, part_joins}
use Rattle.stuffed_bits.proofs.ReadLemmas.{same_end}
use Rattle.stuffed_bits.proofs.PartsRead.{drawn_before, read_free, read_part}
use Rattle.stuffed_bits.proofs.bit_in.BitIn.number.Goals as goal

-- what is left of the number where so many bits of it were read
left_of : (width count : ℕ) → count ≤ width → width - (width - count) ≡ count
left_of width count few = omega arith

pub loop-wanted-init : goal.loop-wanted-init
loop-wanted-init c =
    let first = c.take_number-first in
    let few : first.result.1 ≤ c.args.width = first.ensures.few in
    let done : c.args.width - (c.args.width - first.result.1) ≡ first.result.1 = left_of c.args.width first.result.1 few in
    rw done (record {
      few = omega arith;
      small = first.ensures.small;
      onward = omega arith;
      within = c.requires.inside;
      free = ap (λ (h : BitInState). h.part) first.ensures.rest;
      holds = λ bits bytes r. drawn_before bits (number_bits first.result.1 first.result.0) bytes c.args.piece.now c.args.at.now c.args.self.now first.new.self first.ensures.bits
          (ap (λ (h : BitInState). h.last) first.ensures.rest) (ap (λ (h : BitInState). h.left) first.ensures.rest) r;
    })

pub returns-in-Err-clause-exact : goal.returns-in-Err-clause-exact
returns-in-Err-clause-exact c = λ bits bytes r.
    let i = c.loop-wanted.invariant in
    let done = c.args.width - c.loop-wanted.wanted in
    let taken = bytes ++ slice_range c.args.piece.now c.args.at.now c.loop-wanted.at in
    number_stops c.args.width done c.loop-wanted.value bits bytes c.args.piece.now c.args.at.now c.loop-wanted.at c.in-Err.stopped (omega (arith, i.few)) i.onward
    (same_end _ c.ready.result c.in-Err.stopped c.in-Err.is (c.ready.ensures.ended (bits ++ number_bits done c.loop-wanted.value) taken (i.holds bits bytes r)))

pub overflow_add-value : goal.overflow_add-value
overflow_add-value c =
    let i = c.loop-wanted.invariant in
    let done = c.args.width - c.loop-wanted.wanted in
    let j : Joins done c.min-count.result c.loop-wanted.value c.give_part-part.result =
    joins done c.min-count.result c.loop-wanted.value c.give_part-part.result (omega (arith, i.few, c.min-count.ensures, c.requires.low)) i.small c.give_part-part.ensures.small in
    rw j.unwrapped (omega (arith, j.low))

pub loop-wanted-preserved : goal.loop-wanted-preserved
loop-wanted-preserved c =
    let i = c.loop-wanted.invariant in
    let done = c.args.width - c.loop-wanted.wanted in
    let value = c.loop-wanted.value in
    let count = c.min-count.result in
    let part = c.give_part-part.result in
    let h = c.ready.new.self in
    let left : c.self.inside.left ≡ h.left = ap (λ (x : BitInState). x.left) c.self.view_is in
    let some : 0 < h.left = c.in_default.ensures.some in
    let j : Joins done count value part = joins done count value part (omega (arith, i.few, c.min-count.ensures, c.requires.low)) i.small c.give_part-part.ensures.small in
    let more : c.args.width - (c.loop-wanted.wanted - count) ≡ done + count = omega (arith, i.few, c.min-count.ensures) in
    rw (j.unwrapped, more) (record {
      few = omega (arith, i.few);
      small = j.small;
      onward = omega (arith, i.onward, c.ready.ensures.onward);
      within = c.ready.ensures.within;
      free = ap (λ (x : BitInState). x.part) c.give_part-part.ensures.rest ∙ (c.ready.ensures.kept ∙ i.free);
      holds = λ bits bytes r.
          let taken = bytes ++ slice_range c.args.piece.now c.args.at.now c.loop-wanted.at in
          let begun = c.in_default.ensures.begun (bits ++ number_bits done value) taken (i.holds bits bytes r) in
          let given = gives_part (bits ++ number_bits done value) (taken ++ slice_range c.args.piece.now c.loop-wanted.at c.ready.new.at) h count (omega (arith, left, c.min-count.ensures)) (omega (arith, left, c.min-count.ensures)) begun in
          part_joins done count value part bits bytes c.args.piece.now c.args.at.now c.loop-wanted.at c.ready.new.at c.give_part-part.new.self c.give_part-part.ensures.small i.onward c.ready.ensures.onward
          (rw (c.give_part-part.ensures.part, c.give_part-part.ensures.rest) given);
    })

pub returns-clause-exact : goal.returns-clause-exact
returns-clause-exact c = λ bits bytes r.
    let i = c.loop-wanted.invariant in
    let e : c.args.width - c.loop-wanted.wanted ≡ c.args.width = omega arith in
    number_is c.args.width c.loop-wanted.value bits bytes c.args.piece.now c.args.at.now c.loop-wanted.at c.loop-wanted.self (rw e at i.small) i.onward (rw e at i.holds bits bytes r)

pub returns-clause-gives : goal.returns-clause-gives
returns-clause-gives c = λ n e bits bytes r.
    let i = c.loop-wanted.invariant in
    let w : c.args.width - c.loop-wanted.wanted ≡ c.args.width = omega arith in
    let v : c.loop-wanted.value ≡ n = cc in
    rw (← v) (read_free (bits ++ number_bits c.args.width c.loop-wanted.value) (bytes ++ slice_range c.args.piece.now c.args.at.now c.loop-wanted.at) c.loop-wanted.self i.free (rw w at i.holds bits bytes r))

pub returns-in-Err-clause-waits : goal.returns-in-Err-clause-waits
returns-in-Err-clause-waits c = λ e bits bytes r.
    let i = c.loop-wanted.invariant in
    let done = c.args.width - c.loop-wanted.wanted in
    let u = c.in-Err.ensures.unchanged in
    rw u.1 (read_part bits (number_bits done c.loop-wanted.value) (bytes ++ slice_range c.args.piece.now c.args.at.now c.loop-wanted.at) c.loop-wanted.self _ refl
    (ap (λ (h : BitInState). h.last) c.self.view_is ∙ ap (λ (h : BitInState). h.last) u.0) (ap (λ (h : BitInState). h.left) c.self.view_is ∙ ap (λ (h : BitInState). h.left) u.0) (i.holds bits bytes r))
