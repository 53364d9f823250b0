-- A run, part by part.
use Rattle.std.proofs.Common.{◌≡◌, ◌<◌, ◌+◌, ◌++◌, ℕ, Bool, List, replicate, refl, ◌∙◌, ap, subst, arith}
use Rattle.std.proofs.lemmas.List.{append-nil}
use Rattle.std.specs.List.{slice_range}
use Rattle.stuffed_bits.specs.BitInState.{BitInState, part_bits}
use Rattle.stuffed_bits.specs.declared.part.Part.{Part}
use Rattle.stuffed_bits.specs.declared.part.Part.TheVariants.{Nothing}
use Rattle.stuffed_bits.specs.BitsRead.{HasDrawn, HasRead}
use Rattle.stuffed_bits.specs.RunsRead.{run_bits}
use Rattle.stuffed_bits.proofs.ReadLemmas.{front_behind, same_end}
use Rattle.stuffed_bits.proofs.RunAnswers.{whole_run, run_joins, run_ends, run_stops}
use Rattle.stuffed_bits.proofs.PartsRead.{drawn_before, read_free, read_part, run_before, run_kept}
use Rattle.stuffed_bits.proofs.bit_in.BitIn.run.Goals as goal

pub returns-in-Err-clause-exact : goal.returns-in-Err-clause-exact
returns-in-Err-clause-exact c = λ bits bytes r.
    let i = c.loop-count.invariant in
    let taken = bytes ++ slice_range c.args.piece.now c.args.at.now c.loop-count.at in
    run_stops c.args.of c.args.most c.loop-count.count bits bytes c.args.piece.now c.args.at.now c.loop-count.at c.loop-count.self c.in-Err.stopped c.loop-count-test.true i.onward (i.holds bits bytes r)
    (same_end _ c.ready.result c.in-Err.stopped c.in-Err.is (c.ready.ensures.ended (bits ++ replicate c.loop-count.count c.args.of) taken (i.holds bits bytes r)))

-- the bits up to the end of the run were read
ended : (c : goal.In-Ended) (bits : List Bool) (bytes : List ℕ) → HasRead bits bytes c.args.self.now
    → HasDrawn (bits ++ run_bits c.args.of c.args.most (c.loop-count.count + c.in-Ended.more)) (bytes ++ slice_range c.args.piece.now c.args.at.now c.ready.new.at) c.give_run.new.self
ended c bits bytes r =
    let i = c.loop-count.invariant in
    let before = bits ++ replicate c.loop-count.count c.args.of in
    let taken = bytes ++ slice_range c.args.piece.now c.args.at.now c.loop-count.at in
    let all = taken ++ slice_range c.args.piece.now c.loop-count.at c.ready.new.at in
    let few : c.loop-count.count + c.in-Ended.more < c.args.most = omega (arith, c.in-Ended.ensures.part, c.loop-count-test.true) in
    run_ends c.args.of c.args.most c.loop-count.count c.in-Ended.more bits bytes c.args.piece.now c.args.at.now c.loop-count.at c.ready.new.at c.give_run.new.self few i.onward c.ready.ensures.onward
    (c.in-Ended.ensures.draws before all (c.in_default.ensures.begun before taken (i.holds bits bytes r)))

-- and nothing of another value
ended_free : (c : goal.In-Ended) → c.give_run.new.self.part ≡ Nothing
ended_free c = c.in-Ended.ensures.kept ∙ (c.ready.ensures.kept ∙ c.loop-count.invariant.free)

pub returns-in-Ended-clause-gives : goal.returns-in-Ended-clause-gives
returns-in-Ended-clause-gives c = λ n e bits bytes r.
    let v : c.loop-count.count + c.in-Ended.more ≡ n = cc in
    rw (← v) (read_free (bits ++ run_bits c.args.of c.args.most (c.loop-count.count + c.in-Ended.more)) (bytes ++ slice_range c.args.piece.now c.args.at.now c.ready.new.at) c.give_run.new.self (ended_free c) (ended c bits bytes r))

pub returns-in-Ended-clause-exact : goal.returns-in-Ended-clause-exact
returns-in-Ended-clause-exact c = λ bits bytes r.
    let i = c.loop-count.invariant in
    let n = c.loop-count.count + c.in-Ended.more in (
      omega (arith, c.in-Ended.ensures.part, c.loop-count-test.true),
      front_behind bits (run_bits c.args.of c.args.most n) bytes c.args.piece.now c.args.at.now c.ready.new.at c.give_run.new.self (omega (arith, i.onward, c.ready.ensures.onward)) (ended c bits bytes r),
    )

pub returns-in-Ended-clause-free : goal.returns-in-Ended-clause-free
returns-in-Ended-clause-free c = λ few. ended_free c

pub returns-in-Ended-clause-fresh : goal.returns-in-Ended-clause-fresh
returns-in-Ended-clause-fresh c = λ none. ended_free c

pub returns-in-Err-clause-waits : goal.returns-in-Err-clause-waits
returns-in-Err-clause-waits c = λ e bits bytes r.
    let i = c.loop-count.invariant in
    let u = c.in-Err.ensures.unchanged in
    rw u.1 (read_part bits (replicate c.loop-count.count c.args.of) (bytes ++ slice_range c.args.piece.now c.args.at.now c.loop-count.at) c.loop-count.self _ refl
    (ap (λ (h : BitInState). h.last) c.self.view_is ∙ ap (λ (h : BitInState). h.last) u.0) (ap (λ (h : BitInState). h.left) c.self.view_is ∙ ap (λ (h : BitInState). h.left) u.0) (i.holds bits bytes r))

pub returns-then-before-most-clause-exact : goal.returns-then-before-most-clause-exact
returns-then-before-most-clause-exact c = λ bits bytes r.
    let b = c.take_run-before in
    (omega arith, run_before c.args.of c.args.most b.result (part_bits b.new.self.part) bits bytes c.args.piece.now c.args.at.now c.args.self.now b.new.self c.if-before-most.true b.ensures.bits b.ensures.last b.ensures.left r)

pub returns-then-before-most-clause-gives : goal.returns-then-before-most-clause-gives
returns-then-before-most-clause-gives c = λ n e bits bytes r.
    let b = c.take_run-before in
    let v : c.args.most ≡ n = cc in
    rw (← v) (run_kept c.args.of c.args.most b.result bits bytes c.args.piece.now c.args.at.now c.args.self.now b.new.self c.if-before-most.true b.ensures.bits b.ensures.last b.ensures.left r)

pub loop-count-init : goal.loop-count-init
loop-count-init c =
    let b = c.take_run-before in
    let free : b.new.self.part ≡ Nothing = b.ensures.free (omega (arith, b.ensures.few, c.if-before-most.false)) in
    record {
      few = omega arith;
      onward = omega arith;
      within = c.requires.inside;
      free = free;
      holds = λ bits bytes r. drawn_before bits (replicate b.result c.args.of) bytes c.args.piece.now c.args.at.now c.args.self.now b.new.self
          (b.ensures.bits ∙ (ap (λ (p : Part). replicate b.result c.args.of ++ part_bits p) free ∙ append-nil (replicate b.result c.args.of))) b.ensures.last b.ensures.left r;
    }

pub loop-count-preserved : goal.loop-count-preserved
loop-count-preserved c =
    let i = c.loop-count.invariant in
    let p = c.in-Whole.ensures.part in
    record {
      few = omega (arith, i.few, p.1);
      onward = omega (arith, i.onward, c.ready.ensures.onward);
      within = c.ready.ensures.within;
      free = c.in-Whole.ensures.kept ∙ (c.ready.ensures.kept ∙ i.free);
      holds = λ bits bytes r.
          let before = bits ++ replicate c.loop-count.count c.args.of in
          let taken = bytes ++ slice_range c.args.piece.now c.args.at.now c.loop-count.at in
          let all = taken ++ slice_range c.args.piece.now c.loop-count.at c.ready.new.at in
          run_joins c.args.of c.loop-count.count c.in-Whole.more bits bytes c.args.piece.now c.args.at.now c.loop-count.at c.ready.new.at c.give_run.new.self i.onward c.ready.ensures.onward
          (c.in-Whole.ensures.draws before all (c.in_default.ensures.begun before taken (i.holds bits bytes r)));
    }

-- all bits of the run were read
whole : (c : goal.After-loop-count) (bits : List Bool) (bytes : List ℕ) → HasRead bits bytes c.args.self.now
    → HasDrawn (bits ++ run_bits c.args.of c.args.most c.loop-count.count) (bytes ++ slice_range c.args.piece.now c.args.at.now c.loop-count.at) c.loop-count.self
whole c bits bytes r =
    let i = c.loop-count.invariant in
    let all : c.loop-count.count ≡ c.args.most = omega (arith, i.few) in
    let P : List Bool → Type 0 = λ l. HasDrawn (bits ++ l) (bytes ++ slice_range c.args.piece.now c.args.at.now c.loop-count.at) c.loop-count.self in
    subst P (whole_run c.args.of c.args.most c.loop-count.count all) (i.holds bits bytes r)

pub returns-clause-gives : goal.returns-clause-gives
returns-clause-gives c = λ n e bits bytes r.
    let v : c.loop-count.count ≡ n = cc in
    rw (← v) (read_free (bits ++ run_bits c.args.of c.args.most c.loop-count.count) (bytes ++ slice_range c.args.piece.now c.args.at.now c.loop-count.at) c.loop-count.self c.loop-count.invariant.free (whole c bits bytes r))

pub returns-clause-exact : goal.returns-clause-exact
returns-clause-exact c = λ bits bytes r.
    let i = c.loop-count.invariant in
    (i.few, front_behind bits (run_bits c.args.of c.args.most c.loop-count.count) bytes c.args.piece.now c.args.at.now c.loop-count.at c.loop-count.self i.onward (whole c bits bytes r))
