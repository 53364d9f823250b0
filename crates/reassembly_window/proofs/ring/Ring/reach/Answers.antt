use Rattle.std.proofs.Common.{◌≡◌, ◌-◌, false, true, sym, arith, ◌∙◌}
use Rattle.reassembly_window.specs.Slots.{is_filled}
use Rattle.reassembly_window.proofs.Scans.{reach_less, reach_here}
use Rattle.reassembly_window.proofs.ring.Ring.reach.Goals as goal

pub loop-end-preserved : goal.loop-end-preserved
loop-end-preserved c =
    let e : is_filled (c.loop-end.end - 1) c.args.self.now.slots ≡ false = sym c.is_filled.ensures ∙ c.if-not-is_filled.true in
    let some = c.loop-end-test.true in
    let within = c.loop-end.invariant.within in
    let m = reach_less c.args.self.now.slots c.loop-end.end (c.loop-end.end - 1) (omega (arith, some)) e (omega (arith, some, within)) in
    record { within = omega (arith, within); behind = c.loop-end.invariant.behind ∙ m }

pub returns-else-not-is_filled : goal.returns-else-not-is_filled
returns-else-not-is_filled c =
    let e : is_filled (c.loop-end.end - 1) c.args.self.now.slots ≡ true = sym c.is_filled.ensures ∙ c.if-not-is_filled.false in
    let some = c.loop-end-test.true in
    let m = reach_here c.args.self.now.slots c.loop-end.end (c.loop-end.end - 1) (omega (arith, some)) e in
    sym (c.loop-end.invariant.behind ∙ m)
