use Rattle.std.proofs.Common.{◌≡◌, false, true, sym, arith, ◌∙◌}
use Rattle.reassembly_window.specs.Slots.{is_filled}
use Rattle.reassembly_window.proofs.Scans.{lead_more, lead_here}
use Rattle.reassembly_window.proofs.ring.Ring.lead.Goals as goal

pub loop-first-preserved : goal.loop-first-preserved
loop-first-preserved c =
    let e : is_filled c.loop-first.first c.args.self.now.slots ≡ false = sym c.is_filled.ensures ∙ c.if-not-is_filled.true in
    let less = c.loop-first-test.true in
    let m = lead_more c.args.self.now.slots c.loop-first.first e (omega (arith, less, c.len-len.ensures.length)) in
    record { within = omega (arith, less, c.len-len.ensures.length); before = omega (arith, m, c.loop-first.invariant.before) }

pub returns-else-not-is_filled : goal.returns-else-not-is_filled
returns-else-not-is_filled c =
    let e : is_filled c.loop-first.first c.args.self.now.slots ≡ true = sym c.is_filled.ensures ∙ c.if-not-is_filled.false in
    let m = lead_here c.args.self.now.slots c.loop-first.first e in
    omega (arith, m, c.loop-first.invariant.before)
