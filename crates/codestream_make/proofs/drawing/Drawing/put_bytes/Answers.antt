use Rattle.std.proofs.Common.{◌≡◌, ◌+◌, ◌-◌, ℕ, refl, subst, arith}
use Rattle.codestream_make.proofs.DrawSteps.{BytesLeft, one_byte, all_bytes}
use Rattle.codestream_make.proofs.drawing.Drawing.put_bytes.Goals as goal

pub loop-preserved : goal.loop-preserved
loop-preserved c =
    one_byte c.args.count (c.args.count - c.loop.counter) (c.args.count - (c.loop.counter + 1)) c.args.self.now c.loop.self _ c.below.result
    (omega (arith, c.loop-test.true)) c.loop.invariant refl c.below.ensures.number c.in_ok-push.ensures.items c.below.ensures.state

pub returns : goal.returns
returns c =
    let P : ℕ → Type 0 = λ n. BytesLeft c.args.count n c.args.self.now c.loop.self in
    let none : c.args.count - c.loop.counter ≡ 0 = omega (arith, c.loop-test.false) in
    all_bytes c.args.count c.args.self.now c.loop.self (subst P none c.loop.invariant)
