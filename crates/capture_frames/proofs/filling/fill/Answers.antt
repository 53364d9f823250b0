use Rattle.std.proofs.Common.{◌≡◌, ◌+◌, [], ◌∷◌, ◌++◌, length, take, arith}
use Rattle.scl_outside.specs.Events.{Took, Ended, ReadFailed}
use Rattle.capture_frames.proofs.Buffers.{filled_more, put_rest, short, failed}
use Rattle.capture_frames.proofs.filling.fill.Goals as goal

pub loop-at-preserved : goal.loop-at-preserved
loop-at-preserved g c =
    let now = c.loop-at.invariant in
    let few = c.in-Got.ensures.fits in (
      now.0 ++ Took (take c.in-Got.count c.read.new.buf) ∷ [],
      rw (put_rest c.loop-at.at c.loop-at.buf c.read.new.buf now.1.fits)
          (filled_more _ _ _ _ _ _ _ _ now.1 (omega arith) (omega arith) c.loop-at-test.true c.in-Got.ensures.step),
    )

pub returns-in-End : goal.returns-in-End
returns-in-End g c =
    let now = c.loop-at.invariant in
    let room : c.loop-at.at + length c.read.new.buf ≡ length c.loop-at.buf = omega arith in (
      now.0 ++ Ended ∷ [],
      rw (put_rest c.loop-at.at c.loop-at.buf c.read.new.buf now.1.fits)
          (short _ _ _ _ _ _ _ now.1 c.loop-at-test.true room c.in-End.ensures.step),
    )

pub returns-in-Failed : goal.returns-in-Failed
returns-in-Failed g c =
    let now = c.loop-at.invariant in
    let room : c.loop-at.at + length c.read.new.buf ≡ length c.loop-at.buf = omega arith in (
      now.0 ++ ReadFailed ∷ [],
      rw (put_rest c.loop-at.at c.loop-at.buf c.read.new.buf now.1.fits)
          (failed _ _ _ _ _ _ _ now.1 c.loop-at-test.true room c.in-Failed.ensures.step),
    )
