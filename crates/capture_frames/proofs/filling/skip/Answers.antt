use Rattle.std.proofs.Common.{◌++◌, arith}
use Rattle.std.proofs.lemmas.List.{length-take-le}
use Rattle.capture_frames.proofs.Buffers.{skipped_more, skipped_short, skipped_failed}
use Rattle.capture_frames.proofs.filling.skip.Goals as goal

pub loop-done-preserved : goal.loop-done-preserved
loop-done-preserved g c =
    let now = c.loop-done.invariant in
    let more = c.in-All.ensures in
    (now.0 ++ more.0, skipped_more _ _ _ _ _ c.min-part.result _ _ _ now.1 (omega arith) (omega (arith, length-take-le c.min-part.result c.loop-done.buf (omega arith))) more.1)

pub returns-in-Short : goal.returns-in-Short
returns-in-Short g c =
    let now = c.loop-done.invariant in
    let more = c.in-Short.ensures in
    (now.0 ++ more.0, skipped_short _ _ _ _ _ c.min-part.result _ _ _ _ now.1 (omega arith) (omega (arith, length-take-le c.min-part.result c.loop-done.buf (omega arith))) more.1)

pub returns-in-Failed : goal.returns-in-Failed
returns-in-Failed g c =
    let now = c.loop-done.invariant in
    let more = c.in-Failed.ensures in
    (now.0 ++ more.0, skipped_failed _ _ _ _ _ c.min-part.result _ _ _ now.1 (omega arith) (omega (arith, length-take-le c.min-part.result c.loop-done.buf (omega arith))) more.1)
