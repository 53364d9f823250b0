use Rattle.std.proofs.Common.{take, length-take-le, arith}
use Rattle.codestream_model.proofs.SegmentBytes.{bytes-take}
use Rattle.codestream_walk.proofs.input.probe.Goals as goal

pub returns-in-Got : goal.returns-in-Got
returns-in-Got g c =
    let n = c.in-Got.field-0 in
    let part = c.read_bytes.new.buf in
    let fits = c.in-Got.ensures.fits in
    (take n part, omega (arith, length-take-le n part (omega arith), fits), bytes-take n part c.read_bytes.ensures.are_bytes, c.in-Got.ensures.step)
