use Rattle.std.proofs.Common.{◌-◌}
use Rattle.codestream_make.proofs.DrawSteps.{BytesLeft}
use Rattle.codestream_make.proofs.drawing.Drawing.put_bytes.Given as goal

abbrev pub invariant-loop : goal.invariant-loop
invariant-loop l = BytesLeft l.count (l.count - l.counter) l.fn.self l.self
