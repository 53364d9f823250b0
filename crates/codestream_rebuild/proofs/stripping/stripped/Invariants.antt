use Rattle.std.proofs.Common.{length}
use Rattle.codestream_rebuild.proofs.Strips.{IsLeft}
use Rattle.codestream_rebuild.proofs.stripping.stripped.Given as goal

-- the output has what is kept of the bytes before those that are left
abbrev pub invariant-loop-rest : goal.invariant-loop-rest
invariant-loop-rest l = IsLeft l.bytes l.rest l.out l.end

abbrev pub decreases-loop-rest : goal.decreases-loop-rest
decreases-loop-rest l = length l.rest
