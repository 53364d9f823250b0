use Rattle.std.proofs.Common.{◌≡◌, true}
use Rattle.resync_decoder.proofs.tests.decodes.Given as goal

-- no rule applies before a call
abbrev pub invariant-loop-call : goal.invariant-loop-call
invariant-loop-call g l = l.decoder.waits ≡ true
