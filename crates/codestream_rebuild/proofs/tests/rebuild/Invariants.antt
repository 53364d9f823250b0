-- What is open has this main header.
use Rattle.std.proofs.Common.{IfSome}
use Rattle.codestream_model.specs.MainHeader.{SpellsHead}
use Rattle.codestream_rebuild.proofs.tests.rebuild.Given as goal

abbrev pub invariant-loop-call : goal.invariant-loop-call
invariant-loop-call g l = IfSome l.rebuild (λ o. SpellsHead o.head l.header)
