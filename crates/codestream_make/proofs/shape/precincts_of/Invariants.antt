use Rattle.std.proofs.Common.{◌≡◌, ◌∷◌, replicate}
use Rattle.codestream_make.proofs.shape.precincts_of.Given as goal

abbrev pub invariant-loop : goal.invariant-loop
invariant-loop l = l.precincts.items ≡ (7, 7) ∷ replicate l.counter (8, 8)
