-- How far a stage is from a packet's end.
use Rattle.std.proofs.Common.{ℕ}
use Rattle.codestream_walk.specs.Walking.{Stage, AtStart, AtNext, InBody, AtEnd}

abbrev pub rank : Stage → ℕ
rank AtStart = 16777218
rank (AtNext h later size) = 16777217
rank (InBody h p blocks later size left) = left
rank AtEnd = 0
