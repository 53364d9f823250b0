use Rattle.std.proofs.Common.{◌≡◌, ◌++◌, drop}
use Rattle.std.specs.List.{flat_map}
use Rattle.j2k_markers.specs.Layout.{four_bytes}
use Rattle.j2k_markers.proofs.plan.put_numbers.Given as goal

abbrev pub invariant-loop-number : goal.invariant-loop-number
invariant-loop-number l = l.initial.bytes.items ++ flat_map four_bytes l.numbers ≡ l.bytes.items ++ flat_map four_bytes (drop l.number-index l.numbers)
