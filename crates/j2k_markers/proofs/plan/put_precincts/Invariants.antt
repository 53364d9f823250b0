use Rattle.std.proofs.Common.{◌≡◌, ◌++◌, drop}
use Rattle.std.specs.List.{flat_map}
use Rattle.j2k_markers.specs.Layout.{precinct_byte}
use Rattle.j2k_markers.proofs.plan.put_precincts.Given as goal

abbrev pub invariant-loop-exponents : goal.invariant-loop-exponents
invariant-loop-exponents l = l.initial.bytes.items ++ flat_map precinct_byte l.precincts ≡ l.bytes.items ++ flat_map precinct_byte (drop l.exponents-index l.precincts)
