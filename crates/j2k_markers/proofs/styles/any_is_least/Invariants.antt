use Rattle.std.proofs.Common.{◌≡◌, map, ◌||◌, drop}
use Rattle.std.specs.Prelude.{◌==◌}
use Rattle.std.specs.List.{list_any}
use Rattle.j2k_markers.specs.Fields.{pair}
use Rattle.j2k_markers.proofs.styles.any_is_least.Given as goal

abbrev pub invariant-loop-exponents : goal.invariant-loop-exponents
invariant-loop-exponents l = list_any (λ e. e.x == 0 || e.y == 0) (map pair l.precincts) ≡ list_any (λ e. e.x == 0 || e.y == 0) (map pair (drop l.exponents-index l.precincts))
