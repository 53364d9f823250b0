use Rattle.std.proofs.Common.{◌≡◌, ◌+◌, ◌*◌, map, length}
use Rattle.std.specs.Prelude.{slice_index}
use Rattle.std.specs.List.{range_with_len}
use Rattle.j2k_markers.specs.Fields.{pair}
use Rattle.j2k_markers.proofs.components.siz_steps.Given as goal

abbrev pub invariant-loop-c : goal.invariant-loop-c
invariant-loop-c l = record {
  count : length l.steps.items ≡ l.c;
  steps : map pair l.steps.items ≡ map (λ i. record { x = slice_index l.content (37 + 3 * i); y = slice_index l.content (38 + 3 * i) }) (range_with_len 0 l.c);
}
