use Rattle.std.proofs.Common.{◌≡◌, ◌≤◌, ◌*◌, ◌^◌}
use Rattle.codestream_model.specs.PacketOrder.{precincts_below}
use Rattle.j2k_markers.specs.Fields.{fields_head}
use Rattle.j2k_markers.proofs.identifiers.count_all.Given as goal

abbrev pub invariant-loop-r : goal.invariant-loop-r
invariant-loop-r l = record {
  sum : l.total ≡ precincts_below (fields_head l.fields 0 0 0) l.c l.r;
  few : l.total ≤ l.r * 2 ^ 64;
}
