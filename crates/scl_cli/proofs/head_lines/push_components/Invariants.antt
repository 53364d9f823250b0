use Rattle.std.proofs.Common.{◌≡◌, ◌≤◌, ◌+◌, ◌*◌, ◌++◌, length}
use Rattle.std.specs.List.{flat_map, range_with_len}
use Rattle.scl_cli.specs.HeadLines.{component_line}
use Rattle.scl_cli.proofs.head_lines.push_components.Given as goal

-- the lines of the components that are behind stand there
abbrev pub invariant-loop-c : goal.invariant-loop-c
invariant-loop-c l = record {
  text : l.lines.bytes ≡ l.fn.lines.bytes ++ flat_map (component_line l.head) (range_with_len 0 l.c);
  size : length l.lines.bytes ≤ length l.fn.lines.bytes + 68 * l.c;
}
