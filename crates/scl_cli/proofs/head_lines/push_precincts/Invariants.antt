use Rattle.std.proofs.Common.{◌≡◌, ◌≤◌, ◌+◌, ◌*◌, ◌++◌, length}
use Rattle.std.specs.List.{flat_map, range_with_len}
use Rattle.scl_cli.specs.HeadLines.{precinct_line}
use Rattle.scl_cli.proofs.head_lines.push_precincts.Given as goal

-- the lines of the resolutions that are behind stand there
abbrev pub invariant-loop-r : goal.invariant-loop-r
invariant-loop-r l = record {
  text : l.lines.bytes ≡ l.fn.lines.bytes ++ flat_map (precinct_line l.head) (range_with_len 0 l.r);
  size : length l.lines.bytes ≤ length l.fn.lines.bytes + 68 * l.r;
}
