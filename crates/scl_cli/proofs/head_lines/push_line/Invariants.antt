use Rattle.std.proofs.Common.{◌≡◌, ◌≤◌, ◌+◌, ◌*◌, ◌++◌, ◌∷◌, length, take}
use Rattle.std.specs.Prelude.{decimal}
use Rattle.std.specs.List.{flat_map}
use Rattle.scl_cli.proofs.head_lines.push_line.Given as goal

-- the word and the numbers so far stand behind the lines
abbrev pub invariant-loop-n : goal.invariant-loop-n
invariant-loop-n l = record {
  text : l.lines.bytes ≡ l.fn.lines.bytes ++ (l.word ++ flat_map (λ n. 32 ∷ decimal n) (take l.n-index l.numbers));
  size : length l.lines.bytes ≤ length l.fn.lines.bytes + length l.word + 21 * l.n-index;
}
