use Rattle.std.proofs.Common.{◌≡◌, ◌≤◌, length}
use Rattle.stuffed_bits.specs.BitInState.{IsFree}
use Rattle.tag_tree.proofs.tests.an_inclusion_tree_is_written_and_read_back.Given as goal

abbrev pub invariant-loop-leaf : goal.invariant-loop-leaf
invariant-loop-leaf g l = record { cols : l.tree.cols ≡ 5; rows : l.tree.rows ≡ 3; room : l.tree.leaves ≡ 15; inside : l.bits.len ≤ length l.buf }

abbrev pub invariant-loop-leaf-2 : goal.invariant-loop-leaf-2
invariant-loop-leaf-2 g l = record { cols : l.tree.cols ≡ 5; rows : l.tree.rows ≡ 3; free : IsFree l.source.bits; inside : l.source.at ≤ length l.source.piece.now }
