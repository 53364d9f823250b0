-- No bit is written of a node that was met.
use Rattle.std.proofs.Common.{◌≡◌, true, false, [], slice_index_or}
use Rattle.std.proofs.lemmas.Grind.{common_steps}
use Rattle.std.proofs.Common.{arith}
use Rattle.tag_tree.specs.LeafWriting.{step_of, node_bits}
use Rattle.tag_tree.proofs.WriteLemmas.{writes_none}
use Rattle.tag_tree.proofs.tree.Tree.put_node.Goals as goal

pub returns-then-index-clause-bits : goal.returns-then-index-clause-bits
returns-then-index-clause-bits c =
    let met : slice_index_or c.args.self.now.met c.args.place false ≡ true = grind (arith, common_steps) in
    let none : node_bits (step_of c.args.kind) c.args.self.now c.args.place c.args.above ≡ [] = rw met in
    writes_none _ (node_bits (step_of c.args.kind) c.args.self.now c.args.place c.args.above) c.args.bits.now c.args.buf.now c.index-label.result.now none
