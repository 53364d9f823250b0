use Rattle.tag_tree.proofs.tree.Tree.+lower.Given as goal

abbrev pub decreases-lower : goal.decreases-lower
decreases-lower l = l.level
