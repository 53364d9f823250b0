use Rattle.tag_tree.proofs.tree.Tree.+put_path.Given as goal

abbrev pub decreases-put_path : goal.decreases-put_path
decreases-put_path l = l.node.level
