use Rattle.tag_tree.proofs.tree.Tree.+read_path.Given as goal

abbrev pub decreases-read_path : goal.decreases-read_path
decreases-read_path l = l.level
