-- The columns of a level are rounded up.
use Rattle.tag_tree.proofs.PlaceLemmas.{width_by_last}
use Rattle.tag_tree.proofs.layout.cols_at.Goals as goal

pub returns : goal.returns
returns c = width_by_last c.args.cols c.args.level c.requires.some
