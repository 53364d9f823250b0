use Rattle.std.proofs.Common.{◌-◌}
use Rattle.tag_tree.proofs.writing.+put_value.Given as goal

abbrev pub decreases-put_value : goal.decreases-put_value
decreases-put_value l = l.label - l.above
