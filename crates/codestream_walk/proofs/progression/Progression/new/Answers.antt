use Rattle.std.proofs.Common.{◌∙◌}
use Rattle.codestream_walk.proofs.Stages.{first_order}
use Rattle.codestream_walk.proofs.progression.Progression.new.Goals as goal

pub returns-clause-head : goal.returns-clause-head
returns-clause-head c = c.new-walk.ensures.head ∙ c.new-geometry.ensures

pub returns-clause-order : goal.returns-clause-order
returns-clause-order c = first_order c.args.head c.new-walk.result.head _ (c.new-walk.ensures.head ∙ c.new-geometry.ensures) c.is_within_limits.ensures c.new-walk.ensures.first
