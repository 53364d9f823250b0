use Rattle.std.proofs.Common.{max, ap, ◌∙◌, arith}
use Rattle.reassembly_window.proofs.Entries.{reach-most}
use Rattle.reassembly_window.proofs.Nexts.{flush_window, flush_sound}
use Rattle.reassembly_window.proofs.window.Window.flush.Goals as goal

pub overflow_cast-reach : goal.overflow_cast-reach
overflow_cast-reach c = let m = reach-most c.self.inside.ring.slots in omega (arith, m, c.reach.ensures, c.self.invariant.few)

pub invariant_of-self : goal.invariant_of-self
invariant_of-self c = flush_sound c.self.inside.base c.self.inside.due c.self.inside.held c.max-self-inside.result c.self.inside.ring.slots c.self.invariant (c.max-self-inside.ensures ∙ ap (max c.self.inside.due) c.reach.ensures)

pub returns-then-is_some : goal.returns-then-is_some
returns-then-is_some c = flush_window c.self.inside.base c.self.inside.due c.self.inside.held c.max-self-inside.result c.self.inside.ring c.self.inside.shown c.args.self.now c.self.view_is c.self.invariant (c.max-self-inside.ensures ∙ ap (max c.self.inside.due) c.reach.ensures)
