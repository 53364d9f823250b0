use Rattle.reassembly_window.proofs.Nexts.{held_is, held_few}
use Rattle.reassembly_window.proofs.window.Window.held.Goals as goal

pub returns-clause-held : goal.returns-clause-held
returns-clause-held c = held_is c.self.inside.base c.self.inside.due c.self.inside.held c.self.inside.ring c.self.inside.shown c.args.self.now c.self.view_is c.self.invariant

pub returns-clause-few : goal.returns-clause-few
returns-clause-few c = held_few c.self.inside.base c.self.inside.due c.self.inside.held c.self.inside.ring c.self.inside.shown c.args.self.now c.self.view_is c.self.invariant
