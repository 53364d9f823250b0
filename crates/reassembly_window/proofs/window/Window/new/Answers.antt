use Rattle.reassembly_window.proofs.Nexts.{new_sound}
use Rattle.reassembly_window.proofs.window.Window.new.Goals as goal

pub invariant_of-result : goal.invariant_of-result
invariant_of-result c = new_sound c.args.size c.in_ok-ring.ring.slots c.requires.some c.requires.few c.in_ok-ring.ensures
