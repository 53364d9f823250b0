use Rattle.std.proofs.Common.{◌≡◌, ◌≤◌, length, take}
use Rattle.reassembly_window.specs.Slots.{reach}
use Rattle.reassembly_window.proofs.ring.Ring.reach.Given as goal

abbrev pub invariant-loop-end : goal.invariant-loop-end
invariant-loop-end l = record {
  within : l.end ≤ length l.self.slots;
  behind : reach l.self.slots ≡ reach (take l.end l.self.slots);
}

abbrev pub decreases-loop-end : goal.decreases-loop-end
decreases-loop-end l = l.end
