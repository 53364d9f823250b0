use Rattle.std.proofs.Common.{◌≡◌, ◌≤◌, ◌+◌, ◌-◌, length, drop}
use Rattle.reassembly_window.specs.Slots.{lead}
use Rattle.reassembly_window.proofs.ring.Ring.lead.Given as goal

abbrev pub invariant-loop-first : goal.invariant-loop-first
invariant-loop-first l = record {
  within : l.first ≤ length l.self.slots;
  before : lead l.self.slots ≡ l.first + lead (drop l.first l.self.slots);
}

abbrev pub decreases-loop-first : goal.decreases-loop-first
decreases-loop-first l = length l.self.slots - l.first
