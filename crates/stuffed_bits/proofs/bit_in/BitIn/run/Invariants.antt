-- As many bits of this kind were read as were counted.
use Rattle.std.proofs.Common.{◌≡◌, ◌≤◌, ◌-◌, ◌++◌, ℕ, Bool, List, length, replicate}
use Rattle.std.specs.List.{slice_range}
use Rattle.stuffed_bits.specs.BitsRead.{HasDrawn, HasRead}
use Rattle.stuffed_bits.specs.declared.part.Part.TheVariants.{Nothing}
use Rattle.stuffed_bits.proofs.bit_in.BitIn.run.Given as goal

abbrev pub invariant-loop-count : goal.invariant-loop-count
invariant-loop-count l = record {
  few : l.count ≤ l.most;
  onward : l.fn.at ≤ l.at;
  within : l.at ≤ length l.piece;
  free : l.self.part ≡ Nothing;
  holds : (bits : List Bool) (bytes : List ℕ) → HasRead bits bytes l.fn.self → HasDrawn (bits ++ replicate l.count l.of) (bytes ++ slice_range l.piece l.fn.at l.at) l.self;
}

abbrev pub decreases-loop-count : goal.decreases-loop-count
decreases-loop-count l = l.most - l.count
