-- The value so far has the bits that were read so far.
use Rattle.std.proofs.Common.{◌≡◌, ◌<◌, ◌≤◌, ◌-◌, ◌++◌, ◌^◌, ℕ, Bool, List, length}
use Rattle.std.specs.List.{slice_range}
use Rattle.codestream_model.specs.StuffedBits.{number_bits}
use Rattle.stuffed_bits.specs.BitsRead.{HasDrawn, HasRead}
use Rattle.stuffed_bits.specs.declared.part.Part.TheVariants.{Nothing}
use Rattle.stuffed_bits.proofs.bit_in.BitIn.number.Given as goal

abbrev pub invariant-loop-wanted : goal.invariant-loop-wanted
invariant-loop-wanted l = record {
  few : l.wanted ≤ l.width;
  small : l.value < 2 ^ (l.width - l.wanted);
  onward : l.fn.at ≤ l.at;
  within : l.at ≤ length l.piece;
  free : l.self.part ≡ Nothing;
  holds : (bits : List Bool) (bytes : List ℕ) → HasRead bits bytes l.fn.self → HasDrawn (bits ++ number_bits (l.width - l.wanted) l.value) (bytes ++ slice_range l.piece l.fn.at l.at) l.self;
}

abbrev pub decreases-loop-wanted : goal.decreases-loop-wanted
decreases-loop-wanted l = l.wanted
