-- The parts of what was read.
use Rattle.std.proofs.Common.{◌≡◌, Bool, List}
use Rattle.codestream_model.specs.PacketHeaderReading.{Got}

-- the parts of what was got
pub got_parts : {X : Type 0} (x y : X) (xs ys : List Bool) → Got x xs ≡ Got y ys → (x ≡ y) × (xs ≡ ys)
got_parts x y xs ys e = (cc, cc)
