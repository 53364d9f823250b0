-- Code-blocks that are taken in header order.
use Rattle.std.specs.Prelude.{◌≡◌, true, false, List, [], ◌∷◌, map, drop, Option, Some, None, if◌then◌else◌}
use Rattle.codestream_model.specs.Values as values
use Rattle.codestream_model.specs.TagTrees.{Seat}
use Rattle.codestream_model.specs.HeaderPieces.{stands_at}
use Rattle.packet_header.specs.Answers.{block_of}
use Rattle.packet_header.specs.declared.block.Block.{Block}
use Rattle.packet_header.specs.declared.queue.Queue.{Queue}

-- The code-blocks that weren't taken yet.
abbrev pub remaining : Queue → List values.Block
remaining q = map block_of (drop q.at q.blocks.now)

-- The next code-block, if there is one, is elsewhere.
abbrev pub IsElsewhere : Seat → List values.Block → Type 0
IsElsewhere s [] = Unit {0}
IsElsewhere s (b ∷ more) = stands_at s b ≡ false

-- At a position the next code-block was taken, which is there, or it is elsewhere and remains.
abbrev pub TakesAt : Seat → List values.Block → List values.Block → Option Block → Type 0
TakesAt s old now (Some b) = (old ≡ block_of b ∷ now) × (stands_at s (block_of b) ≡ true)
TakesAt s old now None = (now ≡ old) × IsElsewhere s old

-- The code-blocks that remain after a position.
abbrev pub left_at : Seat → List values.Block → List values.Block
left_at s [] = []
left_at s (b ∷ more) = if stands_at s b then more else b ∷ more

-- The code-blocks that remain after positions, at each of which the next one is taken if it is there.
abbrev pub passed : List Seat → List values.Block → List values.Block
passed [] blocks = blocks
passed (s ∷ more) blocks = passed more (left_at s blocks)
