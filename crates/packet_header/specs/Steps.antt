-- What is still to be read of a code-block whose values were read up to some step.
use Rattle.std.specs.Prelude.{◌≡◌, ◌≤◌, ℕ, Bool, true, false, List, ◌∷◌, Result, Ok, Err}
use Rattle.codestream_model.specs.Values as values
use Rattle.codestream_model.specs.TagTrees.{Seat}
use Rattle.codestream_model.specs.HeaderPieces.{refine_width}
use Rattle.codestream_model.specs.PacketHeaderReading.{Read, Got, AtEnd, and_then, read_passes, read_lblock, read_cleanup, read_refine}
use Rattle.stuffed_bits.specs.BitInState.{IsOfNumber, IsOfRun}
use Rattle.stuffed_bits.specs.declared.part.Part.{Part}
use Rattle.stuffed_bits.specs.declared.part.Part.TheVariants.{Nothing}
use Rattle.packet_header.specs.Answers.{block_of}
use Rattle.packet_header.specs.Moves.{Moves}
use Rattle.packet_header.specs.declared.block.Block.{Block}
use Rattle.stuffed_bits.specs.declared.source.Source.{Source}
use Rattle.packet_header.specs.declared.refusal.HeaderStop.{HeaderStop}
use Rattle.packet_header.specs.declared.refusal.HeaderStop.TheVariants.{Need}
use Rattle.packet_header.specs.declared.step.Step.{Step}
use Rattle.packet_header.specs.declared.step.Step.TheVariants.{Inclusion, Planes, Passes, MorePasses, LastPasses, Lblock, Cleanup, Refine}

-- The code-block with these values, all of which were read.
abbrev pub by_refine : Seat → ℕ → ℕ → ℕ → ℕ → List Bool → Read values.Block
by_refine s planes passes cleanup refine bits = Got (record { band = s.band; col = s.col; row = s.row; planes = planes; passes = passes; cleanup = cleanup; refine = refine }) bits

-- What is to be read from the length of the refinement segment on.
abbrev pub by_cleanup : Seat → ℕ → ℕ → ℕ → ℕ → List Bool → Read values.Block
by_cleanup s planes passes lblock cleanup bits = and_then (read_refine passes lblock bits) (by_refine s planes passes cleanup)

-- What is to be read from the length of the cleanup segment on.
abbrev pub by_lblock : Seat → ℕ → ℕ → ℕ → List Bool → Read values.Block
by_lblock s planes passes lblock bits = and_then (read_cleanup lblock bits) (by_cleanup s planes passes lblock)

-- What is to be read from Lblock on.
abbrev pub by_passes : Seat → ℕ → ℕ → List Bool → Read values.Block
by_passes s planes passes bits = and_then (read_lblock 3 bits) (by_lblock s planes passes)

-- What is to be read from a step on, of a code-block that is included and whose zero bit-planes are known.
abbrev pub block_rest : Seat → Step → List Bool → Read values.Block
block_rest s Inclusion l = AtEnd
block_rest s Planes l = AtEnd
block_rest s (Passes planes) l = and_then (read_passes l) (by_passes s planes)
block_rest s (MorePasses planes) l = and_then (read_passes (true ∷ l)) (by_passes s planes)
block_rest s (LastPasses planes) l = and_then (read_passes (true ∷ true ∷ l)) (by_passes s planes)
block_rest s (Lblock planes passes) l = by_passes s planes passes l
block_rest s (Cleanup planes passes lblock) l = by_lblock s planes passes lblock l
block_rest s (Refine planes passes lblock cleanup) l = by_cleanup s planes passes lblock cleanup l

-- The bits that a reader keeps are the first ones of the value of this step.
abbrev pub Fits : Step → Part → Type 0
Fits Inclusion p = p ≡ Nothing
Fits Planes p = IsOfRun false p
Fits (Passes planes) p = p ≡ Nothing
Fits (MorePasses planes) p = p ≡ Nothing
Fits (LastPasses planes) p = IsOfNumber 2 p
Fits (Lblock planes passes) p = IsOfRun true p
Fits (Cleanup planes passes lblock) p = (lblock ≤ 24) × IsOfNumber lblock p
Fits (Refine planes passes lblock cleanup) p = (lblock ≤ 24) × (passes ≤ 1 → p ≡ Nothing) × (2 ≤ passes → IsOfNumber (refine_width passes lblock) p)

-- At this step the code-block is known to be included, and its zero bit-planes are known.
abbrev pub IsOfBlock : Step → Type 0
IsOfBlock Inclusion = ⊥
IsOfBlock Planes = ⊥
IsOfBlock (Passes planes) = Unit {0}
IsOfBlock (MorePasses planes) = Unit {0}
IsOfBlock (LastPasses planes) = Unit {0}
IsOfBlock (Lblock planes passes) = Unit {0}
IsOfBlock (Cleanup planes passes lblock) = Unit {0}
IsOfBlock (Refine planes passes lblock cleanup) = Unit {0}

-- What is to be read after an answer: nothing but the code-block, or its values from a step on.
abbrev pub block_then : Seat → Step → Result Block HeaderStop → List Bool → Read values.Block
block_then s step (Ok b) l = Got (block_of b) l
block_then s step (Err stopped) l = block_rest s step l

-- After a code-block no bits are kept; where a further piece is needed, the bits kept are of the value of the step.
abbrev pub FitsBlock : Step → Part → Result Block HeaderStop → Type 0
FitsBlock step p (Ok b) = p ≡ Nothing
FitsBlock step p (Err stopped) = stopped ≡ Need → Fits step p × IsOfBlock step

-- The position of a code-block in the grids.
abbrev pub position_of : Block → Seat
position_of b = record { band = b.band; col = b.col; row = b.row }

-- A call reads the values of the code-block at a position from one step on, and where it stops another one is reached.
abbrev pub ReadsFrom : Seat → Step → Step → Source → Source → Result Block HeaderStop → Type 0
ReadsFrom s from at old new out = Moves (block_rest s from) (block_then s at out) old new out

-- A code-block whose values but the last are known.
abbrev pub refine_rest : Block → ℕ → List Bool → Read values.Block
refine_rest b lblock l = by_cleanup (position_of b) b.planes b.passes lblock b.cleanup l
