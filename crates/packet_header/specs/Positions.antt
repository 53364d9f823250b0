-- What a call makes of the reading of the code-blocks at some positions.
use Rattle.std.specs.Prelude.{◌≡◌, ◌⊎◌, ◌++◌, ℕ, Bool, List, ◌∷◌, map, length, Option, Some, None, Result, Ok, Err}
use Rattle.std.specs.List.{range_with_len}
use Rattle.codestream_model.specs.Values as values
use Rattle.codestream_model.specs.StuffedBits.{packed_bits}
use Rattle.codestream_model.specs.TagTrees.{Seat}
use Rattle.codestream_model.specs.PacketHeaderReading.{Read, Got, AtEnd, Node, and_then, read_planes, read_block, read_seats}
use Rattle.tag_tree.specs.LeafReading.{Knows}
use Rattle.stuffed_bits.specs.declared.part.Part.{Part}
use Rattle.stuffed_bits.specs.declared.part.Part.TheVariants.{Nothing}
use Rattle.packet_header.specs.Answers.{block_of}
use Rattle.packet_header.specs.Moves.{HasGiven, all_of, bits_after, IsStop}
use Rattle.packet_header.specs.Steps.{block_rest, Fits}
use Rattle.tag_tree.specs.Kinds.{levels_of}
use Rattle.packet_header.specs.declared.block.Block.{Block}
use Rattle.packet_header.specs.declared.block.Position.{Position}
use Rattle.stuffed_bits.specs.declared.source.Source.{Source}
use Rattle.packet_header.specs.declared.grids.TagTrees.{TagTrees}
use Rattle.packet_header.specs.declared.step.Step.{Step}
use Rattle.packet_header.specs.declared.step.Step.TheVariants.{Inclusion, Planes, Passes, MorePasses, LastPasses, Lblock, Cleanup, Refine}
use Rattle.packet_header.specs.declared.refusal.HeaderStop.{HeaderStop}
use Rattle.packet_header.specs.declared.refusal.HeaderStop.TheVariants.{Need}

-- Both trees know these nodes, and no others.
pub record KnowsBoth (t : TagTrees) (nodes others : List Node) : Type 0 where
  pub inclusion : Knows t.inclusion nodes
  pub planes : Knows t.planes others

-- Both trees are those of a grid of this many columns and rows.
pub record HasGrid (t : TagTrees) (cols rows : ℕ) : Type 0 where
  pub inclusion_cols : t.inclusion.cols ≡ cols
  pub inclusion_rows : t.inclusion.rows ≡ rows
  pub planes_cols : t.planes.cols ≡ cols
  pub planes_rows : t.planes.rows ≡ rows

-- The position of a code-block in a band, at a column and a row.
abbrev pub position_at : ℕ → ℕ → ℕ → Seat
position_at band col row = record { band = band; col = col; row = row }

-- A position of the code as one of the definitions.
abbrev pub seat_at : Position → Seat
seat_at p = record { band = p.band; col = p.col; row = p.row }

-- The positions of a row of a grid.
abbrev pub row_seats : ℕ → ℕ → ℕ → List Seat
row_seats band cols row = map (λ col. record { band = band; col = col; row = row }) (range_with_len 0 cols)

-- A code-block that was read, and then those at further positions.
abbrev pub block_and_more : List ℕ → List Seat → List Node → List Node → values.Block → List Bool → Read (List values.Block)
block_and_more levels more nodes others b l = and_then (read_seats levels more nodes others l) (λ blocks m. Got (b ∷ blocks) m)

-- What is to be read from a step on, of the code-block at a position and of those at further positions.
abbrev pub rest_at : List ℕ → Seat → List Seat → List Node → List Node → Step → List Bool → Read (List values.Block)
rest_at levels s more nodes others Inclusion l = read_seats levels (s ∷ more) nodes others l
rest_at levels s more nodes others Planes l = and_then (read_planes levels s 0 others l) (λ value m. and_then (read_block s value.label m) (block_and_more levels more nodes value.nodes))
rest_at levels s more nodes others (Passes planes) l = and_then (block_rest s (Passes planes) l) (block_and_more levels more nodes others)
rest_at levels s more nodes others (MorePasses planes) l = and_then (block_rest s (MorePasses planes) l) (block_and_more levels more nodes others)
rest_at levels s more nodes others (LastPasses planes) l = and_then (block_rest s (LastPasses planes) l) (block_and_more levels more nodes others)
rest_at levels s more nodes others (Lblock planes passes) l = and_then (block_rest s (Lblock planes passes) l) (block_and_more levels more nodes others)
rest_at levels s more nodes others (Cleanup planes passes lblock) l = and_then (block_rest s (Cleanup planes passes lblock) l) (block_and_more levels more nodes others)
rest_at levels s more nodes others (Refine planes passes lblock cleanup) l = and_then (block_rest s (Refine planes passes lblock cleanup) l) (block_and_more levels more nodes others)

-- Where the zero bit-planes are next, no bits of them were read yet, or the leaf isn't known yet.
abbrev pub IsUnread : List ℕ → Seat → List Node → Step → Part → Type 0
IsUnread levels s others Inclusion p = Unit {0}
IsUnread levels s others Planes p = (p ≡ Nothing) ⊎ ((l : List Bool) × (read_planes levels s 0 others l ≡ AtEnd))
IsUnread levels s others (Passes planes) p = Unit {0}
IsUnread levels s others (MorePasses planes) p = Unit {0}
IsUnread levels s others (LastPasses planes) p = Unit {0}
IsUnread levels s others (Lblock planes passes) p = Unit {0}
IsUnread levels s others (Cleanup planes passes lblock) p = Unit {0}
IsUnread levels s others (Refine planes passes lblock cleanup) p = Unit {0}

-- A source has given some bits of some bytes, the trees know some nodes, and the leaf at this position is unread at this step.
pub record IsReady (t : TagTrees) (s : Seat) (step : Step) (source : Source) : Type 0 where
  pub before : List ℕ
  pub done : List Bool
  pub nodes : List Node
  pub others : List Node
  pub holds : HasGiven before done source
  pub knows : KnowsBoth t nodes others
  pub unread : IsUnread (levels_of t.planes) s others step source.bits.part

-- What is to be read from the step that is reached, or of the further positions where the code-block isn't included.
abbrev pub found_rest : List ℕ → Seat → List Seat → List Node → List Node → Option Step → List Bool → Read (List values.Block)
found_rest levels s more nodes others (Some step) l = rest_at levels s more nodes others step l
found_rest levels s more nodes others None l = read_seats levels more nodes others l

-- The trees know these nodes, and the reading went on to a step.
pub record WentAt (levels : List ℕ) (s : Seat) (nodes others : List Node) (t : TagTrees) (step : Step) (before : List ℕ) (done : List Bool) (new : Source) (found : Option Step) : Type 0 where
  pub known : List Node
  pub known_others : List Node
  pub knows : KnowsBoth t known known_others
  pub bits : List Bool
  pub holds : HasGiven before (done ++ bits) new
  pub goes_on : (more : List Seat) (further : List Bool) → rest_at levels s more nodes others step (bits ++ further) ≡ found_rest levels s more known known_others found further

-- The reading waits at a step for a further piece.
pub record RestsAt (levels : List ℕ) (s : Seat) (nodes others : List Node) (t : TagTrees) (step at : Step) (before : List ℕ) (done : List Bool) (new : Source) : Type 0 where
  pub known : List Node
  pub known_others : List Node
  pub knows : KnowsBoth t known known_others
  pub unread : IsUnread levels s known_others at new.bits.part
  pub whole : new.at ≡ length new.piece.now
  pub bits : List Bool
  pub holds : HasGiven before (done ++ bits) new
  pub goes_on : (more : List Seat) (further : List Bool) → rest_at levels s more nodes others step (bits ++ further) ≡ rest_at levels s more known known_others at further

-- The reading went on to a step, or it stops.
abbrev pub Finds : List ℕ → Seat → List Node → List Node → TagTrees → Step → List ℕ → List Bool → Source → Source → Result (Option Step) HeaderStop → Type 0
Finds levels s nodes others t step before done old new (Ok found) = WentAt levels s nodes others t step before done new found
Finds levels s nodes others t step before done old new (Err stopped) =
    ((more : List Seat) → IsStop (rest_at levels s more nodes others step (bits_after done (all_of before old))) (packed_bits (all_of before old)).broken_at stopped)
    × (stopped ≡ Need → RestsAt levels s nodes others t step step before done new)

-- What is read of code-blocks after others that were read.
abbrev pub ahead : List values.Block → Read (List values.Block) → Read (List values.Block)
ahead found reading = and_then reading (λ more m. Got (found ++ more) m)

-- The code-block at a position was read, or isn't included, and the trees know these nodes: what is to be read then is what is to be read
-- of the further positions.
pub record ReadAt (levels : List ℕ) (s : Seat) (nodes others : List Node) (t : TagTrees) (step : Step) (before : List ℕ) (done : List Bool) (new : Source) (held now : List Block) : Type 0 where
  pub known : List Node
  pub known_others : List Node
  pub knows : KnowsBoth t known known_others
  pub added : List Block
  pub grown : now ≡ held ++ added
  pub bits : List Bool
  pub holds : HasGiven before (done ++ bits) new
  pub goes_on : (more : List Seat) (further : List Bool) → rest_at levels s more nodes others step (bits ++ further) ≡ ahead (map block_of added) (read_seats levels more known known_others further)

-- The code-block at a position was read; or the reading stops in it, and waits at a step where a further piece is needed.
abbrev pub ReadsAt : List ℕ → Seat → List Node → List Node → TagTrees → Step → Step → List ℕ → List Bool → Source → Source → List Block → List Block → Result (Unit {0}) HeaderStop → Type 0
ReadsAt levels s nodes others t step at before done old new held now (Ok read) = ReadAt levels s nodes others t step before done new held now
ReadsAt levels s nodes others t step at before done old new held now (Err stopped) =
    ((more : List Seat) → IsStop (rest_at levels s more nodes others step (bits_after done (all_of before old))) (packed_bits (all_of before old)).broken_at stopped)
    × (stopped ≡ Need → RestsAt levels s nodes others t step at before done new × (now ≡ held))

-- After a code-block no bits are kept, and the next inclusion is read; where a further piece is needed, the bits kept are of the step.
abbrev pub FitsAt : Step → Part → Result (Unit {0}) HeaderStop → Type 0
FitsAt at p (Ok read) = (p ≡ Nothing) × (at ≡ Inclusion)
FitsAt at p (Err stopped) = stopped ≡ Need → Fits at p

-- A call reads the code-block at a position from a step on, whatever nodes are known and whatever came and was given before.
abbrev pub ReadsBlock : TagTrees → TagTrees → Seat → Step → Step → Source → Source → List Block → List Block → Result (Unit {0}) HeaderStop → Type 0
ReadsBlock t u s step at old new held now out =
    (nodes others : List Node) → KnowsBoth t nodes others → (before : List ℕ) (done : List Bool) → HasGiven before done old
    → ReadsAt (levels_of t.inclusion) s nodes others u step at before done old new held now out

-- A call reads the values of a code-block from a step on and keeps it, whatever the trees are.
abbrev pub KeepsBlock : Seat → Step → Step → Source → Source → List Block → List Block → Result (Unit {0}) HeaderStop → Type 0
KeepsBlock s step at old new held now out =
    (levels : List ℕ) (nodes others : List Node) (t : TagTrees) → KnowsBoth t nodes others → (before : List ℕ) (done : List Bool) → HasGiven before done old
    → ReadsAt levels s nodes others t step at before done old new held now out
