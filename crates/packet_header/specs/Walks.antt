-- What a call makes of the reading of the positions of a grid.
use Rattle.std.specs.Prelude.{◌≡◌, ◌+◌, ◌-◌, ◌++◌, ℕ, Bool, List, [], ◌∷◌, map, length, nat_lt, Result, Ok, Err, if◌then◌else◌}
use Rattle.std.specs.List.{flat_map, range_with_len}
use Rattle.codestream_model.specs.Values as values
use Rattle.codestream_model.specs.StuffedBits.{packed_bits}
use Rattle.codestream_model.specs.TagTrees.{Seat}
use Rattle.codestream_model.specs.PacketHeaderReading.{Read, Got, Node}
use Rattle.precinct_geometry.specs.Spans.{grid_of}
use Rattle.precinct_geometry.specs.declared.place.Grid.{Grid}
use Rattle.packet_header.specs.Answers.{block_of}
use Rattle.tag_tree.specs.Kinds.{levels_of}
use Rattle.packet_header.specs.Moves.{HasGiven, all_of, bits_after, IsStop}
use Rattle.stuffed_bits.specs.declared.part.Part.{Part}
use Rattle.packet_header.specs.Positions.{KnowsBoth, IsUnread, rest_at, ahead}
use Rattle.packet_header.specs.declared.block.Block.{Block}
use Rattle.stuffed_bits.specs.declared.source.Source.{Source}
use Rattle.packet_header.specs.declared.grids.TagTrees.{TagTrees}
use Rattle.packet_header.specs.declared.step.Step.{Step}
use Rattle.packet_header.specs.declared.refusal.HeaderStop.{HeaderStop}
use Rattle.packet_header.specs.declared.refusal.HeaderStop.TheVariants.{Need}

-- What is to be read at these positions, from a step of the first on.
abbrev pub walk_rest : List ℕ → List Seat → List Node → List Node → Step → List Bool → Read (List values.Block)
walk_rest levels [] nodes others step l = Got [] l
walk_rest levels (s ∷ more) nodes others step l = rest_at levels s more nodes others step l

-- The positions of a row from a column on.
abbrev pub row_from : values.Grid → ℕ → ℕ → List Seat
row_from g row col = map (λ c. record { band = g.band; col = c; row = row }) (range_with_len col (g.cols - col))

-- The positions of a grid from this one on, in raster order.
abbrev pub positions_from : values.Grid → ℕ → ℕ → List Seat
positions_from g row col =
    if nat_lt row g.rows
    then row_from g row col ++ flat_map (λ r. map (λ c. record { band = g.band; col = c; row = r }) (range_with_len 0 g.cols)) (range_with_len (row + 1) (g.rows - (row + 1)))
    else []

-- The same of a grid of the code.
abbrev pub positions_in : Grid → ℕ → ℕ → List Seat
positions_in g row col = positions_from (grid_of g) row col

-- The code-blocks at some of these positions were read, and the trees know some nodes: then the rest is to be read.
pub record WalkWent (levels : List ℕ) (left now_left : List Seat) (nodes others : List Node) (t : TagTrees) (step at : Step) (before : List ℕ) (done : List Bool) (new : Source) (held now : List Block) : Type 0 where
  pub known : List Node
  pub known_others : List Node
  pub knows : KnowsBoth t known known_others
  pub added : List Block
  pub grown : now ≡ held ++ added
  pub bits : List Bool
  pub holds : HasGiven before (done ++ bits) new
  pub goes_on : (further : List Bool) → walk_rest levels left nodes others step (bits ++ further) ≡ ahead (map block_of added) (walk_rest levels now_left known known_others at further)

-- The leaf that is read next, at the first of these positions, isn't known yet, or no bits of its label were read.
abbrev pub IsUnreadAt : List ℕ → List Seat → List Node → Step → Part → Type 0
IsUnreadAt levels [] others step p = Unit {0}
IsUnreadAt levels (s ∷ more) others step p = IsUnread levels s others step p

-- Some code-blocks were read; or the reading stops, and waits where a further piece is needed.
abbrev pub Walks : List ℕ → List Seat → List Seat → List Node → List Node → TagTrees → Step → Step → List ℕ → List Bool → Source → Source → List Block → List Block → Result (Unit {0}) HeaderStop → Type 0
Walks levels left now_left nodes others t step at before done old new held now (Ok x) = WalkWent levels left now_left nodes others t step at before done new held now
Walks levels left now_left nodes others t step at before done old new held now (Err stopped) =
    IsStop (walk_rest levels left nodes others step (bits_after done (all_of before old))) (packed_bits (all_of before old)).broken_at stopped
    × (stopped ≡ Need → (new.at ≡ length new.piece.now) × ((w : WalkWent levels left now_left nodes others t step at before done new held now) × IsUnreadAt levels now_left w.known_others at new.bits.part))

-- A call reads the code-blocks of a grid from one position and step to others, whatever nodes are known and whatever came and was
-- given before.
abbrev pub WalksOn : TagTrees → TagTrees → List Seat → List Seat → Step → Step → Source → Source → List Block → List Block → Result (Unit {0}) HeaderStop → Type 0
WalksOn t u left now_left step at old new held now out =
    (nodes others : List Node) → KnowsBoth t nodes others → (before : List ℕ) (done : List Bool) → HasGiven before done old
    → Walks (levels_of t.inclusion) left now_left nodes others u step at before done old new held now out
