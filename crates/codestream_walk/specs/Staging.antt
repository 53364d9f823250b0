-- A reader as the contracts see it, from what it keeps.
use Rattle.std.specs.Prelude.{◌≡◌, ◌==◌, ℕ, List, [], ◌∷◌, map, Option, Some, None, if◌then◌else◌}
use Rattle.codestream_model.specs.Values.{Head, Place, Block}
use Rattle.codestream_walk.specs.Progressions.{Progress}
use Rattle.precinct_geometry.specs.Spans.{place_of}
use Rattle.packet_header.specs.Answers.{block_of}
use Rattle.packet_header.specs.Headers.{ReaderState}
use Rattle.codestream_walk.specs.Judging.{IsReadSoFar}
use Rattle.codestream_walk.specs.Walking.{Stage, AtStart, AtNext, InBody, AtEnd, Seen, IsSound}
use Rattle.codestream_walk.specs.declared.pieces.Pieces.TheInside.{Inside}
use Rattle.codestream_walk.specs.declared.pieces.State.{State}
use Rattle.codestream_walk.specs.declared.pieces.State.TheVariants as code

-- The stage in this state, with this progress of the codestream begun last.
abbrev pub stage_of : State → Option Progress → Place → List Block → ℕ → ℕ → Stage
stage_of code.Start begun place blocks size left = AtStart
stage_of code.Next (Some b) place blocks size left = AtNext b.head b.places size
stage_of code.Next None place blocks size left = AtEnd
stage_of code.Body (Some b) place blocks size left = InBody b.head place blocks b.places size left
stage_of code.Body None place blocks size left = AtEnd
stage_of code.End begun place blocks size left = AtEnd

-- The main header of the codestream begun last.
abbrev pub head_of : Option Progress → Option Head
head_of (Some b) = Some b.head
head_of None = None

-- Inside a codestream its main header is known.
abbrev pub HasBegun : State → Option Progress → Type 0
HasBegun code.Next None = ⊥
HasBegun code.Body None = ⊥
HasBegun state begun = Unit {0}

-- The state where `left` bytes of a packet's segments are to come.
abbrev pub staged : ℕ → State
staged left = if left == 0 then code.Next else code.Body

-- The header of the packet of the first of these precincts was read so far; where there is none, none is begun.
abbrev pub IsFirstRead : Option ℕ → ReaderState → Head → List Place → List ℕ → Type 0
IsFirstRead fed r h [] hand = fed ≡ None
IsFirstRead fed r h (p ∷ later) hand = IsReadSoFar fed r h p hand

-- In this state the header of the next packet was read so far, from these bytes in hand; where no packet is next, none is begun.
abbrev pub IsNextRead : State → Option Progress → Option ℕ → ReaderState → List ℕ → Type 0
IsNextRead code.Next (Some b) fed r hand = IsFirstRead fed r b.head b.places hand
IsNextRead code.End begun fed r hand = Unit {0}
IsNextRead state begun fed r hand = fed ≡ None

-- The stage of a reader.
abbrev pub stage_in : Inside → Stage
stage_in p = stage_of p.state p.begun (place_of p.place) (map block_of p.header.reader.blocks) p.size p.left

-- A reader as the contracts see it.
abbrev pub view_of : Inside → Seen
view_of p = record {
  walk = record { hand = p.input.bytes; offset = p.input.offset; codestreams = p.codestreams; stage = stage_in p };
  given = p.input.given;
  head = head_of p.begun;
  place = place_of p.place;
  blocks = map block_of p.header.reader.blocks;
}

-- A reader keeps this: room for any packet header of the profile, a sound stage, the main header of the codestream it is in, and how
-- far the next packet's header was read.
abbrev pub IsKept : Inside → Type 0
IsKept p =
    (p.header.reader.room ≡ 65536)
    × IsSound (stage_in p) p.codestreams p.input.offset
    × HasBegun p.state p.begun
    × IsNextRead p.state p.begun p.header.fed p.header.reader p.input.bytes
