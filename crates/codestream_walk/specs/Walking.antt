-- How far a reader of codestreams is, and what the bytes in hand fix of its next answer.
use Rattle.std.specs.Prelude.{◌≡◌, ◌<◌, ◌≤◌, ◌⊎◌, ◌+◌, ◌-◌, ◌++◌, ◌==◌, ℕ, Bool, true, false, List, [], ◌∷◌, length, Option, Some, if◌then◌else◌}
use Rattle.codestream_model.specs.Values.{Head, Place, Block}
use Rattle.codestream_model.specs.MainHeader.{SpellsHead}
use Rattle.codestream_model.specs.Precincts.{IsPrecinct}
use Rattle.codestream_model.specs.PacketOrder.{IsPacketOrder}
use Rattle.codestream_model.specs.Packet.{NeedsPacketHeaderBytes, HasFewBlocks, segment_bytes, BeginsPacket}
use Rattle.codestream_model.specs.Codestream.{WalkRefusal, TooManyFrames, IsPsotRight, RefusesEoc, NeedsEocBytes, RefusesPacket}
use Rattle.codestream_walk.specs.Items.{RefusesHeadItem, NeedsHeadBytes}

-- Where a reader is: a codestream may begin; or after a main header and some packets, with the precincts whose packets are still to
-- come and the number of bytes of the codestream so far; or in the segments of a precinct's packet, with its code-blocks and the number
-- of bytes still to come of them; or nothing more is to come.
pub data Stage : Type 0 where
  AtStart : Stage
  AtNext : Head → List Place → ℕ → Stage
  InBody : Head → Place → List Block → List Place → ℕ → ℕ → Stage
  AtEnd : Stage

-- The bytes that were read and not given yet, the offset of the first of them, the number of whole codestreams so far, the stage.
pub record Walking : Type 0 where
  pub hand : List ℕ
  pub offset : ℕ
  pub codestreams : ℕ
  pub stage : Stage

-- A reader: how far it is, the bytes it gave last, and the main header, the precinct and the code-blocks that it shows.
pub record Seen : Type 0 where
  pub walk : Walking
  pub given : List ℕ
  pub head : Option Head
  pub place : Place
  pub blocks : List Block

-- These bytes are added to those in hand.
abbrev pub fed : Walking → List ℕ → Walking
fed w bytes = record w { hand = w.hand ++ bytes }

-- The offset after the bytes in hand: how many bytes were read.
abbrev pub reach : Walking → ℕ
reach w = w.offset + length w.hand

-- The stage after a packet's header or a part of its segments, where `left` bytes of them are to come.
abbrev pub stage_after : Head → Place → List Block → List Place → ℕ → ℕ → Stage
stage_after h p blocks later size left = if left == 0 then AtNext h later size else InBody h p blocks later size left

-- At this stage the bytes in hand fix no answer: a codestream may begin and there are none, or they end inside an item.
abbrev pub WantsIn : Stage → ℕ → List ℕ → Type 0
WantsIn AtStart codestreams hand = (hand ≡ []) ⊎ ((codestreams < 65536) × NeedsHeadBytes hand)
WantsIn (AtNext h [] size) codestreams hand = NeedsEocBytes h size hand
WantsIn (AtNext h (p ∷ later) size) codestreams hand = HasFewBlocks h p × NeedsPacketHeaderBytes h p hand
WantsIn (InBody h p blocks later size left) codestreams hand = hand ≡ []
WantsIn AtEnd codestreams hand = ⊥

-- The bytes in hand fix no answer.
abbrev pub Wants : Walking → Type 0
Wants w = WantsIn w.stage w.codestreams w.hand

-- At this stage the bytes in hand are refused, `at` bytes after the first of them.
abbrev pub RefusesIn : Stage → ℕ → List ℕ → ℕ → WalkRefusal → Type 0
RefusesIn AtStart codestreams hand at why =
    (1 ≤ length hand) × (((codestreams ≡ 65536) × (at ≡ 0) × (why ≡ TooManyFrames)) ⊎ ((codestreams < 65536) × RefusesHeadItem hand at why))
RefusesIn (AtNext h [] size) codestreams hand at why = RefusesEoc h size hand why × (at ≡ 0)
RefusesIn (AtNext h (p ∷ later) size) codestreams hand at why = RefusesPacket h p hand why × (at ≡ 0)
RefusesIn (InBody h p blocks later size left) codestreams hand at why = ⊥
RefusesIn AtEnd codestreams hand at why = ⊥

-- The bytes in hand are refused, at this offset of the input.
abbrev pub Refuses : Walking → ℕ → WalkRefusal → Type 0
Refuses w at why = (inside : ℕ) × RefusesIn w.stage w.codestreams w.hand inside why × (at ≡ w.offset + inside)

-- The bytes `front` are given, `rest` stays in hand, and this is the stage after them.
abbrev pub passing : Walking → List ℕ → List ℕ → Stage → Walking
passing w front rest stage = record w { hand = rest; offset = w.offset + length front; stage = stage }

-- A main header is given, and its packets are next, in packet order.
pub record GivesHead (w : Walking) (v : Seen) : Type 0 where
  pub head : Head
  pub order : List Place
  pub front : List ℕ
  pub rest : List ℕ
  pub stage : w.stage ≡ AtStart
  pub few : w.codestreams < 65536
  pub is_head : SpellsHead head front
  pub is_order : IsPacketOrder head order
  pub whole : w.hand ≡ front ++ rest
  pub now : v.walk ≡ passing w front rest (AtNext head order (length front))
  pub given : v.given ≡ front
  pub shown : v.head ≡ Some head

-- The header of the next packet is given.
pub record GivesStart (w : Walking) (before : Option Head) (v : Seen) : Type 0 where
  pub head : Head
  pub place : Place
  pub later : List Place
  pub size : ℕ
  pub blocks : List Block
  pub front : List ℕ
  pub rest : List ℕ
  pub stage : w.stage ≡ AtNext head (place ∷ later) size
  pub is_precinct : IsPrecinct head place
  pub begins : BeginsPacket head place blocks front rest w.hand
  pub fits : length front + segment_bytes blocks ≤ 16777216
  pub now : v.walk ≡ passing w front rest (stage_after head place blocks later (size + length front) (segment_bytes blocks))
  pub given : v.given ≡ front
  pub shown : v.head ≡ before
  pub shown_place : v.place ≡ place
  pub shown_blocks : v.blocks ≡ blocks

-- Of a packet's segments 1 to 4,096 bytes are given.
pub record GivesMore (w : Walking) (before : Option Head) (v : Seen) : Type 0 where
  pub head : Head
  pub place : Place
  pub blocks : List Block
  pub later : List Place
  pub size : ℕ
  pub left : ℕ
  pub front : List ℕ
  pub rest : List ℕ
  pub stage : w.stage ≡ InBody head place blocks later size left
  pub some : 1 ≤ length front
  pub few : length front ≤ 4096
  pub within : length front ≤ left
  pub whole : w.hand ≡ front ++ rest
  pub now : v.walk ≡ passing w front rest (stage_after head place blocks later (size + length front) (left - length front))
  pub given : v.given ≡ front
  pub shown : v.head ≡ before
  pub shown_place : v.place ≡ place
  pub shown_blocks : v.blocks ≡ blocks

-- EOC is given, and a codestream may begin after it.
pub record GivesEoc (w : Walking) (before : Option Head) (v : Seen) : Type 0 where
  pub head : Head
  pub size : ℕ
  pub rest : List ℕ
  pub stage : w.stage ≡ AtNext head [] size
  pub psot : IsPsotRight head size
  pub whole : w.hand ≡ 255 ∷ 217 ∷ rest
  pub now : v.walk ≡ record (passing w (255 ∷ 217 ∷ []) rest AtStart) { codestreams = w.codestreams + 1 }
  pub given : v.given ≡ 255 ∷ 217 ∷ []
  pub shown : v.head ≡ before

-- Nothing more is to come, and the main header is shown as before.
pub record IsDone (before : Option Head) (v : Seen) : Type 0 where
  pub stage : v.walk.stage ≡ AtEnd
  pub shown : v.head ≡ before

-- Wherever a reader is: there are at most 65,536 codestreams, and the bytes of one so far are among those of the input.
abbrev pub IsSound : Stage → ℕ → ℕ → Type 0
IsSound AtStart codestreams offset = codestreams ≤ 65536
IsSound (AtNext h later size) codestreams offset = (codestreams < 65536) × (size ≤ offset)
IsSound (InBody h p blocks later size left) codestreams offset = (codestreams < 65536) × (size ≤ offset) × (1 ≤ left)
IsSound AtEnd codestreams offset = Unit {0}

-- Inside a codestream its main header is the one that is shown.
abbrev pub ShowsHeadAt : Stage → Option Head → Type 0
ShowsHeadAt AtStart shown = Unit {0}
ShowsHeadAt (AtNext h later size) shown = shown ≡ Some h
ShowsHeadAt (InBody h p blocks later size left) shown = shown ≡ Some h
ShowsHeadAt AtEnd shown = Unit {0}

-- A reader shows the main header of the codestream that it is in.
abbrev pub ShowsHead : Seen → Type 0
ShowsHead v = ShowsHeadAt v.walk.stage v.head

-- A reader is at the start of an input.
abbrev pub IsStart : Walking → Type 0
IsStart w = w ≡ record { hand = []; offset = 0; codestreams = 0; stage = AtStart }

-- At this stage a step may be asked for.
abbrev pub is_live : Stage → Bool
is_live AtEnd = false
is_live stage = true

-- A packet or EOC is next.
abbrev pub IsNext : Stage → Type 0
IsNext stage = (h : Head) × (later : List Place) × (size : ℕ) × (stage ≡ AtNext h later size)

-- EOC is next.
abbrev pub IsNextEoc : Stage → Type 0
IsNextEoc stage = (h : Head) × (size : ℕ) × (stage ≡ AtNext h [] size)

-- More of a packet's segments is next.
abbrev pub IsBody : Stage → Type 0
IsBody stage =
    (h : Head) × (p : Place) × (blocks : List Block) × (later : List Place) × (size : ℕ) × (left : ℕ)
    × (stage ≡ InBody h p blocks later size left)

-- At this stage more of a packet's segments is to come.
abbrev pub in_body : Stage → Bool
in_body (InBody h p blocks later size left) = true
in_body stage = false

-- At this stage no packet is open.
abbrev pub is_item : Stage → Bool
is_item (InBody h p blocks later size left) = false
is_item stage = true
