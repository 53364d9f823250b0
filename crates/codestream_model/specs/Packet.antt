-- A packet: its header and the segments of its code-blocks (T.800 B.9 and B.10).
use Rattle.std.specs.Prelude.{◌≡◌, ◌<◌, ◌≤◌, ◌⊎◌, ◌+◌, ◌*◌, ◌++◌, ℕ, List, length}
use Rattle.std.specs.List.{sum_by}
use Rattle.codestream_model.specs.Values.{Head, Place, Grid, Block}
use Rattle.codestream_model.specs.Precincts.{grids}
use Rattle.codestream_model.specs.HeaderPieces.{HeaderRefusal}
use Rattle.codestream_model.specs.MarkedHeader.{SpellsMarkedHeader, RefusesMarkedHeader, NeedsMarkedHeaderBytes}

-- The content of a packet: the included code-blocks, and the bytes of their segments, joined.
pub record Content : Type 0 where
  pub blocks : List Block
  pub bytes : List ℕ

-- The number of code-blocks of grids, included or not.
abbrev pub block_count : List Grid → ℕ
block_count gs = sum_by (λ g. g.cols * g.rows) gs

-- A precinct has no more code-blocks than a packet may have.
abbrev pub HasFewBlocks : Head → Place → Type 0
HasFewBlocks h p = block_count (grids h p) ≤ 65536

-- The number of bytes of the segments of code-blocks.
abbrev pub segment_bytes : List Block → ℕ
segment_bytes blocks = sum_by (λ b. b.cleanup + b.refine) blocks

-- The bytes are a packet header of this precinct that says these code-blocks, with its EPH where the main header asks
-- for it.
abbrev pub SpellsPacketHeader : Head → Place → List Block → List ℕ → Type 0
SpellsPacketHeader h p blocks bytes = SpellsMarkedHeader (grids h p) h.eph blocks bytes

-- The bytes are no packet header of this precinct, for this reason.
abbrev pub RefusesPacketHeader : Head → Place → List ℕ → HeaderRefusal → Type 0
RefusesPacketHeader h p bytes why = RefusesMarkedHeader (grids h p) h.eph bytes why

-- The bytes end inside a packet header of this precinct, and nothing refuses them.
abbrev pub NeedsPacketHeaderBytes : Head → Place → List ℕ → Type 0
NeedsPacketHeaderBytes h p bytes = NeedsMarkedHeaderBytes (grids h p) h.eph bytes

-- The bytes are the packet of a precinct that says this.
pub record SpellsPacket (h : Head) (p : Place) (x : Content) (bytes : List ℕ) : Type 0 where
  pub header : List ℕ
  pub few_blocks : HasFewBlocks h p
  pub is_header : SpellsPacketHeader h p x.blocks header
  pub segments : length x.bytes ≡ segment_bytes x.blocks
  pub whole : bytes ≡ header ++ x.bytes
  pub short : length bytes ≤ 16777216

-- The bytes begin with a whole packet header, which says these code-blocks, and its EPH.
pub record BeginsPacket (h : Head) (p : Place) (blocks : List Block) (header rest bytes : List ℕ) : Type 0 where
  pub few_blocks : HasFewBlocks h p
  pub is_header : SpellsPacketHeader h p blocks header
  pub whole : bytes ≡ header ++ rest

-- The bytes begin with the header of a packet that would be too long; no byte after the header matters.
pub record IsPacketTooLong (h : Head) (p : Place) (bytes : List ℕ) : Type 0 where
  pub blocks : List Block
  pub header : List ℕ
  pub rest : List ℕ
  pub begins : BeginsPacket h p blocks header rest bytes
  pub long : 16777216 < length header + segment_bytes blocks

-- The bytes begin with a packet's header, and not all bytes of its segments follow.
pub record LacksSegments (h : Head) (p : Place) (bytes : List ℕ) : Type 0 where
  pub blocks : List Block
  pub header : List ℕ
  pub rest : List ℕ
  pub begins : BeginsPacket h p blocks header rest bytes
  pub fits : length header + segment_bytes blocks ≤ 16777216
  pub lacks : length rest < segment_bytes blocks

-- The bytes end inside a packet, in its header or in its segments.
pub record NeedsPacketBytes (h : Head) (p : Place) (bytes : List ℕ) : Type 0 where
  pub few_blocks : HasFewBlocks h p
  pub unfinished : NeedsPacketHeaderBytes h p bytes ⊎ LacksSegments h p bytes
