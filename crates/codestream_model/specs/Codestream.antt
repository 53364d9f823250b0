-- A codestream of the profile, and the first fault of an input of codestreams (T.800 Annexes A and B).
use Rattle.std.specs.Prelude.{◌≡◌, ◌≢◌, ◌<◌, ◌≤◌, ◌⊎◌, ◌+◌, ◌-◌, ◌^◌, ◌++◌, ℕ, List, [], ◌∷◌, length, take}
use Rattle.std.specs.List.{AllByRecursion, flat_map}
use Rattle.codestream_model.specs.Values.{Head, Place}
use Rattle.codestream_model.specs.HeadRefusals.{HeadRefusal, Cut as HeadCut}
use Rattle.codestream_model.specs.MainHeader.{SpellsHead}
use Rattle.codestream_model.specs.RefusedHeader.{RefusesHead}
use Rattle.codestream_model.specs.Precincts.{grids}
use Rattle.codestream_model.specs.PacketOrder.{IsPacketOrder}
use Rattle.codestream_model.specs.HeaderPieces.{HeaderRefusal}
use Rattle.codestream_model.specs.Packet.{Content, HasFewBlocks, block_count, RefusesPacketHeader, SpellsPacket, IsPacketTooLong, NeedsPacketBytes}

-- The bytes are the packets of these precincts, one after another, each of which says its content.
abbrev pub SpellsPackets : Head → List Place → List Content → List ℕ → Type 0
SpellsPackets h [] [] bytes = bytes ≡ []
SpellsPackets h (p ∷ places) (x ∷ content) bytes =
    (front : List ℕ) × (back : List ℕ) × SpellsPacket h p x front × SpellsPackets h places content back × (bytes ≡ front ++ back)
SpellsPackets h places content bytes = ⊥

-- Psot is 0, or the distance from SOT to EOC, which is at this offset of the codestream (T.800 A.4.2).
abbrev pub IsPsotRight : Head → ℕ → Type 0
IsPsotRight h eoc = (h.psot ≡ 0) ⊎ (h.psot ≡ eoc - h.sot)

-- The bytes are a main header, in the packet order a packet of each precinct, and EOC; `content` has what each packet
-- says.
pub record SpellsCodestream (h : Head) (content : List Content) (bytes : List ℕ) : Type 0 where
  pub head : List ℕ
  pub places : List Place
  pub packets : List ℕ
  pub is_head : SpellsHead h head
  pub order : IsPacketOrder h places
  pub are_packets : SpellsPackets h places content packets
  pub psot : IsPsotRight h (length head + length packets)
  pub whole : bytes ≡ head ++ (packets ++ 255 ∷ 217 ∷ [])

-- The bytes are an accepted codestream.
abbrev pub IsCodestream : List ℕ → Type 0
IsCodestream bytes = (h : Head) × (content : List Content) × SpellsCodestream h content bytes

-- Codestreams one after another.
abbrev pub joined : List (List ℕ) → List ℕ
joined codestreams = flat_map (λ bytes. bytes) codestreams

-- The reasons for which an input of codestreams is refused.
pub data WalkRefusal : Type 0 where
  HeadRefused : HeadRefusal → WalkRefusal
  Cut : WalkRefusal
  TooManyBlocks : WalkRefusal
  HeaderRefused : HeaderRefusal → WalkRefusal
  PacketTooLong : WalkRefusal
  Psot : WalkRefusal
  NoEoc : WalkRefusal
  InputTooLong : WalkRefusal
  TooManyFrames : WalkRefusal

-- The bytes begin with a main header and, in the packet order, the packets of some precincts. Those of the precincts
-- `later` are still to come, in `rest`, which begins at the offset `at`.
pub record BeginsCodestream (h : Head) (later : List Place) (at : ℕ) (rest bytes : List ℕ) : Type 0 where
  pub head : List ℕ
  pub before : List Place
  pub content : List Content
  pub packets : List ℕ
  pub is_head : SpellsHead h head
  pub order : IsPacketOrder h (before ++ later)
  pub are_packets : SpellsPackets h before content packets
  pub place : at ≡ length head + length packets
  pub whole : bytes ≡ head ++ (packets ++ rest)

-- Bytes that should begin with the packet of a precinct are refused: for the number of its code-blocks, for its header or a missing
-- EPH, or for its length. The other reasons are not about packets.
abbrev pub RefusesPacket : Head → Place → List ℕ → WalkRefusal → Type 0
RefusesPacket h p bytes TooManyBlocks = 65536 < block_count (grids h p)
RefusesPacket h p bytes (HeaderRefused why) = HasFewBlocks h p × RefusesPacketHeader h p bytes why
RefusesPacket h p bytes PacketTooLong = IsPacketTooLong h p bytes
RefusesPacket h p bytes (HeadRefused why) = ⊥
RefusesPacket h p bytes Cut = ⊥
RefusesPacket h p bytes Psot = ⊥
RefusesPacket h p bytes NoEoc = ⊥
RefusesPacket h p bytes InputTooLong = ⊥
RefusesPacket h p bytes TooManyFrames = ⊥

-- The bytes begin with two bytes other than those of EOC.
abbrev pub IsOther : List ℕ → Type 0
IsOther bytes = (a : ℕ) × (b : ℕ) × (more : List ℕ) × (bytes ≡ a ∷ b ∷ more) × ((a ≡ 255) × (b ≡ 217) → ⊥)

-- Bytes that should begin with EOC, `at` bytes into the codestream, are refused: Psot names another place, or these two bytes are
-- no EOC. The other reasons are not about EOC.
abbrev pub RefusesEoc : Head → ℕ → List ℕ → WalkRefusal → Type 0
RefusesEoc h at bytes Psot = IsPsotRight h at → ⊥
RefusesEoc h at bytes NoEoc = IsPsotRight h at × IsOther bytes
RefusesEoc h at bytes (HeadRefused why) = ⊥
RefusesEoc h at bytes Cut = ⊥
RefusesEoc h at bytes TooManyBlocks = ⊥
RefusesEoc h at bytes (HeaderRefused why) = ⊥
RefusesEoc h at bytes PacketTooLong = ⊥
RefusesEoc h at bytes InputTooLong = ⊥
RefusesEoc h at bytes TooManyFrames = ⊥

-- The bytes end before EOC does, and Psot names this place or none.
abbrev pub NeedsEocBytes : Head → ℕ → List ℕ → Type 0
NeedsEocBytes h at bytes = IsPsotRight h at × (length bytes < 2)

-- After a main header and packets the rest of the bytes is refused: where the packet of the first of the remaining precincts should
-- be, or, where none remains, EOC.
abbrev pub RefusesNext : Head → List Place → ℕ → List ℕ → WalkRefusal → Type 0
RefusesNext h [] at rest why = RefusesEoc h at rest why
RefusesNext h (p ∷ later) at rest why = RefusesPacket h p rest why

-- After a main header and packets the bytes end before the next packet, or EOC, is whole, and nothing refuses them.
abbrev pub NeedsNextBytes : Head → List Place → ℕ → List ℕ → Type 0
NeedsNextBytes h [] at rest = NeedsEocBytes h at rest
NeedsNextBytes h (p ∷ later) at rest = NeedsPacketBytes h p rest

-- A packet should begin at this offset of the bytes, and this holds of its header, its precinct and what is there.
abbrev pub HoldsAtPacket : List ℕ → ℕ → (Head → Place → List ℕ → Type 0) → Type 0
HoldsAtPacket bytes at Holds = (h : Head) × (p : Place) × (later : List Place) × (rest : List ℕ) × BeginsCodestream h (p ∷ later) at rest bytes × Holds h p rest

-- EOC should be at this offset of the bytes, and this holds of the main header and what is there.
abbrev pub HoldsAtEoc : List ℕ → ℕ → (Head → List ℕ → Type 0) → Type 0
HoldsAtEoc bytes at Holds = (h : Head) × (rest : List ℕ) × BeginsCodestream h [] at rest bytes × Holds h rest

-- In the bytes, where a codestream should begin, this is the first item that isn't as it should be, at this place: the main
-- header; a packet; EOC. The other causes speak of where bytes end.
abbrev pub RefusesCodestream : List ℕ → ℕ → WalkRefusal → Type 0
RefusesCodestream bytes at (HeadRefused why) = RefusesHead bytes at why × (why ≢ HeadCut)
RefusesCodestream bytes at TooManyBlocks = HoldsAtPacket bytes at (λ h p rest. RefusesPacket h p rest TooManyBlocks)
RefusesCodestream bytes at (HeaderRefused why) = HoldsAtPacket bytes at (λ h p rest. RefusesPacket h p rest (HeaderRefused why))
RefusesCodestream bytes at PacketTooLong = HoldsAtPacket bytes at (λ h p rest. RefusesPacket h p rest PacketTooLong)
RefusesCodestream bytes at Psot = HoldsAtEoc bytes at (λ h rest. RefusesEoc h at rest Psot)
RefusesCodestream bytes at NoEoc = HoldsAtEoc bytes at (λ h rest. RefusesEoc h at rest NoEoc)
RefusesCodestream bytes at Cut = ⊥
RefusesCodestream bytes at InputTooLong = ⊥
RefusesCodestream bytes at TooManyFrames = ⊥

-- The bytes end inside a codestream: in its main header, in a packet, or in EOC.
abbrev pub NeedsCodestreamBytes : List ℕ → Type 0
NeedsCodestreamBytes bytes =
    (at : ℕ) × (RefusesHead bytes at HeadCut
    ⊎ (HoldsAtPacket bytes at (λ h p rest. NeedsPacketBytes h p rest)
    ⊎ HoldsAtEoc bytes at (λ h rest. NeedsEocBytes h at rest)))

-- The bytes that are read of an input after `done` bytes: none past 1,099,511,627,776.
abbrev pub readable : ℕ → List ℕ → List ℕ
readable done rest = take (2 ^ 40 - done) rest

-- An item of the codestream that should follow `done` bytes is refused, at this place of the input.
abbrev pub RefusesInside : ℕ → List ℕ → ℕ → WalkRefusal → Type 0
RefusesInside done rest at why = (inside : ℕ) × RefusesCodestream (readable done rest) inside why × (at ≡ done + inside)

-- What is refused of the bytes after whole codestreams that take `done` bytes: an item that isn't as it should be, or
-- one that needs a byte past the last that is read, which is the input's end or the greatest offset of an input.
abbrev pub RefusesRest : ℕ → List ℕ → ℕ → WalkRefusal → Type 0
RefusesRest done rest at Cut = NeedsCodestreamBytes rest × (done + length rest ≤ 2 ^ 40) × (at ≡ done + length rest)
RefusesRest done rest at InputTooLong = NeedsCodestreamBytes (readable done rest) × (2 ^ 40 < done + length rest) × (at ≡ 2 ^ 40)
RefusesRest done rest at (HeadRefused why) = RefusesInside done rest at (HeadRefused why)
RefusesRest done rest at TooManyBlocks = RefusesInside done rest at TooManyBlocks
RefusesRest done rest at (HeaderRefused why) = RefusesInside done rest at (HeaderRefused why)
RefusesRest done rest at PacketTooLong = RefusesInside done rest at PacketTooLong
RefusesRest done rest at Psot = RefusesInside done rest at Psot
RefusesRest done rest at NoEoc = RefusesInside done rest at NoEoc
RefusesRest done rest at TooManyFrames = RefusesInside done rest at TooManyFrames

-- The first fault of an input: a byte after 65,536 whole codestreams, or what is refused after fewer.
pub record Faults (input : List ℕ) (at : ℕ) (why : WalkRefusal) : Type 0 where
  pub codestreams : List (List ℕ)
  pub rest : List ℕ
  pub whole : input ≡ joined codestreams ++ rest
  pub each : AllByRecursion IsCodestream codestreams
  pub within : length (joined codestreams) ≤ 2 ^ 40
  pub follows : 1 ≤ length rest
  pub fault :
      ((length codestreams ≡ 65536) × (why ≡ TooManyFrames) × (at ≡ length (joined codestreams)))
      ⊎ ((length codestreams < 65536) × RefusesRest (length (joined codestreams)) rest at why)

-- The input is read to its end: it is whole codestreams, and not too many.
pub record IsInput (input : List ℕ) (codestreams : List (List ℕ)) : Type 0 where
  pub whole : input ≡ joined codestreams
  pub each : AllByRecursion IsCodestream codestreams
  pub few : length codestreams ≤ 65536
  pub within : length input ≤ 2 ^ 40
