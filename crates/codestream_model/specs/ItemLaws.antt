-- What is promised of the items of a codestream, main header, packets and EOC: each has one verdict, a refusal stays, and what lacks
-- its last bytes is unfinished; and of the faults of inputs: they stay when bytes follow.
use Rattle.std.specs.Prelude.{◌≡◌, ◌≢◌, ◌<◌, ◌≤◌, ◌^◌, ◌⊎◌, ◌++◌, ℕ, List, ◌∷◌, length}
use Rattle.codestream_model.specs.Values.{Head, Place}
use Rattle.codestream_model.specs.Bytes.{IsBytes}
use Rattle.std.specs.List.{AllByRecursion}
use Rattle.codestream_model.specs.HeadRefusals.{Cut as HeadCut}
use Rattle.codestream_model.specs.MainHeader.{SpellsHead}
use Rattle.codestream_model.specs.RefusedHeader.{RefusesHead}
use Rattle.codestream_model.specs.Packet.{Content, SpellsPacket, NeedsPacketHeaderBytes, NeedsPacketBytes}
use Rattle.codestream_model.specs.Codestream.{IsPsotRight, IsCodestream, joined, WalkRefusal, Cut, TooManyFrames, InputTooLong, RefusesPacket, RefusesEoc, NeedsEocBytes, Faults}

-- The bytes begin with a packet of this precinct.
abbrev pub BeginsWithPacket : Head → Place → List ℕ → Type 0
BeginsWithPacket h p bytes = (x : Content) × (packet : List ℕ) × (more : List ℕ) × SpellsPacket h p x packet × (bytes ≡ packet ++ more)

-- The bytes, which are at this offset of the codestream, begin with EOC, and Psot names this offset or none.
abbrev pub BeginsWithEoc : Head → ℕ → List ℕ → Type 0
BeginsWithEoc h at bytes = IsPsotRight h at × ((more : List ℕ) × (bytes ≡ 255 ∷ 217 ∷ more))

-- Bytes begin with a packet, or are refused where one should begin, or end inside one.
abbrev pub PacketsAreJudged : Type 0
PacketsAreJudged =
    (h : Head) (p : Place) (bytes : List ℕ) → IsBytes bytes
    → BeginsWithPacket h p bytes ⊎ (((why : WalkRefusal) × RefusesPacket h p bytes why) ⊎ NeedsPacketBytes h p bytes)

-- Only one of these three holds of bytes, and a refusal has one reason.
pub record HasOnePacketVerdict (h : Head) (p : Place) (bytes : List ℕ) : Type 0 where
  pub one_reason : (why other : WalkRefusal) → RefusesPacket h p bytes why → RefusesPacket h p bytes other → why ≡ other
  pub not_refused : BeginsWithPacket h p bytes → (why : WalkRefusal) → RefusesPacket h p bytes why → ⊥
  pub not_unfinished : BeginsWithPacket h p bytes → NeedsPacketBytes h p bytes → ⊥
  pub not_both : (why : WalkRefusal) → RefusesPacket h p bytes why → NeedsPacketBytes h p bytes → ⊥

-- So it is with all bytes where a packet should begin.
abbrev pub PacketsHaveOneVerdict : Type 0
PacketsHaveOneVerdict = (h : Head) (p : Place) (bytes : List ℕ) → HasOnePacketVerdict h p bytes

-- A refusal of a packet stays, whatever follows.
abbrev pub PacketRefusalsStay : Type 0
PacketRefusalsStay = (h : Head) (p : Place) (bytes more : List ℕ) (why : WalkRefusal) → RefusesPacket h p bytes why → RefusesPacket h p (bytes ++ more) why

-- Bytes that end inside a packet header or its EPH are fewer than 65,538.
abbrev pub UnfinishedHeadersAreShort : Type 0
UnfinishedHeadersAreShort = (h : Head) (p : Place) (bytes : List ℕ) → NeedsPacketHeaderBytes h p bytes → length bytes < 65538

-- Bytes begin with EOC, or are refused where it should be, or end before it does.
abbrev pub EocIsJudged : Type 0
EocIsJudged =
    (h : Head) (at : ℕ) (bytes : List ℕ)
    → BeginsWithEoc h at bytes ⊎ (((why : WalkRefusal) × RefusesEoc h at bytes why) ⊎ NeedsEocBytes h at bytes)

-- Only one of these three holds of bytes, and a refusal has one reason.
pub record HasOneEocVerdict (h : Head) (at : ℕ) (bytes : List ℕ) : Type 0 where
  pub one_reason : (why other : WalkRefusal) → RefusesEoc h at bytes why → RefusesEoc h at bytes other → why ≡ other
  pub not_refused : BeginsWithEoc h at bytes → (why : WalkRefusal) → RefusesEoc h at bytes why → ⊥
  pub not_unfinished : BeginsWithEoc h at bytes → NeedsEocBytes h at bytes → ⊥
  pub not_both : (why : WalkRefusal) → RefusesEoc h at bytes why → NeedsEocBytes h at bytes → ⊥

-- So it is with all bytes where EOC should be.
abbrev pub EocHasOneVerdict : Type 0
EocHasOneVerdict = (h : Head) (at : ℕ) (bytes : List ℕ) → HasOneEocVerdict h at bytes

-- A refusal of EOC stays, whatever follows.
abbrev pub EocRefusalsStay : Type 0
EocRefusalsStay = (h : Head) (at : ℕ) (bytes more : List ℕ) (why : WalkRefusal) → RefusesEoc h at bytes why → RefusesEoc h at (bytes ++ more) why

-- A main header without its last bytes is unfinished.
abbrev pub HeadFrontsNeedBytes : Type 0
HeadFrontsNeedBytes = (h : Head) (front rest : List ℕ) → IsBytes front → SpellsHead h (front ++ rest) → 1 ≤ length rest → RefusesHead front (length front) HeadCut

-- A fault stays whatever follows, unless the input only ended too early.
abbrev pub FaultsStay : Type 0
FaultsStay = (input more : List ℕ) (at : ℕ) (why : WalkRefusal) → why ≢ Cut → Faults input at why → Faults (input ++ more) at why

-- A byte after 65,536 whole codestreams is a fault.
abbrev pub OneFrameMoreIsAFault : Type 0
OneFrameMoreIsAFault =
    (codestreams : List (List ℕ)) (rest : List ℕ) → AllByRecursion IsCodestream codestreams → length codestreams ≡ 65536 → length (joined codestreams) ≤ 2 ^ 40
    → 1 ≤ length rest → Faults (joined codestreams ++ rest) (length (joined codestreams)) TooManyFrames

-- A byte after fewer codestreams that take 1,099,511,627,776 bytes is a fault too.
abbrev pub OneByteMoreIsAFault : Type 0
OneByteMoreIsAFault =
    (codestreams : List (List ℕ)) (rest : List ℕ) → AllByRecursion IsCodestream codestreams → length codestreams < 65536 → length (joined codestreams) ≡ 2 ^ 40
    → 1 ≤ length rest → Faults (joined codestreams ++ rest) (2 ^ 40) InputTooLong

-- Bytes that end inside a main header are fewer than 8,192.
abbrev pub CutHeadsAreShort : Type 0
CutHeadsAreShort = (b : List ℕ) (at : ℕ) → RefusesHead b at HeadCut → length b < 8192
