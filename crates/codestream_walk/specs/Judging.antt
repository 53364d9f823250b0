-- What bytes are, where a packet or EOC should begin.
use Rattle.std.specs.Prelude.{◌≡◌, ◌≤◌, ◌+◌, ℕ, List, ◌∷◌, length, take, drop, Option, Some, None}
use Rattle.codestream_model.specs.Values.{Head, Place, Block}
use Rattle.codestream_model.specs.Precincts.{grids}
use Rattle.codestream_model.specs.Packet.{HasFewBlocks, NeedsPacketHeaderBytes, segment_bytes, BeginsPacket}
use Rattle.codestream_model.specs.Codestream.{IsPsotRight, RefusesPacket, RefusesEoc, NeedsEocBytes}
use Rattle.packet_header.specs.Headers.{ReaderState, grids_of, IsFed}
use Rattle.codestream_walk.specs.Faults.{walk_refusal}
use Rattle.codestream_walk.specs.declared.next_header.Header.{Header}
use Rattle.codestream_walk.specs.declared.next_header.Header.TheVariants.{Whole, Refused, Wants}
use Rattle.codestream_walk.specs.declared.judging.Eoc.{Eoc}
use Rattle.codestream_walk.specs.declared.judging.Eoc.TheVariants as eoc

-- The bytes begin with a packet's header, or are refused, or end inside that header.
abbrev pub JudgesPacket : Head → Place → List ℕ → Header → List Block → Type 0
JudgesPacket h p bytes (Whole used body) blocks =
    BeginsPacket h p blocks (take used bytes) (drop used bytes) bytes
    × (used ≤ length bytes) × (body ≡ segment_bytes blocks) × (used + body ≤ 16777216)
JudgesPacket h p bytes (Refused why) blocks = RefusesPacket h p bytes (walk_refusal why)
JudgesPacket h p bytes Wants blocks = HasFewBlocks h p × NeedsPacketHeaderBytes h p bytes

-- A reader of the header of a precinct's packet was fed the first `n` of these bytes.
pub record IsPartRead (r : ReaderState) (h : Head) (p : Place) (n : ℕ) (bytes : List ℕ) : Type 0 where
  pub within : n ≤ length bytes
  pub grids : grids_of r ≡ grids h p
  pub eph : r.eph ≡ h.eph
  pub fed : IsFed r (take n bytes)

-- The header of a precinct's packet isn't begun; or a reader was fed the first `n` of these bytes of it.
abbrev pub IsReadSoFar : Option ℕ → ReaderState → Head → Place → List ℕ → Type 0
IsReadSoFar None r h p bytes = Unit {0}
IsReadSoFar (Some n) r h p bytes = HasFewBlocks h p × IsPartRead r h p n bytes

-- After an answer: where more bytes are wanted, the reader was fed all of these, so that it goes on after them; else no header is begun.
abbrev pub Keeps : Header → Option ℕ → ReaderState → Head → Place → List ℕ → Type 0
Keeps Wants fed r h p bytes = (fed ≡ Some (length bytes)) × HasFewBlocks h p × IsPartRead r h p (length bytes) bytes
Keeps answer fed r h p bytes = fed ≡ None

-- The bytes begin with EOC, or are refused, or end inside EOC; `size` bytes of the codestream are before them.
abbrev pub JudgesEoc : Head → ℕ → List ℕ → Eoc → Type 0
JudgesEoc h size bytes eoc.Whole = IsPsotRight h size × ((rest : List ℕ) × (bytes ≡ 255 ∷ 217 ∷ rest))
JudgesEoc h size bytes (eoc.Refused why) = RefusesEoc h size bytes (walk_refusal why)
JudgesEoc h size bytes eoc.Wants = NeedsEocBytes h size bytes
