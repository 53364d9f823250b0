-- What a reader of packet headers holds, and what is answered where a header is read.
use Rattle.std.specs.Prelude.{◌≡◌, ◌<◌, ◌≤◌, ◌↔◌, ◌+◌, ◌-◌, ◌++◌, ℕ, Bool, true, List, [], ◌∷◌, map, length, take, Result, Ok, Err}
use Rattle.codestream_model.specs.Values as values
use Rattle.codestream_model.specs.Bytes.{IsBytes}
use Rattle.codestream_model.specs.StuffedBits.{packed_bits, bytes_of_bits}
use Rattle.codestream_model.specs.HeaderPieces.{HeaderRefusal}
use Rattle.codestream_model.specs.PacketHeader.{HaveOwnBands}
use Rattle.codestream_model.specs.MarkedHeader.{SpellsMarkedHeader, RefusesMarkedHeader, NeedsMarkedHeaderBytes, marked_header_of}
use Rattle.codestream_model.specs.PacketHeaderReading.{Read, Got, AtEnd, Refused, Done, read_bits, header_of}
use Rattle.precinct_geometry.specs.Spans.{grid_of}
use Rattle.stuffed_bits.specs.BitInState.{BitInState}
use Rattle.packet_header.specs.Answers.{why_of, stop_at, block_of, out_at, Tells}
use Rattle.packet_header.specs.Moves.{taken_of, all_of, IsStopNeed}
use Rattle.packet_header.specs.Closing.{closed_after, counted}
use Rattle.packet_header.specs.Blocks.{HasTaken}
use Rattle.packet_header.specs.declared.block.Block.{Block}
use Rattle.packet_header.specs.declared.blocks.BlocksReader.{BlocksReader}
use Rattle.stuffed_bits.specs.declared.source.Source.{Source}
use Rattle.packet_header.specs.declared.reader.Stage.{Stage}
use Rattle.packet_header.specs.declared.reader.Stage.TheVariants.{Header, Eph, EphEnd}
use Rattle.packet_header.specs.declared.refusal.HeaderOut.{HeaderOut}
use Rattle.packet_header.specs.declared.refusal.HeaderOut.TheVariants as out
use Rattle.packet_header.specs.declared.refusal.HeaderStop.{HeaderStop}
use Rattle.packet_header.specs.declared.refusal.HeaderStop.TheVariants.{Bad}

-- The state of a reader of packet headers: its room for code-blocks and those that it has read, whether EPH is asked for, what is
-- read next, how far the code-blocks were read, the bits in hand, and how many bytes of the header it was fed.
pub record ReaderState : Type 0 where
  pub room : ℕ
  pub blocks : List Block
  pub eph : Bool
  pub stage : Stage
  pub progress : BlocksReader
  pub bits : BitInState
  pub fed : ℕ

-- The grids of the precinct whose header is read.
abbrev pub grids_of : ReaderState → List values.Grid
grids_of r = map grid_of r.progress.bands.items

-- The precinct stays, and whether EPH is asked for.
pub record IsSameHeader (before after : ReaderState) : Type 0 where
  pub room : after.room ≡ before.room
  pub grids : grids_of after ≡ grids_of before
  pub eph : after.eph ≡ before.eph

-- These bytes are a header that was read, and these are its code-blocks.
abbrev pub IsRead : List values.Grid → List ℕ → List Block → Type 0
IsRead gs bytes blocks = header_of gs bytes ≡ Done (length bytes) (map block_of blocks)

-- A reader has taken these bytes of a header with its EPH: a part of the header; a header; or a header and the first byte of EPH.
abbrev pub IsFedAt : Stage → ReaderState → List ℕ → Type 0
IsFedAt Header r bytes = (r.fed ≡ length bytes) × (length bytes < 65536) × HasTaken (read_bits (grids_of r)) r.progress bytes r.bits
IsFedAt Eph r bytes = (r.eph ≡ true) × IsRead (grids_of r) bytes r.blocks
IsFedAt EphEnd r bytes = (r.eph ≡ true) × ((header : List ℕ) × (bytes ≡ header ++ 255 ∷ []) × IsRead (grids_of r) header r.blocks)

-- Since `begin` a reader was fed these bytes, and it needs more of them.
pub record IsFed (r : ReaderState) (bytes : List ℕ) : Type 0 where
  pub own_bands : HaveOwnBands (grids_of r)
  pub each : IsBytes bytes
  pub by_stage : IsFedAt r.stage r bytes

-- A reading of the bits of bytes is answered: the code-blocks follow those that were held, and the bits are closed; or the
-- answer is what stops the reading.
abbrev pub ReadsHeader : Read (List values.Block) → List ℕ → List Block → List Block → Result ℕ HeaderStop → Type 0
ReadsHeader (Got blocks rest) bytes held now answer =
    (added : List Block) × (now ≡ held ++ added) × (map block_of added ≡ blocks) × (answer ≡ closed_after bytes (bytes_of_bits 0 (length (packed_bits bytes).bits - length rest) bytes))
ReadsHeader AtEnd bytes held now answer = answer ≡ Err (stop_at (packed_bits bytes).broken_at)
ReadsHeader (Refused reason) bytes held now answer = answer ≡ Err (Bad (why_of reason))

-- The answer for this many bytes.
abbrev pub out_of : ℕ → Result ℕ HeaderStop → HeaderOut
out_of bytes (Ok used) = out.Done used
out_of bytes (Err stopped) = out_at bytes stopped

-- An answer for the bytes of a piece, as one for all bytes, where this many came before the piece.
abbrev pub counted_out : ℕ → HeaderOut → HeaderOut
counted_out earlier (out.Done used) = out.Done (earlier + used)
counted_out earlier out.Need = out.Need
counted_out earlier (out.Bad reason) = out.Bad reason

-- The reading of the header of a precinct.
abbrev pub header_reading : BlocksReader → (List Bool → Read (List values.Block))
header_reading r = read_bits (map grid_of r.bands.items)

-- A reader can go on in a header in the bytes of a source.
abbrev pub IsReadyForHeader : BlocksReader → Source → Type 0
IsReadyForHeader r s = (before : List ℕ) × HasTaken (header_reading r) r (taken_of before s) s.bits

-- A call reads what is left of a header, whatever bytes came before.
abbrev pub EndsHeader : BlocksReader → BlocksReader → Source → Result ℕ HeaderStop → Type 0
EndsHeader r now old out =
    (before : List ℕ) → HasTaken (header_reading r) r (taken_of before old) old.bits
    → ReadsHeader (header_reading r (packed_bits (all_of before old)).bits) (all_of before old) [] now.blocks.items (counted (length before) out)

-- Where a further piece is needed, the reader has taken all of this one.
abbrev pub WaitsInHeader : BlocksReader → BlocksReader → Source → Source → Result ℕ HeaderStop → Type 0
WaitsInHeader r now old new out =
    IsStopNeed out → (before : List ℕ) → HasTaken (header_reading r) r (taken_of before old) old.bits → HasTaken (header_reading r) now (all_of before old) new.bits

-- A reader can go on in a header.
abbrev pub IsInHeader : ReaderState → Type 0
IsInHeader r = (bytes : List ℕ) × HasTaken (read_bits (grids_of r)) r.progress bytes r.bits

-- A call reads what is left of a header in further bytes, whatever came before.
abbrev pub ReadsOn : ReaderState → ReaderState → List ℕ → Result ℕ HeaderStop → Type 0
ReadsOn r now front answer =
    (bytes : List ℕ) → HasTaken (read_bits (grids_of r)) r.progress bytes r.bits
    → ReadsHeader (read_bits (grids_of r) (packed_bits (bytes ++ front)).bits) (bytes ++ front) [] now.blocks (counted (length bytes) answer)

-- Where a further piece is needed, the reader has taken all of these bytes.
abbrev pub WaitsAfter : ReaderState → ReaderState → List ℕ → Result ℕ HeaderStop → Type 0
WaitsAfter r now front answer =
    IsStopNeed answer → (bytes : List ℕ) → HasTaken (read_bits (grids_of r)) r.progress bytes r.bits → HasTaken (read_bits (grids_of r)) now.progress (bytes ++ front) now.bits

-- The answer for a piece is that of the definitions for all bytes that came.
abbrev pub Judges : ReaderState → ReaderState → List ℕ → HeaderOut → Type 0
Judges r now piece answer = (bytes : List ℕ) → IsFed r bytes → Tells (marked_header_of (grids_of r) r.eph (bytes ++ piece)) (counted_out (length bytes) answer) now.blocks

-- What a reader answers for a piece, where these bytes came before it: in the words of the relations, for all bytes that came.
pub record AnswersFor (gs : List values.Grid) (eph : Bool) (bytes piece : List ℕ) (answer : HeaderOut) (blocks : List Block) : Type 0 where
  pub judged : Tells (marked_header_of gs eph (bytes ++ piece)) (counted_out (length bytes) answer) blocks
  pub found : (used : ℕ) → answer ≡ out.Done used → SpellsMarkedHeader gs eph (map block_of blocks) (take (length bytes + used) (bytes ++ piece))
  pub only : (own : List values.Block) (header more : List ℕ) → SpellsMarkedHeader gs eph own header → bytes ++ piece ≡ header ++ more
      → (counted_out (length bytes) answer ≡ out.Done (length header)) × (map block_of blocks ≡ own)
  pub refused : (reason : HeaderRefusal) → (answer ≡ out.Bad (why_of reason)) ↔ RefusesMarkedHeader gs eph (bytes ++ piece) reason
  pub needs : (answer ≡ out.Need) ↔ NeedsMarkedHeaderBytes gs eph (bytes ++ piece)

-- A reader answers for a piece, whatever bytes it was fed before.
abbrev pub Answers : ReaderState → ReaderState → List ℕ → HeaderOut → Type 0
Answers r now piece answer = (bytes : List ℕ) → IsFed r bytes → AnswersFor (grids_of r) r.eph bytes piece answer now.blocks

-- Where a reader needs a further piece, it was fed this one.
abbrev pub NeedsMore : ReaderState → ReaderState → List ℕ → HeaderOut → Type 0
NeedsMore r now piece answer = answer ≡ out.Need → (bytes : List ℕ) → IsFed r bytes → IsFed now (bytes ++ piece)

-- A header that is told ends within the piece.
abbrev pub EndsIn : List ℕ → HeaderOut → Type 0
EndsIn piece answer = (used : ℕ) → answer ≡ out.Done used → used ≤ length piece
