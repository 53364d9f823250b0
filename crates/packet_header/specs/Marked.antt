-- What is answered for a header and the EPH after it.
use Rattle.std.specs.Prelude.{◌≡◌, ◌+◌, ◌++◌, ◌==◌, ℕ, true, List, [], ◌∷◌, map, length, if◌then◌else◌}
use Rattle.codestream_model.specs.Bytes.{IsBytes}
use Rattle.codestream_model.specs.PacketHeaderReading.{Done, header_of}
use Rattle.codestream_model.specs.MarkedHeader.{marked_header_of}
use Rattle.packet_header.specs.Answers.{block_of, Tells}
use Rattle.packet_header.specs.Headers.{ReaderState, grids_of, IsFed, counted_out}
use Rattle.packet_header.specs.declared.refusal.HeaderOut.{HeaderOut}
use Rattle.packet_header.specs.declared.refusal.HeaderOut.TheVariants as out
use Rattle.packet_header.specs.declared.refusal.HeaderWhy.TheVariants as why

-- The answer where the second byte of EPH has to come at this index, and these bytes do.
abbrev pub end_out : ℕ → List ℕ → HeaderOut
end_out at [] = out.Need
end_out at (b ∷ more) = if b == 146 then out.Done (at + 1) else out.Bad why.NoEph

-- A header that was read ends in a piece before this index, where these bytes came before the piece.
pub record IsRest (r : ReaderState) (earlier : List ℕ) (from : ℕ) (piece : List ℕ) : Type 0 where
  pub each : IsBytes (earlier ++ piece)
  pub read : header_of (grids_of r) (earlier ++ piece) ≡ Done (length earlier + from) (map block_of r.blocks)

-- The answer for EPH, from this index of a piece on, is that of the definitions for all bytes that came.
abbrev pub JudgesEph : ReaderState → ReaderState → List ℕ → ℕ → HeaderOut → Type 0
JudgesEph r now piece from answer =
    (earlier : List ℕ) → IsRest r earlier from piece → Tells (marked_header_of (grids_of r) true (earlier ++ piece)) (counted_out (length earlier) answer) now.blocks

-- Where a reader needs a further piece for EPH, it was fed this one.
abbrev pub NeedsMoreOfEph : ReaderState → ReaderState → List ℕ → ℕ → HeaderOut → Type 0
NeedsMoreOfEph r now piece from answer = answer ≡ out.Need → (earlier : List ℕ) → IsRest r earlier from piece → IsFed now (earlier ++ piece)
