-- The answers of the code as those of the definitions.
use Rattle.std.specs.Prelude.{◌≡◌, ℕ, List, map, Option, Result, Ok, Err, nat_lt, if◌then◌else◌}
use Rattle.codestream_model.specs.Values as values
use Rattle.codestream_model.specs.HeaderPieces.{HeaderRefusal, Stuffed, ZeroPlanes, Passes, LengthBits, CleanupShort, CleanupLong, RefineLong, TooLong, NoEph}
use Rattle.codestream_model.specs.PacketHeaderReading.{HeaderReading, Done, Need, Bad}
use Rattle.stuffed_bits.specs.BitsRead.{stop_by}
use Rattle.stuffed_bits.specs.declared.stop.Stop.{Stop}
use Rattle.stuffed_bits.specs.declared.stop.Stop.TheVariants as bits
use Rattle.tag_tree.specs.declared.stop.LabelStop.{LabelStop}
use Rattle.tag_tree.specs.declared.stop.LabelStop.TheVariants as label
use Rattle.packet_header.specs.declared.block.Block.{Block}
use Rattle.packet_header.specs.declared.refusal.HeaderWhy.{HeaderWhy}
use Rattle.packet_header.specs.declared.refusal.HeaderWhy.TheVariants as why
use Rattle.packet_header.specs.declared.refusal.HeaderOut.{HeaderOut}
use Rattle.packet_header.specs.declared.refusal.HeaderOut.TheVariants as out
use Rattle.packet_header.specs.declared.refusal.HeaderStop.{HeaderStop}
use Rattle.packet_header.specs.declared.refusal.HeaderStop.TheVariants as stop

-- A code-block of the code as one of the definitions.
abbrev pub block_of : Block → values.Block
block_of b = record { band = b.band; col = b.col; row = b.row; planes = b.planes; passes = b.passes; cleanup = b.cleanup; refine = b.refine }

-- A reason of the definitions as one of the code.
abbrev pub why_of : HeaderRefusal → HeaderWhy
why_of Stuffed = why.Stuffed
why_of ZeroPlanes = why.ZeroPlanes
why_of Passes = why.Passes
why_of LengthBits = why.LengthBits
why_of CleanupShort = why.CleanupShort
why_of CleanupLong = why.CleanupLong
why_of RefineLong = why.RefineLong
why_of TooLong = why.TooLong
why_of NoEph = why.NoEph

-- What stops the reading of a header, by what stops the reading of bits.
abbrev pub stop_of : Stop → HeaderStop
stop_of bits.Need = stop.Need
stop_of bits.Stuffed = stop.Bad why.Stuffed

-- What stops the reading of a header, by what stops the reading of a label.
abbrev pub label_stop_of : LabelStop → HeaderStop
label_stop_of label.Need = stop.Need
label_stop_of label.Stuffed = stop.Bad why.Stuffed
label_stop_of label.TooGreat = stop.Bad why.ZeroPlanes

-- What stops the reading of a header where no bit is left, by where the stuffing is broken, if it is.
abbrev pub stop_at : Option ℕ → HeaderStop
stop_at broken_at = stop_of (stop_by broken_at)

-- An answer to bits as one to a header.
abbrev pub header_answer : {X : Type 0} → Result X Stop → Result X HeaderStop
header_answer (Ok x) = Ok x
header_answer (Err stopped) = Err (stop_of stopped)

-- An answer to a label as one to a header.
abbrev pub leaf_answer : Result ℕ LabelStop → Result ℕ HeaderStop
leaf_answer (Ok v) = Ok v
leaf_answer (Err stopped) = Err (label_stop_of stopped)

-- The answer for `bytes` bytes of a header, by what stopped the reader.
abbrev pub out_at : ℕ → HeaderStop → HeaderOut
out_at bytes (stop.Bad reason) = out.Bad reason
out_at bytes stop.Need = if nat_lt bytes 65536 then out.Need else out.Bad why.TooLong

-- The answer is that of the definitions, and these are the code-blocks where it is a header.
abbrev pub Tells : HeaderReading → HeaderOut → List Block → Type 0
Tells (Done used blocks) answer held = (answer ≡ out.Done used) × (map block_of held ≡ blocks)
Tells Need answer held = answer ≡ out.Need
Tells (Bad reason) answer held = answer ≡ out.Bad (why_of reason)
