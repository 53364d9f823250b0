-- The reasons of the code as those of the definitions.
use Rattle.codestream_model.specs.HeaderPieces as header
use Rattle.codestream_model.specs.HeaderPieces.{HeaderRefusal}
use Rattle.codestream_model.specs.Codestream as walk
use Rattle.codestream_model.specs.Codestream.{WalkRefusal, Cut, InputTooLong, TooManyFrames}
use Rattle.j2k_markers.specs.Refusals.{refusal_of}
use Rattle.packet_header.specs.declared.refusal.HeaderWhy.{HeaderWhy}
use Rattle.packet_header.specs.declared.refusal.HeaderWhy.TheVariants as why
use Rattle.codestream_walk.specs.declared.fault.WalkWhy.{WalkWhy}
use Rattle.codestream_walk.specs.declared.fault.WalkWhy.TheVariants as reason

-- A packet header is refused for this reason of the definitions.
abbrev pub header_refusal : HeaderWhy → HeaderRefusal
header_refusal why.Stuffed = header.Stuffed
header_refusal why.Passes = header.Passes
header_refusal why.LengthBits = header.LengthBits
header_refusal why.CleanupShort = header.CleanupShort
header_refusal why.CleanupLong = header.CleanupLong
header_refusal why.RefineLong = header.RefineLong
header_refusal why.ZeroPlanes = header.ZeroPlanes
header_refusal why.NoEph = header.NoEph
header_refusal why.TooLong = header.TooLong

-- An input is refused for this reason of the definitions.
abbrev pub walk_refusal : WalkWhy → WalkRefusal
walk_refusal (reason.Head w) = walk.HeadRefused (refusal_of w)
walk_refusal reason.Cut = Cut
walk_refusal reason.TooManyBlocks = walk.TooManyBlocks
walk_refusal (reason.Header w) = walk.HeaderRefused (header_refusal w)
walk_refusal reason.PacketTooLong = walk.PacketTooLong
walk_refusal reason.Psot = walk.Psot
walk_refusal reason.NoEoc = walk.NoEoc
walk_refusal reason.InputTooLong = InputTooLong
walk_refusal reason.TooManyFrames = TooManyFrames
