-- An input of codestreams, one after another.
use Rattle.std.specs.Prelude.{◌≡◌, ◌≤◌, ◌⊎◌, ◌+◌, ℕ, List, length}
use Rattle.codestream_model.specs.HeaderPieces as header
use Rattle.codestream_model.specs.HeaderPieces.{HeaderRefusal}
use Rattle.codestream_model.specs.Codestream.{WalkRefusal, HeadRefused, Cut, TooManyBlocks, HeaderRefused, PacketTooLong, Psot, NoEoc, InputTooLong, TooManyFrames, Faults, IsInput}
use Rattle.codestream_walk.specs.InHand.{input_limit}
use Rattle.j2k_markers.specs.Refusals.{why_of}
use Rattle.scl_run.specs.declared.ending.Reason.{Reason}
use Rattle.scl_run.specs.declared.ending.Reason.TheVariants as reason
use Rattle.scl_run.specs.declared.ending.Refusal.{Refusal}
use Rattle.scl_run.specs.InputClass.{InputClass}

-- The reason that is noted for a refused packet header.
abbrev pub header_reason : HeaderRefusal → Reason
header_reason header.Stuffed = reason.Stuffed
header_reason header.ZeroPlanes = reason.ZeroPlanes
header_reason header.Passes = reason.Passes
header_reason header.LengthBits = reason.LengthBits
header_reason header.CleanupShort = reason.CleanupShort
header_reason header.CleanupLong = reason.CleanupLong
header_reason header.RefineLong = reason.RefineLong
header_reason header.TooLong = reason.PacketHeaderTooLong
header_reason header.NoEph = reason.NoEph

-- The reason that is noted for a fault of the input.
abbrev pub reason_for : WalkRefusal → Reason
reason_for (HeadRefused why) = reason.Header (why_of why)
reason_for Cut = reason.Cut
reason_for TooManyBlocks = reason.TooManyBlocks
reason_for (HeaderRefused why) = header_reason why
reason_for PacketTooLong = reason.PacketTooLong
reason_for Psot = reason.Psot
reason_for NoEoc = reason.NoEoc
reason_for InputTooLong = reason.InputTooLong
reason_for TooManyFrames = reason.TooManyCodestreams

-- The input is whole codestreams, and not too many.
abbrev pub AreWholeCodestreams : List ℕ → Type 0
AreWholeCodestreams input = (codestreams : List (List ℕ)) × IsInput input codestreams

-- The first fault of the input is at this offset and for this reason.
abbrev pub RefusesCodestreams : List ℕ → Refusal → Type 0
RefusesCodestreams input r = (why : WalkRefusal) × (r.reason ≡ reason_for why) × Faults input r.at why

-- The bytes read so far leave open what the input is: they are whole codestreams, or end inside one without another fault.
abbrev pub LeavesOpen : List ℕ → Type 0
LeavesOpen read = AreWholeCodestreams read ⊎ Faults read (length read) Cut

-- Inputs of codestreams, read to their end or to the first byte after which they are refused whatever follows.
abbrev pub codestreams_input : InputClass
codestreams_input = record {
  Accepts = AreWholeCodestreams;
  Refuses = RefusesCodestreams;
  AcceptsAtEnd = Unit {0};
  RefusesAtEnd = λ why. why ≡ reason.Cut;
  Wants = LeavesOpen;
  Fits = λ read. length read ≤ input_limit + 1;
}
