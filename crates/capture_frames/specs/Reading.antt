-- What reading a frame does, by the answer.
use Rattle.std.specs.Prelude.{◌≡◌, ◌≢◌, ◌<◌, ◌≤◌, ◌+◌, ◌-◌, ◌*◌, ◌^◌, ◌==◌, ℕ, true, false, List, [], length, take, if◌then◌else◌, nat_le, slice_index}
use Rattle.wire_model.specs.Framing.{frame, IsPartial}
use Rattle.scl_outside.specs.Meaning.{Meaning}
use Rattle.scl_outside.specs.Events.{Event}
use Rattle.scl_outside.specs.Effects.{Effects, nothing, only_read, read_to_end, read_until_failed, effects}
use Rattle.scl_outside.specs.Traces.{Trace, AtReads}
use Rattle.capture_frames.specs.FramesState.{FramesState}
use Rattle.capture_frames.specs.declared.filling.Filled.{Filled}
use Rattle.capture_frames.specs.declared.filling.Filled.TheVariants.{All, Short, Failed}
use Rattle.capture_frames.specs.declared.filling.Fetched.{Fetched}
use Rattle.capture_frames.specs.declared.filling.Fetched.TheVariants.{All as Whole_part, Short as Short_part, Past, Failed as Failed_part}
use Rattle.capture_frames.specs.declared.reader.FrameOut.{FrameOut}
use Rattle.capture_frames.specs.declared.reader.FrameOut.TheVariants.{Whole, Empty, Oversize, End, Cut, TooLong, ReadFault}

-- so far only reads were made, and of fewer than n bytes
abbrev pub Below : ℕ → Effects → Type 0
Below n f = (f ≡ only_read f.read) × (length f.read < n)

-- the bytes that filled a buffer, by the answer
abbrev pub FillGives : Filled → List ℕ → Effects → Type 0
FillGives All buf f = f ≡ only_read buf
FillGives (Short n) buf f = (n < length buf) × (f ≡ read_to_end (take n buf))
FillGives Failed buf f = (bytes : List ℕ) × (length bytes < length buf) × (f ≡ read_until_failed bytes)

-- a buffer is filled: only reads, each before the buffer is full
pub record Fills (s t : Meaning) (result : Filled) (buf : List ℕ) (es : List Event) : Type 0 where
  pub trace : Trace s es t
  pub within : AtReads (Below (length buf)) nothing es
  pub gives : FillGives result buf (effects es)

-- how many bytes were passed over, by the answer
abbrev pub SkipGives : Filled → ℕ → Effects → Type 0
SkipGives All len f = (bytes : List ℕ) × (length bytes ≡ len) × (f ≡ only_read bytes)
SkipGives (Short n) len f = (bytes : List ℕ) × (length bytes ≡ n) × (n < len) × (f ≡ read_to_end bytes)
SkipGives Failed len f = (bytes : List ℕ) × (length bytes < len) × (f ≡ read_until_failed bytes)

-- bytes are passed over: only reads, each before all are
pub record Skips (s t : Meaning) (result : Filled) (len : ℕ) (es : List Event) : Type 0 where
  pub trace : Trace s es t
  pub within : AtReads (Below len) nothing es
  pub gives : SkipGives result len (effects es)

-- the bytes that were taken, by the answer: at the buffer's front where they fit
abbrev pub TakeGives : Filled → ℕ → List ℕ → Effects → Type 0
TakeGives All len buf f = (bytes : List ℕ) × (length bytes ≡ len) × (len ≤ length buf → bytes ≡ take len buf) × (f ≡ only_read bytes)
TakeGives (Short n) len buf f = (bytes : List ℕ) × (length bytes ≡ n) × (n < len) × (f ≡ read_to_end bytes)
TakeGives Failed len buf f = (bytes : List ℕ) × (length bytes < len) × (f ≡ read_until_failed bytes)

pub record Takes (s t : Meaning) (result : Filled) (len : ℕ) (buf : List ℕ) (es : List Event) : Type 0 where
  pub trace : Trace s es t
  pub within : AtReads (Below len) nothing es
  pub gives : TakeGives result len buf (effects es)

-- so far only reads were made, of fewer bytes than are wished for and no more than are left
abbrev pub Wishes : ℕ → ℕ → Effects → Type 0
Wishes len left f = (f ≡ only_read f.read) × (length f.read < len) × (length f.read ≤ left)

-- the bytes that were wished for, by the answer: all of them, at the buffer's front where they fit; fewer, where the
-- input is over; or one more than were left
abbrev pub FetchGives : Fetched → ℕ → ℕ → List ℕ → Effects → Type 0
FetchGives Whole_part len left buf f =
    (bytes : List ℕ) × (length bytes ≡ len) × (len ≤ left) × (len ≤ length buf → bytes ≡ take len buf) × (f ≡ only_read bytes)
FetchGives (Short_part n) len left buf f = (bytes : List ℕ) × (length bytes ≡ n) × (n < len) × (n ≤ left) × (f ≡ read_to_end bytes)
FetchGives Past len left buf f = (bytes : List ℕ) × (length bytes ≡ left + 1) × (left < len) × (f ≡ only_read bytes)
FetchGives Failed_part len left buf f = (bytes : List ℕ) × (length bytes < len) × (length bytes ≤ left) × (f ≡ read_until_failed bytes)

pub record Fetches (s t : Meaning) (result : Fetched) (len left : ℕ) (buf : List ℕ) (es : List Event) : Type 0 where
  pub trace : Trace s es t
  pub within : AtReads (Wishes len left) nothing es
  pub gives : FetchGives result len left buf (effects es)

-- the length that two bytes spell
abbrev pub body_length : List ℕ → ℕ
body_length head = slice_index head 0 * 256 + slice_index head 1

-- the answer for a whole frame of this length
abbrev pub answer_for : ℕ → FrameOut
answer_for n = if n == 0 then Empty else (if nat_le n 9000 then Whole n else Oversize n)

-- the most bytes of a capture that are read, and how many of them are left at an offset
abbrev pub input_limit : ℕ
input_limit = 1099511627776

abbrev pub left_at : ℕ → ℕ
left_at offset = input_limit - offset

-- so far only reads were made, of less than a whole frame and within the limit
abbrev pub InsideFrame : ℕ → Effects → Type 0
InsideFrame left f = (f ≡ only_read f.read) × IsPartial f.read × (length f.read ≤ left)

-- what was read, by the answer: one frame; nothing at the input's end; less than a frame at its end inside one, or
-- before a read that failed; one byte past the limit
abbrev pub FrameGives : FrameOut → ℕ → List ℕ → Effects → Type 0
FrameGives (Whole n) offset buf f = (1 ≤ n) × (n ≤ 9000) × (2 + n ≤ left_at offset) × (f ≡ only_read (frame (take n buf)))
FrameGives Empty offset buf f = (2 ≤ left_at offset) × (f ≡ only_read (frame []))
FrameGives (Oversize n) offset buf f = (d : List ℕ) × (length d ≡ n) × (9000 < n) × (n < 2 ^ 16) × (2 + n ≤ left_at offset) × (f ≡ only_read (frame d))
FrameGives End offset buf f = f ≡ read_to_end []
FrameGives (Cut at) offset buf f =
    (bytes : List ℕ) × (at ≡ offset) × (bytes ≢ []) × IsPartial bytes × (length bytes ≤ left_at offset) × (f ≡ read_to_end bytes)
FrameGives TooLong offset buf f = (bytes : List ℕ) × (length bytes ≡ left_at offset + 1) × IsPartial (take (left_at offset) bytes) × (f ≡ only_read bytes)
FrameGives ReadFault offset buf f = (bytes : List ℕ) × IsPartial bytes × (length bytes ≤ left_at offset) × (f ≡ read_until_failed bytes)

-- one frame of the duct, from this offset: only reads, each inside the frame
pub record ReadsFrame (offset : ℕ) (s t : Meaning) (result : FrameOut) (buf : List ℕ) (es : List Event) : Type 0 where
  pub trace : Trace s es t
  pub within : AtReads (InsideFrame (left_at offset)) nothing es
  pub gives : FrameGives result offset buf (effects es)

-- a reader at a capture's start
abbrev pub start : FramesState
start = record { offset = 0; live = true }

-- the reader after an answer: past the frame, or at its end
abbrev pub state_after : FramesState → FrameOut → FramesState
state_after r (Whole n) = record r { offset = r.offset + (2 + n) }
state_after r Empty = record r { offset = r.offset + 2 }
state_after r (Oversize n) = record r { offset = r.offset + (2 + n) }
state_after r out = record r { live = false }
