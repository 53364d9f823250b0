-- Laws of the precincts that a receiver's rules give of any frames, forged ones among them.
use Rattle.std.specs.Prelude.{◌≡◌, ◌+◌, ◌==◌, ◌++◌, ℕ, Bool, List, [], ◌∷◌, length, if◌then◌else◌}
use Rattle.std.specs.List.{AllByRecursion}
use Rattle.wire_model.specs.Framing.{whole_frames}
use Rattle.codestream_model.specs.Bytes.{IsBytes}
use Rattle.codestream_model.specs.PacketOrder.{pid}
use Rattle.codestream_model.specs.Packet.{Content, SpellsPacket}
use Rattle.stream_model.specs.Arrivals.{picked}
use Rattle.stream_model.specs.Report.{Precinct, lines, end_line}
use Rattle.stream_model.specs.Decoder.{Release, precincts_released}
use Rattle.stream_model.specs.Reading.{IsReading}
use Rattle.stream_model.specs.Receiver.{Pick, Receiver, new_receiver, take_frame, received, flushed, counts_of}
use Rattle.stream_model.specs.Commands.{counted, report_lines}

-- A precinct is a reading of these frames, and its PID is that of its place by the main header of the reading.
abbrev pub IsRead : List (List ℕ) → Precinct → Type 0
IsRead frames x = (r : IsReading frames x.stamp x.place (record { blocks = x.blocks; bytes = x.bytes })) × (x.pid ≡ pid r.head x.place)

-- What a precinct says.
abbrev pub content_of : Precinct → Content
content_of x = record { blocks = x.blocks; bytes = x.bytes }

-- A packet that is released is read from these frames: its precinct is a reading of them, with the PID of its place; its bytes are a
-- packet of the precinct that says the same; and the bytes of its main header are those of the reading's Main.
pub record IsReleased (frames : List (List ℕ)) (x : Release) : Type 0 where
  pub reading : IsReading frames x.precinct.stamp x.precinct.place (content_of x.precinct)
  pub names : x.precinct.pid ≡ pid reading.head x.precinct.place
  pub packet : SpellsPacket reading.head x.precinct.place (content_of x.precinct) x.raw
  pub header : x.header ≡ reading.main.codestream

-- Whatever bytes the frames are, each precinct that the rules give, before the end and at the end, is read from those that are
-- picked.
abbrev pub EachPrecinctIsRead : Type 0
EachPrecinctIsRead =
    (pick : Pick) (frames : List (List ℕ)) → AllByRecursion IsBytes frames
    → AllByRecursion (IsRead (picked pick.kind pick.source frames)) (precincts_released (flushed (received pick frames)).releases)

-- What was given before the end is a prefix of what is given at the end.
abbrev pub GivenStays : Type 0
GivenStays =
    (pick : Pick) (frames : List (List ℕ))
    → (more : List Release) × ((flushed (received pick frames)).releases ≡ (received pick frames).releases ++ more)

-- The frames that a receiver keeps: those at which its count of kept frames rises.
unfoldable pub kept_of : Pick → Receiver → List (List ℕ) → List (List ℕ)
kept_of pick r [] = []
kept_of pick r (f ∷ frames) =
    if (take_frame pick r f).kept == r.kept then kept_of pick (take_frame pick r f) frames else f ∷ kept_of pick (take_frame pick r f) frames

-- Each precinct is read from the frames that are kept: an old one has no part in it.
abbrev pub EachPrecinctIsKept : Type 0
EachPrecinctIsKept =
    (pick : Pick) (frames : List (List ℕ)) → AllByRecursion IsBytes frames
    → AllByRecursion (IsRead (kept_of pick (new_receiver pick) frames)) (precincts_released (flushed (received pick frames)).releases)

-- Each packet that the rules release, before the end and at the end, is read from the frames that are kept, with all its bytes and
-- the bytes of its main header.
abbrev pub EachReleaseIsRead : Type 0
EachReleaseIsRead =
    (pick : Pick) (frames : List (List ℕ)) → AllByRecursion IsBytes frames
    → AllByRecursion (IsReleased (kept_of pick (new_receiver pick) frames)) (flushed (received pick frames)).releases

-- What was given of some frames is a prefix of what is given of more.
abbrev pub GivenGrows : Type 0
GivenGrows =
    (pick : Pick) (frames later : List (List ℕ))
    → (more : List Release) × ((received pick (frames ++ later)).releases ≡ (received pick frames).releases ++ more)

-- The frames that are picked are those that the rules take: each is kept or old.
abbrev pub PickedAreTaken : Type 0
PickedAreTaken =
    (pick : Pick) (frames : List (List ℕ))
    → (flushed (received pick frames)).kept + (flushed (received pick frames)).old ≡ length (picked pick.kind pick.source frames)

-- What a report of any bytes has written are the lines of precincts that are read from the picked frames of these bytes, and, at
-- their end, the line of the counts.
abbrev pub ReportIsRead : Type 0
ReportIsRead =
    (pick : Pick) (read : List ℕ) (ended : Bool) → IsBytes read
    → (xs : List Precinct)
    × AllByRecursion (IsRead (picked pick.kind pick.source (whole_frames (counted read)))) xs
    × (report_lines pick read ended ≡ lines xs ++ (if ended then end_line (counts_of (flushed (received pick (whole_frames (counted read))))) else []))
