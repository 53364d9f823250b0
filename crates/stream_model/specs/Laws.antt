-- What is promised of the definitions.
use Rattle.std.specs.Prelude.{◌≡◌, ◌<◌, ◌≤◌, ◌≢◌, ◌⊎◌, ◌+◌, ◌^◌, ◌++◌, ◌↔◌, ℕ, true, false, List, [], ◌∷◌, map, length, slice_index_or, Some}
use Rattle.std.specs.List.{AllByRecursion, AllZip, filter, flat_map, sum_by, range_with_len}
use Rattle.wire_model.specs.Thinning.{is_kept, kept}
use Rattle.wire_model.specs.Rtp.{FitRtp}
use Rattle.wire_model.specs.Payload.{BodyFields, PayloadFields, Main, Body}
use Rattle.wire_model.specs.Datagram.{Datagram, IsDatagram}
use Rattle.codestream_model.specs.Values.{Head}
use Rattle.codestream_model.specs.Bytes.{IsBytes}
use Rattle.codestream_model.specs.Packet.{Content}
use Rattle.codestream_model.specs.Codestream.{SpellsCodestream, joined}
use Rattle.stream_model.specs.Arrivals.{picked, Arrive, datagram_at, has_arrived, first_arrival, in_time, floor, base, positions_in_time}
use Rattle.stream_model.specs.Stream.{Parts, Sent, ArePartsOf, Carries, Carry, datagrams_of, packet_start, precinct_at, bytes_after_sod, payload_start, body_with, carried}
use Rattle.stream_model.specs.Cut.{Plan, IsPlan, Piece, Known, room, known_of, stretches, chunks, payloads, sent_by, datagram_bytes}
use Rattle.stream_model.specs.Reached.{CarriedPacket, ResyncPoint, Carried, StreamPrecinct, is_reached, precincts_by, due, due_at_end}

-- A position is in time, in words: the arrivals are some in which it isn't, then it, then others; none of those before
-- it is ahead of it by the window's size or more; and it isn't below the first arrival.
pub record IsInTime (events : List ℕ) (i window : ℕ) : Type 0 where
  pub before : List ℕ
  pub after : List ℕ
  pub splits : events ≡ before ++ i ∷ after
  pub not_yet : AllByRecursion (λ a. a ≢ i) before
  pub in_reach : AllByRecursion (λ a. a < i + window) before
  pub not_below : first_arrival events ≤ i

-- A position is in time exactly where its test says so.
abbrev pub InTimeIsComputed : Type 0
InTimeIsComputed = (events : List ℕ) (i window : ℕ) → (in_time events i window ≡ true) ↔ IsInTime events i window

-- A position is listed as in time exactly where it is.
abbrev pub InTimeIsListed : Type 0
InTimeIsListed = (events : List ℕ) (i window : ℕ) → has_arrived (positions_in_time events window) i ≡ in_time events i window

-- A repeated arrival changes nothing: what is in time with it is in time without it.
abbrev pub RepeatChangesNothing : Type 0
RepeatChangesNothing = (front back : List ℕ) (a i window : ℕ) → has_arrived front a ≡ true → in_time (front ++ a ∷ back) i window ≡ in_time (front ++ back) i window

-- What is in time stays in time.
abbrev pub InTimeStays : Type 0
InTimeStays = (events more : List ℕ) (i window : ℕ) → in_time events i window ≡ true → in_time (events ++ more) i window ≡ true

-- Without loss and in order everything is in time, whatever the window.
abbrev pub OrderedIsInTime : Type 0
OrderedIsInTime = (n i window : ℕ) → 1 ≤ window → i < n → in_time (range_with_len 0 n) i window ≡ true

-- The base is the least position, from the floor on, that isn't in time.
abbrev pub BaseIsLeast : Type 0
BaseIsLeast =
    (events : List ℕ) (window : ℕ)
    → (floor events window ≤ base events window)
    × (in_time events (base events window) window ≡ false)
    × ((i : ℕ) → floor events window ≤ i → in_time events i window ≡ false → base events window ≤ i)

-- The base never falls as positions arrive.
abbrev pub BaseNeverFalls : Type 0
BaseNeverFalls = (events more : List ℕ) (window : ℕ) → 1 ≤ window → base events window ≤ base (events ++ more) window

-- What is below the base is decided: nothing that arrives later changes whether it is in time.
abbrev pub BelowBaseIsDecided : Type 0
BelowBaseIsDecided = (events more : List ℕ) (i window : ℕ) → 1 ≤ window → i < base events window → in_time (events ++ more) i window ≡ in_time events i window

-- A datagram that is thinned away is a position that doesn't arrive.
abbrev pub ThinnedDoesNotArrive : Type 0
ThinnedDoesNotArrive = (limit : ℕ) (datagrams frames : List (List ℕ)) (events : List ℕ) → Arrive datagrams frames events → Arrive datagrams (kept limit frames) (filter (λ i. is_kept limit (datagram_at datagrams i)) events)

-- Where a source is asked for, thinning and picking can change places.
abbrev pub ThinnedThenPicked : Type 0
ThinnedThenPicked = (limit kind source : ℕ) (frames : List (List ℕ)) → picked kind (Some source) (kept limit frames) ≡ kept limit (picked kind (Some source) frames)

-- A precinct that is reached, in words: the Main is in time; one of the resync points is of a precinct at or before it; and each
-- position from that point's to the last of the packet is in time.
pub record IsReached (events : List ℕ) (window : ℕ) (c : Carried) (precinct : ℕ) (packet : CarriedPacket) : Type 0 where
  pub point : ResyncPoint
  pub before : List ResyncPoint
  pub after : List ResyncPoint
  pub main : in_time events c.main window ≡ true
  pub among : c.resyncs ≡ before ++ point ∷ after
  pub at_or_before : point.precinct ≤ precinct
  pub run : (i : ℕ) → point.at ≤ i → i ≤ packet.last → in_time events i window ≡ true

-- A precinct is reached exactly where its test says so.
abbrev pub ReachedIsComputed : Type 0
ReachedIsComputed =
    (events : List ℕ) (window : ℕ) (c : Carried) (precinct : ℕ) (packet : CarriedPacket)
    → (is_reached events window c precinct packet ≡ true) ↔ IsReached events window c precinct packet

-- The numbers never fall: none is below one before it.
abbrev pub NeverFall : List ℕ → Type 0
NeverFall [] = Unit {0}
NeverFall (a ∷ more) = AllByRecursion (λ b. a ≤ b) more × NeverFall more

-- The last datagrams of a stream's packets, in the order of the precincts.
abbrev pub last_datagrams : List Carried → List ℕ
last_datagrams stream = flat_map (λ c. map (λ p. p.last) c.packets) stream

-- The packets of a stream end in order, and none before its Main.
pub record IsInOrder (stream : List Carried) : Type 0 where
  pub ends : NeverFall (last_datagrams stream)
  pub mains : AllByRecursion (λ c. AllByRecursion (λ p. c.main ≤ p.last) c.packets) stream

-- What is due stays due, and what becomes due comes after it.
abbrev pub DueGrows : Type 0
DueGrows =
    (events more : List ℕ) (window : ℕ) (stream : List Carried) → 1 ≤ window → IsInOrder stream
    → (later : List StreamPrecinct) × (due (events ++ more) window stream ≡ due events window stream ++ later)

-- A codestream is within n datagrams, and its Main is a resync point of the first precinct.
pub record IsWithin (datagrams : ℕ) (c : Carried) : Type 0 where
  pub marks : List ResyncPoint
  pub main : c.main < datagrams
  pub packets : AllByRecursion (λ p. p.last < datagrams) c.packets
  pub starts : c.resyncs ≡ record { at = c.main; precinct = 0 } ∷ marks

-- All precincts of a stream, by codestream and then in the packet order.
abbrev pub all_precincts : List Carried → List StreamPrecinct
all_precincts stream = flat_map (λ c. precincts_by (λ k p. true) c) stream

-- Without loss and in order every precinct is due, at the end and before, whatever the window.
abbrev pub WholeIsDue : Type 0
WholeIsDue =
    (datagrams window : ℕ) (stream : List Carried) → 1 ≤ window → AllByRecursion (IsWithin datagrams) stream
    → (due (range_with_len 0 datagrams) window stream ≡ all_precincts stream)
    × (due_at_end (range_with_len 0 datagrams) window stream ≡ all_precincts stream)

-- Parts are those of an accepted codestream, and each accepted codestream has parts.
abbrev pub PartsAreOfCodestreams : Type 0
PartsAreOfCodestreams =
    ((c : Parts) (codestream : List ℕ) → ArePartsOf c codestream → SpellsCodestream c.head c.content codestream)
    × ((h : Head) (content : List Content) (codestream : List ℕ) → SpellsCodestream h content codestream → (c : Parts) × ArePartsOf c codestream × (c.head ≡ h) × (c.content ≡ content))

-- The datagrams of a stream differ, so that frames are datagrams at one list of positions at most.
abbrev pub EventsAreOne : Type 0
EventsAreOne =
    (sent : List Sent) (codestreams datagrams frames : List (List ℕ)) (events others : List ℕ)
    → Carry sent codestreams datagrams → Arrive datagrams frames events → Arrive datagrams frames others → events ≡ others

-- The byte at an offset after SOD is in the Body that is computed: between the offset of its payload and that of the
-- next.
abbrev pub BodyHasByte : Type 0
BodyHasByte =
    (bodies : List Datagram) (place : ℕ) → place < sum_by (λ x. length x.codestream) bodies
    → (body_with bodies place < length bodies)
    × (payload_start bodies (body_with bodies place) ≤ place)
    × (place < payload_start bodies (body_with bodies place + 1))

-- Where a packet begins, its precinct is found by its offset.
abbrev pub PrecinctIsFound : Type 0
PrecinctIsFound = (c : Parts) (codestream : List ℕ) (precinct : ℕ) → ArePartsOf c codestream → precinct < length c.packets → precinct_at c (packet_start c precinct) ≡ precinct

-- The packets of a stream are in order.
abbrev pub StreamIsInOrder : Type 0
StreamIsInOrder = (sent : List Sent) → AllByRecursion Carries sent → IsInOrder (carried sent)

-- The codestreams of a stream are within it; so without loss and in order every precinct of a stream is due, whatever
-- the window.
abbrev pub WholeStreamIsDue : Type 0
WholeStreamIsDue =
    (sent : List Sent) (codestreams datagrams : List (List ℕ)) (window : ℕ) → Carry sent codestreams datagrams → 1 ≤ window
    → AllByRecursion (IsWithin (length datagrams)) (carried sent)
    × (due_at_end (range_with_len 0 (length datagrams)) window (carried sent) ≡ all_precincts (carried sent))

-- Each value of a Body header fits its field, and with ORDB 1 the byte at POS is one of the codestream bytes.
pub record FitBody (h : BodyFields) (codestream : List ℕ) : Type 0 where
  pub res : h.res < 2 ^ 3
  pub eseq : h.eseq < 2 ^ 8
  pub pos : h.pos < 2 ^ 12
  pub pid : h.pid < 2 ^ 20
  pub marked : h.ordb ≡ true → h.pos < length codestream

-- The values of a payload header fit; our sender's Main has no skipped bytes.
abbrev pub FitPayload : PayloadFields → List ℕ → Type 0
FitPayload (Main h) codestream = (h.xtrac ≡ 0) × (h.eseq < 2 ^ 8) × (h.ordh < 2 ^ 3)
FitPayload (Body h) codestream = FitBody h codestream

-- What our sender writes is a datagram with the values that it means.
abbrev pub WrittenIsDatagram : Type 0
WrittenIsDatagram = (x : Datagram) → FitRtp x.rtp → FitPayload x.payload x.codestream → length x.codestream ≤ 8980 → IsDatagram x (datagram_bytes x)

-- The payloads of a stretch, joined, are the stretch, and each but the last is full.
abbrev pub ChunksAreFull : Type 0
ChunksAreFull =
    (room : ℕ) (bytes : List ℕ) → 1 ≤ room
    → (joined (chunks room bytes) ≡ bytes)
    × ((i : ℕ) → i + 1 < length (chunks room bytes) → length (slice_index_or (chunks room bytes) i []) ≡ room)

-- These are packets of this resolution, and at least one.
abbrev pub IsRun : ℕ × List Piece → Type 0
IsRun run = (1 ≤ length run.1) × AllByRecursion (λ x. x.place.r ≡ run.0) run.1

-- Neighbours have different resolutions.
abbrev pub AreApart : List (ℕ × List Piece) → Type 0
AreApart [] = Unit {0}
AreApart (a ∷ []) = Unit {0}
AreApart (a ∷ b ∷ more) = (a.0 ≢ b.0) × AreApart (b ∷ more)

-- In plain mode all packets are one stretch; in `split` mode the stretches are the longest runs of packets of one
-- resolution.
abbrev pub StretchesAreRuns : Type 0
StretchesAreRuns =
    ((x : Piece) (more : List Piece) → stretches false (x ∷ more) ≡ joined (map (λ y. y.bytes) (x ∷ more)) ∷ [])
    × ((pieces : List Piece)
    → (runs : List (ℕ × List Piece)) × (flat_map (λ run. run.1) runs ≡ pieces) × AllByRecursion IsRun runs × AreApart runs
    × (stretches true pieces ≡ map (λ run. joined (map (λ y. y.bytes) run.1)) runs))

-- The payloads of a codestream's cut, joined, are the bytes after SOD; none is empty, and none has more bytes than
-- there is room for.
abbrev pub PayloadsAreWhole : Type 0
PayloadsAreWhole =
    (p : Plan) (c : Parts) → 1 ≤ room p → length c.places ≡ length c.packets
    → (joined (payloads p (known_of c)) ≡ bytes_after_sod c)
    × AllByRecursion (λ payload. (1 ≤ length payload) × (length payload ≤ room p)) (payloads p (known_of c))

-- More of a codestream is there: nothing was there of its packets, or of the last one more bytes are there, and packets
-- after it.
abbrev pub HasGrown : List Piece → List Piece → Type 0
HasGrown was now =
    (was ≡ [])
    ⊎ ((front : List Piece) × (last : Piece) × (extra : List ℕ) × (more : List Piece)
    × (was ≡ front ++ last ∷ []) × (now ≡ front ++ record { place = last.place; bytes = last.bytes ++ extra } ∷ more))

-- A payload that is closed stays as it is: those that are closed before EOC is there are the first of those that are
-- closed later.
abbrev pub ClosedStays : Type 0
ClosedStays =
    (p : Plan) (was now : Known) → 1 ≤ room p → was.ended ≡ false → HasGrown was.pieces now.pieces
    → (more : List (List ℕ)) × (payloads p now ≡ payloads p was ++ more)

-- The cut of at most 65,536 codestreams whose main headers have room in a datagram, in fewer than 2^23 datagrams, is a
-- stream that carries them.
abbrev pub CutIsStream : Type 0
CutIsStream =
    (p : Plan) (parts : List Parts) (codestreams : List (List ℕ))
    → IsPlan p → AllZip (λ c codestream. ArePartsOf c codestream) parts codestreams → AllByRecursion IsBytes codestreams
    → AllByRecursion (λ c. length c.header ≤ room p) parts
    → length codestreams ≤ 65536 → length (flat_map datagrams_of (sent_by p parts)) < 2 ^ 23
    → Carry (sent_by p parts) codestreams (map datagram_bytes (flat_map datagrams_of (sent_by p parts)))
