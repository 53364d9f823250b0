-- Codestreams built again from packets that were released. A precinct of which no packet was released has an empty one.
use Rattle.std.specs.Prelude.{◌==◌, ◌&&◌, ◌++◌, ℕ, Bool, true, false, List, [], ◌∷◌, Option, Some, None, Result, Ok, Err, length, if◌then◌else◌}
use Rattle.std.specs.List.{flat_map, list_any, range_with_len, enumerate_from}
use Rattle.codestream_model.specs.Values.{Head, Place}
use Rattle.codestream_model.specs.MainHeaderReading.{head_of, Refused}
use Rattle.codestream_model.specs.PacketOrder.{packet_order}
use Rattle.wire_model.specs.Framing.{whole_frames}
use Rattle.stream_model.specs.Stream.{Parts, Sent, carried_at, main_position, packet_span}
use Rattle.stream_model.specs.Reached.{is_reached}
use Rattle.stream_model.specs.Decoder.{Release, is_place}
use Rattle.stream_model.specs.Receiver.{Pick, Receiver, received, flushed}
use Rattle.stream_model.specs.Commands.{counted}
use Rattle.rebuild_model.specs.Stripping.{stripped}

-- EOC (T.800 A.4.4).
abbrev pub eoc : List ℕ
eoc = 255 ∷ 217 ∷ []

-- The empty packet: a packet header of one bit, 0, in a byte (B.10.3), and EPH where the main header asks for it.
abbrev pub empty_packet : Head → List ℕ
empty_packet h = 0 ∷ (if h.eph then 255 ∷ 146 ∷ [] else [])

-- An empty packet for each of these precincts.
abbrev pub empty_packets : Head → List Place → List ℕ
empty_packets h places = flat_map (λ p. empty_packet h) places

-- A codestream that is open: the number and the values of its main header, and the precincts whose packets are still to come, in
-- the packet order.
pub record Open : Type 0 where
  pub heads : ℕ
  pub head : Head
  pub later : List Place

-- The precincts before one, and all where it isn't among them.
abbrev pub places_before : Place → List Place → List Place
places_before p [] = []
places_before p (q ∷ places) = if is_place p q then [] else q ∷ places_before p places

-- The precincts after one.
abbrev pub places_after : Place → List Place → List Place
places_after p [] = []
places_after p (q ∷ places) = if is_place p q then places else places_after p places

-- Whether a packet goes into the codestream that is open: its main header is the same, and its precinct is still to come.
abbrev pub goes_on : Option Open → Release → Bool
goes_on None x = false
goes_on (Some o) x = (o.heads == x.heads) && list_any (is_place x.precinct.place) o.later

-- What closes the codestream that is open: the empty packets that are left, and EOC.
abbrev pub closing : Option Open → List ℕ
closing None = []
closing (Some o) = empty_packets o.head o.later ++ eoc

-- The empty packets up to a packet, and the packet.
abbrev pub up_to_packet : Head → List Place → Release → List ℕ
up_to_packet h places x = empty_packets h (places_before x.precinct.place places) ++ x.raw

-- A new codestream, up to this packet.
abbrev pub beginning : Result Head Refused → Release → List ℕ
beginning (Err why) x = []
beginning (Ok h) x = stripped x.header ++ up_to_packet h (packet_order h) x

-- The new codestream after that packet.
abbrev pub begun : Result Head Refused → Release → Option Open
begun (Err why) x = None
begun (Ok h) x = Some (record { heads = x.heads; head = h; later = places_after x.precinct.place (packet_order h) })

-- What a released packet adds to a codestream that it goes into.
abbrev pub joining : Option Open → Release → List ℕ
joining None x = []
joining (Some o) x = up_to_packet o.head o.later x

-- That codestream after the packet.
abbrev pub joined_by : Option Open → Release → Option Open
joined_by None x = None
joined_by (Some o) x = Some (record o { later = places_after x.precinct.place o.later })

-- What a released packet adds: it goes into the codestream that is open, or that one is closed and a new one begins.
abbrev pub added : Option Open → Release → List ℕ
added current x = if goes_on current x then joining current x else closing current ++ beginning (head_of x.header) x

-- The codestream that is open after a released packet.
abbrev pub open_after : Option Open → Release → Option Open
open_after current x = if goes_on current x then joined_by current x else begun (head_of x.header) x

-- What these released packets add, one after another, and with `ended` what closes the last codestream.
unfoldable pub rebuilt : Bool → Option Open → List Release → List ℕ
rebuilt ended current [] = if ended then closing current else []
rebuilt ended current (x ∷ xs) = added current x ++ rebuilt ended (open_after current x) xs

-- The codestream that is open after these released packets.
unfoldable pub open_at_end : Option Open → List Release → Option Open
open_at_end current [] = current
open_at_end current (x ∷ xs) = open_at_end (open_after current x) xs

-- What `rebuild` has written of a capture, before its end or at it.
abbrev pub rebuilt_by : Receiver → Bool → List ℕ
rebuilt_by r ended = if ended then rebuilt true None (flushed r).releases else rebuilt false None r.releases

-- What `rebuild` has written of a capture of which these bytes were read.
abbrev pub rebuild_output : Pick → List ℕ → Bool → List ℕ
rebuild_output pick read ended = rebuilt_by (received pick (whole_frames (counted read))) ended

-- A packet of a codestream that was sent where its number passes a test, and else the empty packet.
abbrev pub packet_if : Head → (ℕ → Bool) → ℕ × List ℕ → List ℕ
packet_if h test x = if test x.0 then x.1 else empty_packet h

-- A codestream that was sent, with empty packets in place of those whose numbers don't pass a test.
abbrev pub codestream_with : (ℕ → Bool) → Parts → List ℕ
codestream_with test c = stripped c.header ++ (flat_map (packet_if c.head test) (enumerate_from 0 c.packets) ++ eoc)

-- The same, or nothing where no packet passes.
abbrev pub codestream_if_any : (ℕ → Bool) → Parts → List ℕ
codestream_if_any test c = if list_any test (range_with_len 0 (length c.packets)) then codestream_with test c else []

-- The codestreams of a stream of which a precinct is reached, each with the packets that are reached.
abbrev pub rebuilt_stream : List ℕ → ℕ → List Sent → List ℕ
rebuilt_stream events window sent =
    flat_map (λ x. codestream_if_any (λ k. is_reached events window (carried_at (main_position sent x.0) x.1) k (packet_span x.1 (main_position sent x.0) k)) x.1.parts)
    (enumerate_from 0 sent)
