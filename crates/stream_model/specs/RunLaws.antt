-- What the decoder's rules make of the datagrams of a stream that are handed on to them in order, where some are missing.
use Rattle.std.specs.Prelude.{◌≡◌, ◌+◌, ◌-◌, ◌&&◌, ◌++◌, ℕ, Bool, List, [], ◌∷◌, length, nat_le, Option, Some, None, if◌then◌else◌}
use Rattle.std.specs.List.{list_any, list_all, flat_map, range_with_len, enumerate_from}
use Rattle.wire_model.specs.Datagram.{Datagram}
use Rattle.stream_model.specs.Report.{Precinct}
use Rattle.codestream_model.specs.Values.{Place}
use Rattle.codestream_model.specs.PacketOrder.{pid}
use Rattle.codestream_model.specs.Packet.{Content}
use Rattle.stream_model.specs.Decoder.{Current, Decoder, at_start, one_more, Release, precincts_released, Settled, settled, take_gap}
use Rattle.stream_model.specs.Receiver.{decoded}
use Rattle.stream_model.specs.Stream.{Sent, Carry, datagrams_of, packet_span, carried_at, main_position}
use Rattle.stream_model.specs.Reached.{CarriedPacket, Carried}
use Rattle.stream_model.specs.CommandLaws.{precincts_of}

-- Packets that were released before others.
abbrev pub given_before : List Release → Settled → Settled
given_before xs s = record s { releases = xs ++ s.releases }

-- What the rules give of items that are handed on: a datagram is decoded, and the rules followed until they wait; a gap
-- drops the run.
abbrev pub fed : Decoder → List (Option Datagram) → Settled
fed d [] = record { releases = []; decoder = d }
fed d (Some x ∷ items) = given_before (settled (decoded d x x.payload)).releases (fed (settled (decoded d x x.payload)).decoder items)
fed d (None ∷ items) = fed (take_gap d) items

-- What is handed on of datagrams whose positions count up from one: those that are there, and a gap for each other one.
abbrev pub handed : (ℕ → Bool) → ℕ → List Datagram → List (Option Datagram)
handed there at [] = []
handed there at (x ∷ xs) = (if there at then Some x else None) ∷ handed there (at + 1) xs

-- Whether a precinct is reached by the positions that are there: the Main of its codestream is there, and so is each
-- datagram from that of a resync point of a precinct at or before it to the last that has a byte of its packet.
abbrev pub reaches : (ℕ → Bool) → Carried → ℕ → CarriedPacket → Bool
reaches there c precinct packet =
    there c.main && list_any (λ r. nat_le r.precinct precinct && list_all there (range_with_len r.at (packet.last + 1 - r.at))) c.resyncs

-- The items, counted from this number on, whose numbers pass a test.
abbrev pub passing : {A : Type 0} → (ℕ → Bool) → ℕ → List A → List A
passing test k [] = []
passing test k (x ∷ xs) = if test k then x ∷ passing test (k + 1) xs else passing test (k + 1) xs

-- All precincts of a codestream that is sent, with their contents, in the packet order.
abbrev pub precincts_in : Sent → List Precinct
precincts_in s = precincts_of s.parts.head s.stamp s.parts.places s.parts.content

-- The precincts of a stream that are reached, by codestream and then in the packet order.
abbrev pub reached_in : (ℕ → Bool) → List Sent → List Precinct
reached_in there sent =
    flat_map (λ x. passing (λ k. reaches there (carried_at (main_position sent x.0) x.1) k (packet_span x.1 (main_position sent x.0) k)) 0 (precincts_in x.1))
    (enumerate_from 0 sent)

-- The main header in force while a codestream that is sent comes in.
abbrev pub current_of : Sent → Current
current_of s = record { stamp = s.stamp; head = s.parts.head; header = s.parts.header; order = s.parts.places }

-- The release of a packet of this precinct that says this, where `heads` main headers were taken by then.
abbrev pub release_of : Current → ℕ → Place → Content → List ℕ → Release
release_of c heads p x packet = record {
  precinct = record { stamp = c.stamp; pid = pid c.head p; place = p; blocks = x.blocks; bytes = x.bytes };
  raw = packet;
  header = c.header;
  heads = heads;
}

-- The releases of packets of these precincts that say this.
abbrev pub releases_of : Current → ℕ → List Place → List Content → List (List ℕ) → List Release
releases_of c heads [] content packets = []
releases_of c heads (p ∷ places) [] packets = []
releases_of c heads (p ∷ places) (x ∷ content) [] = []
releases_of c heads (p ∷ places) (x ∷ content) (b ∷ packets) = release_of c heads p x b ∷ releases_of c heads places content packets

-- The releases of all packets of a codestream that is sent, in the packet order.
abbrev pub releases_in : ℕ → Sent → List Release
releases_in heads s = releases_of (current_of s) heads s.parts.places s.parts.content s.parts.packets

-- The number of main headers taken after one more Main, where it is there.
abbrev pub heads_after : Bool → ℕ → ℕ
heads_after here heads = if here then one_more heads else heads

-- The releases of the packets of a stream that are reached, by codestream and then in the packet order, where the first Main has
-- this position and this many main headers were taken before it.
abbrev pub releases_reached : (ℕ → Bool) → ℕ → ℕ → List Sent → List Release
releases_reached there main heads [] = []
releases_reached there main heads (s ∷ sent) =
    passing (λ k. reaches there (carried_at main s) k (packet_span s main k)) 0 (releases_in (heads_after (there main) heads) s)
    ++ releases_reached there (main + length (datagrams_of s)) (heads_after (there main) heads) sent

-- Nothing was counted as unsupported, as disagreeing or as broken.
pub record HasNoComplaint (d : Decoder) : Type 0 where
  pub unsupported : d.unsupported ≡ 0
  pub disagreed : d.disagreed ≡ 0
  pub broken : d.broken ≡ 0

-- The rules give exactly the precincts that are reached, each once, in order and with its content, and complain of nothing,
-- whichever datagrams of a stream are there.
abbrev pub RunsGiveWhatIsReached : Type 0
RunsGiveWhatIsReached =
    (sent : List Sent) (codestreams datagrams : List (List ℕ)) (there : ℕ → Bool) → Carry sent codestreams datagrams
    → (precincts_released (fed at_start (handed there 0 (flat_map datagrams_of sent))).releases ≡ reached_in there sent)
    × HasNoComplaint (fed at_start (handed there 0 (flat_map datagrams_of sent))).decoder

-- The rules release exactly the packets that are reached, each with all its bytes, under the main header of its codestream.
abbrev pub RunsReleaseWhatIsReached : Type 0
RunsReleaseWhatIsReached =
    (sent : List Sent) (codestreams datagrams : List (List ℕ)) (there : ℕ → Bool) → Carry sent codestreams datagrams
    → (fed at_start (handed there 0 (flat_map datagrams_of sent))).releases ≡ releases_reached there 0 0 sent
