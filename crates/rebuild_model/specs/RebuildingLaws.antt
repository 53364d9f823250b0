-- What is promised of codestreams that are built again.
use Rattle.std.specs.Prelude.{◌≡◌, ◌⊎◌, ◌<◌, ◌≤◌, ◌-◌, ◌^◌, ◌++◌, ℕ, Bool, true, false, List, [], None, length, map, if◌then◌else◌}
use Rattle.std.specs.List.{AllByRecursion, AllZip, enumerate_from}
use Rattle.codestream_model.specs.Values.{Head, Place}
use Rattle.codestream_model.specs.Bytes.{IsBytes}
use Rattle.codestream_model.specs.MainHeader.{SpellsHead}
use Rattle.codestream_model.specs.Precincts.{IsPrecinct}
use Rattle.codestream_model.specs.PacketOrder.{IsPacketOrder}
use Rattle.codestream_model.specs.Packet.{Content, HasFewBlocks, SpellsPacket}
use Rattle.codestream_model.specs.Codestream.{SpellsCodestream, IsCodestream, joined}
use Rattle.stream_model.specs.Arrivals.{Arrive, picked}
use Rattle.stream_model.specs.Stream.{Parts, Sent, ArePartsOf, Carry}
use Rattle.stream_model.specs.Decoder.{Release}
use Rattle.stream_model.specs.Receiver.{Pick, new_receiver, received}
use Rattle.stream_model.specs.ReadingLaws.{kept_of, IsReleased}
use Rattle.rebuild_model.specs.Stripping.{stripped}
use Rattle.rebuild_model.specs.Rebuilding.{eoc, empty_packet, codestream_with, rebuilt, rebuilt_by, rebuilt_stream}

-- The content of an empty packet.
abbrev pub no_blocks : Content
no_blocks = record { blocks = []; bytes = [] }

-- The empty packet is a packet of each precinct that doesn't have too many code-blocks, and it says nothing.
abbrev pub EmptyPacketIsPacket : Type 0
EmptyPacketIsPacket = (h : Head) (p : Place) → HasFewBlocks h p → SpellsPacket h p no_blocks (empty_packet h)

-- What the packets say, where their numbers pass a test.
abbrev pub contents_with : (ℕ → Bool) → List Content → List Content
contents_with test content = map (λ x. if test x.0 then x.1 else no_blocks) (enumerate_from 0 content)

-- A codestream that was sent, with only some of its packets, is accepted. It says what the packets say that are there, and nothing
-- where they aren't. Its main header has the same values, but for Psot, the offset of SOT and the length.
abbrev pub SomePacketsAreAccepted : Type 0
SomePacketsAreAccepted =
    (c : Parts) (codestream : List ℕ) (test : ℕ → Bool) → ArePartsOf c codestream
    → (sot : ℕ)
    × SpellsCodestream (record (c.head) { psot = 0; sot = sot; length = length (stripped c.header) }) (contents_with test c.content) (codestream_with test c)

-- Of a stream exactly the codestreams are built again of which a precinct is reached, each with exactly the packets that are
-- reached, whatever is lost, repeated or reordered.
abbrev pub RebuiltIsWhatIsReached : Type 0
RebuiltIsWhatIsReached =
    (sent : List Sent) (codestreams datagrams frames : List (List ℕ)) (events : List ℕ) (pick : Pick)
    → Carry sent codestreams datagrams → 1 ≤ pick.window → Arrive datagrams (picked pick.kind pick.source frames) events
    → rebuilt_by (received pick frames) true ≡ rebuilt_stream events pick.window sent

-- What was built stays, whatever is released later.
abbrev pub RebuiltGrows : Type 0
RebuiltGrows =
    (xs ys : List Release) (ended : Bool)
    → (more : List ℕ) × (rebuilt ended None (xs ++ ys) ≡ rebuilt false None xs ++ more)

-- The packet of a precinct is the empty packet, or was released as a packet of it under this main header.
abbrev pub IsEmptyOrReleased : List (List ℕ) → List ℕ → Head → Place → List ℕ → Type 0
IsEmptyOrReleased frames header h p packet =
    (packet ≡ empty_packet h) ⊎ ((x : Release) × IsReleased frames x × (x.header ≡ header) × (x.precinct.place ≡ p) × (x.raw ≡ packet))

-- A codestream is built from frames: a main header that is stripped; for each precinct in the packet order an empty packet, or one
-- that was released; and EOC.
pub record IsBuiltFrom (frames : List (List ℕ)) (codestream : List ℕ) : Type 0 where
  pub head : Head
  pub header : List ℕ
  pub places : List Place
  pub packets : List (List ℕ)
  pub is_head : SpellsHead head header
  pub order : IsPacketOrder head places
  pub are_packets : AllZip (λ p packet. IsEmptyOrReleased frames header head p packet) places packets
  pub whole : codestream ≡ stripped header ++ (joined packets ++ eoc)

-- Whatever bytes the frames are, forged ones too, what is built of them by the end is such codestreams, one after another.
abbrev pub EachIsBuilt : Type 0
EachIsBuilt =
    (pick : Pick) (frames : List (List ℕ)) → AllByRecursion IsBytes frames → length frames < 2 ^ 64 - 1
    → (codestreams : List (List ℕ))
    × AllByRecursion (IsBuiltFrom (kept_of pick (new_receiver pick) frames)) codestreams
    × (rebuilt_by (received pick frames) true ≡ joined codestreams)

-- Such a codestream is accepted where no precinct of its main header has too many code-blocks.
abbrev pub BuiltIsAccepted : Type 0
BuiltIsAccepted =
    (frames : List (List ℕ)) (codestream : List ℕ) → (b : IsBuiltFrom frames codestream) → ((p : Place) → IsPrecinct b.head p → HasFewBlocks b.head p)
    → IsCodestream codestream
