-- How far a walk over whole packets is, and what the bytes in hand fix of its next answer.
use Rattle.std.specs.Prelude.{◌≡◌, ◌<◌, ◌≤◌, ◌⊎◌, ◌+◌, ◌++◌, ℕ, List, [], ◌∷◌, length, Option, Some}
use Rattle.codestream_model.specs.Values.{Head, Place}
use Rattle.codestream_model.specs.MainHeader.{SpellsHead}
use Rattle.codestream_model.specs.Precincts.{IsPrecinct}
use Rattle.codestream_model.specs.PacketOrder.{IsPacketOrder, pid}
use Rattle.codestream_model.specs.Packet.{Content, SpellsPacket, segment_bytes}
use Rattle.codestream_model.specs.Codestream.{WalkRefusal, TooManyFrames, IsPsotRight, RefusesNext, NeedsNextBytes}
use Rattle.packet_header.specs.Answers.{block_of}
use Rattle.packet_header.specs.declared.block.Precinct.{Precinct}
use Rattle.precinct_geometry.specs.Spans.{place_of}
use Rattle.codestream_walk.specs.Items.{NeedsHeadBytes, RefusesHeadItem}
use Rattle.codestream_walk.specs.Walking.{AtStart, AtNext, Walking, Seen}
use Rattle.std.specs.Prelude.{map}

-- A walk: how far it is, and the main header and the packet that it shows.
pub record Walked : Type 0 where
  pub walk : Walking
  pub head : Option Head
  pub place : Place
  pub content : Content

-- What a walk shows, by the reader of items below it and the segments that were gathered.
abbrev pub walked_of : Seen → List ℕ → Walked
walked_of v body = record { walk = v.walk; head = v.head; place = v.place; content = record { blocks = v.blocks; bytes = body } }

-- The packets of these precincts are next, and then EOC, after `size` bytes of their codestream: after what was given, or after the
-- main header `header`, with which the bytes in hand begin.
abbrev pub BeginsNext : Walking → Head → List Place → ℕ → List ℕ → Type 0
BeginsNext w h later size header =
    ((w.stage ≡ AtNext h later size) × (header ≡ []))
    ⊎ ((w.stage ≡ AtStart) × (w.codestreams < 65536) × SpellsHead h header × IsPacketOrder h later × (size ≡ length header))

-- The bytes in hand end inside a packet or EOC.
pub record NeedsNext (w : Walking) : Type 0 where
  pub head : Head
  pub later : List Place
  pub size : ℕ
  pub header : List ℕ
  pub rest : List ℕ
  pub next : BeginsNext w head later size header
  pub whole : w.hand ≡ header ++ rest
  pub needs : NeedsNextBytes head later size rest

-- The bytes in hand fix no answer: a codestream may begin and there are none, or they end inside a main header, a packet or EOC.
abbrev pub NeedsItem : Walking → Type 0
NeedsItem w =
    ((w.stage ≡ AtStart) × ((w.hand ≡ []) ⊎ ((w.codestreams < 65536) × NeedsHeadBytes w.hand)))
    ⊎ NeedsNext w

-- The bytes in hand are the start of one codestream too many.
pub record HasTooMany (w : Walking) (at : ℕ) (why : WalkRefusal) : Type 0 where
  pub start : w.stage ≡ AtStart
  pub some : 1 ≤ length w.hand
  pub full : w.codestreams ≡ 65536
  pub place : at ≡ w.offset
  pub is : why ≡ TooManyFrames

-- The bytes in hand aren't a main header, where a codestream may begin.
pub record RefusesStart (w : Walking) (at : ℕ) (why : WalkRefusal) : Type 0 where
  pub inside : ℕ
  pub start : w.stage ≡ AtStart
  pub some : 1 ≤ length w.hand
  pub few : w.codestreams < 65536
  pub refused : RefusesHeadItem w.hand inside why
  pub place : at ≡ w.offset + inside

-- The bytes in hand aren't the packet or the EOC that is next.
pub record RefusesPacketOrEoc (w : Walking) (at : ℕ) (why : WalkRefusal) : Type 0 where
  pub head : Head
  pub later : List Place
  pub size : ℕ
  pub header : List ℕ
  pub rest : List ℕ
  pub next : BeginsNext w head later size header
  pub whole : w.hand ≡ header ++ rest
  pub refused : RefusesNext head later size rest why
  pub place : at ≡ w.offset + length header

-- The bytes in hand are refused at this offset of the input: there is one codestream too many, or an item isn't as it should be.
abbrev pub RefusesItem : Walking → ℕ → WalkRefusal → Type 0
RefusesItem w at why = HasTooMany w at why ⊎ (RefusesStart w at why ⊎ RefusesPacketOrEoc w at why)

-- The next packet is given.
pub record GivesPacket (w : Walking) (v : Walked) : Type 0 where
  pub head : Head
  pub place : Place
  pub later : List Place
  pub size : ℕ
  pub content : Content
  pub header : List ℕ
  pub packet : List ℕ
  pub rest : List ℕ
  pub next : BeginsNext w head (place ∷ later) size header
  pub is_packet : SpellsPacket head place content packet
  pub is_precinct : IsPrecinct head place
  pub whole : w.hand ≡ header ++ (packet ++ rest)
  pub now :
      v.walk
      ≡ record w { hand = rest; offset = w.offset + length (header ++ packet); stage = AtNext head later (size + length packet) }
  pub shown_head : v.head ≡ Some head
  pub shown_place : v.place ≡ place
  pub shown_content : v.content ≡ content

-- EOC is given, and a codestream may begin after it.
pub record GivesEnd (w : Walking) (v : Walked) : Type 0 where
  pub head : Head
  pub size : ℕ
  pub header : List ℕ
  pub rest : List ℕ
  pub next : BeginsNext w head [] size header
  pub psot : IsPsotRight head size
  pub whole : w.hand ≡ header ++ (255 ∷ 217 ∷ rest)
  pub now :
      v.walk
      ≡ record w {
        hand = rest;
        offset = w.offset + length (header ++ 255 ∷ 217 ∷ []);
        codestreams = w.codestreams + 1;
        stage = AtStart;
      }

-- A packet is shown: its precinct is one of the main header's image, and its segments are those of its code-blocks.
abbrev pub ShowsPacket : Walked → Type 0
ShowsPacket v =
    (h : Head) × (v.head ≡ Some h) × IsPrecinct h v.place × (length v.content.bytes ≡ segment_bytes v.content.blocks)

-- This is the packet that is shown, with this timestamp.
pub record IsShown (v : Walked) (stamp : ℕ) (x : Precinct) : Type 0 where
  pub stamped : x.stamp ≡ stamp
  pub place : place_of x.place ≡ v.place
  pub number : (h : Head) → v.head ≡ Some h → x.pid ≡ pid h v.place
  pub blocks : map block_of x.blocks.now ≡ v.content.blocks
  pub bytes : x.bytes.now ≡ v.content.bytes
