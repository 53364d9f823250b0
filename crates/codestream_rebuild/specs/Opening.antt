-- The codestream that is open when a packet is put, and what is written of it.
use Rattle.std.specs.Prelude.{◌≡◌, ◌==◌, ◌&&◌, ◌++◌, ℕ, Bool, false, List, [], ◌∷◌, Option, Some, None, IfSome, if◌then◌else◌}
use Rattle.std.specs.List.{list_any}
use Rattle.codestream_model.specs.Values.{Head, Place}
use Rattle.codestream_model.specs.MainHeader.{SpellsHead}
use Rattle.codestream_model.specs.Precincts.{IsPrecinct}
use Rattle.codestream_model.specs.PacketOrder.{packet_order}
use Rattle.stream_model.specs.Decoder.{Release, is_place}
use Rattle.rebuild_model.specs.Stripping.{stripped}
use Rattle.rebuild_model.specs.Rebuilding.{Open, closing, empty_packets, places_before, places_after}
use Rattle.pcrl_order.specs.Later.{later}

-- The packet of this precinct is still to come, and then those of the precincts after it; or none is to come.
abbrev pub places_from : Bool → Head → Place → List Place
places_from more h p = if more then p ∷ later h p else []

-- The bytes are a main header and the precinct is one of its image. A codestream that is open under the same number has that header.
pub record FitsOpen (current : Option Open) (number : ℕ) (bytes : List ℕ) (p : Place) : Type 0 where
  pub head : Head
  pub spelt : SpellsHead head bytes
  pub precinct : IsPrecinct head p
  pub same : IfSome current (λ o. o.heads ≡ number → o.head ≡ head)

-- A codestream is open under this number, and these bytes are its main header.
abbrev pub IsUnder : Option Open → ℕ → List ℕ → Type 0
IsUnder current number bytes = IfSome current (λ o. (o.heads ≡ number) × SpellsHead o.head bytes)

-- The packet of this precinct was released with these bytes, under a main header with this number and these bytes.
pub record IsReleaseOf (x : Release) (number : ℕ) (bytes : List ℕ) (p : Place) (packet : List ℕ) : Type 0 where
  pub heads : x.heads ≡ number
  pub header : x.header ≡ bytes
  pub place : x.precinct.place ≡ p
  pub raw : x.raw ≡ packet

-- Whether the packet of a precinct is still to come in the codestream that is open, and that codestream has this number.
abbrev pub takes : Option Open → ℕ → Place → Bool
takes None number p = false
takes (Some o) number p = (o.heads == number) && list_any (is_place p) o.later

-- A codestream of which all packets are still to come.
abbrev pub opened : ℕ → Head → Open
opened number h = record { heads = number; head = h; later = packet_order h }

-- The codestream that takes the packet of a precinct: the one that is open, or else a new one.
abbrev pub open_for : Option Open → ℕ → Head → Place → Option Open
open_for current number h p = if takes current number p then current else Some (opened number h)

-- What is written until that codestream is open.
abbrev pub opening : Option Open → ℕ → List ℕ → Place → List ℕ
opening current number bytes p = if takes current number p then [] else closing current ++ stripped bytes

-- The codestream after the packet of a precinct.
abbrev pub open_past : Option Open → Place → Option Open
open_past None p = None
open_past (Some o) p = Some (record o { later = places_after p o.later })

-- What is written in the codestream that is open up to the packet of a precinct, and that packet.
abbrev pub up_to : Option Open → Place → List ℕ → List ℕ
up_to None p packet = []
up_to (Some o) p packet = empty_packets o.head (places_before p o.later) ++ packet
