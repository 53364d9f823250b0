-- The precincts after one in the packet order.
use Rattle.std.specs.Prelude.{◌≡◌, ◌++◌, List, ◌∷◌}
use Rattle.std.specs.List.{filter}
use Rattle.codestream_model.specs.Values.{Head, Place}
use Rattle.codestream_model.specs.Precincts.{IsPrecinct}
use Rattle.codestream_model.specs.PacketOrder.{key, is_before, IsPacketOrder, packet_order}
use Rattle.codestream_model.specs.GeometryLaws.{HasSteps}

-- The precincts that come after one, in packet order.
abbrev pub later : Head → Place → List Place
later h p = filter (λ q. is_before (key h p) (key h q)) (packet_order h)

-- Each precinct of a packet order is followed by just the precincts that come after it.
abbrev pub LaterIsTheRest : Type 0
LaterIsTheRest = (h : Head) (order : List Place) (p : Place) → HasSteps h → IsPacketOrder h order → IsPrecinct h p → (before : List Place) × (order ≡ before ++ p ∷ later h p)

-- What follows a precinct in a packet order are the precincts that come after it.
abbrev pub PlacesFromOneOn : Type 0
PlacesFromOneOn = (h : Head) (before after : List Place) (p : Place) → HasSteps h → IsPacketOrder h (before ++ p ∷ after) → after ≡ later h p
