-- How far the packets of a codestream were taken.
use Rattle.std.specs.Prelude.{◌≡◌, Bool, List, [], ◌∷◌, drop, if◌then◌else◌}
use Rattle.codestream_model.specs.Values.{Head, Place}
use Rattle.codestream_model.specs.Precincts.{IsPrecinct}
use Rattle.pcrl_order.specs.Later.{later}

-- A main header, and the precincts whose packets are still to come, in packet order.
pub record Progress : Type 0 where
  pub head : Head
  pub places : List Place

-- A packet is still to come: that of this precinct, and then those of the precincts after it.
abbrev pub places_from : Bool → Head → Place → List Place
places_from more h p = if more then p ∷ later h p else []

-- The next packet is that of this precinct of the image.
abbrev pub IsNextPlace : Place → Progress → Type 0
IsNextPlace p b = IsPrecinct b.head p × (b.places ≡ p ∷ drop 1 b.places)

-- The next packet was taken.
abbrev pub after_packet : Progress → Progress
after_packet b = record b { places = drop 1 b.places }
