-- What writing the packet of a walk does.
use Rattle.std.specs.Prelude.{◌≡◌, ℕ, List, [], ◌∷◌}
use Rattle.codestream_model.specs.Values.{Head}
use Rattle.codestream_model.specs.PacketOrder.{pid}
use Rattle.stream_model.specs.Report.{Precinct, lines}
use Rattle.scl_outside.specs.Meaning.{Meaning}
use Rattle.scl_outside.specs.Events.{Event}
use Rattle.scl_outside.specs.declared.duct.PutOut.{PutOut}
use Rattle.scl_outside.specs.Writing.{Puts}
use Rattle.codestream_walk.specs.Walks.{Walked}
use Rattle.std.specs.Prelude.{Some}

-- The precinct of the packet that a walk shows, with the timestamp of its codestream and the main header of its image.
abbrev pub precinct_shown : Head → ℕ → Walked → Precinct
precinct_shown h stamp v = record {
  stamp = stamp;
  pid = pid h v.place;
  place = v.place;
  blocks = v.content.blocks;
  bytes = v.content.bytes;
}

-- These calls wrote the lines of the packet that a walk shows, as the answer says, and read nothing.
abbrev pub WritesPacket : Walked → ℕ → Meaning → Meaning → PutOut → List Event → Type 0
WritesPacket v stamp s t answer es =
    (h : Head) → v.head ≡ Some h → Puts (lines (precinct_shown h stamp v ∷ [])) s t answer es
