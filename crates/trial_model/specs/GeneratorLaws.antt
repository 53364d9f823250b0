-- Laws of generated codestreams.
use Rattle.std.specs.Prelude.{◌≡◌, ◌≤◌, ◌<◌, ◌^◌, ◌⊎◌, ℕ, List, [], ◌∷◌, length}
use Rattle.codestream_model.specs.Values.{Head, Place}
use Rattle.codestream_model.specs.MainHeader.{SpellsHead}
use Rattle.codestream_model.specs.PacketOrder.{packet_order}
use Rattle.codestream_model.specs.Packet.{Content, SpellsPacket}
use Rattle.codestream_model.specs.Codestream.{joined}
use Rattle.stream_model.specs.Stream.{ArePartsOf}
use Rattle.trial_model.specs.Generator.{Shape, shape_head, shape_header, draw_contents, packet_of, packets_of, generated_parts, generated}

-- A shape that may be asked for: 1 to 4096 samples each way, one to four components, steps of 1 or 2 for components 1 and 2, at
-- most 15 decomposition levels, and RPCL or PCRL order.
pub record IsShape (shape : Shape) : Type 0 where
  pub some_width : 1 ≤ shape.width
  pub most_width : shape.width ≤ 4096
  pub some_height : 1 ≤ shape.height
  pub most_height : shape.height ≤ 4096
  pub some_component : 1 ≤ shape.components
  pub few_components : shape.components ≤ 4
  pub chroma_x : (1 ≤ shape.chroma.x) × (shape.chroma.x ≤ 2)
  pub chroma_y : (1 ≤ shape.chroma.y) × (shape.chroma.y ≤ 2)
  pub few_levels : shape.levels ≤ 15
  pub order : (shape.order ≡ 2) ⊎ (shape.order ≡ 3)

-- The main header of a shape is accepted, whatever its Psot, with the values that it is meant to have.
abbrev pub ShapeHeadersAreAccepted : Type 0
ShapeHeadersAreAccepted = (shape : Shape) (psot : ℕ) → IsShape shape → psot < 2 ^ 32 → SpellsHead (shape_head shape psot) (shape_header shape psot)

-- The packets that our writer gives precincts with these contents are packets of them.
abbrev pub AllArePackets : Head → List Place → List Content → Type 0
AllArePackets h [] [] = Unit {0}
AllArePackets h (p ∷ places) (x ∷ contents) = SpellsPacket h p x (packet_of h p x) × AllArePackets h places contents
AllArePackets h places contents = ⊥

-- The contents that are drawn for a shape.
abbrev pub drawn_contents : Shape → ℕ → List Content
drawn_contents shape seed = (draw_contents (shape_head shape 0) (packet_order (shape_head shape 0)) seed).value

-- What is drawn for a shape makes packets, which have at most 238,551,040 bytes in all.
pub record MakesPackets (shape : Shape) (seed : ℕ) : Type 0 where
  pub packets : AllArePackets (shape_head shape 0) (packet_order (shape_head shape 0)) (drawn_contents shape seed)
  pub short : length (joined (packets_of (shape_head shape 0) (packet_order (shape_head shape 0)) (drawn_contents shape seed))) ≤ 238551040

-- What is drawn for a shape that may be asked for makes packets.
abbrev pub DrawnContentsMakePackets : Type 0
DrawnContentsMakePackets = (shape : Shape) (seed : ℕ) → IsShape shape → MakesPackets shape seed

-- The parts that are generated for a shape that may be asked for are those of the generated codestream.
abbrev pub GeneratedHasParts : Type 0
GeneratedHasParts =
    (shape : Shape) (seed : ℕ) → IsShape shape
    → ArePartsOf (generated_parts shape seed) (generated shape seed)
