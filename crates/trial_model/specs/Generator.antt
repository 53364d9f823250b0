-- The codestream that is generated from a seed: any picture size, code-blocks with drawn values and
-- drawn bytes, and headers as our writer writes them.
use Rattle.std.specs.Prelude.{◌+◌, ◌*◌, ◌==◌, ◌||◌, ◌++◌, ℕ, Bool, List, [], ◌∷◌, map, length, replicate, if◌then◌else◌}
use Rattle.std.specs.List.{flat_map, zip, range_with_len}
use Rattle.codestream_model.specs.Values.{Pair, Head, Place, Block}
use Rattle.codestream_model.specs.Bytes.{two_bytes, four_bytes}
use Rattle.codestream_model.specs.Segments.{SOC, SIZ, CAP, COD, QCD, COM, SOT, SOD, Segment, segment_bytes, segments_bytes}
use Rattle.codestream_model.specs.SegmentTests.{head_values}
use Rattle.codestream_model.specs.Precincts.{grids}
use Rattle.codestream_model.specs.PacketOrder.{packet_order}
use Rattle.codestream_model.specs.TagTrees.{Seat, seats}
use Rattle.codestream_model.specs.MarkedHeader.{written_marked_header}
use Rattle.codestream_model.specs.Packet.{Content}
use Rattle.codestream_model.specs.Codestream.{joined}
use Rattle.stream_model.specs.Stream.{Parts, bytes_after_sod}
use Rattle.trial_model.specs.Draws.{Drawn, item_before, draw, draw_bytes}

-- What is asked for: Xsiz and Ysiz, the number of components, the steps of components 1 and 2, N_L,
-- the progression order, and whether EPH markers follow the packet headers.
pub record Shape : Type 0 where
  pub width : ℕ
  pub height : ℕ
  pub components : ℕ
  pub chroma : Pair
  pub levels : ℕ
  pub order : ℕ
  pub eph : Bool

-- XRsiz and YRsiz of a component: those of the shape for components 1 and 2, and 1 for all others.
abbrev pub shape_step : Shape → ℕ → Pair
shape_step shape c = if (c == 1) || (c == 2) then shape.chroma else record { x = 1; y = 1 }

-- Ssiz, XRsiz and YRsiz of a component.
abbrev pub step_bytes : Pair → List ℕ
step_bytes step = 7 ∷ step.x ∷ step.y ∷ []

-- The content of SIZ: the picture begins at 0, and one tile has all of it.
abbrev pub siz_content : Shape → List ℕ
siz_content shape =
    two_bytes 0x4000
    ++ flat_map four_bytes (shape.width ∷ shape.height ∷ 0 ∷ 0 ∷ [])
    ++ flat_map four_bytes (shape.width ∷ shape.height ∷ 0 ∷ 0 ∷ [])
    ++ two_bytes shape.components
    ++ flat_map (λ c. step_bytes (shape_step shape c)) (range_with_len 0 shape.components)

-- The content of COD: the shape's order, one layer, no component transform, code-blocks of 64 by
-- 64, the HT style, the 5/3 wavelet, and precincts of 128 by 128 at resolution 0 and of 256 by 256
-- above.
abbrev pub cod_content : Shape → List ℕ
cod_content shape =
    (if shape.eph then 5 else 1) ∷ shape.order ∷ 0 ∷ 1 ∷ 0 ∷ shape.levels ∷ 4 ∷ 4 ∷ 0x40 ∷ 1 ∷ 0x77
    ∷ replicate shape.levels 0x88

-- The content of QCD: no quantisation.
abbrev pub qcd_content : Shape → List ℕ
qcd_content shape = 0x40 ∷ replicate (3 * shape.levels + 1) 0x48

-- The content of COM: the text `made`.
abbrev pub com_content : List ℕ
com_content = 0 ∷ 1 ∷ 0x6D ∷ 0x61 ∷ 0x64 ∷ 0x65 ∷ []

-- The content of SOT: the one tile-part of the one tile.
abbrev pub sot_content : ℕ → List ℕ
sot_content psot = 0 ∷ 0 ∷ four_bytes psot ++ 0 ∷ 1 ∷ []

-- The segments before SOT.
abbrev pub shape_segments : Shape → List Segment
shape_segments shape =
    record { marker = SIZ; content = siz_content shape }
    ∷ record { marker = CAP; content = 0 ∷ 2 ∷ 0 ∷ 0 ∷ 0 ∷ 0 ∷ [] }
    ∷ record { marker = COD; content = cod_content shape }
    ∷ record { marker = QCD; content = qcd_content shape }
    ∷ record { marker = COM; content = com_content }
    ∷ []

-- The main header of a shape, with this Psot.
abbrev pub shape_header : Shape → ℕ → List ℕ
shape_header shape psot =
    two_bytes SOC
    ++ segments_bytes (shape_segments shape)
    ++ segment_bytes (record { marker = SOT; content = sot_content psot })
    ++ two_bytes SOD

-- Its values.
abbrev pub shape_head : Shape → ℕ → Head
shape_head shape psot =
    head_values (shape_segments shape) (sot_content psot) (length (shape_header shape psot))

-- No code-block.
abbrev pub no_content : Content
no_content = record { blocks = []; bytes = [] }

-- Contents one after another.
abbrev pub both : Content → Content → Content
both x y = record { blocks = x.blocks ++ y.blocks; bytes = x.bytes ++ y.bytes }

-- The length of a refinement segment: 0 with one coding pass.
abbrev pub draw_refine : ℕ → ℕ → Drawn ℕ
draw_refine passes state = if passes == 1 then record { value = 0; state = state } else draw 64 state

-- An included code-block: its zero bit-planes, the lengths of its segments, and their bytes.
abbrev pub draw_included : Seat → ℕ → ℕ → Drawn Content
draw_included s passes state =
    let planes = draw 8 state in
    let cleanup = draw 63 planes.state in
    let refine = draw_refine passes cleanup.state in
    let bytes = draw_bytes (2 + cleanup.value + refine.value) refine.state in
    let block : Block = record {
      band = s.band;
      col = s.col;
      row = s.row;
      planes = planes.value;
      passes = passes;
      cleanup = 2 + cleanup.value;
      refine = refine.value;
    } in
    record { value = record { blocks = block ∷ []; bytes = bytes.value }; state = bytes.state }

-- A code-block with its number of coding passes, where 0 leaves it out.
abbrev pub draw_block : Seat → ℕ → Drawn Content
draw_block s state =
    let passes = draw 4 state in
    if passes.value == 0
    then record { value = no_content; state = passes.state }
    else draw_included s passes.value passes.state

-- The code-blocks at seats, one after another.
unfoldable pub draw_content : List Seat → ℕ → Drawn Content
draw_content [] state = record { value = no_content; state = state }
draw_content (s ∷ more) state =
    let first = draw_block s state in
    let later = draw_content more first.state in
    record { value = both first.value later.value; state = later.state }

-- The contents of precincts, one after another.
unfoldable pub draw_contents : Head → List Place → ℕ → Drawn (List Content)
draw_contents h [] state = record { value = []; state = state }
draw_contents h (p ∷ places) state =
    let first = draw_content (flat_map seats (grids h p)) state in
    item_before first.value (draw_contents h places first.state)

-- The packet of a precinct with this content.
abbrev pub packet_of : Head → Place → Content → List ℕ
packet_of h p x = written_marked_header (grids h p) h.eph x.blocks ++ x.bytes

-- The packets of precincts with these contents.
abbrev pub packets_of : Head → List Place → List Content → List (List ℕ)
packets_of h places contents = map (λ x. packet_of h x.0 x.1) (zip places contents)

-- Psot of a codestream with these packets: the bytes of the SOT segment and SOD, and the packets.
abbrev pub psot_of : List (List ℕ) → ℕ
psot_of packets = 14 + length (joined packets)

-- The codestream of a shape with these precincts, contents and packets.
abbrev pub parts_with : Shape → List Place → List Content → List (List ℕ) → Parts
parts_with shape places contents packets = record {
  head = shape_head shape (psot_of packets);
  header = shape_header shape (psot_of packets);
  places = places;
  content = contents;
  packets = packets;
}

-- The parts of the codestream of a shape that is generated from a seed. Its precincts and contents
-- don't depend on Psot.
abbrev pub generated_parts : Shape → ℕ → Parts
generated_parts shape seed =
    let h = shape_head shape 0 in
    let places = packet_order h in
    let contents = (draw_contents h places seed).value in
    parts_with shape places contents (packets_of h places contents)

-- Its bytes.
abbrev pub generated : Shape → ℕ → List ℕ
generated shape seed =
    let parts = generated_parts shape seed in
    parts.header ++ bytes_after_sod parts
