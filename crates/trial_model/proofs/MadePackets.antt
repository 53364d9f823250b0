-- What is drawn for a shape makes packets, and not too many bytes of them.
use Rattle.std.proofs.Common.{◌≤◌, ◌*◌, ℕ, List, [], ◌∷◌, length, arith}
use Rattle.std.specs.List.{AllByRecursion, flat_map}
use Rattle.std.proofs.lemmas.List.{length-append}
use Rattle.codestream_model.specs.Values.{Head, Place}
use Rattle.codestream_model.specs.Precincts.{IsPrecinct, grids}
use Rattle.codestream_model.specs.PacketOrder.{packet_order, IsPacketOrder}
use Rattle.codestream_model.specs.TagTrees.{seats}
use Rattle.codestream_model.specs.Codestream.{joined}
use Rattle.codestream_model.proofs.Members.{each_member, contained_has}
use Rattle.codestream_model.proofs.Orders.{packet_order_is_computed}
use Rattle.codestream_model.proofs.HeaderLimits.{header_has_components}
use Rattle.trial_model.specs.Generator.{Shape, shape_head, shape_header, draw_content, draw_contents, packet_of, packets_of}
use Rattle.trial_model.specs.GeneratorLaws.{IsShape, AllArePackets, DrawnContentsMakePackets}
use Rattle.trial_model.proofs.DrawnContents.{content_drawn, packet_drawn}
use Rattle.trial_model.proofs.Precincts.{IsPlain, small_grids, few_places}
use Rattle.trial_model.proofs.ShapeHeads.{shape_headers_are_accepted, plain_head}

-- The packets of precincts, as they are drawn.
pub all_drawn : (h : Head) (places : List Place) (state : ℕ) → IsPlain h → AllByRecursion (IsPrecinct h) places
    → AllArePackets h places (draw_contents h places state).value × (length (joined (packets_of h places (draw_contents h places state).value)) ≤ length places * 3640)
unfolding draw_contents
all_drawn h [] state plain each = (tt, omega arith)
all_drawn h (p ∷ places) state plain each =
    let first = draw_content (flat_map seats (grids h p)) state in
    let packet = packet_drawn h p first.value (small_grids h p plain each.0) (content_drawn (flat_map seats (grids h p)) state) in
    let rest = all_drawn h places first.state plain each.1 in
    let later = (draw_contents h places first.state).value in
    ((packet.0, rest.0), omega (arith, packet.1, rest.1, length-append (packet_of h p first.value) (joined (packets_of h places later))))

-- The packet order of a shape is one.
pub shape_order : (shape : Shape) → IsShape shape → IsPacketOrder (shape_head shape 0) (packet_order (shape_head shape 0))
shape_order shape is =
    packet_order_is_computed (shape_head shape 0) (header_has_components (shape_head shape 0) (shape_header shape 0) (shape_headers_are_accepted shape 0 is (omega arith))).steps

pub drawn_contents_make_packets : DrawnContentsMakePackets
drawn_contents_make_packets shape seed is =
    let h = shape_head shape 0 in
    let places = packet_order h in
    let plain = plain_head shape 0 is in
    let order = shape_order shape is in
    let each = each_member (IsPrecinct h) places (λ p has. (order.each p).0 (contained_has places p has)) in
    let all = all_drawn h places seed plain each in
    record { packets = all.0; short = omega (arith, all.1, few_places h plain) }
