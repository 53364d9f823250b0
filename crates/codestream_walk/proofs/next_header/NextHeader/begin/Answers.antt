use Rattle.std.proofs.Common.{ap, arith, ◌∙◌}
use Rattle.codestream_model.specs.Values.{Head}
use Rattle.codestream_model.specs.Packet.{HasFewBlocks}
use Rattle.codestream_model.proofs.OwnBands.{own_bands}
use Rattle.precinct_geometry.specs.Spans.{place_of}
use Rattle.codestream_walk.proofs.NextHeaders.{part_begun}
use Rattle.codestream_walk.proofs.next_header.NextHeader.begin.Goals as goal

pub begin-requires-clause-own_bands : goal.begin-requires-clause-own_bands
begin-requires-clause-own_bands c = rw c.bands.ensures (own_bands c.args.geometry.now (place_of c.args.place))

pub returns-clause-judged : goal.returns-clause-judged
returns-clause-judged c =
    let few : HasFewBlocks c.args.geometry.now (place_of c.args.place) = omega (arith, c.if-blocks-from.false, c.from.ensures, c.blocks-2.ensures) in
    let eph = c.eph-eph.ensures ∙ ap (λ (h : Head). h.eph) c.head.ensures in
    c.go_on.ensures.judged c.args.geometry.now (place_of c.args.place) few
    (part_begun c.args.geometry.now (place_of c.args.place) c.begin.new.self c.args.bytes.now (c.begin.ensures.grids ∙ c.bands.ensures) (c.begin.ensures.eph ∙ eph) c.begin.ensures.fed)

pub returns-clause-keeps : goal.returns-clause-keeps
returns-clause-keeps c =
    let few : HasFewBlocks c.args.geometry.now (place_of c.args.place) = omega (arith, c.if-blocks-from.false, c.from.ensures, c.blocks-2.ensures) in
    let eph = c.eph-eph.ensures ∙ ap (λ (h : Head). h.eph) c.head.ensures in
    c.go_on.ensures.keeps c.args.geometry.now (place_of c.args.place) few
    (part_begun c.args.geometry.now (place_of c.args.place) c.begin.new.self c.args.bytes.now (c.begin.ensures.grids ∙ c.bands.ensures) (c.begin.ensures.eph ∙ eph) c.begin.ensures.fed)
