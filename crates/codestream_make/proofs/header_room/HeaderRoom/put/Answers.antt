use Rattle.std.proofs.Common.{◌≤◌, ◌<◌, ℕ, List, Err, map, length, sym, ◌∙◌, subst, ap, arith}
use Rattle.codestream_model.specs.Values.{Head}
use Rattle.codestream_model.specs.PacketHeader.{HaveOwnBands}
use Rattle.codestream_model.proofs.OwnBands.{own_bands}
use Rattle.precinct_geometry.specs.Spans.{place_of, grid_of}
use Rattle.packet_header.specs.Answers.{block_of}
use Rattle.codestream_make.specs.HeaderLengths.{most_header}
use Rattle.codestream_make.proofs.Fitting.{content_cause, long_cause, short_is_spelled}
use Rattle.codestream_make.proofs.header_room.HeaderRoom.put.Goals as goal

pub write_header-requires-clause-own_bands : goal.write_header-requires-clause-own_bands
write_header-requires-clause-own_bands c = subst HaveOwnBands (sym c.bands-bands.ensures) (own_bands c.args.geometry.now (place_of c.args.place))

pub returns-in_err-len-clause-content : goal.returns-in_err-len-clause-content
returns-in_err-len-clause-content c = λ is bytes fits.
    let given = rw is at c.from_residual.ensures.1 in
    let marked = c.eph-eph.ensures ∙ ap (λ (h : Head). h.eph) c.head.ensures in
    content_cause c.args.geometry.now (place_of c.args.place) (map block_of c.args.blocks.now) (map grid_of c.bands-bands.result.items) c.eph-eph.result (length c.deref_mut.result.now)
    c.in_err-len.field-0.0 c.bands-bands.ensures marked (ap (λ (l : List ℕ). length l) c.deref_mut.ensures.value ∙ c.args.self.now.room)
    (λ e are. (c.in_err-len.ensures.blocks (ap (λ f. Err f) e)).0 are) (λ e. c.in_err-len.ensures.full (ap (λ f. Err f) e)) given bytes fits

pub returns-then-len-most_header-clause-content : goal.returns-then-len-most_header-clause-content
returns-then-len-most_header-clause-content c = λ is bytes fits.
    let marked = c.eph-eph.ensures ∙ ap (λ (h : Head). h.eph) c.head.ensures in
    let long : most_header c.eph-eph.result < c.in_ok-len.len = omega (arith, c.most_header.ensures, c.if-len-most_header.true) in
    long_cause c.args.geometry.now (place_of c.args.place) (map block_of c.args.blocks.now) (map grid_of c.bands-bands.result.items) c.eph-eph.result c.in_ok-len.len c.bands-bands.ensures marked c.in_ok-len.ensures.written.0 long bytes fits

pub returns-clause-spelled : goal.returns-clause-spelled
returns-clause-spelled c =
    let marked = c.eph-eph.ensures ∙ ap (λ (h : Head). h.eph) c.head.ensures in
    let short : c.in_ok-len.len ≤ most_header c.eph-eph.result = omega (arith, c.most_header.ensures, c.if-len-most_header.false) in
    short_is_spelled c.args.geometry.now (place_of c.args.place) (map block_of c.args.blocks.now) (map grid_of c.bands-bands.result.items) c.eph-eph.result c.in_ok-len.len c.bands-bands.ensures marked
    (c.in_ok-len.ensures.judged (λ e. absurd (cc))) c.in_ok-len.ensures.written.0 short
