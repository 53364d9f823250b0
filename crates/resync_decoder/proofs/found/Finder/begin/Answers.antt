use Rattle.std.proofs.Common.{List, length, sym, ap, subst, arith, ◌∙◌}
use Rattle.std.proofs.lemmas.Bool.{eqb-true}
use Rattle.codestream_model.specs.Values.{Grid}
use Rattle.codestream_model.specs.PacketHeader.{HaveOwnBands}
use Rattle.codestream_model.proofs.OwnBands.{own_bands}
use Rattle.precinct_geometry.specs.Spans.{place_of}
use Rattle.resync_decoder.proofs.Looks.{finds_none, finds_many, some_bytes, part_begun}
use Rattle.resync_decoder.proofs.found.Finder.begin.Goals as goal

pub returns-then-is_empty-clause-found : goal.returns-then-is_empty-clause-found
returns-then-is_empty-clause-found c = finds_none c.args.geometry.now (place_of c.args.place) c.args.bytes.now c.args.self.now.reader.blocks (eqb-true (length c.args.bytes.now) 0 (sym c.is_empty.ensures ∙ c.if-is_empty.true))

pub returns-then-blocks-from-clause-found : goal.returns-then-blocks-from-clause-found
returns-then-blocks-from-clause-found c =
    let some = some_bytes c.args.bytes.now (sym c.is_empty.ensures ∙ c.if-is_empty.false) in
    finds_many c.args.geometry.now (place_of c.args.place) c.args.bytes.now c.args.self.now.reader.blocks some (omega (arith, c.if-blocks-from.true, c.from.ensures, c.blocks-2.ensures))

pub begin-requires-clause-own_bands : goal.begin-requires-clause-own_bands
begin-requires-clause-own_bands c = let P : List Grid → Type 0 = λ l. HaveOwnBands l in subst P (sym c.bands.ensures) (own_bands c.args.geometry.now (place_of c.args.place))

pub returns-clause-found : goal.returns-clause-found
returns-clause-found c =
    let some = some_bytes c.args.bytes.now (sym c.is_empty.ensures ∙ c.if-is_empty.false) in
    c.go_on.ensures.found c.args.geometry.now (place_of c.args.place)
    (part_begun c.args.geometry.now (place_of c.args.place) c.begin.new.self c.args.bytes.now some (omega (arith, c.if-blocks-from.false, c.from.ensures, c.blocks-2.ensures))
    (c.begin.ensures.grids ∙ c.bands.ensures) (c.begin.ensures.eph ∙ (c.eph-eph.ensures ∙ ap (λ h. h.eph) c.head.ensures)) c.begin.ensures.fed)

pub returns-clause-so_far : goal.returns-clause-so_far
returns-clause-so_far c =
    let some = some_bytes c.args.bytes.now (sym c.is_empty.ensures ∙ c.if-is_empty.false) in
    c.go_on.ensures.so_far c.args.geometry.now (place_of c.args.place)
    (part_begun c.args.geometry.now (place_of c.args.place) c.begin.new.self c.args.bytes.now some (omega (arith, c.if-blocks-from.false, c.from.ensures, c.blocks-2.ensures))
    (c.begin.ensures.grids ∙ c.bands.ensures) (c.begin.ensures.eph ∙ (c.eph-eph.ensures ∙ ap (λ h. h.eph) c.head.ensures)) c.begin.ensures.fed)
