use Rattle.std.proofs.Common.{◌<◌, ◌/◌, ◌%◌, sym, ap, ◌∙◌, subst}
use Rattle.codestream_model.specs.Values.{Pair, Head}
use Rattle.codestream_model.specs.Areas.{Area}
use Rattle.codestream_model.specs.Precincts.{strips, precinct_exponents}
use Rattle.precinct_geometry.proofs.Corners.{column_within, row_within, inside_as}
use Rattle.precinct_geometry.proofs.geometry.Geometry.strips_of.Goals as goal

pub returns-clause-within_x : goal.returns-clause-within_x
returns-clause-within_x c =
    let e = (precinct_exponents c.args.self.now c.args.p.r).x in
    let P : Area → Type 0 = λ a. c.args.p.k % c.counts-columns.result.0 < strips e a.x in
    let few : c.args.p.k % c.counts-columns.result.0 < strips e (record { from = c.resolution_area-area.result.x.from; to = c.resolution_area-area.result.x.to }) =
    subst P (sym c.resolution_area-area.ensures.area) (rw c.counts-columns.ensures.columns (column_within _ _ _ c.requires.number)) in
    inside_as _ c.resolution_area-area.result.x.to _ _ _ _ c.power.ensures.value (ap (λ (p : Pair). p.x) c.precinct-e_x.ensures.precinct ∙ ap (λ (h : Head). (precinct_exponents h c.args.p.r).x) c.self.view_is) (rw c.from.ensures few) c.resolution_area-area.ensures.within.x_to

pub returns-clause-within_y : goal.returns-clause-within_y
returns-clause-within_y c =
    let e = (precinct_exponents c.args.self.now c.args.p.r).y in
    let P : Area → Type 0 = λ a. c.args.p.k / c.counts-columns.result.0 < strips e a.y in
    let few : c.args.p.k / c.counts-columns.result.0 < strips e (record { from = c.resolution_area-area.result.y.from; to = c.resolution_area-area.result.y.to }) =
    subst P (sym c.resolution_area-area.ensures.area) (rw c.counts-columns.ensures.columns (row_within _ _ _ c.requires.number)) in
    inside_as _ c.resolution_area-area.result.y.to _ _ _ _ c.power-2.ensures.value (ap (λ (p : Pair). p.y) c.precinct-e_x.ensures.precinct ∙ ap (λ (h : Head). (precinct_exponents h c.args.p.r).y) c.self.view_is) (rw c.from-2.ensures few) c.resolution_area-area.ensures.within.y_to
