use Rattle.std.proofs.Common.{sym, ◌∙◌, ap, subst}
use Rattle.std.specs.List.{list_any}
use Rattle.codestream_model.specs.HeadLimits.{IsWithinLimits}
use Rattle.codestream_model.specs.Precincts.{IsPrecinct}
use Rattle.stream_model.specs.Decoder.{is_place}
use Rattle.rebuild_model.specs.Rebuilding.{Open}
use Rattle.precinct_geometry.specs.Spans.{place_of}
use Rattle.codestream_rebuild.proofs.Coming.{comes_after}
use Rattle.codestream_rebuild.proofs.codestream.Codestream.has_to_come.Goals as goal

pub returns-else-is_same : goal.returns-else-is_same
returns-else-is_same c =
    let p = place_of c.args.place in
    let w = c.self.inside.walk in
    let limits = subst IsWithinLimits c.head.ensures c.is_within_limits.ensures in
    let P : Open → Type 0 = λ o. IsPrecinct o.head p in
    let is : IsPrecinct w.head p = subst P (sym c.self.view_is) c.requires in
    comes_after w.head c.geometry-geometry.result.now p w.place (place_of c.place-next.result) _ _ c.self.inside.more c.is_same.result c.is_before-past.result
    limits c.geometry-geometry.ensures is c.place-next.ensures c.new.ensures c.new-2.ensures c.is_same.ensures c.is_before-past.ensures c.if-is_same.false c.if-self.true
    ∙ ap (λ (o : Open). list_any (is_place p) o.later) c.self.view_is
