use Rattle.std.proofs.Common.{◌++◌, sym, ◌∙◌}
use Rattle.rebuild_model.specs.Rebuilding.{empty_packets, places_before}
use Rattle.precinct_geometry.specs.Spans.{place_of}
use Rattle.scl_outside.proofs.Putting.{puts_same, puts_then}
use Rattle.codestream_rebuild.proofs.Opens.{up_to_some}
use Rattle.codestream_rebuild.proofs.rebuild.Rebuild.join.Goals as goal

pub returns-clause-writes : goal.returns-clause-writes
returns-clause-writes g c =
    let p = place_of c.args.place in
    let o = c.in-Some.open in
    let all = up_to_some c.args.self.now o p c.args.raw.now (sym c.self.view_is ∙ c.in-Some.is) in
    let out = c.in-Done.ensures.writes in
    (out.0 ++ c.put.ensures.0, puts_same _ _ _ _ _ _ all (puts_then (empty_packets o.head (places_before p o.later)) c.args.raw.now _ _ _ _ _ _ out.1 c.put.ensures.1))
