use Rattle.std.proofs.Common.{◌++◌, ◌∙◌}
use Rattle.rebuild_model.specs.Stripping.{stripped}
use Rattle.rebuild_model.specs.Rebuilding.{closing}
use Rattle.precinct_geometry.specs.Spans.{place_of}
use Rattle.scl_outside.proofs.Putting.{puts_same, puts_then, puts_front}
use Rattle.codestream_rebuild.proofs.Opens.{opening_new, open_new}
use Rattle.codestream_rebuild.proofs.rebuild.Rebuild.open_for.Goals as goal

pub returns-in-Done-clause-writes : goal.returns-in-Done-clause-writes
returns-in-Done-clause-writes g c =
    let all = opening_new c.args.self.now c.args.heads c.args.head.now (place_of c.args.place) c.takes.result c.takes.ensures c.if-takes.false in
    let out = c.in-Done.ensures.writes in
    let begun = c.begin.ensures.writes in
    (out.0 ++ begun.0, puts_same _ _ _ _ _ _ all (puts_then (closing c.args.self.now) (stripped c.args.head.now) _ _ _ _ _ _ out.1 begun.1))

pub returns-in-Done-clause-opens : goal.returns-in-Done-clause-opens
returns-in-Done-clause-opens g c = λ h spelt done.
    c.begin.ensures.opens h spelt ∙ open_new c.args.self.now c.args.heads h (place_of c.args.place) c.takes.result c.takes.ensures c.if-takes.false

pub returns-in-WriteFault-clause-writes : goal.returns-in-WriteFault-clause-writes
returns-in-WriteFault-clause-writes g c =
    let all = opening_new c.args.self.now c.args.heads c.args.head.now (place_of c.args.place) c.takes.result c.takes.ensures c.if-takes.false in
    let out = c.in-WriteFault.ensures.writes in
    (out.0, puts_same _ _ _ _ _ _ all (puts_front (closing c.args.self.now) (stripped c.args.head.now) _ _ _ out.1))
