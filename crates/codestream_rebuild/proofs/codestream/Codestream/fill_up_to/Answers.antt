use Rattle.std.proofs.Common.{◌++◌, refl, sym, ◌∙◌}
use Rattle.rebuild_model.specs.Rebuilding.{empty_packet, empty_packets, places_before}
use Rattle.precinct_geometry.specs.Spans.{place_of}
use Rattle.scl_outside.proofs.Putting.{puts_same, puts_then, puts_front}
use Rattle.codestream_rebuild.proofs.Filling.{filled_more, filled_until}
use Rattle.codestream_rebuild.proofs.codestream.Codestream.fill_up_to.Goals as goal

pub loop-next-preserved : goal.loop-next-preserved
loop-next-preserved g c =
    let so = c.loop-next.invariant in
    let p = place_of c.args.place in
    let other = sym c.is_same.ensures ∙ c.if-is_same.false in
    let own = empty_packet c.advance.new.self.head in
    let filled = filled_more p (place_of c.in-Some.next) c.args.self.now c.loop-next.self c.advance.new.self so.0 own so.1 c.in-Some.ensures.some other c.advance.ensures refl in
    (so.0 ++ own, filled, (so.2.0 ++ c.in-Done.ensures.0, puts_then so.0 own _ _ _ _ _ _ so.2.1 c.in-Done.ensures.1))

pub returns-in-WriteFault-clause-writes : goal.returns-in-WriteFault-clause-writes
returns-in-WriteFault-clause-writes g c =
    let so = c.loop-next.invariant in
    let p = place_of c.args.place in
    let other = sym c.is_same.ensures ∙ c.if-is_same.false in
    let own = empty_packet c.advance.new.self.head in
    let all = filled_until p (place_of c.in-Some.next) c.args.self.now c.loop-next.self c.advance.new.self so.0 own so.1 c.in-Some.ensures.some other c.advance.ensures refl in
    let out = puts_then so.0 own _ _ _ _ _ _ so.2.1 c.in-WriteFault.ensures.1 in
    (so.2.0 ++ c.in-WriteFault.ensures.0, puts_same _ _ _ _ _ _ all (puts_front (so.0 ++ own) (empty_packets c.args.self.now.head (places_before p c.advance.new.self.later)) _ _ _ out))
