use Rattle.std.proofs.Common.{◌++◌, refl, sym}
use Rattle.rebuild_model.specs.Rebuilding.{eoc, empty_packet, empty_packets}
use Rattle.precinct_geometry.specs.Spans.{place_of}
use Rattle.scl_outside.proofs.Putting.{puts_same, puts_then, puts_front}
use Rattle.codestream_rebuild.proofs.Filling.{closing_more, closing_end}
use Rattle.codestream_rebuild.proofs.codestream.Codestream.close.Goals as goal

pub loop-self-preserved : goal.loop-self-preserved
loop-self-preserved g c =
    let so = c.loop-self.invariant in
    let own = empty_packet c.advance.new.self.head in
    let more = closing_more (place_of c.in-Some.field-0) c.args.self.now c.loop-self.self c.advance.new.self so.0 own so.1 c.in-Some.ensures.some c.advance.ensures refl in
    (so.0 ++ own, more, (so.2.0 ++ c.in-Done.ensures.0, puts_then so.0 own _ _ _ _ _ _ so.2.1 c.in-Done.ensures.1))

pub returns-in-WriteFault : goal.returns-in-WriteFault
returns-in-WriteFault g c =
    let so = c.loop-self.invariant in
    let own = empty_packet c.advance.new.self.head in
    let more = closing_more (place_of c.in-Some.field-0) c.args.self.now c.loop-self.self c.advance.new.self so.0 own so.1 c.in-Some.ensures.some c.advance.ensures refl in
    let out = puts_then so.0 own _ _ _ _ _ _ so.2.1 c.in-WriteFault.ensures.1 in
    (so.2.0 ++ c.in-WriteFault.ensures.0, puts_same _ _ _ _ _ _ (sym more.bytes) (puts_front (so.0 ++ own) (empty_packets c.args.self.now.head c.advance.new.self.later ++ eoc) _ _ _ out))

pub returns : goal.returns
returns g c =
    let so = c.loop-self.invariant in
    let all = closing_end c.args.self.now c.loop-self.self so.0 so.1 (c.in_default.ensures.none refl) in
    (so.2.0 ++ c.put.ensures.0, puts_same _ _ _ _ _ _ all (puts_then so.0 eoc _ _ _ _ _ _ so.2.1 c.put.ensures.1))
