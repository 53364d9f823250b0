use Rattle.codestream_model.specs.PacketOrder.{places_of}
use Rattle.pcrl_order.specs.Anchors.{anchored_of}
use Rattle.pcrl_order.proofs.Parts.{mapped_more}
use Rattle.pcrl_order.proofs.anchored.add_component.Goals as goal

pub loop-r-preserved : goal.loop-r-preserved
loop-r-preserved c =
    mapped_more (anchored_of c.args.geometry.now) (λ r. places_of c.args.geometry.now c.args.c r) c.loop-r.r _ _ _ c.loop-r.invariant c.in_ok-add_resolution.ensures
