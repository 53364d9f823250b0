use Rattle.std.proofs.Common.{◌+◌}
use Rattle.pcrl_order.specs.Anchors.{anchored_of, component_places}
use Rattle.pcrl_order.proofs.Parts.{mapped_all}
use Rattle.pcrl_order.proofs.anchored.all_anchored.Goals as goal

pub loop-c-preserved : goal.loop-c-preserved
loop-c-preserved c =
    mapped_all (anchored_of c.args.geometry.now) (λ k. component_places c.args.geometry.now k (c.args.geometry.now.levels + 1)) c.loop-c.c _ _ c.loop-c.invariant c.in_ok-add_component.ensures
