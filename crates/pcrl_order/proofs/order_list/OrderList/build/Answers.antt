use Rattle.std.proofs.Common.{List, subst}
use Rattle.std.specs.List.Sorted.{IsPermutation}
use Rattle.codestream_model.specs.HeadLimits.{IsWithinLimits}
use Rattle.pcrl_order.specs.declared.anchored.Anchored.{Anchored}
use Rattle.pcrl_order.proofs.InOrder.{in_order}
use Rattle.pcrl_order.proofs.order_list.OrderList.build.Goals as goal

pub returns : goal.returns
returns c =
    let limits = subst IsWithinLimits c.head.ensures c.is_within_limits.ensures in
    let P : List Anchored → Type 0 = λ xs. IsPermutation xs c.put_in_order.new.found.items in
    let moved = subst P c.in_ok-found.ensures c.put_in_order.ensures.same in
    rw (c.in_ok-places.ensures, c.deref.ensures.value) (in_order c.args.geometry.now c.put_in_order.new.found.items limits moved c.put_in_order.ensures.sorted)
