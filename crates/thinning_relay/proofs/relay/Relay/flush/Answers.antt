use Rattle.std.proofs.Common.{◌≡◌, length, refl, arith}
use Rattle.std.proofs.lemmas.List.{with_items_is}
use Rattle.thinning_relay.proofs.Turned.{relay_flushed, numbered_after}
use Rattle.thinning_relay.proofs.relay.Relay.flush.Goals as goal

pub invariant_of-self : goal.invariant_of-self
invariant_of-self g c =
    let value = c.deref_mut.ensures.value in
    let len : length c.flush_all.new.receivers ≡ c.args.self.now.receivers.len = omega (arith, c.flush_all.auto, c.deref_mut.ensures.len, c.args.self.now.receivers.ok) in
    record { numbered = numbered_after c.args.self.now.receivers.items c.flush_all.new.receivers _ c.flush_all.result _ _ (rw value at c.flush_all.ensures) (with_items_is c.args.self.now.receivers c.flush_all.new.receivers len) c.args.self.now.numbered }

pub returns : goal.returns
returns g c =
    let value = c.deref_mut.ensures.value in
    let len : length c.flush_all.new.receivers ≡ c.args.self.now.receivers.len = omega (arith, c.flush_all.auto, c.deref_mut.ensures.len, c.args.self.now.receivers.ok) in
    relay_flushed c.args.self.now _ _ _ _ c.flush_all.new.receivers (rw value at c.flush_all.ensures) (with_items_is c.args.self.now.receivers c.flush_all.new.receivers len) refl refl
