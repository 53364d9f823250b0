use Rattle.std.proofs.Common.{◌≡◌, ◌∙◌, length, refl, Some, arith}
use Rattle.std.proofs.lemmas.List.{with_items_is}
use Rattle.thinning_relay.specs.Receivers.{count_after}
use Rattle.thinning_relay.proofs.Turned.{took_in, took_none, kept_counts, refused_counts, numbered_in, numbered_none}
use Rattle.thinning_relay.proofs.Levels.{wanted_formed}
use Rattle.thinning_relay.proofs.relay.Relay.take_in.Goals as goal

pub invariant_of-self-in-Kept : goal.invariant_of-self-in-Kept
invariant_of-self-in-Kept g c =
    let value = c.deref_mut.ensures.value in
    let len : length c.accept.new.receivers ≡ c.args.self.now.receivers.len = omega (arith, c.accept.auto, c.deref_mut.ensures.len, c.args.self.now.receivers.ok) in
    let items = with_items_is c.args.self.now.receivers c.accept.new.receivers len in
    record { numbered = numbered_in (Some c.bytes.result.now) c.args.self.now.receivers.items c.accept.new.receivers _ (rw value at c.in-Kept.ensures).1 items c.args.self.now.numbered }

pub invariant_of-self-in-Refused : goal.invariant_of-self-in-Refused
invariant_of-self-in-Refused g c =
    let value = c.deref_mut.ensures.value in
    let len : length c.accept.new.receivers ≡ c.args.self.now.receivers.len = omega (arith, c.accept.auto, c.deref_mut.ensures.len, c.args.self.now.receivers.ok) in
    let items = with_items_is c.args.self.now.receivers c.accept.new.receivers len in
    record { numbered = numbered_in (Some c.bytes.result.now) c.args.self.now.receivers.items c.accept.new.receivers _ (rw value at c.in-Refused.ensures).1 items c.args.self.now.numbered }

pub invariant_of-self-in-NoMemory : goal.invariant_of-self-in-NoMemory
invariant_of-self-in-NoMemory g c =
    let value = c.deref_mut.ensures.value in
    let len : length c.accept.new.receivers ≡ c.args.self.now.receivers.len = omega (arith, c.accept.auto, c.deref_mut.ensures.len, c.args.self.now.receivers.ok) in
    let items = with_items_is c.args.self.now.receivers c.accept.new.receivers len in
    record { numbered = numbered_none c.args.self.now.receivers.items c.accept.new.receivers _ (rw value at c.in-NoMemory.ensures).1 items c.args.self.now.numbered }

pub returns-in-Kept : goal.returns-in-Kept
returns-in-Kept g c =
    let got = c.in-Ready.ensures.polled in
    let value = c.deref_mut.ensures.value in
    let len : length c.accept.new.receivers ≡ c.args.self.now.receivers.len = omega (arith, c.accept.auto, c.deref_mut.ensures.len, c.args.self.now.receivers.ok) in
    let items = with_items_is c.args.self.now.receivers c.accept.new.receivers len in
    let front = c.bytes.ensures ∙ got.2 in
    let accepts = rw value at c.in-Kept.ensures in
    let one : c.saturating_add-self.result ≡ count_after c.args.self.now.received 1 = omega arith in
    took_in c.args.self.now _ got.0 c.bytes.result.now _ _ c.accept.new.receivers got.3 front accepts.1 items (kept_counts c.args.self.now _ got.0 c.bytes.result.now front accepts.0 one refl)

pub returns-in-Refused : goal.returns-in-Refused
returns-in-Refused g c =
    let got = c.in-Ready.ensures.polled in
    let value = c.deref_mut.ensures.value in
    let len : length c.accept.new.receivers ≡ c.args.self.now.receivers.len = omega (arith, c.accept.auto, c.deref_mut.ensures.len, c.args.self.now.receivers.ok) in
    let items = with_items_is c.args.self.now.receivers c.accept.new.receivers len in
    let front = c.bytes.ensures ∙ got.2 in
    let accepts = rw value at c.in-Refused.ensures in
    let one : c.saturating_add-self.result ≡ count_after c.args.self.now.received 1 = omega arith in
    let two : c.saturating_add-self-in-Refused.result ≡ count_after c.args.self.now.refused 1 = omega arith in
    took_in c.args.self.now _ got.0 c.bytes.result.now _ _ c.accept.new.receivers got.3 front accepts.1 items (refused_counts c.args.self.now _ got.0 c.bytes.result.now front accepts.0 one two)

pub returns-in-NoMemory : goal.returns-in-NoMemory
returns-in-NoMemory g c =
    let got = c.in-Ready.ensures.polled in
    let value = c.deref_mut.ensures.value in
    let len : length c.accept.new.receivers ≡ c.args.self.now.receivers.len = omega (arith, c.accept.auto, c.deref_mut.ensures.len, c.args.self.now.receivers.ok) in
    let items = with_items_is c.args.self.now.receivers c.accept.new.receivers len in
    let front = c.bytes.ensures ∙ got.2 in
    let accepts = rw value at c.in-NoMemory.ensures in
    let one : c.saturating_add-self.result ≡ count_after c.args.self.now.received 1 = omega arith in
    took_none c.args.self.now _ got.0 c.bytes.result.now _ _ c.accept.new.receivers got.3 front accepts items
    (kept_counts c.args.self.now _ got.0 c.bytes.result.now front (wanted_formed c.bytes.result.now c.args.self.now.receivers.items accepts.0) one refl)
