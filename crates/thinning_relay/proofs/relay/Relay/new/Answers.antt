use Rattle.std.proofs.Common.{get_or, refl, arith}
use Rattle.thinning_relay.proofs.Making.{made_none, made_more, all_made, peer_at}
use Rattle.thinning_relay.proofs.relay.Relay.new.Goals as goal

pub loop-j-init : goal.loop-j-init
loop-j-init c = made_none c.args.peers.now c.in_ok-receivers.receivers.items c.in_ok-receivers.ensures.items

pub loop-j-preserved : goal.loop-j-preserved
loop-j-preserved c =
    let e = c.in_ok-receiver.ensures in
    made_more c.loop-j.j c.args.peers.now c.loop-j.receivers.items c.push.new.self.items (get_or c.args.peers.now c.loop-j.j (record { limit = 0; depth = 0 })) c.in_ok-receiver.receiver
    c.in_ok-push.ensures.items (peer_at c.args.peers.now c.loop-j.j (record { limit = 0; depth = 0 }) c.loop-j-test.true)
    (record { limit = e.limit; depth = e.queue.0; empty = e.queue.1; sent = e.counts.0; lost = e.counts.1; failed = e.counts.2 })
    e.number c.loop-j.invariant

pub returns : goal.returns
returns c = record { receivers = all_made c.loop-j.j c.args.peers.now c.loop-j.receivers.items (omega arith) c.loop-j.invariant; received = refl; refused = refl }

pub invariant_of-result : goal.invariant_of-result
invariant_of-result c = record { numbered = c.loop-j.invariant.numbered }
