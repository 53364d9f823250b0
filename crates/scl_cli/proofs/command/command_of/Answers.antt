use Rattle.scl_cli.proofs.Grammar.{begins}
use Rattle.scl_cli.proofs.command.command_of.Goals as goal

pub thin_of-requires : goal.thin_of-requires
thin_of-requires c = rw c.in-Thin.is at (begins _ _ _ c.get.ensures c.in_ok-verb_in.ensures.named)

pub head_of-requires : goal.head_of-requires
head_of-requires c = rw c.in-Head.is at (begins _ _ _ c.get.ensures c.in_ok-verb_in.ensures.named)

pub order_of-requires : goal.order_of-requires
order_of-requires c = rw c.in-Order.is at (begins _ _ _ c.get.ensures c.in_ok-verb_in.ensures.named)

pub report_of-requires : goal.report_of-requires
report_of-requires c = rw c.in-Report.is at (begins _ _ _ c.get.ensures c.in_ok-verb_in.ensures.named)

pub rebuild_of-requires : goal.rebuild_of-requires
rebuild_of-requires c = rw c.in-Rebuild.is at (begins _ _ _ c.get.ensures c.in_ok-verb_in.ensures.named)

pub recv_of-requires : goal.recv_of-requires
recv_of-requires c = rw c.in-Recv.is at (begins _ _ _ c.get.ensures c.in_ok-verb_in.ensures.named)

pub send_of-requires : goal.send_of-requires
send_of-requires c = rw c.in-Send.is at (begins _ _ _ c.get.ensures c.in_ok-verb_in.ensures.named)

pub parse_of-requires : goal.parse_of-requires
parse_of-requires c = rw c.in-Parse.is at (begins _ _ _ c.get.ensures c.in_ok-verb_in.ensures.named)

pub relay_of-requires : goal.relay_of-requires
relay_of-requires c = rw c.in-Relay.is at (begins _ _ _ c.get.ensures c.in_ok-verb_in.ensures.named)

pub deliver_of-requires : goal.deliver_of-requires
deliver_of-requires c = rw c.in-Deliver.is at (begins _ _ _ c.get.ensures c.in_ok-verb_in.ensures.named)

pub pack_of-requires : goal.pack_of-requires
pack_of-requires c = rw c.in-Pack.is at (begins _ _ _ c.get.ensures c.in_ok-verb_in.ensures.named)

pub gen_of-requires : goal.gen_of-requires
gen_of-requires c = rw c.in-Gen.is at (begins _ _ _ c.get.ensures c.in_ok-verb_in.ensures.named)

pub trial_of-requires : goal.trial_of-requires
trial_of-requires c = rw c.in-Trial.is at (begins _ _ _ c.get.ensures c.in_ok-verb_in.ensures.named)
