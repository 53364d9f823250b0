use Rattle.std.proofs.Common.{subst}
use Rattle.codestream_model.specs.HeadLimits.{IsWithinLimits}
use Rattle.resync_decoder.proofs.Orders.{found_in}
use Rattle.resync_decoder.proofs.current.Current.find.Goals as goal

pub returns-clause-place : goal.returns-clause-place
returns-clause-place c =
    found_in c.pids_are_distinct.ensures c.packet_order_is_computed.ensures c.later_is_the_rest.ensures c.self.inside.stamp c.self.inside.geometry c.args.self.now c.args.pid c.of_pid.result
    c.self.view_is (subst IsWithinLimits c.head.ensures c.is_within_limits.ensures) c.of_pid.ensures.some c.of_pid.ensures.none
