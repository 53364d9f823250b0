use Rattle.std.proofs.Common.{subst}
use Rattle.codestream_model.specs.HeadLimits.{IsWithinLimits}
use Rattle.precinct_geometry.specs.Spans.{place_of}
use Rattle.resync_decoder.proofs.Orders.{order_from_in}
use Rattle.resync_decoder.proofs.current.Current.order_from.Goals as goal

pub returns : goal.returns
returns c =
    order_from_in c.packet_order_is_computed.ensures c.later_is_the_rest.ensures c.places_from_one_on.ensures c.self.inside.stamp c.self.inside.geometry c.args.self.now (place_of c.args.place)
    c.self.view_is (subst IsWithinLimits c.head.ensures c.is_within_limits.ensures) c.requires
