use Rattle.std.proofs.Common.{refl}
use Rattle.packetiser.proofs.Starting.{new_sender, nothing_left}
use Rattle.packetiser.proofs.packetiser.Packetiser.new.Goals as goal

pub returns : goal.returns
returns c = (
  refl,
  new_sender c.args.plan _ c.is_plan.ensures refl c.in_ok-pieces.ensures c.in_ok-payload.ensures (nothing_left c.bytes-from.result.now c.in_ok-pieces.pieces.given c.bytes-from.ensures) refl c.stamp-stamp.ensures refl refl,
)
