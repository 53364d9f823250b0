use Rattle.std.proofs.Common.{[], ◌++◌}
use Rattle.packetiser.proofs.Stepping.{going_none, going_further, going_stops, rank_falls, sender_stays}
use Rattle.packetiser.proofs.packetiser.Packetiser.step.Goals as goal

pub loop-out-init : goal.loop-out-init
loop-out-init g c = record { sender = c.requires; going = ([], going_none _ _) }

pub advance-requires : goal.advance-requires
advance-requires g c = let i = c.loop-out.invariant in sender_stays _ _ _ _ _ i.going.1 i.sender

pub loop-out-preserved : goal.loop-out-preserved
loop-out-preserved g c =
    let i = c.loop-out.invariant in
    let k = c.in-None.ensures in
    record { sender = i.sender; going = (i.going.0 ++ k.0, going_further _ _ _ _ _ _ _ _ _ _ i.sender.2 i.going.1 k.1) }

pub loop-out-smaller : goal.loop-out-smaller
loop-out-smaller g c =
    let i = c.loop-out.invariant in
    let k = c.in-None.ensures in
    let s = sender_stays _ _ _ _ _ i.going.1 i.sender in
    rank_falls _ _ _ _ _ _ _ _ s.2 k.1

pub returns-in-Some : goal.returns-in-Some
returns-in-Some g c =
    let i = c.loop-out.invariant in
    let k = c.in-Some.ensures in
    (i.going.0 ++ k.0, going_stops _ _ _ _ _ _ _ _ _ _ _ i.sender.2 i.going.1 k.1)
