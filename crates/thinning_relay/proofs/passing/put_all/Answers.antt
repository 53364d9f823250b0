use Rattle.std.proofs.Common.{arith}
use Rattle.thinning_relay.specs.Receivers.{PutsShare}
use Rattle.thinning_relay.proofs.Loops.{changing_none, changing_more, changed}
use Rattle.thinning_relay.proofs.passing.put_all.Goals as goal

pub loop-j-init : goal.loop-j-init
loop-j-init c = changing_none PutsShare c.args.receivers.now

pub loop-j-preserved : goal.loop-j-preserved
loop-j-preserved c = let e = c.loop-j.invariant.count in changing_more PutsShare c.loop-j.j c.args.receivers.now c.loop-j.receivers _ c.put_share.new.self (omega arith) c.loop-j.invariant c.put_share.ensures

pub returns : goal.returns
returns c = record { count = c.loop-j.invariant.count; each = changed PutsShare c.loop-j.j c.args.receivers.now c.loop-j.receivers (let e = c.loop-j.invariant.count in omega arith) c.loop-j.invariant }
