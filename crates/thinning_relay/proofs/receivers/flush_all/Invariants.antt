use Rattle.std.proofs.Common.{◌≡◌, length}
use Rattle.thinning_relay.proofs.Flushing.{Flushing}
use Rattle.thinning_relay.proofs.receivers.flush_all.Given as goal

abbrev pub invariant-loop-j : goal.invariant-loop-j
invariant-loop-j g l = record {
  flushing : Flushing l.j l.fn.receivers l.moved l.receivers (g.O.Duct.meaning l.fn.out) (g.O.Duct.meaning l.out);
  size : length l.receivers ≡ length l.fn.receivers;
}
