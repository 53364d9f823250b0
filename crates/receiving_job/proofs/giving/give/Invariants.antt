use Rattle.std.proofs.Common.{◌≡◌, ◌++◌, List, length}
use Rattle.std.specs.List.{AllByRecursion}
use Rattle.stream_model.specs.Decoder.{Release}
use Rattle.stream_model.specs.ReceiverJoins.{having_given}
use Rattle.stream_model.specs.DrainLaws.{IsWhole}
use Rattle.scl_outside.specs.Events.{Event}
use Rattle.scl_outside.specs.declared.duct.PutOut.TheVariants.{Done}
use Rattle.stream_receiver.specs.States.{rest}
use Rattle.receiving_job.specs.Sinks.{PutsMore}
use Rattle.receiving_job.proofs.giving.give.Given as goal

-- the packets that were given are put, and those that are left are whole
abbrev pub invariant-loop-sink : goal.invariant-loop-sink
invariant-loop-sink g l =
    (ys : List Release) × (rest l.fn.receiver ≡ having_given ys (rest l.receiver)) × AllByRecursion IsWhole (rest l.receiver).releases
    × (l.receiver.pick ≡ l.fn.receiver.pick)
    × ((xs : List Release) → g.S.Sink.HasPut l.fn.sink xs
    → g.S.Sink.HasPut l.sink (xs ++ ys)
    × ((es : List Event) × PutsMore g.S.Sink.so_far xs ys (g.D.Duct.meaning l.fn.out) (g.D.Duct.meaning l.out) Done es))

abbrev pub decreases-loop-sink : goal.decreases-loop-sink
decreases-loop-sink g l = length (rest l.receiver).releases
