use Rattle.std.proofs.Common.{◌≡◌, ◌∷◌, ◌++◌, map, length}
use Rattle.codestream_model.specs.Precincts.{IsPrecinct}
use Rattle.codestream_model.specs.PacketOrder.{packet_order}
use Rattle.trial_model.specs.Generator.{draw_contents}
use Rattle.pcrl_order.specs.Ahead.{rest}
use Rattle.codestream_make.specs.Making.{content_of}
use Rattle.codestream_make.proofs.generator.draw_contents.Given as goal

-- The contents that were drawn, and those that are to come from here on, are all.
abbrev pub invariant-loop-contents : goal.invariant-loop-contents
invariant-loop-contents l = record {
  head : l.walk.head ≡ l.fn.walk.head;
  precinct : IsPrecinct l.walk.head l.walk.place;
  drawn : map content_of l.contents.items ++ (draw_contents l.fn.walk.head (l.walk.place ∷ rest l.walk) l.draws.state).value ≡ (draw_contents l.fn.walk.head (packet_order l.fn.walk.head) l.fn.seed).value;
}

abbrev pub decreases-loop-contents : goal.decreases-loop-contents
decreases-loop-contents l = length (rest l.walk)
