use Rattle.codestream_make.proofs.Walking.{HasPut}
use Rattle.codestream_make.proofs.packets.Maker.put_packets.Given as goal

abbrev pub invariant-loop-plan : goal.invariant-loop-plan
invariant-loop-plan l = HasPut l.fn.walk l.walk l.is_over l.contents l.plan-index l.fn.self.gathered l.self.gathered
