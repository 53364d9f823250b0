use Rattle.std.proofs.Common.{sym, arith}
use Rattle.resync_decoder.proofs.Fields.{emptied_sound, none_is}
use Rattle.resync_decoder.proofs.decoder.Decoder.go_without_run.Goals as goal

pub invariant_of-self : goal.invariant_of-self
invariant_of-self c =
    emptied_sound c.self.inside (record c.self.inside { buffer = c.clear.new.self }) c.self.invariant c.clear.ensures.items (omega (arith, c.clear.ensures.capacity, c.self.invariant.room)) (none_is c.self.inside.mark (sym c.if-is_some.ensures))
