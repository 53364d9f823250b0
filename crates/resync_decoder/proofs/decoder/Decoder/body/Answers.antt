use Rattle.std.proofs.Common.{rules, ◌≡◌, length, arith}
use Rattle.resync_decoder.proofs.Fields.{marked_sound, joined_sound}
use Rattle.resync_decoder.proofs.decoder.Decoder.body.Goals as goal

pub invariant_of-self-in-Some-find : goal.invariant_of-self-in-Some-find
invariant_of-self-in-Some-find c =
    let size : c.len.result ≡ length c.self.inside.buffer.items = search rules in
    let joined = c.append-self-inside.ensures in
    marked_sound c.self.inside c.args.self.now c.in-Some.current c.append-self-inside.result _ (record c.self.inside { buffer = c.append-self-inside.new.buffer }) c.args.bytes.now c.in-Some-find.place c.self.view_is c.self.invariant c.in-Some.is
    joined.bytes joined.within joined.few joined.room c.args.head.now.pos (c.requires.pos c.if-not-head.false) (omega (arith, size, c.from.ensures)) c.in-Some-find.ensures.precinct

pub invariant_of-self-then-not-head : goal.invariant_of-self-then-not-head
invariant_of-self-then-not-head c =
    let joined = c.append-self-inside.ensures in
    joined_sound c.self.inside (record c.self.inside { buffer = c.append-self-inside.new.buffer }) c.args.self.now c.in-Some.current c.append-self-inside.result c.self.inside.disagreed c.args.bytes.now c.self.view_is c.self.invariant c.requires.waits c.in-Some.is
    joined.bytes joined.within joined.few joined.room

pub invariant_of-self-in-None : goal.invariant_of-self-in-None
invariant_of-self-in-None c =
    let joined = c.append-self-inside.ensures in
    joined_sound c.self.inside (record c.self.inside { buffer = c.append-self-inside.new.buffer }) c.args.self.now c.in-Some.current c.append-self-inside.result _ c.args.bytes.now c.self.view_is c.self.invariant c.requires.waits c.in-Some.is
    joined.bytes joined.within joined.few joined.room
