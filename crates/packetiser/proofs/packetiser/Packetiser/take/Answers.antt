use Rattle.std.proofs.Common.{Some, sym, subst}
use Rattle.codestream_walk.specs.declared.fault.PieceOut.TheVariants as piece
use Rattle.packetiser.specs.Packing.{Packing, Takes}
use Rattle.packetiser.specs.Sending.{IsSender}
use Rattle.packetiser.proofs.Stepping.{start_ready}
use Rattle.packetiser.proofs.packetiser.Packetiser.take.Goals as goal

pub start-requires-clause-started : goal.start-requires-clause-started
start-requires-clause-started g c =
    let S : Packing → Type 0 = λ u. IsSender u in
    let s = subst S (sym c.self.view_is) c.requires.sender in
    start_ready _ _ _ _ c.step.new.self _ s.2 c.in-Start.ensures.steps.1.gives

pub returns-in-Head : goal.returns-in-Head
returns-in-Head g c =
    let k = c.in-Head.ensures.steps in
    let T : Packing → Type 0 = λ u. Takes u (g.D.Duct.meaning c.args.duct.now) (g.D.Duct.meaning c.step.new.duct) (Some c.main.result) c.main.new.self k.0 in
    (k.0, subst T c.self.view_is (record { piece = piece.Head; seen = c.step.new.self; steps = k.1; takes = c.main.ensures }))

pub returns-in-Start : goal.returns-in-Start
returns-in-Start g c =
    let k = c.in-Start.ensures.steps in
    let T : Packing → Type 0 = λ u. Takes u (g.D.Duct.meaning c.args.duct.now) (g.D.Duct.meaning c.step.new.duct) c.start.result c.start.new.self k.0 in
    (k.0, subst T c.self.view_is (record { piece = piece.Start; seen = c.step.new.self; steps = k.1; takes = c.start.ensures }))
