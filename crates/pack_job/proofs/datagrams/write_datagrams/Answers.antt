use Rattle.std.proofs.Common.{[], ◌++◌, length, refl, ap, subst, sym, List, ℕ, arith}
use Rattle.wire_model.specs.Framing.{frame}
use Rattle.scl_run.specs.declared.ending.Ending.{Ending}
use Rattle.scl_run.specs.Performing.{Performs}
use Rattle.pack_job.specs.PackJob.{pack_job}
use Rattle.scl_outside.specs.Writing.{Puts}
use Rattle.scl_outside.specs.declared.duct.PutOut.TheVariants.{Done as Put, WriteFault as NotPut}
use Rattle.pack_job.proofs.Turns.{none_yet, is_sender, datagram_given, frame_some, datagram_written, datagram_broken, end_met, read_failed, refused_met, header_met, many_met, further}
use Rattle.pack_job.proofs.datagrams.write_datagrams.Goals as goal

pub loop-out-init : goal.loop-out-init
loop-out-init g c = ([], none_yet _ _ _ refl c.requires)

pub step-requires : goal.step-requires
step-requires g c = let i = c.loop-out.invariant in is_sender _ _ _ _ _ i.1

pub put_frame-requires-clause-some : goal.put_frame-requires-clause-some
put_frame-requires-clause-some g c =
    let i = c.loop-out.invariant in
    let k = c.in-Datagram.ensures in
    let d = datagram_given _ _ _ _ _ c.step.new.self _ _ i.1 k.1 in
    omega (arith, frame_some _ _ _ _ _ d, ap length c.bytes.ensures.bytes)

pub loop-out-preserved : goal.loop-out-preserved
loop-out-preserved g c =
    let i = c.loop-out.invariant in
    let k = c.in-Datagram.ensures in
    let d = datagram_given _ _ _ _ _ c.step.new.self _ _ i.1 k.1 in
    let P : List ℕ → Type 0 = λ l. Puts (frame l) (g.D.Duct.meaning c.step.new.duct) (g.D.Duct.meaning c.put_frame.new.duct) Put c.in-Done.ensures.0 in
    ((i.0 ++ k.0) ++ c.in-Done.ensures.0, datagram_written _ _ _ _ _ _ _ d (subst P c.bytes.ensures.bytes c.in-Done.ensures.1))

pub loop-out-smaller : goal.loop-out-smaller
loop-out-smaller g c =
    let i = c.loop-out.invariant in
    let k = c.in-Datagram.ensures in
    further _ _ _ _ _ c.step.new.self _ _ i.1 k.1

pub returns-in-WriteFault : goal.returns-in-WriteFault
returns-in-WriteFault g c =
    let i = c.loop-out.invariant in
    let k = c.in-Datagram.ensures in
    let d = datagram_given _ _ _ _ _ c.step.new.self _ _ i.1 k.1 in
    let P : List ℕ → Type 0 = λ l. Puts (frame l) (g.D.Duct.meaning c.step.new.duct) (g.D.Duct.meaning c.put_frame.new.duct) NotPut c.in-WriteFault.ensures.0 in
    ((i.0 ++ k.0) ++ c.in-WriteFault.ensures.0, datagram_broken _ _ _ _ _ _ _ d (subst P c.bytes.ensures.bytes c.in-WriteFault.ensures.1))

pub returns-in-HeaderTooLong : goal.returns-in-HeaderTooLong
returns-in-HeaderTooLong g c =
    let i = c.loop-out.invariant in
    let k = c.in-HeaderTooLong.ensures in
    let P : Ending → Type 0 = λ e. Performs (pack_job c.args.sender.now.plan) (g.D.Duct.meaning c.args.out.now) (g.D.Duct.meaning c.step.new.duct) e (i.0 ++ k.0) in
    (i.0 ++ k.0, subst P (sym c.refused.ensures) (header_met _ _ _ _ _ c.step.new.self _ _ c.in-HeaderTooLong.at _ i.1 k.1 refl))

pub returns-in-End : goal.returns-in-End
returns-in-End g c = let i = c.loop-out.invariant in let k = c.in-End.ensures in (i.0 ++ k.0, end_met _ _ _ _ _ c.step.new.self _ _ i.1 k.1)

pub returns-in-ReadFault : goal.returns-in-ReadFault
returns-in-ReadFault g c = let i = c.loop-out.invariant in let k = c.in-ReadFault.ensures in (i.0 ++ k.0, read_failed _ _ _ _ _ c.step.new.self _ _ i.1 k.1)

pub returns-in-Refused : goal.returns-in-Refused
returns-in-Refused g c =
    let i = c.loop-out.invariant in
    let k = c.in-Refused.ensures in
    (i.0 ++ k.0, refused_met _ _ _ _ _ c.step.new.self _ _ c.in-Refused.fault c.refusal_of.result i.1 k.1 c.refusal_of.ensures.at c.refusal_of.ensures.reason)

pub returns-in-TooManyDatagrams : goal.returns-in-TooManyDatagrams
returns-in-TooManyDatagrams g c =
    let i = c.loop-out.invariant in
    let k = c.in-TooManyDatagrams.ensures in
    let P : Ending → Type 0 = λ e. Performs (pack_job c.args.sender.now.plan) (g.D.Duct.meaning c.args.out.now) (g.D.Duct.meaning c.step.new.duct) e (i.0 ++ k.0) in
    (i.0 ++ k.0, subst P (sym c.refused-in-TooManyDatagrams.ensures) (many_met _ _ _ _ _ c.step.new.self _ _ c.in-TooManyDatagrams.at _ i.1 k.1 refl))
