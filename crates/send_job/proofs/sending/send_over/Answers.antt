use Rattle.std.proofs.Common.{◌++◌, List, ℕ, refl, sym, subst, arith}
use Rattle.polled_datagrams.specs.Offers.{on_wire}
use Rattle.scl_run.specs.declared.ending.Ending.{Ending}
use Rattle.scl_run.specs.Performing.{Performs}
use Rattle.send_job.specs.declared.counts.Counts.{Counts}
use Rattle.send_job.specs.Linked.{settings_with}
use Rattle.send_job.specs.Naming.{naming}
use Rattle.send_job.specs.Offering.{Offers}
use Rattle.send_job.specs.Sending.{Sent}
use Rattle.send_job.specs.Job.{send_job}
use Rattle.send_job.proofs.Working.{begun, is_sender, peers_after, few_counted, further, datagram_sent}
use Rattle.send_job.proofs.Ended.{named_not, read_failed, refused_met, header_met, many_met, ready, finish_met}
use Rattle.send_job.proofs.sending.send_over.Goals as goal

pub loop-sender-init : goal.loop-sender-init
loop-sender-init g c = (on_wire (naming (settings_with c.args.sender.now.plan c.args.link.now)), begun _ _ _ _ _ c.sending_is_told.ensures c.new-counts.ensures refl c.requires.sender (c.in-Bound.ensures c.args.sender.now.plan))

pub step-requires : goal.step-requires
step-requires g c = let i = c.loop-sender.invariant in is_sender _ _ _ _ _ _ i.1

pub returns-in-Failed : goal.returns-in-Failed
returns-in-Failed g c = named_not _ _ _ c.sending_is_told.ensures (c.in-Failed.ensures c.args.sender.now.plan)

pub offer-fate-requires : goal.offer-fate-requires
offer-fate-requires g c =
    let i = c.loop-sender.invariant in
    let k = c.in-Datagram.ensures in
    omega (arith, peers_after _ _ _ _ _ c.step.new.self _ _ _ i.1 k.1)

pub count-requires : goal.count-requires
count-requires g c =
    let i = c.loop-sender.invariant in
    let k = c.in-Datagram.ensures in
    few_counted _ _ _ _ _ c.step.new.self _ _ _ i.1 k.1

pub loop-sender-smaller : goal.loop-sender-smaller
loop-sender-smaller g c =
    let i = c.loop-sender.invariant in
    let k = c.in-Datagram.ensures in
    further _ _ _ _ _ c.step.new.self _ _ _ i.1 k.1

pub loop-sender-preserved : goal.loop-sender-preserved
loop-sender-preserved g c =
    let i = c.loop-sender.invariant in
    let k = c.in-Datagram.ensures in
    let s = settings_with c.args.sender.now.plan c.args.link.now in
    let O : List ℕ → Type 0 = λ l. Offers c.args.link.now.idle l c.offer-fate.result (g.O.Duct.meaning c.step.new.duct) (g.O.Duct.meaning c.offer-fate.new.out) in
    let I : ℕ → Type 0 = λ n. Offers n c.bytes.result.now c.offer-fate.result (g.O.Duct.meaning c.step.new.duct) (g.O.Duct.meaning c.offer-fate.new.out) in
    let o = subst O c.bytes.ensures.bytes (subst I c.idle.ensures c.offer-fate.ensures) in
    let C : Counts → Type 0 = λ n. (es : _) × Sent s (g.O.Duct.meaning c.args.out.now) (g.O.Duct.meaning c.offer-fate.new.out) c.step.new.self n es in
    subst C (sym c.count.ensures) (_, datagram_sent s _ _ _ _ _ c.step.new.self _ c.offer-fate.result _ _ c.datagram_is_told.ensures c.sending_is_told.ensures c.requires.idle i.1 k.1 o)

pub returns-in-End : goal.returns-in-End
returns-in-End g c =
    let i = c.loop-sender.invariant in
    let k = c.in-End.ensures in
    finish_met _ _ _ _ _ c.finish.result _ (ready _ _ _ _ _ c.step.new.self _ _ _ c.sending_is_told.ensures i.1 k.1) c.finish.ensures

pub returns-in-ReadFault : goal.returns-in-ReadFault
returns-in-ReadFault g c =
    let i = c.loop-sender.invariant in
    let k = c.in-ReadFault.ensures in
    (i.0 ++ k.0, read_failed _ _ _ _ _ c.step.new.self _ _ _ c.sending_is_told.ensures i.1 k.1)

pub returns-in-Refused : goal.returns-in-Refused
returns-in-Refused g c =
    let i = c.loop-sender.invariant in
    let k = c.in-Refused.ensures in
    (i.0 ++ k.0, refused_met _ _ _ _ _ c.step.new.self _ _ _ c.in-Refused.fault c.refusal_of.result c.sending_is_told.ensures i.1 k.1 c.refusal_of.ensures.at c.refusal_of.ensures.reason)

pub returns-in-HeaderTooLong : goal.returns-in-HeaderTooLong
returns-in-HeaderTooLong g c =
    let i = c.loop-sender.invariant in
    let k = c.in-HeaderTooLong.ensures in
    let P : Ending → Type 0 = λ e. Performs (send_job (settings_with c.args.sender.now.plan c.args.link.now)) (g.O.Duct.meaning c.args.out.now) (g.O.Duct.meaning c.step.new.duct) e (i.0 ++ k.0) in
    (i.0 ++ k.0, subst P (sym c.refused.ensures) (header_met _ _ _ _ _ c.step.new.self _ _ _ c.in-HeaderTooLong.at _ c.sending_is_told.ensures i.1 k.1 refl))

pub returns-in-TooManyDatagrams : goal.returns-in-TooManyDatagrams
returns-in-TooManyDatagrams g c =
    let i = c.loop-sender.invariant in
    let k = c.in-TooManyDatagrams.ensures in
    let P : Ending → Type 0 = λ e. Performs (send_job (settings_with c.args.sender.now.plan c.args.link.now)) (g.O.Duct.meaning c.args.out.now) (g.O.Duct.meaning c.step.new.duct) e (i.0 ++ k.0) in
    (i.0 ++ k.0, subst P (sym c.refused-in-TooManyDatagrams.ensures) (many_met _ _ _ _ _ c.step.new.self _ _ _ c.in-TooManyDatagrams.at _ c.sending_is_told.ensures i.1 k.1 refl))
