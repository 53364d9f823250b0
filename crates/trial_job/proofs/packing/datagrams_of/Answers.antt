use Rattle.std.proofs.Common.{◌++◌, ◌∷◌, [], ◌∙◌, ap, sym, subst}
use Rattle.scl_outside.specs.Memory.{sure_meaning}
use Rattle.stream_model.specs.Cut.{Plan}
use Rattle.packetiser.specs.Sending.{Sender, Sends}
use Rattle.packetiser.specs.declared.packetiser.PackOut.{PackOut}
use Rattle.trial_job.proofs.Cut.{input_is, none_sent, one_sent, one_fewer, all_sent}
use Rattle.trial_job.proofs.packing.datagrams_of.Goals as goal

pub loop-datagrams-init : goal.loop-datagrams-init
loop-datagrams-init c = none_sent c.args.sender.now.plan c.args.input.now c.args.sender.now c.new-datagrams.result c.new-datagrams.ensures c.requires

pub step-requires : goal.step-requires
step-requires c =
    let so = c.loop-datagrams.invariant in
    let S : Plan → Type 0 = λ p. Sender p so.read c.loop-datagrams.datagrams c.loop-datagrams.sender in
    (so.read, c.loop-datagrams.datagrams, subst S (sym so.sender.plan) so.sender)

pub loop-datagrams-smaller : goal.loop-datagrams-smaller
loop-datagrams-smaller c =
    let (es, sends) = c.step.ensures in
    let P : PackOut → Type 0 = λ a. Sends c.loop-datagrams.sender (sure_meaning c.loop-datagrams.input) (sure_meaning c.step.new.duct) a c.step.new.self es in
    one_fewer c.args.sender.now.plan _ c.loop-datagrams.input c.step.new.duct c.loop-datagrams.sender c.step.new.self c.loop-datagrams.datagrams es c.loop-datagrams.invariant (subst P c.in-Datagram.is sends)

pub loop-datagrams-preserved : goal.loop-datagrams-preserved
loop-datagrams-preserved c =
    let (es, sends) = c.step.ensures in
    let P : PackOut → Type 0 = λ a. Sends c.loop-datagrams.sender (sure_meaning c.loop-datagrams.input) (sure_meaning c.step.new.duct) a c.step.new.self es in
    let is = c.in_ok-push.ensures ∙ ap (λ d. c.loop-datagrams.datagrams ++ d ∷ []) c.bytes.ensures.bytes in
    one_sent c.args.sender.now.plan _ c.loop-datagrams.input c.step.new.duct c.loop-datagrams.sender c.step.new.self c.loop-datagrams.datagrams c.push.new.self es c.loop-datagrams.invariant (subst P c.in-Datagram.is sends) is

pub returns : goal.returns
returns c = λ parts codestreams can within left.
    let (es, sends) = c.step.ensures in
    all_sent c.args.sender.now.plan parts codestreams _ c.loop-datagrams.input c.step.new.duct c.loop-datagrams.sender c.step.new.self c.loop-datagrams.datagrams c.step.result es can within (input_is c.args.input.now _ left) c.loop-datagrams.invariant sends c.in_default.not-Datagram
