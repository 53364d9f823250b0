use Rattle.std.proofs.Common.{◌≡◌, ◌∙◌, ap, sym, subst, arith, List, ℕ, Some}
use Rattle.std.specs.Prelude.{IfOk}
use Rattle.stream_model.specs.Cut.{Plan}
use Rattle.stream_model.specs.ThinnedLaws.{CanBeSent, cut_of}
use Rattle.trial_model.specs.Trial.{trial_plan, trial_parts}
use Rattle.trial_model.specs.TrialLaws.{trial_codestreams}
use Rattle.trial_model.proofs.SentTrials.{trials_can_be_sent}
use Rattle.scl_outside.specs.Meaning.{Meaning}
use Rattle.trial_job.proofs.packing.packed.Goals as goal

pub returns : goal.returns
returns c =
    let parts = trial_parts c.args.seed c.args.count in
    let codestreams = trial_codestreams c.args.seed c.args.count in
    let t = trials_can_be_sent c.args.seed c.args.count c.requires in
    let plan : c.in_ok-sender.sender.plan ≡ trial_plan = c.in_ok-sender.ensures.0 ∙ c.plan.ensures in
    let C : Plan → Type 0 = λ p. CanBeSent p parts codestreams in
    let R : Plan → Type 0 = λ p. IfOk c.datagrams_of.result (λ datagrams. datagrams ≡ cut_of p parts) in
    let left = ap (λ (m : Meaning). m.left) c.in_ok-input.ensures.meaning ∙ ap (λ (l : List ℕ). Some l) (c.deref.ensures.value ∙ c.in_ok-bytes.ensures) in
    subst R plan (c.datagrams_of.ensures parts codestreams (subst C (sym plan) t.can_be_sent) (omega (arith, t.short)) left)
