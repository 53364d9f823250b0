use Rattle.std.proofs.Common.{◌<◌, ◌*◌, ◌∙◌, ap, refl, sym, subst, List, ℕ}
use Rattle.std.specs.List.{AllByRecursion}
use Rattle.trial_model.specs.Trial.{delivered_positions}
use Rattle.trial_job.proofs.Counted.{counted_trial}
use Rattle.trial_job.proofs.counting.count_trial.Goals as goal

pub receive-requires-clause-within : goal.receive-requires-clause-within
receive-requires-clause-within c =
    let P : ℕ → Type 0 = λ n. AllByRecursion (λ i. i < n) c.deref.result.now in
    let Q : List ℕ → Type 0 = λ l. AllByRecursion (λ i. i < c.len.result) l in
    subst P c.len.ensures.len (subst Q (sym c.deref.ensures.value) c.in_ok-positions.ensures.within)

pub returns : goal.returns
returns c =
    let positions = c.deref.ensures.value ∙ (c.in_ok-positions.ensures.positions ∙ ap (delivered_positions c.args.asked.seed c.args.asked.loss) c.len.ensures.len) in
    counted_trial c.args.asked.seed c.args.asked.count c.args.asked.loss c.args.asked.window c.args.asked.limit c.in_ok-datagrams.datagrams c.deref.result.now c.in_ok-received.received _ c.requires.few c.requires.a_window
    c.in_ok-datagrams.ensures positions c.in_ok-received.ensures c.len-2.ensures.len (c.len-3.ensures ∙ sym c.deref.ensures.len) refl refl (ap (λ n. n * 30) c.from.ensures) refl
