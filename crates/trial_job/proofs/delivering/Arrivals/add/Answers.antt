use Rattle.std.proofs.Common.{◌≡◌, ◌≤◌, refl, ap, ◌∙◌, arith, ℕ, List, [], ◌∷◌, ◌++◌}
use Rattle.trial_model.specs.Draws.{draw}
use Rattle.trial_job.specs.declared.delivering.Arrivals.{Arrivals}
use Rattle.trial_job.proofs.DeliverySteps.{lost, once, twice}
use Rattle.trial_job.proofs.delivering.Arrivals.add.Goals as goal
use Rattle.trial_job.proofs.delivering.Arrivals.add.Goals.{then-below-eq0+in_ok-push, else-below-eq0}

pub returns-then-below-from : goal.returns-then-below-from
returns-then-below-from c =
    lost c.args.loss c.args.position c.below.result c.args.self.now _ c.below.ensures.number
    (omega (arith, c.if-below-from.true, c.from.ensures)) refl c.below.ensures.state

pub returns : goal.returns
returns c =
    let more : c.args.loss ≤ c.below.result = omega (arith, c.if-below-from.false, c.from.ensures) in
    let number : c.below-2.result ≡ (draw 8 (draw 1000 c.args.self.now.draws.state).state).value =
    c.below-2.ensures.number ∙ ap (λ (s : ℕ). (draw 8 s).value) c.below.ensures.state in
    let state : c.below-2.new.self.state ≡ (draw 8 (draw 1000 c.args.self.now.draws.state).state).state =
    c.below-2.ensures.state ∙ ap (λ (s : ℕ). (draw 8 s).state) c.below.ensures.state in
    let added : List ℕ → List ℕ = λ l. l ++ c.args.position ∷ [] in
    elim c.if-below-eq0.branch [
      | then-below-eq0+in_ok-push w ↦ twice c.args.loss c.args.position c.below.result c.below-2.result c.args.self.now _ c.below.ensures.number more number
          w.if-below-eq0.true
          (c.in_ok-push-2.ensures.items ∙ (ap (λ (a : Arrivals). added a.positions.items) w.self-is ∙ ap added w.in_ok-push.ensures.items))
          (ap (λ (a : Arrivals). a.draws.state) w.self-is ∙ state)
      | else-below-eq0 w ↦ once c.args.loss c.args.position c.below.result c.below-2.result c.args.self.now _ c.below.ensures.number more number
          w.if-below-eq0.false
          (c.in_ok-push-2.ensures.items ∙ ap (λ (a : Arrivals). added a.positions.items) w.self-is)
          (ap (λ (a : Arrivals). a.draws.state) w.self-is ∙ state)
    ]
