use Rattle.std.proofs.Common.{◌≡◌, ℕ, List, [], ◌∷◌, Some, None, refl, subst}
use Rattle.codestream_model.specs.HeadLimits.{IsWithinLimits}
use Rattle.codestream_model.specs.Precincts.{IsPrecinct}
use Rattle.pcrl_order.specs.Ahead.{OrderPlace, rest}
use Rattle.pcrl_order.specs.Anchors.{place_in}
use Rattle.pcrl_order.specs.Later.{later}
use Rattle.pcrl_order.specs.Least.{IsLeastOf}
use Rattle.pcrl_order.proofs.Candidates.{next_after, none_after}
use Rattle.pcrl_order.proofs.walk.OrderWalk.advance.Goals as goal

pub returns-in-Some-clause-next : goal.returns-in-Some-clause-next
returns-in-Some-clause-next c =
    let h = c.self.inside.geometry in
    let limits = subst IsWithinLimits c.head.ensures c.is_within_limits.ensures in
    let P : List ℕ → Type 0 = λ from. IsLeastOf h from (IsPrecinct h) (Some c.in-Some.next) in
    let Q : OrderPlace → Type 0 = λ v. rest v ≡ place_in c.in-Some.next ∷ later h (place_in c.in-Some.next) in
    λ said. subst Q c.self.view_is (next_after h c.self.inside.here c.in-Some.next limits c.self.invariant.0 (subst P c.key_after.ensures.numbers c.in-Some.ensures.least))

pub returns-in-None-clause-last : goal.returns-in-None-clause-last
returns-in-None-clause-last c =
    let h = c.self.inside.geometry in
    let limits = subst IsWithinLimits c.head.ensures c.is_within_limits.ensures in
    let P : List ℕ → Type 0 = λ from. IsLeastOf h from (IsPrecinct h) None in
    let Q : OrderPlace → Type 0 = λ v. (rest v ≡ []) × (record { head = h; place = place_in c.self.inside.here } ≡ v) in
    λ said. subst Q c.self.view_is (none_after h c.self.inside.here limits c.self.invariant.0 (subst P c.key_after.ensures.numbers (rw c.in-None.is at c.take_next.ensures.least)), refl)
