use Rattle.std.proofs.Common.{◌≡◌, ◌-◌, ◌+◌, ◌%◌, ◌^◌, ℕ, true, Option, Some, subst, sym, ap, ◌∙◌, arith}
use Rattle.reassembly_window.specs.Windows.{state_of, IsSound}
use Rattle.reassembly_window.proofs.Nexts.{hand_window, hand_sound, none_next, none_answer, none_window, gap_answer, gap_window, gap_sound}
use Rattle.reassembly_window.proofs.window.Window.next.Goals as goal

pub invariant_of-self-then-is_filled : goal.invariant_of-self-then-is_filled
invariant_of-self-then-is_filled c =
    let was : c.self.inside.base ≡ Some c.in_ok-base.base = c.in_ok-base.was in
    let view : state_of (Some c.in_ok-base.base) c.self.inside.due c.self.inside.ring c.self.inside.shown ≡ c.args.self.now = sym (ap (λ o. state_of o c.self.inside.due c.self.inside.ring c.self.inside.shown) was) ∙ c.self.view_is in
    let P : Option ℕ → Type 0 = λ o. IsSound o c.self.inside.due c.self.inside.held c.self.inside.ring.slots in
    let sound : IsSound (Some c.in_ok-base.base) c.self.inside.due c.self.inside.held c.self.inside.ring.slots = subst P was c.self.invariant in
    let Q : ℕ → Type 0 = λ u. IsSound (Some ((c.in_ok-base.base + 1) % 2 ^ 24)) u (c.self.inside.held - 1) c.pass_front.new.self.slots in
    subst Q (sym c.saturating_sub-self-inside.ensures) (hand_sound c.in_ok-base.base c.self.inside.due c.self.inside.held c.self.inside.ring c.pass_front.new.self sound (sym c.is_filled.ensures ∙ c.if-is_filled.true) c.pass_front.ensures.slots)

pub returns-then-is_filled-clause-window : goal.returns-then-is_filled-clause-window
returns-then-is_filled-clause-window c =
    let was : c.self.inside.base ≡ Some c.in_ok-base.base = c.in_ok-base.was in
    let view : state_of (Some c.in_ok-base.base) c.self.inside.due c.self.inside.ring c.self.inside.shown ≡ c.args.self.now = sym (ap (λ o. state_of o c.self.inside.due c.self.inside.ring c.self.inside.shown) was) ∙ c.self.view_is in
    let P : Option ℕ → Type 0 = λ o. IsSound o c.self.inside.due c.self.inside.held c.self.inside.ring.slots in
    let sound : IsSound (Some c.in_ok-base.base) c.self.inside.due c.self.inside.held c.self.inside.ring.slots = subst P was c.self.invariant in
    ap (λ u. state_of (Some ((c.in_ok-base.base + 1) % 2 ^ 24)) u c.pass_front.new.self true) c.saturating_sub-self-inside.ensures
    ∙ hand_window c.in_ok-base.base c.self.inside.due c.self.inside.held c.self.inside.ring c.pass_front.new.self c.self.inside.shown c.args.self.now view sound c.pass_front.ensures.passed (sym c.is_filled.ensures ∙ c.if-is_filled.true) c.pass_front.ensures.slots

pub returns-then-self-eq0-clause-answer : goal.returns-then-self-eq0-clause-answer
returns-then-self-eq0-clause-answer c =
    let was : c.self.inside.base ≡ Some c.in_ok-base.base = c.in_ok-base.was in
    let view : state_of (Some c.in_ok-base.base) c.self.inside.due c.self.inside.ring c.self.inside.shown ≡ c.args.self.now = sym (ap (λ o. state_of o c.self.inside.due c.self.inside.ring c.self.inside.shown) was) ∙ c.self.view_is in
    let P : Option ℕ → Type 0 = λ o. IsSound o c.self.inside.due c.self.inside.held c.self.inside.ring.slots in
    let sound : IsSound (Some c.in_ok-base.base) c.self.inside.due c.self.inside.held c.self.inside.ring.slots = subst P was c.self.invariant in
    none_answer c.args.self.now (none_next c.in_ok-base.base c.self.inside.due c.self.inside.held c.self.inside.ring c.self.inside.shown c.args.self.now view sound (sym c.is_filled.ensures ∙ c.if-is_filled.false) c.if-self-eq0.true)

pub returns-then-self-eq0-clause-window : goal.returns-then-self-eq0-clause-window
returns-then-self-eq0-clause-window c =
    let was : c.self.inside.base ≡ Some c.in_ok-base.base = c.in_ok-base.was in
    let view : state_of (Some c.in_ok-base.base) c.self.inside.due c.self.inside.ring c.self.inside.shown ≡ c.args.self.now = sym (ap (λ o. state_of o c.self.inside.due c.self.inside.ring c.self.inside.shown) was) ∙ c.self.view_is in
    let P : Option ℕ → Type 0 = λ o. IsSound o c.self.inside.due c.self.inside.held c.self.inside.ring.slots in
    let sound : IsSound (Some c.in_ok-base.base) c.self.inside.due c.self.inside.held c.self.inside.ring.slots = subst P was c.self.invariant in
    none_window c.self.inside.base c.self.inside.due c.self.inside.ring c.self.inside.shown c.args.self.now c.self.view_is (none_next c.in_ok-base.base c.self.inside.due c.self.inside.held c.self.inside.ring c.self.inside.shown c.args.self.now view sound (sym c.is_filled.ensures ∙ c.if-is_filled.false) c.if-self-eq0.true)

pub invariant_of-self-2 : goal.invariant_of-self-2
invariant_of-self-2 c =
    let was : c.self.inside.base ≡ Some c.in_ok-base.base = c.in_ok-base.was in
    let view : state_of (Some c.in_ok-base.base) c.self.inside.due c.self.inside.ring c.self.inside.shown ≡ c.args.self.now = sym (ap (λ o. state_of o c.self.inside.due c.self.inside.ring c.self.inside.shown) was) ∙ c.self.view_is in
    let P : Option ℕ → Type 0 = λ o. IsSound o c.self.inside.due c.self.inside.held c.self.inside.ring.slots in
    let sound : IsSound (Some c.in_ok-base.base) c.self.inside.due c.self.inside.held c.self.inside.ring.slots = subst P was c.self.invariant in
    gap_sound c.in_ok-base.base c.self.inside.due c.self.inside.held c.pass_empty-count.result c.self.inside.ring c.pass_empty-count.new.self sound c.pass_empty-count.ensures.slots

pub returns-clause-answer : goal.returns-clause-answer
returns-clause-answer c =
    let was : c.self.inside.base ≡ Some c.in_ok-base.base = c.in_ok-base.was in
    let view : state_of (Some c.in_ok-base.base) c.self.inside.due c.self.inside.ring c.self.inside.shown ≡ c.args.self.now = sym (ap (λ o. state_of o c.self.inside.due c.self.inside.ring c.self.inside.shown) was) ∙ c.self.view_is in
    let P : Option ℕ → Type 0 = λ o. IsSound o c.self.inside.due c.self.inside.held c.self.inside.ring.slots in
    let sound : IsSound (Some c.in_ok-base.base) c.self.inside.due c.self.inside.held c.self.inside.ring.slots = subst P was c.self.invariant in
    gap_answer c.in_ok-base.base c.self.inside.due c.self.inside.held c.pass_empty-count.result c.self.inside.ring c.pass_empty-count.new.self c.self.inside.shown c.args.self.now view sound (sym c.is_filled.ensures ∙ c.if-is_filled.false) (let n = c.if-self-eq0.false in omega arith) c.pass_empty-count.ensures.count c.pass_empty-count.ensures.slots

pub returns-clause-window : goal.returns-clause-window
returns-clause-window c =
    let was : c.self.inside.base ≡ Some c.in_ok-base.base = c.in_ok-base.was in
    let view : state_of (Some c.in_ok-base.base) c.self.inside.due c.self.inside.ring c.self.inside.shown ≡ c.args.self.now = sym (ap (λ o. state_of o c.self.inside.due c.self.inside.ring c.self.inside.shown) was) ∙ c.self.view_is in
    let P : Option ℕ → Type 0 = λ o. IsSound o c.self.inside.due c.self.inside.held c.self.inside.ring.slots in
    let sound : IsSound (Some c.in_ok-base.base) c.self.inside.due c.self.inside.held c.self.inside.ring.slots = subst P was c.self.invariant in
    gap_window c.in_ok-base.base c.self.inside.due c.self.inside.held c.pass_empty-count.result c.self.inside.ring c.pass_empty-count.new.self c.self.inside.shown c.args.self.now view sound (sym c.is_filled.ensures ∙ c.if-is_filled.false) (let n = c.if-self-eq0.false in omega arith) c.pass_empty-count.ensures.count c.pass_empty-count.ensures.slots
