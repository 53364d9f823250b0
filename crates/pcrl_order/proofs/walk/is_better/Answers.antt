use Rattle.std.proofs.Common.{◌≡◌, ◌+◌, ℕ, Bool, true, false, not, List, Option, refl, sym, subst}
use Rattle.pcrl_order.specs.Ahead.{IsLeastAt}
use Rattle.pcrl_order.specs.Least.{IsUpTo, numbers_in}
use Rattle.pcrl_order.proofs.Candidates.{numbers_at, none_onward, first_onward, less_onward, not_less_onward}
use Rattle.pcrl_order.proofs.walk.is_better.Goals as goal

-- no test both holds and fails
not_both : (b : Bool) → b ≡ true → b ≡ false → ⊥
not_both b t f = absurd (cc)

-- a test whose opposite fails, and one whose opposite holds
holds : (b : Bool) → not b ≡ false → b ≡ true
holds true e = refl
holds false e = absurd (cc)

fails : (b : Bool) → not b ≡ true → b ≡ false
fails true e = absurd (cc)
fails false e = refl

pub returns-then-not-is_up_to-clause-not_better : goal.returns-then-not-is_up_to-clause-not_better
returns-then-not-is_up_to-clause-not_better c =
    let P : List ℕ → Type 0 = λ w. IsUpTo (numbers_in c.args.from) w in
    λ said. none_onward c.args.nexts.now (numbers_in c.args.from) c.args.at c.args.best c.requires.best
    (λ up. not_both c.is_up_to.result (c.is_up_to.ensures.1 (subst P (sym c.key_of-key.ensures) up)) c.if-not-is_up_to.true)

pub returns-in-Some-clause-better : goal.returns-in-Some-clause-better
returns-in-Some-clause-better c =
    let P : List ℕ → Type 0 = λ w. IsUpTo (numbers_in c.args.from) w in
    let Q : List ℕ → Type 0 = λ w. IsUpTo w (numbers_in c.key_of-key.result) in
    let R : List ℕ → Type 0 = λ w. IsUpTo (numbers_at c.args.nexts.now c.in-Some.least) w in
    let onward = subst P c.key_of-key.ensures (c.is_up_to.ensures.0 c.if-not-is_up_to.false) in
    λ said. less_onward c.args.nexts.now (numbers_in c.args.from) c.args.at c.in-Some.least (rw c.in-Some.is at c.requires.best) onward
    (λ up. not_both c.is_up_to-in-Some.result (c.is_up_to-in-Some.ensures.1 (subst Q (sym c.key_of.ensures) (subst R (sym c.key_of-key.ensures) up))) (fails c.is_up_to-in-Some.result said))

pub returns-in-Some-clause-not_better : goal.returns-in-Some-clause-not_better
returns-in-Some-clause-not_better c =
    let P : Option ℕ → Type 0 = λ best. IsLeastAt c.args.nexts.now (numbers_in c.args.from) (c.args.at + 1) best in
    let Q : List ℕ → Type 0 = λ w. IsUpTo w (numbers_in c.key_of-key.result) in
    let R : List ℕ → Type 0 = λ w. IsUpTo (numbers_at c.args.nexts.now c.in-Some.least) w in
    λ said.
    let up = subst R c.key_of-key.ensures (subst Q c.key_of.ensures (c.is_up_to-in-Some.ensures.0 (holds c.is_up_to-in-Some.result said))) in
    subst P (sym c.in-Some.is) (not_less_onward c.args.nexts.now (numbers_in c.args.from) c.args.at c.in-Some.least (rw c.in-Some.is at c.requires.best) up)

pub returns-in-None-clause-better : goal.returns-in-None-clause-better
returns-in-None-clause-better c =
    let P : List ℕ → Type 0 = λ w. IsUpTo (numbers_in c.args.from) w in
    λ said. first_onward c.args.nexts.now (numbers_in c.args.from) c.args.at (rw c.in-None.is at c.requires.best) (subst P c.key_of-key.ensures (c.is_up_to.ensures.0 c.if-not-is_up_to.false))
