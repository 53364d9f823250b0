use Rattle.std.proofs.Common.{◌≡◌, ◌<◌, ◌^◌, ℕ, List, Option, Some, None, refl, sym, subst, ◌∙◌, arith}
use Rattle.std.specs.Prelude.{codes, decimal}
use Rattle.std.proofs.lemmas.Fmt.{decimal_is_IsNumeral}
use Rattle.std.specs.Str.Parse.{AllDigits}
use lib.Pointwise.{bytes_decides}
use Rattle.scl_cli.specs.Commands.{source_word, IsSource}
use Rattle.scl_cli.proofs.pick.source_in.Goals as goal

-- `any` is no number
no_number : (n : ℕ) → n < 2 ^ 32 → codes "any" ≡ decimal n → ⊥
no_number n small is =
    let P : List ℕ → Type 0 = λ l. AllDigits 10 l in
    let digits : AllDigits 10 (codes "any") = subst P (sym is) (decimal_is_IsNumeral n (omega (arith, small))).0.1 in
    omega (arith, digits.0)

any_alone : (word : List ℕ) (source : Option ℕ) → word ≡ codes "any" → IsSource source → word ≡ source_word source → Some None ≡ Some source
any_alone word None any small is = refl
any_alone word (Some n) any small is = absurd (no_number n small (sym any ∙ is))

pub returns-then-eq-clause-all : goal.returns-then-eq-clause-all
returns-then-eq-clause-all c = λ source small is. any_alone c.args.word.now source ((bytes_decides c.args.word.now (codes "any")).0 (sym c.eq.ensures ∙ c.if-eq.true)) small is
