-- A number of one digit.
use Rattle.std.proofs.Common.{◌++◌, ◌+◌, ℕ, List, [], ◌∷◌, sym, ◌∙◌, ap}
use Rattle.std.proofs.lemmas.Fmt.{decimal_digit}
use Rattle.precinct_report.proofs.page.Page.push_number.Goals as goal

pub returns-then-n-lt10-clause-text : goal.returns-then-n-lt10-clause-text
returns-then-n-lt10-clause-text c =
    let text = c.args.self.now in
    let before = c.args.before.now in
    let digit : List ℕ = (48 + c.args.n) ∷ [] in
    c.push-then-n-lt10.ensures.text
    ∙ (ap (λ (l : List ℕ). l ++ digit) c.push.ensures.text
    ∙ ap (λ (l : List ℕ). text ++ before ++ l) (sym (decimal_digit c.args.n c.if-n-lt10.true)))
