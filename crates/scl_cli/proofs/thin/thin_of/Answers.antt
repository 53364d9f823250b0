use Rattle.std.proofs.Common.{◌≡◌, ◌≤◌, ◌+◌, ℕ, List, [], ◌∷◌, Option, Some, None, sym, ap, ◌∙◌, arith}
use Rattle.std.specs.Prelude.{slice_get, codes, decimal}
use Rattle.std.proofs.lemmas.Fmt.{decimal_digit}
use Rattle.scl_cli.specs.declared.command.Command.{Command}
use Rattle.scl_cli.specs.declared.command.Command.TheVariants.{Thin}
use Rattle.scl_cli.specs.declared.command.Verb.TheVariants as verbs
use Rattle.scl_cli.specs.Commands.{Spells, verb_of}
use Rattle.scl_cli.proofs.Grammar.{with_one}
use Rattle.scl_cli.proofs.thin.thin_of.Goals as goal

-- the second word
second : (words : List (List ℕ)) (word : List ℕ) (limit : ℕ) → slice_get words 1 ≡ Some word → Spells (Thin limit) words → word ≡ (48 + limit) ∷ []
second words word limit at (small, is) =
    let e : slice_get (codes "thin" ∷ decimal limit ∷ []) 1 ≡ Some word = rw is at at in
    let f : decimal limit ≡ word = cc in
    sym f ∙ decimal_digit limit (omega arith)

no_limit : (words : List (List ℕ)) (word : List ℕ) (command : Command) (found : Option ℕ) → slice_get words 1 ≡ Some word → found ≡ None → ((limit : ℕ) → limit ≤ 7 → word ≡ (48 + limit) ∷ [] → found ≡ Some limit)
    → verb_of command ≡ verbs.Thin → Spells command words → ⊥
no_limit words word (Thin limit) found at is all verb spells = let f : None ≡ Some limit = sym is ∙ all limit spells.0 (second words word limit at spells) in absurd (cc)
no_limit words word command found at is all verb spells = absurd (cc)

same : (words : List (List ℕ)) (word : List ℕ) (command : Command) (limit : ℕ) → slice_get words 1 ≡ Some word → word ≡ (48 + limit) ∷ [] → verb_of command ≡ verbs.Thin → Spells command words → Some (Thin limit) ≡ Some command
same words word (Thin other) limit at is verb spells =
    let f : (48 + other) ∷ [] ≡ (48 + limit) ∷ [] = sym (second words word other at spells) ∙ is in
    let g : 48 + other ≡ 48 + limit = cc in
    let h : limit ≡ other = omega arith in
    ap (λ (n : ℕ). Some (Thin n)) h
same words word command limit at is verb spells = absurd (cc)

pub returns-in_err-limit-clause-all : goal.returns-in_err-limit-clause-all
returns-in_err-limit-clause-all c = λ command verb spells. absurd (no_limit c.args.words.now _ command c.limit_of.result c.get.ensures c.in_err-limit.was c.limit_of.ensures.all verb spells)

pub returns-clause-spelt : goal.returns-clause-spelt
returns-clause-spelt c =
    let limit = c.in_ok-limit.ensures.spelt in (
      limit.0,
      with_one c.args.words.now verbs.Thin _ c.requires (omega arith) c.get.ensures ∙ ap (λ (w : List ℕ). codes "thin" ∷ w ∷ []) (limit.1 ∙ sym (decimal_digit c.in_ok-limit.limit (omega arith))),
    )

pub returns-clause-all : goal.returns-clause-all
returns-clause-all c = λ command verb spells. same c.args.words.now _ command c.in_ok-limit.limit c.get.ensures c.in_ok-limit.ensures.spelt.1 verb spells
