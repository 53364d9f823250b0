-- The words of `send`.
use Rattle.std.proofs.Common.{suc, zero, ◌≡◌, ◌<◌, ◌++◌, ℕ, List, [], ◌∷◌, Some, length, ap, arith}
use Rattle.std.specs.Prelude.{slice_get}
use Rattle.stream_model.specs.Cut.{Plan}
use Rattle.scl_cli.specs.declared.command.Verb.{Verb}
use Rattle.scl_cli.specs.Commands.{Begins, HasPlan, verb_word, plan_words}
use Rattle.scl_cli.proofs.Grammar.{same_words}

-- eleven words
pub are_eleven : (words : List (List ℕ)) (v : Verb) (p : Plan) (a b c : List ℕ) → Begins v words → length words ≡ 11 → HasPlan words p → slice_get words 8 ≡ Some a → slice_get words 9 ≡ Some b → slice_get words 10 ≡ Some c
    → words ≡ verb_word v ∷ (plan_words p ++ a ∷ b ∷ c ∷ [])
are_eleven words v p a b c (more, is) n plan eighth ninth tenth = same_words words (verb_word v ∷ (plan_words p ++ a ∷ b ∷ c ∷ [])) n at where
  at : (i : ℕ) → i < 11 → slice_get words i ≡ slice_get (verb_word v ∷ (plan_words p ++ a ∷ b ∷ c ∷ [])) i
  at zero low = ap (λ (l : List (List ℕ)). slice_get l 0) is
  at (suc zero) low = plan.mtu
  at (suc (suc zero)) low = plan.mode
  at (suc (suc (suc zero))) low = plan.kind
  at (suc (suc (suc (suc zero)))) low = plan.source
  at (suc (suc (suc (suc (suc zero))))) low = plan.number
  at (suc (suc (suc (suc (suc (suc zero)))))) low = plan.stamp
  at (suc (suc (suc (suc (suc (suc (suc zero))))))) low = plan.step
  at (suc (suc (suc (suc (suc (suc (suc (suc zero)))))))) low = eighth
  at (suc (suc (suc (suc (suc (suc (suc (suc (suc zero))))))))) low = ninth
  at (suc (suc (suc (suc (suc (suc (suc (suc (suc (suc zero)))))))))) low = tenth
  at (suc (suc (suc (suc (suc (suc (suc (suc (suc (suc (suc i))))))))))) low = absurd (omega (arith, low))
