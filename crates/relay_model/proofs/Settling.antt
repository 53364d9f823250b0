-- How a poll ends.
use Rattle.std.proofs.Common.{◌≡◌, ◌+◌, ◌++◌, inl, inr, ℕ, List, [], ◌∷◌, sym, ◌∙◌, ap}
use Rattle.std.proofs.lemmas.List.{append-nil}
use Rattle.wire_model.specs.LinkAnswers.{LinkAnswer, Sent, NotReady, Failed}
use Rattle.relay_model.specs.Queue.{Told, poll}
use Rattle.relay_model.specs.Laws.{IsSettled, PollsSettle}

-- one answer before others
settled_before : (a : LinkAnswer) (left : List (List ℕ)) (answers : List LinkAnswer) → IsSettled left answers → IsSettled left (a ∷ answers)
settled_before a left answers (inl none) = inl none
settled_before a left answers (inr (before, is)) = inr (a ∷ before, ap (λ (l : List LinkAnswer). a ∷ l) is)

pub polls_settle : PollsSettle
unfolding poll
polls_settle t u [] answers h = inl (sym (ap (λ (x : Told). x.tale.left) (h [])))
polls_settle t u (d ∷ q) [] h = let e : [] ≡ NotReady ∷ [] = ap (λ (x : Told). x.answers) (h (NotReady ∷ [])) in absurd (cc)
polls_settle t u (d ∷ q) (NotReady ∷ answers) h =
    let none : answers ≡ [] = sym (append-nil answers) ∙ ap (λ (x : Told). x.answers) (h []) in
    inr ([], ap (λ (l : List LinkAnswer). NotReady ∷ l) none)
polls_settle t u (d ∷ q) (Sent ∷ answers) h = settled_before Sent u.left answers (polls_settle (record t { sent = t.sent ++ d ∷ [] }) u q answers h)
polls_settle t u (d ∷ q) (Failed ∷ answers) h = settled_before Failed u.left answers (polls_settle (record t { failed = t.failed + 1 }) u q answers h)
