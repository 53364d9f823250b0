-- What one datagram of a sender takes of its link's answers, and what a number of them take.
use Rattle.std.specs.Prelude.{◌≡◌, ◌++◌, ℕ, List, [], ◌∷◌}
use Rattle.wire_model.specs.LinkAnswers.{LinkAnswer}
use Rattle.relay_model.specs.Queue.{Tale, untold, send_tale}

-- A datagram takes just these answers, whatever datagrams and answers follow, and the tale goes on
-- with an empty queue.
pub record Takes (idle : ℕ) (t : Tale) (d : List ℕ) (answers : List LinkAnswer) (u : Tale)
    : Type 0 where
  pub told :
      (later : List (List ℕ)) (more : List LinkAnswer)
      → send_tale idle 0 t (d ∷ later) (answers ++ more) ≡ send_tale idle 0 u later more
  pub left : u.left ≡ t.left

-- Datagrams from the beginning take just these answers, whatever datagrams and answers follow.
pub record HasTaken
    (idle : ℕ) (datagrams : List (List ℕ)) (answers : List LinkAnswer) (t : Tale)
    : Type 0 where
  pub told :
      (later : List (List ℕ)) (more : List LinkAnswer)
      → send_tale idle 0 untold (datagrams ++ later) (answers ++ more)
      ≡ send_tale idle 0 t later more
  pub left : t.left ≡ []
