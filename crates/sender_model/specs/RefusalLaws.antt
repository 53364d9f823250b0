-- Laws of what a sender accepts and refuses.
use Rattle.std.specs.Prelude.{◌≡◌, ◌≤◌, ◌^◌, ◌⊎◌, ℕ, List, length}
use Rattle.codestream_model.specs.Bytes.{IsBytes}
use Rattle.codestream_model.specs.Codestream.{joined}
use Rattle.stream_model.specs.Stream.{Parts, IsStream}
use Rattle.stream_model.specs.Cut.{Plan, IsPlan, IsCut}
use Rattle.stream_model.specs.ThinnedLaws.{CanBeSent, cut_of}
use Rattle.sender_model.specs.Closing.{closed}
use Rattle.sender_model.specs.Refusals.{SenderRefusal, SenderRefuses, SenderAccepts}

-- A sender takes an input to its end, or refuses it.
abbrev pub InputsAreSentOrRefused : Type 0
InputsAreSentOrRefused =
    (p : Plan) (input : List ℕ) → IsBytes input
    → ((codestreams : List (List ℕ)) × SenderAccepts p input codestreams)
    ⊎ ((at : ℕ) × (why : SenderRefusal) × SenderRefuses p input at why)

-- A sender never does both, and refuses an input at one place and for one reason.
pub record HasOneAnswer (p : Plan) (input : List ℕ) : Type 0 where
  pub one_refusal :
      (at place : ℕ) (why reason : SenderRefusal)
      → SenderRefuses p input at why → SenderRefuses p input place reason
      → (at ≡ place) × (why ≡ reason)
  pub not_both :
      (codestreams : List (List ℕ)) (at : ℕ) (why : SenderRefusal)
      → SenderAccepts p input codestreams → SenderRefuses p input at why → ⊥

-- So it is with all inputs.
abbrev pub SenderHasOneAnswer : Type 0
SenderHasOneAnswer = (p : Plan) (input : List ℕ) → HasOneAnswer p input

-- The datagrams of an input that a sender takes to its end are the cut of its codestreams, which is
-- a stream that carries them.
abbrev pub AcceptedIsCut : Type 0
AcceptedIsCut =
    (p : Plan) (input : List ℕ) (codestreams : List (List ℕ)) → IsPlan p → IsBytes input
    → SenderAccepts p input codestreams
    → (parts : List Parts) × CanBeSent p parts codestreams × (closed p input ≡ cut_of p parts)
    × IsCut p codestreams (closed p input) × IsStream codestreams (closed p input)

-- Codestreams that can be sent are accepted.
abbrev pub SendableIsAccepted : Type 0
SendableIsAccepted =
    (p : Plan) (parts : List Parts) (codestreams : List (List ℕ)) → CanBeSent p parts codestreams
    → length (joined codestreams) ≤ 2 ^ 40 → SenderAccepts p (joined codestreams) codestreams
