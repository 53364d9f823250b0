-- Why a sender refuses an input of codestreams, and where; and which inputs it takes to their end.
use Rattle.std.specs.Prelude.{◌≡◌, ◌<◌, ◌≤◌, ◌++◌, ℕ, List, length, take}
use Rattle.std.specs.List.{AllByRecursion, AllZip, sum_by}
use Rattle.codestream_model.specs.Values.{Head}
use Rattle.codestream_model.specs.MainHeader.{SpellsHead}
use Rattle.codestream_model.specs.Codestream.{WalkRefusal, Faults, IsInput, joined}
use Rattle.stream_model.specs.Commands.{counted}
use Rattle.stream_model.specs.Stream.{Parts, ArePartsOf}
use Rattle.stream_model.specs.Cut.{Plan, room}
use Rattle.sender_model.specs.Closing.{most_codestreams, most_datagrams, due_by}

-- An input is refused as any input of codestreams is, or because a datagram has no room for a main
-- header, or because a run may send no more datagrams.
pub data SenderRefusal : Type 0 where
  InputRefused : WalkRefusal → SenderRefusal
  HeaderTooLong : SenderRefusal
  TooManyDatagrams : SenderRefusal

-- The bytes are whole codestreams whose main headers fit a datagram, and then, at `at`, a main
-- header that doesn't.
pub record HasLongHeader (p : Plan) (bytes : List ℕ) (at : ℕ) : Type 0 where
  pub codestreams : List (List ℕ)
  pub parts : List Parts
  pub head : Head
  pub header : List ℕ
  pub more : List ℕ
  pub whole : bytes ≡ joined codestreams ++ (header ++ more)
  pub are_parts : AllZip (λ c codestream. ArePartsOf c codestream) parts codestreams
  pub fit : AllByRecursion (λ c. length c.header ≤ room p) parts
  pub few : length codestreams < most_codestreams
  pub is_head : SpellsHead head header
  pub long : room p < length header
  pub place : at ≡ length (joined codestreams)

-- No main header is too long.
abbrev pub HasNoLongHeader : Plan → List ℕ → Type 0
HasNoLongHeader p bytes = (at : ℕ) → HasLongHeader p bytes at → ⊥

-- The bytes fix no more datagrams than a run may send.
abbrev pub HasFewDatagrams : Plan → List ℕ → Type 0
HasFewDatagrams p bytes = length (due_by p bytes) ≤ most_datagrams

-- The bytes fix more datagrams than a run may send. The codestream bytes of the first that may not
-- be sent begin at `at`.
pub record HasManyDatagrams (p : Plan) (bytes : List ℕ) (at : ℕ) : Type 0 where
  pub many : most_datagrams < length (due_by p bytes)
  pub place : at ≡ sum_by (λ x. length x.codestream) (take most_datagrams (due_by p bytes))

-- What a sender refuses of an input, and where. A datagram too many is refused before anything
-- after it, and a main header that is too long before anything in its codestream.
abbrev pub SenderRefuses : Plan → List ℕ → ℕ → SenderRefusal → Type 0
SenderRefuses p input at TooManyDatagrams = HasManyDatagrams p (counted input) at
SenderRefuses p input at HeaderTooLong =
    HasFewDatagrams p (counted input) × HasLongHeader p (counted input) at
SenderRefuses p input at (InputRefused why) =
    HasFewDatagrams p (counted input) × HasNoLongHeader p (counted input) × Faults input at why

-- A sender takes an input to its end: whole codestreams whose main headers fit, in no more
-- datagrams than a run may send.
pub record SenderAccepts (p : Plan) (input : List ℕ) (codestreams : List (List ℕ)) : Type 0 where
  pub is_input : IsInput input codestreams
  pub fit : HasNoLongHeader p (counted input)
  pub few : HasFewDatagrams p (counted input)
