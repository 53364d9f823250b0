-- Laws of the datagrams that the bytes of an input already fix.
use Rattle.std.specs.Prelude.{◌≡◌, ◌≤◌, ◌++◌, ℕ, List}
use Rattle.codestream_model.specs.Bytes.{IsBytes}
use Rattle.stream_model.specs.Cut.{Plan, room, Closed}
use Rattle.sender_model.specs.Closing.{closed}

-- What is computed is fixed.
abbrev pub ClosedIsComputed : Type 0
ClosedIsComputed = (p : Plan) (bytes : List ℕ) → IsBytes bytes → Closed p bytes (closed p bytes)

-- What is fixed is the list that is computed, and no other.
abbrev pub ClosedIsOne : Type 0
ClosedIsOne =
    (p : Plan) (bytes : List ℕ) (datagrams : List (List ℕ)) → IsBytes bytes → 1 ≤ room p
    → Closed p bytes datagrams → datagrams ≡ closed p bytes

-- More bytes only add datagrams at the end.
abbrev pub ClosedOnlyGrows : Type 0
ClosedOnlyGrows =
    (p : Plan) (bytes more : List ℕ) → IsBytes (bytes ++ more) → 1 ≤ room p
    → (added : List (List ℕ)) × (closed p (bytes ++ more) ≡ closed p bytes ++ added)
