-- What is promised of the datagrams that the bytes of an input already fix.
use Rattle.std.specs.Prelude.{◌≡◌, ◌<◌, ◌≤◌, ◌^◌, ◌++◌, ℕ, List, map, length}
use Rattle.std.specs.List.{AllByRecursion, AllZip, flat_map}
use Rattle.codestream_model.specs.Bytes.{IsBytes}
use Rattle.codestream_model.specs.Codestream.{joined}
use Rattle.stream_model.specs.Stream.{Parts, ArePartsOf, datagrams_of}
use Rattle.stream_model.specs.Cut.{Plan, room, sent_by, datagram_bytes, Closed}

-- Any bytes fix some datagrams, or none.
abbrev pub BytesFixDatagrams : Type 0
BytesFixDatagrams = (p : Plan) (bytes : List ℕ) → IsBytes bytes → (closed : List (List ℕ)) × Closed p bytes closed

-- What is fixed stays fixed: more bytes only add datagrams at the end; so bytes fix one list of datagrams.
abbrev pub ClosedGrows : Type 0
ClosedGrows =
    (p : Plan) (bytes more : List ℕ) (closed later : List (List ℕ)) → 1 ≤ room p → Closed p bytes closed → Closed p (bytes ++ more) later
    → (added : List (List ℕ)) × (later ≡ closed ++ added)

-- An input of whole codestreams fixes their cut, where their main headers have room in a datagram and the datagrams are
-- fewer than 2^23.
abbrev pub ClosedIsCut : Type 0
ClosedIsCut =
    (p : Plan) (parts : List Parts) (codestreams : List (List ℕ)) → AllZip (λ c codestream. ArePartsOf c codestream) parts codestreams
    → AllByRecursion (λ c. length c.header ≤ room p) parts → length codestreams ≤ 65536 → length (flat_map datagrams_of (sent_by p parts)) < 2 ^ 23
    → Closed p (joined codestreams) (map datagram_bytes (flat_map datagrams_of (sent_by p parts)))

-- What a prefix of such an input fixes is a prefix of the cut, however the input goes on.
abbrev pub ClosedIsFrontOfCut : Type 0
ClosedIsFrontOfCut =
    (p : Plan) (bytes more : List ℕ) (closed : List (List ℕ)) (parts : List Parts) (codestreams : List (List ℕ)) → 1 ≤ room p → Closed p bytes closed
    → bytes ++ more ≡ joined codestreams → AllZip (λ c codestream. ArePartsOf c codestream) parts codestreams
    → AllByRecursion (λ c. length c.header ≤ room p) parts → length codestreams ≤ 65536 → length (flat_map datagrams_of (sent_by p parts)) < 2 ^ 23
    → (added : List (List ℕ)) × (map datagram_bytes (flat_map datagrams_of (sent_by p parts)) ≡ closed ++ added)
