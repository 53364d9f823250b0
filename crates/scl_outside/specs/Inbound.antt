-- What is planned to come to an object in memory, and what its calls for a datagram answered.
use Rattle.std.specs.Prelude.{◌≡◌, ℕ, Bool, true, false, List, [], ◌∷◌, Option, Some, IfSome, length, map, option_map, slice_get, flat_map}
use Rattle.wire_model.specs.Receptions.{Reception}
use Rattle.wire_model.specs.Receptions as receptions
use Rattle.scl_outside.specs.Steps.{datagrams_of}
use Rattle.scl_outside.specs.Record.{told_of}
use Rattle.scl_outside.specs.declared.inbox.Inbound.{Inbound}
use Rattle.scl_outside.specs.declared.inbox.Inbound.TheVariants.{Datagram, NotReady, Closed, Failed}
use Rattle.scl_outside.specs.declared.inbox.Answer.{Answer}
use Rattle.scl_outside.specs.declared.inbox.Answer.TheVariants as answer
use Rattle.scl_outside.specs.declared.record.Record.{Record}

-- This is what a planned entry answers. Where nothing fails, a planned failure is read as not ready.
abbrev pub reception_of : Bool → Inbound → Reception
reception_of never_fails (Datagram d) = receptions.Arrived d.items
reception_of never_fails NotReady = receptions.NotReady
reception_of never_fails Closed = receptions.Closed
reception_of true Failed = receptions.NotReady
reception_of false Failed = receptions.Failed

-- With these entries left, the next call answers what the first one plans. After the last entry it is not
-- ready.
abbrev pub first_of : Bool → List Inbound → Reception
first_of never_fails [] = receptions.NotReady
first_of never_fails (entry ∷ rest) = reception_of never_fails entry

-- These entries are left after that call. It stays at an entry that closes.
abbrev pub after_first : List Inbound → List Inbound
after_first [] = []
after_first (Closed ∷ rest) = Closed ∷ rest
after_first (Datagram d ∷ rest) = rest
after_first (NotReady ∷ rest) = rest
after_first (Failed ∷ rest) = rest

-- An entry has at most one datagram.
abbrev pub datagram_of : Inbound → List (List ℕ)
datagram_of (Datagram d) = d.items ∷ []
datagram_of entry = []

-- These datagrams are in a list of entries.
abbrev pub datagrams_in : List Inbound → List (List ℕ)
datagrams_in entries = flat_map datagram_of entries

-- These are the bytes of an entry, none where it has no datagram.
abbrev pub bytes_of : Option Inbound → List ℕ
bytes_of (Some (Datagram d)) = d.items
bytes_of entry = []

-- An answer was recorded so: a datagram by its index among the entries.
abbrev pub recorded : List Inbound → Answer → Reception
recorded entries (answer.Arrived index) = receptions.Arrived (bytes_of (slice_get entries index))
recorded entries answer.NotReady = receptions.NotReady
recorded entries answer.Closed = receptions.Closed
recorded entries answer.Failed = receptions.Failed

-- This is the number of datagrams among answers, where these are told.
abbrev pub IsCount : ℕ → Option (List Reception) → Type 0
IsCount count answers = IfSome (datagrams_of answers) (λ datagrams. count ≡ length datagrams)

-- These answers are told of a record of them.
abbrev pub received_in : List Inbound → Record Answer → Option (List Reception)
received_in entries answers = option_map (map (recorded entries)) (told_of answers)
