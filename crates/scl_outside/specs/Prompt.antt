-- What the marks of a call say of all that it had done before each time that it asked for input.
use Rattle.std.specs.Prelude.{◌≡◌, ℕ, List, take, drop, length, Option, Some}
use Rattle.std.specs.List.{AllByRecursion}
use Rattle.wire_model.specs.Causes.{Grew}
use Rattle.scl_outside.specs.Meaning.{Meaning}
use Rattle.scl_outside.specs.Steps.{datagrams_of}
use Rattle.scl_outside.specs.Effects.{Effects, arrivals, parcels}
use Rattle.scl_outside.specs.declared.duct.Mark.{Mark}

-- Of a list that is told at both ends, this was added to it between the start and the length that a mark
-- names.
abbrev pub IsPart : {A : Type 0} → Option (List A) → Option (List A) → ℕ → List A → Type 0
IsPart (Some was) (Some now) n part = part ≡ drop (length was) (take n now)
IsPart was now n part = Unit {0}

-- This was done between a call's start and a mark: what was read, what arrived, what was written and what
-- was sent.
pub record IsDoneBy (s t : Meaning) (m : Mark) (f : Effects) : Type 0 where
  pub read : IsPart s.read t.read m.read f.read
  pub arrived : IsPart (datagrams_of s.wire.received) (datagrams_of t.wire.received) m.received (arrivals f.wire)
  pub written : IsPart s.written t.written m.written f.written
  pub sent : IsPart s.wire.sent t.wire.sent m.sent (parcels f.wire)

-- At each mark of a call this holds of what it had done by then.
abbrev pub Prompt : (Effects → Type 0) → Meaning → Meaning → Type 0
Prompt P s t =
    (marks : List Mark) × Grew s.marks t.marks marks
    × AllByRecursion (λ m. (f : Effects) × IsDoneBy s t m f × P f) marks
