-- Which calls of a list failed, and what held before each.
use Rattle.std.specs.Prelude.{◌≡◌, ◌↔◌, ℕ, Bool, true, List, ◌∷◌, ◌++◌, Contains}
use Rattle.scl_outside.specs.Events.{Event, WireEvent, ReadFailed, WriteFailed, OnWire, asks, wire_fails}
use Rattle.scl_outside.specs.Effects.{Effects, nothing, effects, wire_failed}
use Rattle.scl_outside.specs.Traces.{AtReads, MayFollow}

-- The effects of calls say that a read, a write or a call of the wire failed exactly where one of the calls
-- did.
pub record HasFailures (es : List Event) : Type 0 where
  pub reads : ((effects es).read_failed ≡ true) ↔ Contains es ReadFailed
  pub writes : ((effects es).write_failed ≡ true) ↔ ((bytes : List ℕ) × Contains es (WriteFailed bytes))
  pub on_wire : (wire_failed (effects es).wire ≡ true)
      ↔ ((w : WireEvent) × (wire_fails w ≡ true) × Contains es (OnWire w))

-- Failures of calls are said of any calls.
abbrev pub FailuresAreCalls : Type 0
FailuresAreCalls = (es : List Event) → HasFailures es

-- This holds of all that was done before each call that asks for input, and each call may follow what was done
-- before it.
abbrev pub HoldsBefore : (Effects → Bool) → List Event → Type 0
HoldsBefore p es = (before : List Event) (e : Event) (after : List Event) → es ≡ before ++ e ∷ after
    → (asks e ≡ true → p (effects before) ≡ true) × MayFollow e (effects before)

-- What is said before each read of calls is what held before each, for any test of effects and any calls.
abbrev pub ReadsAreBefore : Type 0
ReadsAreBefore = (p : Effects → Bool) (es : List Event)
    → AtReads (λ f. p f ≡ true) nothing es ↔ HoldsBefore p es
