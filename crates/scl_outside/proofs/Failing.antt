-- Which calls of a list failed, and what held before each.
use Rattle.std.proofs.Common.{◌≡◌, ◌<◌, ℕ, zero, suc, Bool, true, false, ◌||◌, List, [], ◌∷◌, ◌++◌, length, refl, sym, ◌∙◌, ap, subst, arith}
use Rattle.std.specs.Prelude.{Contains, MatchBool}
use Rattle.scl_outside.specs.Events.{Event, WireEvent, Took, Ended, ReadFailed, Wrote, WriteFailed, Noted, OnWire, asks, read_fails, write_fails, wire_fails}
use Rattle.scl_outside.specs.Effects.{Effects, nothing, effect_of, and_then, effects, wire_failed}
use Rattle.scl_outside.specs.Traces.{AtReads, MayFollow}
use Rattle.scl_outside.specs.Failures.{FailuresAreCalls, HoldsBefore, ReadsAreBefore}
use Rattle.scl_outside.proofs.Traces.{and_then-nothing, and_then-assoc}

-- one of these passes the test
abbrev some : (Event → Bool) → List Event → Bool
some f [] = false
some f (e ∷ es) = f e || some f es

later : (es : List Event) (e x : Event) → Contains es x → Contains (e ∷ es) x
later es e x (k, below, at) = (suc k, (let h : k < length es = below in omega arith), at)

found : (f : Event → Bool) (es : List Event) → some f es ≡ true → (e : Event) × (f e ≡ true) × Contains es e
found f [] h = absurd (cc)
found f (e ∷ es) h = by (λ k. found f es k) (f e) refl h where
  by : (some f es ≡ true → (x : Event) × (f x ≡ true) × Contains es x) → (b : Bool) → f e ≡ b → (b || some f es) ≡ true → (x : Event) × (f x ≡ true) × Contains (e ∷ es) x
  by more true is h = (e, is, (zero, (let n : 0 < suc (length es) = omega arith in n), refl))
  by more false is h = let w = more h in (w.0, w.1, later es e w.0 w.2)

or-true : (b : Bool) → (b || true) ≡ true
or-true true = refl
or-true false = refl

there : (f : Event → Bool) (es : List Event) (x : Event) → f x ≡ true → Contains es x → some f es ≡ true
there f [] x is (k, below, at) = absurd (omega arith)
there f (e ∷ es) x is (zero, below, at) = rw (ap f at ∙ is) refl
there f (e ∷ es) x is (suc k, below, at) = rw (there f es x is (k, (let h : suc k < suc (length es) = below in omega arith), at)) (or-true (f e))

reads_are : (es : List Event) → (effects es).read_failed ≡ some read_fails es
reads_are [] = refl
reads_are (e ∷ es) = rw (reads_are es, of_one e) refl where
  of_one : (e : Event) → (effect_of e).read_failed ≡ read_fails e
  of_one (Took bytes) = refl
  of_one Ended = refl
  of_one ReadFailed = refl
  of_one (Wrote bytes) = refl
  of_one (WriteFailed bytes) = refl
  of_one (Noted line) = refl
  of_one (OnWire w) = refl

writes_are : (es : List Event) → (effects es).write_failed ≡ some write_fails es
writes_are [] = refl
writes_are (e ∷ es) = rw (writes_are es, of_one e) refl where
  of_one : (e : Event) → (effect_of e).write_failed ≡ write_fails e
  of_one (Took bytes) = refl
  of_one Ended = refl
  of_one ReadFailed = refl
  of_one (Wrote bytes) = refl
  of_one (WriteFailed bytes) = refl
  of_one (Noted line) = refl
  of_one (OnWire w) = refl

-- a call of the wire that failed
abbrev fails_on_wire : Event → Bool
fails_on_wire (OnWire w) = wire_fails w
fails_on_wire e = false

wires_are : (es : List Event) → wire_failed (effects es).wire ≡ some fails_on_wire es
wires_are [] = refl
wires_are (e ∷ es) = of_one e (wires_are es) where
  of_one : (e : Event) → wire_failed (effects es).wire ≡ some fails_on_wire es → wire_failed (effects (e ∷ es)).wire ≡ (fails_on_wire e || some fails_on_wire es)
  of_one (Took bytes) more = more
  of_one Ended more = more
  of_one ReadFailed more = more
  of_one (Wrote bytes) more = more
  of_one (WriteFailed bytes) more = more
  of_one (Noted line) more = more
  of_one (OnWire w) more = ap (λ (b : Bool). wire_fails w || b) more

a_read : (es : List Event) (e : Event) → read_fails e ≡ true → Contains es e → Contains es ReadFailed
a_read es ReadFailed is h = h
a_read es (Took bytes) is h = absurd (cc)
a_read es Ended is h = absurd (cc)
a_read es (Wrote bytes) is h = absurd (cc)
a_read es (WriteFailed bytes) is h = absurd (cc)
a_read es (Noted line) is h = absurd (cc)
a_read es (OnWire w) is h = absurd (cc)

a_write : (es : List Event) (e : Event) → write_fails e ≡ true → Contains es e → (bytes : List ℕ) × Contains es (WriteFailed bytes)
a_write es (WriteFailed bytes) is h = (bytes, h)
a_write es (Took bytes) is h = absurd (cc)
a_write es Ended is h = absurd (cc)
a_write es ReadFailed is h = absurd (cc)
a_write es (Wrote bytes) is h = absurd (cc)
a_write es (Noted line) is h = absurd (cc)
a_write es (OnWire w) is h = absurd (cc)

a_wire : (es : List Event) (e : Event) → fails_on_wire e ≡ true → Contains es e → (w : WireEvent) × (wire_fails w ≡ true) × Contains es (OnWire w)
a_wire es (OnWire w) is h = (w, is, h)
a_wire es (Took bytes) is h = absurd (cc)
a_wire es Ended is h = absurd (cc)
a_wire es ReadFailed is h = absurd (cc)
a_wire es (Wrote bytes) is h = absurd (cc)
a_wire es (WriteFailed bytes) is h = absurd (cc)
a_wire es (Noted line) is h = absurd (cc)

pub failures_are_calls : FailuresAreCalls
failures_are_calls es = record {
  reads = (λ h. let w = found read_fails es (sym (reads_are es) ∙ h) in a_read es w.0 w.1 w.2, λ h. reads_are es ∙ there read_fails es ReadFailed refl h);
  writes = (λ h. let w = found write_fails es (sym (writes_are es) ∙ h) in a_write es w.0 w.1 w.2, λ h. writes_are es ∙ there write_fails es (WriteFailed h.0) refl h.1);
  on_wire = (λ h. let w = found fails_on_wire es (sym (wires_are es) ∙ h) in a_wire es w.0 w.1 w.2, λ h. wires_are es ∙ there fails_on_wire es (OnWire h.0) h.1 h.2);
}

no_end : (before : List Event) (e : Event) (after : List Event) → [] ≡ before ++ e ∷ after → ⊥
no_end [] e after is = absurd (cc)
no_end (b ∷ before) e after is = absurd (cc)

-- the same before each, after what was done
abbrev HoldsAfter : (Effects → Bool) → Effects → List Event → Type 0
HoldsAfter p done es = (before : List Event) (e : Event) (after : List Event) → es ≡ before ++ e ∷ after
    → (asks e ≡ true → p (and_then done (effects before)) ≡ true) × MayFollow e (and_then done (effects before))

asked : (b : Bool) (A : Type 0) → MatchBool b A (Unit {0}) → b ≡ true → A
asked true A h e = h
asked false A h e = absurd (cc)

to_ask : (b : Bool) (A : Type 0) → (b ≡ true → A) → MatchBool b A (Unit {0})
to_ask true A h = h refl
to_ask false A h = tt

before_each : (p : Effects → Bool) (done : Effects) (es : List Event) → AtReads (λ f. p f ≡ true) done es → HoldsAfter p done es
before_each p done [] h before e after is = absurd (no_end before e after is)
before_each p done (x ∷ es) h [] e after is =
    let P : Event → Effects → Type 0 = λ y f. (asks y ≡ true → p f ≡ true) × MayFollow y f in
    let here : P x done = (asked (asks x) (p done ≡ true) h.0, h.1) in
    let same : x ≡ e = cc in
    let Q : Event → Type 0 = λ y. P y (and_then done nothing) in
    subst Q same (let R : Effects → Type 0 = λ f. P x f in subst R (sym (and_then-nothing done)) here)
before_each p done (x ∷ es) h (b ∷ before) e after is =
    let same : x ≡ b = cc in
    let rest : es ≡ before ++ e ∷ after = cc in
    let R : Effects → Type 0 = λ f. (asks e ≡ true → p f ≡ true) × MayFollow e f in
    let at : and_then (and_then done (effect_of x)) (effects before) ≡ and_then done (and_then (effect_of b) (effects before)) =
    and_then-assoc done (effect_of x) (effects before) ∙ ap (λ (y : Event). and_then done (and_then (effect_of y) (effects before))) same in
    subst R at (before_each p (and_then done (effect_of x)) es h.2 before e after rest)

each_before : (p : Effects → Bool) (done : Effects) (es : List Event) → HoldsAfter p done es → AtReads (λ f. p f ≡ true) done es
each_before p done [] h = tt
each_before p done (x ∷ es) h =
    let R : Effects → Type 0 = λ f. (asks x ≡ true → p f ≡ true) × MayFollow x f in
    let here = subst R (and_then-nothing done) (h [] x es refl) in
    (to_ask (asks x) (p done ≡ true) here.0, here.1, each_before p (and_then done (effect_of x)) es later_on) where
      later_on : HoldsAfter p (and_then done (effect_of x)) es
      later_on before e after is =
          let S : Effects → Type 0 = λ f. (asks e ≡ true → p f ≡ true) × MayFollow e f in
          subst S (sym (and_then-assoc done (effect_of x) (effects before))) (h (x ∷ before) e after (ap (λ (l : List Event). x ∷ l) is))

pub reads_are_before : ReadsAreBefore
reads_are_before p es = (λ h. start (before_each p nothing es h), λ h. each_before p nothing es (λ before e after is. h before e after is)) where
  start : HoldsAfter p nothing es → HoldsBefore p es
  start h before e after is = h before e after is
