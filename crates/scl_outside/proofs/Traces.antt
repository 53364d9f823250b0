-- Lists of calls, joined.
use Rattle.std.proofs.Common.{◌≡◌, List, [], ◌∷◌, ◌++◌, Bool, true, false, ◌||◌, refl, sym, ◌∙◌, ap, subst, append_assoc}
use Rattle.std.specs.Prelude.{MatchBool}
use Rattle.std.specs.List.{AllByRecursion}
use Rattle.std.proofs.lemmas.List.{append-nil}
use Rattle.scl_outside.specs.Meaning.{Meaning}
use Rattle.scl_outside.specs.Events.{Event, WireEvent, Took, Ended, ReadFailed, Wrote, WriteFailed, Noted, OnWire, Received, Offered, Bound, Joined, asks, is_note, wire_fails, name_fails}
use Rattle.scl_outside.specs.Steps.{Step}
use Rattle.scl_outside.specs.Effects.{Effects, HasPassed, HasPassedButReceiving, nothing, effect_of, and_then, effects, wire_failed, name_failed}
use Rattle.scl_outside.specs.Traces.{Trace, AtReads, MayFollow}

or-false : (b : Bool) → (b || false) ≡ b
or-false true = refl
or-false false = refl

or-assoc : (a b c : Bool) → ((a || b) || c) ≡ (a || (b || c))
or-assoc true b c = refl
or-assoc false b c = refl

-- effects, and then none
pub and_then-nothing : (f : Effects) → and_then f nothing ≡ f
and_then-nothing f = rw (append-nil f.read, append-nil f.written, append-nil f.noted, append-nil f.wire, or-false f.ended, or-false f.read_failed, or-false f.write_failed) refl

pub and_then-assoc : (f g h : Effects) → and_then (and_then f g) h ≡ and_then f (and_then g h)
and_then-assoc f g h = rw (append_assoc f.read g.read h.read, append_assoc f.written g.written h.written, append_assoc f.noted g.noted h.noted, append_assoc f.wire g.wire h.wire, or-assoc f.ended g.ended h.ended, or-assoc f.read_failed g.read_failed h.read_failed, or-assoc f.write_failed g.write_failed h.write_failed) refl

-- what calls did, and then others
pub effects-append : (es fs : List Event) → effects (es ++ fs) ≡ and_then (effects es) (effects fs)
effects-append [] fs = refl
effects-append (e ∷ es) fs = ap (λ (f : Effects). and_then (effect_of e) f) (effects-append es fs) ∙ sym (and_then-assoc (effect_of e) (effects es) (effects fs))

-- the effects of calls, and then others
pub effects_then : (es fs : List Event) (f g : Effects) → effects es ≡ f → effects fs ≡ g → effects (es ++ fs) ≡ and_then f g
effects_then es fs f g e h = effects-append es fs ∙ (ap (λ (x : Effects). and_then x (effects fs)) e ∙ ap (λ (x : Effects). and_then f x) h)

-- one more call
pub effects_more : (es : List Event) (e : Event) (f : Effects) → effects es ≡ f → effects (es ++ e ∷ []) ≡ and_then f (effect_of e)
effects_more es e f is = effects_then es (e ∷ []) f (effect_of e) is (and_then-nothing (effect_of e))

-- some calls, and then others
pub trace_join : (s t u : Meaning) (es fs : List Event) → Trace s es t → Trace t fs u → Trace s (es ++ fs) u
trace_join s t u [] fs e more = let P : Meaning → Type 0 = λ x. Trace x fs u in subst P e more
trace_join s t u (e ∷ es) fs (m, step, rest) more = (m, step, trace_join m t u es fs rest more)

-- one call
pub trace_one : (s t : Meaning) (e : Event) → Step s e t → Trace s (e ∷ []) t
trace_one s t e step = (t, step, refl)

-- neither failed
or_passed : (a b : Bool) → a ≡ false → b ≡ false → (a || b) ≡ false
or_passed a b e f = rw e f

wires_passed : (vs ws : List WireEvent) → wire_failed vs ≡ false → wire_failed ws ≡ false → wire_failed (vs ++ ws) ≡ false
wires_passed [] ws e f = f
wires_passed (v ∷ vs) ws e f = both (wire_fails v) (wire_failed vs) (wire_failed (vs ++ ws)) e (λ h. wires_passed vs ws h f) where
  both : (a b c : Bool) → (a || b) ≡ false → (b ≡ false → c ≡ false) → (a || c) ≡ false
  both true b c e f = e
  both false b c e f = f e

pub passed_join : (f g : Effects) → HasPassed f → HasPassed g → HasPassed (and_then f g)
passed_join f g a b = record {
  reads = or_passed f.read_failed g.read_failed a.reads b.reads;
  writes = or_passed f.write_failed g.write_failed a.writes b.writes;
  on_wire = wires_passed f.wire g.wire a.on_wire b.on_wire;
}

-- what no call was has passed
pub has_passed : (f : Effects) (g : Effects) → f ≡ g → HasPassed g → HasPassed f
has_passed f g e h = let P : Effects → Type 0 = λ x. HasPassed x in subst P (sym e) h

-- what holds before each read of some calls, and of others after them, holds before each read of both
pub at_reads_join : (P : Effects → Type 0) (done : Effects) (es fs : List Event) → AtReads P done es → AtReads P (and_then done (effects es)) fs → AtReads P done (es ++ fs)
at_reads_join P done [] fs p q = let R : Effects → Type 0 = λ f. AtReads P f fs in subst R (and_then-nothing done) q
at_reads_join P done (e ∷ es) fs p q =
    let R : Effects → Type 0 = λ f. AtReads P f fs in
    (p.0, p.1, at_reads_join P (and_then done (effect_of e)) es fs p.2 (subst R (sym (and_then-assoc done (effect_of e) (effects es))) q))

-- a fact before a read, or none before another call
at_ask : (b : Bool) (P Q : Type 0) → (P → Q) → MatchBool b P (Unit {0}) → MatchBool b Q (Unit {0})
at_ask true P Q f p = f p
at_ask false P Q f p = tt

names_passed : (vs ws : List WireEvent) → name_failed vs ≡ false → name_failed ws ≡ false → name_failed (vs ++ ws) ≡ false
names_passed [] ws e f = f
names_passed (v ∷ vs) ws e f = both (name_fails v) (name_failed vs) (name_failed (vs ++ ws)) e (λ h. names_passed vs ws h f) where
  both : (a b c : Bool) → (a || b) ≡ false → (b ≡ false → c ≡ false) → (a || c) ≡ false
  both true b c e f = e
  both false b c e f = f e

-- where no call failed, none did to name an address
names_of : (ws : List WireEvent) → wire_failed ws ≡ false → name_failed ws ≡ false
names_of [] e = refl
names_of (Bound text true ∷ ws) e = names_of ws e
names_of (Bound text false ∷ ws) e = absurd (cc)
names_of (Joined text true ∷ ws) e = names_of ws e
names_of (Joined text false ∷ ws) e = absurd (cc)
names_of (Received r ∷ ws) e = names_of ws (later (wire_fails (Received r)) (wire_failed ws) e) where
  later : (a b : Bool) → (a || b) ≡ false → b ≡ false
  later true b e = absurd (cc)
  later false b e = e
names_of (Offered p a ∷ ws) e = names_of ws e

pub passed_to_send : (f : Effects) → HasPassed f → HasPassedButReceiving f
passed_to_send f p = record { reads = p.reads; writes = p.writes; names = names_of f.wire p.on_wire }

-- a call that may follow what was done may follow it after what has passed
follow_after : (e : Event) (before done : Effects) → HasPassed before → MayFollow e done → MayFollow e (and_then before done)
follow_after (Noted line) before done passed p = tt
follow_after (OnWire (Offered parcel answer)) before done passed p = record {
  reads = or_passed before.read_failed done.read_failed passed.reads p.reads;
  writes = or_passed before.write_failed done.write_failed passed.writes p.writes;
  names = names_passed before.wire done.wire (names_of before.wire passed.on_wire) p.names;
}
follow_after (OnWire (Received r)) before done passed p = passed_join before done passed p
follow_after (OnWire (Bound text b)) before done passed p = passed_join before done passed p
follow_after (OnWire (Joined text b)) before done passed p = passed_join before done passed p
follow_after (Took bytes) before done passed p = passed_join before done passed p
follow_after Ended before done passed p = passed_join before done passed p
follow_after ReadFailed before done passed p = passed_join before done passed p
follow_after (Wrote bytes) before done passed p = passed_join before done passed p
follow_after (WriteFailed bytes) before done passed p = passed_join before done passed p

-- a line for the user follows anything
note_follows : (e : Event) (done : Effects) → is_note e ≡ true → MayFollow e done
note_follows (Noted line) done is = tt
note_follows (OnWire w) done is = absurd (cc)
note_follows (Took bytes) done is = absurd (cc)
note_follows Ended done is = absurd (cc)
note_follows ReadFailed done is = absurd (cc)
note_follows (Wrote bytes) done is = absurd (cc)
note_follows (WriteFailed bytes) done is = absurd (cc)

-- what holds before each read of calls holds of the same calls after others that passed, where it follows there
pub at_reads_after : (P Q : Effects → Type 0) (before done : Effects) (es : List Event) → HasPassed before → ((f : Effects) → P f → Q (and_then before f)) → AtReads P done es → AtReads Q (and_then before done) es
at_reads_after P Q before done [] passed follows p = tt
at_reads_after P Q before done (e ∷ es) passed follows p =
    let R : Effects → Type 0 = λ f. AtReads Q f es in (
      at_ask (asks e) (P done) (Q (and_then before done)) (follows done) p.0,
      follow_after e before done passed p.1,
      subst R (sym (and_then-assoc before done (effect_of e))) (at_reads_after P Q before (and_then done (effect_of e)) es passed follows p.2),
    )

-- the usual use of both: calls with what held before each of their reads, and then others with what held in their own words
pub at_reads_then : (P Q : Effects → Type 0) (es fs : List Event) → AtReads Q nothing es → HasPassed (effects es) → ((f : Effects) → P f → Q (and_then (effects es) f)) → AtReads P nothing fs → AtReads Q nothing (es ++ fs)
at_reads_then P Q es fs first passed follows then =
    let later : AtReads Q (and_then (effects es) nothing) fs = at_reads_after P Q (effects es) nothing fs passed follows then in
    let R : Effects → Type 0 = λ f. AtReads Q f fs in
    at_reads_join Q nothing es fs first (subst R (and_then-nothing (effects es)) later)

-- what holds before each read, where more follows from it
pub at_reads_map : (P Q : Effects → Type 0) (done : Effects) (es : List Event) → ((f : Effects) → P f → Q f) → AtReads P done es → AtReads Q done es
at_reads_map P Q done [] follows p = tt
at_reads_map P Q done (e ∷ es) follows p = (at_ask (asks e) (P done) (Q done) (follows done) p.0, p.1, at_reads_map P Q (and_then done (effect_of e)) es follows p.2)

-- lines for the user aren't asked for anything
pub at_reads_none : (P : Effects → Type 0) (done : Effects) (es : List Event) → AllByRecursion (λ e. (asks e ≡ false) × (is_note e ≡ true)) es → AtReads P done es
at_reads_none P done [] none = tt
at_reads_none P done (e ∷ es) none = (rw none.0.0 tt, note_follows e done none.0.1, at_reads_none P (and_then done (effect_of e)) es none.1)
