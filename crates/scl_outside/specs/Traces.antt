-- Lists of calls: how a function that is generic over a duct says what it did.
use Rattle.std.specs.Prelude.{◌≡◌, List, [], ◌∷◌, MatchBool}
use Rattle.wire_model.specs.Causes.{Grew, Fell}
use Rattle.scl_outside.specs.Meaning.{Meaning}
use Rattle.scl_outside.specs.Events.{Event, Noted, OnWire, Offered, asks}
use Rattle.scl_outside.specs.Steps.{Step, Counts, WireTrace, IsOver}
use Rattle.scl_outside.specs.Effects.{Effects, HasPassed, HasPassedButReceiving, effect_of, and_then}

-- These calls, one after another, led from what was told before to what is told now.
abbrev pub Trace : Meaning → List Event → Meaning → Type 0
Trace s [] t = t ≡ s
Trace s (e ∷ es) t = (m : Meaning) × Step s e m × Trace m es t

-- After this was done a call may follow: a line for the user after anything, a call to a peer where nothing
-- failed but a call for a datagram, and any other call where nothing failed.
abbrev pub MayFollow : Event → Effects → Type 0
MayFollow (Noted line) done = Unit {0}
MayFollow (OnWire (Offered parcel answer)) done = HasPassedButReceiving done
MayFollow e done = HasPassed done

-- Before each call that asks for input this holds of all that was done by then, `done` included, and each call
-- may follow what was done before it.
abbrev pub AtReads : (Effects → Type 0) → Effects → List Event → Type 0
AtReads P done [] = Unit {0}
AtReads P done (e ∷ es) =
    MatchBool (asks e) (P done) (Unit {0}) × MayFollow e done × AtReads P (and_then done (effect_of e)) es

-- Calls with these effects change what is told so.
pub record Affects (s : Meaning) (f : Effects) (t : Meaning) : Type 0 where
  pub read : Grew s.read t.read f.read
  pub left : Fell s.left t.left f.read
  pub over : MatchBool f.ended (IsOver t) (Unit {0})
  pub written : Grew s.written t.written f.written
  pub noted : Grew s.noted t.noted f.noted
  pub wire : WireTrace s.wire f.wire t.wire
  pub read_faults : Counts f.read_failed s.read_faults t.read_faults
  pub write_faults : Counts f.write_failed s.write_faults t.write_faults
