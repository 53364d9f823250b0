-- One call for a datagram, and what it came to.
use Rattle.std.proofs.Common.{◌≡◌, ◌<◌, ◌≤◌, ◌+◌, ◌++◌, ℕ, List, [], ◌∷◌, refl, sym, ◌∙◌, ap, subst}
use Rattle.wire_model.specs.Receptions.{Reception, Arrived, NotReady, Closed, Failed}
use Rattle.stream_model.specs.Commands.{release_lines, reported}
use Rattle.stream_model.specs.Decoder.{Release}
use Rattle.scl_outside.specs.Meaning.{Meaning}
use Rattle.scl_outside.specs.Events.{Event, OnWire, Received}
use Rattle.scl_outside.specs.Effects.{HasPassed, nothing, and_then, effects, effect_of}
use Rattle.scl_outside.specs.Steps.{Step}
use Rattle.scl_outside.specs.Traces.{AtReads}
use Rattle.scl_outside.specs.Writing.{Never, Puts}
use Rattle.scl_outside.specs.declared.duct.PutOut.{PutOut}
use Rattle.scl_outside.specs.declared.duct.PutOut.TheVariants.{Done, WriteFault}
use Rattle.scl_outside.proofs.Traces.{trace_join, trace_one, and_then-nothing, effects_then, at_reads_after}
use Rattle.scl_outside.proofs.Putting.{puts_then, puts_front}
use Rattle.scl_run.specs.declared.ending.Ending.TheVariants as ending
use Rattle.stream_receiver.specs.States.{ReceiverState}
use Rattle.receiving_job.specs.Giving.{Ends}
use Rattle.recv_job.specs.Settings.{Settings}
use Rattle.recv_job.specs.declared.link.End.{End}
use Rattle.recv_job.specs.declared.link.Turn.{Turn}
use Rattle.recv_job.specs.declared.link.Turn.TheVariants.{On, Over, Stop}
use Rattle.recv_job.specs.declared.link.End.TheVariants as end
use Rattle.recv_job.specs.Turns.{TakesWhat, Progress, Answered, IsTurnAfter, TurnGives, AtStart, Turns, Finishes, last_line}

-- nothing failed yet
none_failed : HasPassed nothing
none_failed = record { reads = refl; writes = refl; on_wire = refl }

-- a call for a datagram, at the start
asked : (answer : Reception) → AtReads AtStart nothing (OnWire (Received answer) ∷ [])
asked answer = (refl, none_failed, tt)

-- the effect of one
got : (answer : Reception) → effects (OnWire (Received answer) ∷ []) ≡ record nothing { wire = Received answer ∷ [] }
got answer = and_then-nothing (record nothing { wire = Received answer ∷ [] })

-- then only lines are written
then_put : (d : List ℕ) (es : List Event) → AtReads Never nothing es → AtReads AtStart nothing (OnWire (Received (Arrived d)) ∷ es)
then_put d es n =
    let before = and_then nothing (effect_of (OnWire (Received (Arrived d)))) in
    (refl, none_failed, at_reads_after Never AtStart before nothing es (record { reads = refl; writes = refl; on_wire = refl }) (λ f i. absurd i) n)

-- a call that found none, that said that none will come, or that failed
pub turn_waited : (s : Settings) (xs : List Release) (b a : Progress) (m n : Meaning) (result : Turn) → Step m (OnWire (Received NotReady)) n → a.receiver ≡ b.receiver → a.came ≡ b.came → a.idle ≡ b.idle + 1
    → IsTurnAfter s a.came a.idle result → (b.came < s.max) → Turns s xs b a m n result (OnWire (Received NotReady) ∷ [])
turn_waited s xs b a m n result step same came idle after few = record {
  trace = trace_one m n (OnWire (Received NotReady)) step;
  within = asked NotReady;
  gives = gives result after;
}
  where
    done : Answered xs b a NotReady (effects (OnWire (Received NotReady) ∷ []))
    done = record { after = (same, got NotReady); came = came; idle = idle }

    gives : (result : Turn) → IsTurnAfter s a.came a.idle result → TurnGives s xs b a result (effects (OnWire (Received NotReady) ∷ []))
    gives On h = (NotReady, done, refl, h.0, h.1)
    gives (Over end.Max) h = (NotReady, done, (refl, h))
    gives (Over end.Idle) h = (NotReady, done, (refl, h.0, h.1))
    gives (Over end.Closed) h = absurd h
    gives (Stop e) h = absurd h

pub turn_closed : (s : Settings) (xs : List Release) (b a : Progress) (m n : Meaning) → Step m (OnWire (Received Closed)) n → a ≡ b → Turns s xs b a m n (Over end.Closed) (OnWire (Received Closed) ∷ [])
turn_closed s xs b a m n step same = record {
  trace = trace_one m n (OnWire (Received Closed)) step;
  within = asked Closed;
  gives = (
    Closed,
    record { after = (ap (λ (p : Progress). p.receiver) same, got Closed); came = ap (λ (p : Progress). p.came) same; idle = ap (λ (p : Progress). p.idle) same },
    refl,
  );
}

pub turn_failed : (s : Settings) (xs : List Release) (b a : Progress) (m n : Meaning) → Step m (OnWire (Received Failed)) n → Turns s xs b a m n (Stop ending.WireFault) (OnWire (Received Failed) ∷ [])
turn_failed s xs b a m n step = record { trace = trace_one m n (OnWire (Received Failed)) step; within = asked Failed; gives = got Failed }

-- a datagram that was taken
pub turn_came : (s : Settings) (xs : List Release) (b a : Progress) (d : List ℕ) (m t n : Meaning) (result : Turn) (es : List Event) → Step m (OnWire (Received (Arrived d))) t
    → TakesWhat xs b.receiver d Done a.receiver t n es → a.came ≡ b.came + 1 → a.idle ≡ 0 → IsTurnAfter s a.came 0 result → Turns s xs b a m n result (OnWire (Received (Arrived d)) ∷ es)
turn_came s xs b a d m t n result es step k came idle after = record {
  trace = trace_join m t n (OnWire (Received (Arrived d)) ∷ []) es (trace_one m t (OnWire (Received (Arrived d))) step) k.puts.trace;
  within = then_put d es k.puts.within;
  gives = gives result after;
}
  where
    did : effects (OnWire (Received (Arrived d)) ∷ es) ≡ record nothing { wire = Received (Arrived d) ∷ []; written = k.text }
    did = effects_then (OnWire (Received (Arrived d)) ∷ []) es _ _ (got (Arrived d)) k.puts.gives

    done : Answered xs b a (Arrived d) (effects (OnWire (Received (Arrived d)) ∷ es))
    done = record {
      after = record { like = k.left.0; is_like = k.left.1; left = k.left.2; ready = k.left.3; text = k.text; adds = k.adds; is = did };
      came = came;
      idle = idle;
    }

    gives : (result : Turn) → IsTurnAfter s a.came 0 result → TurnGives s xs b a result (effects (OnWire (Received (Arrived d)) ∷ es))
    gives On h = (Arrived d, done, refl, h.0, let P : ℕ → Type 0 = λ i. i < s.idle in subst P (sym idle) h.1)
    gives (Over end.Max) h = (Arrived d, done, (refl, h))
    gives (Over end.Idle) h = (Arrived d, done, (refl, h.0, let P : ℕ → Type 0 = λ i. s.idle ≤ i in subst P (sym idle) h.1))
    gives (Over end.Closed) h = absurd h
    gives (Stop e) h = absurd h

-- and one whose lines weren't written
pub turn_broken : (s : Settings) (xs : List Release) (b a : Progress) (d : List ℕ) (q : ReceiverState) (m t n : Meaning) (es : List Event) → Step m (OnWire (Received (Arrived d))) t → TakesWhat xs b.receiver d WriteFault q t n es
    → Turns s xs b a m n (Stop ending.WriteFault) (OnWire (Received (Arrived d)) ∷ es)
turn_broken s xs b a d q m t n es step k =
    let g = k.puts.gives in
    record {
      trace = trace_join m t n (OnWire (Received (Arrived d)) ∷ []) es (trace_one m t (OnWire (Received (Arrived d))) step) k.puts.trace;
      within = then_put d es k.puts.within;
      gives = record {
        d = d;
        front = g.0;
        rest = g.1;
        adds = k.adds ∙ ap (λ (l : List ℕ). release_lines xs ++ l) g.2;
        is = effects_then (OnWire (Received (Arrived d)) ∷ []) es _ _ (got (Arrived d)) g.3;
      };
    }

-- the end
pub ends_with_line : (xs : List Release) (b : Progress) (why : End) (result : PutOut) (m t n : Meaning) (es fs : List Event) → Ends release_lines reported xs b.receiver.rules m t Done es → Puts (last_line why b.came) t n result fs
    → Finishes xs b why m n result (es ++ fs)
ends_with_line xs b why result m t n es fs e p = record { text = e.text; adds = e.adds; puts = puts_then e.text (last_line why b.came) _ _ _ _ _ _ e.puts p }

pub ends_broken : (xs : List Release) (b : Progress) (why : End) (m n : Meaning) (es : List Event) → Ends release_lines reported xs b.receiver.rules m n WriteFault es → Finishes xs b why m n WriteFault es
ends_broken xs b why m n es e = record { text = e.text; adds = e.adds; puts = puts_front e.text (last_line why b.came) _ _ _ e.puts }
