-- Bytes put out one after another.
use Rattle.std.proofs.Common.{◌≡◌, ◌++◌, ℕ, List, [], ◌∷◌, refl, sym, ◌∙◌, ap, subst, append_assoc}
use Rattle.scl_outside.specs.Meaning.{Meaning}
use Rattle.scl_outside.specs.Events.{Event, Wrote, WriteFailed}
use Rattle.scl_outside.specs.Effects.{HasPassed, nothing, only_written, written_until_failed, effects}
use Rattle.scl_outside.specs.Steps.{Step}
use Rattle.scl_outside.specs.Writing.{Never, Puts}
use Rattle.scl_outside.specs.declared.duct.PutOut.{PutOut}
use Rattle.scl_outside.specs.declared.duct.PutOut.TheVariants.{Done, WriteFault}
use Rattle.scl_outside.proofs.Traces.{trace_one, and_then-nothing, trace_join, effects_then, at_reads_then, has_passed}

-- no call puts nothing out
pub puts_nothing : (s : Meaning) → Puts [] s s Done []
puts_nothing s = record { trace = refl; within = tt; gives = refl }

-- no write failed
none_failed : HasPassed nothing
none_failed = record { reads = refl; writes = refl; on_wire = refl }

all_passed : (bytes : List ℕ) (es : List Event) → effects es ≡ only_written bytes → HasPassed (effects es)
all_passed bytes es is = has_passed (effects es) (only_written bytes) is (record { reads = refl; writes = refl; on_wire = refl })

-- bytes, and then others
pub puts_then : (a b : List ℕ) (s m t : Meaning) (r : PutOut) (es fs : List Event) → Puts a s m Done es → Puts b m t r fs → Puts (a ++ b) s t r (es ++ fs)
puts_then a b s m t Done es fs p q = record {
  trace = trace_join s m t es fs p.trace q.trace;
  within = at_reads_then Never Never es fs p.within (all_passed a es p.gives) (λ f i. i) q.within;
  gives = effects_then es fs _ _ p.gives q.gives;
}
puts_then a b s m t WriteFault es fs p q = record {
  trace = trace_join s m t es fs p.trace q.trace;
  within = at_reads_then Never Never es fs p.within (all_passed a es p.gives) (λ f i. i) q.within;
  gives = (a ++ q.gives.0, q.gives.1, ap (λ l. a ++ l) q.gives.2 ∙ sym (append_assoc a q.gives.0 q.gives.1), effects_then es fs _ _ p.gives q.gives.3);
}

-- what follows a failed write stays out
pub puts_front : (a b : List ℕ) (s t : Meaning) (es : List Event) → Puts a s t WriteFault es → Puts (a ++ b) s t WriteFault es
puts_front a b s t es p = record {
  trace = p.trace;
  within = p.within;
  gives = (p.gives.0, p.gives.1 ++ b, ap (λ l. l ++ b) p.gives.2 ∙ append_assoc p.gives.0 p.gives.1 b, p.gives.3);
}

-- one write
pub puts_wrote : (bytes : List ℕ) (s t : Meaning) → Step s (Wrote bytes) t → Puts bytes s t Done (Wrote bytes ∷ [])
puts_wrote bytes s t step = record { trace = trace_one s t (Wrote bytes) step; within = (tt, none_failed, tt); gives = and_then-nothing (only_written bytes) }

-- one write that failed
pub puts_not : (bytes front rest : List ℕ) (s t : Meaning) → bytes ≡ front ++ rest → Step s (WriteFailed front) t → Puts bytes s t WriteFault (WriteFailed front ∷ [])
puts_not bytes front rest s t e step = record {
  trace = trace_one s t (WriteFailed front) step;
  within = (tt, none_failed, tt);
  gives = (front, rest, e, and_then-nothing (written_until_failed front));
}

-- the same bytes
pub puts_same : (a b : List ℕ) (s t : Meaning) (r : PutOut) (es : List Event) → a ≡ b → Puts a s t r es → Puts b s t r es
puts_same a b s t r es e p = let P : List ℕ → Type 0 = λ l. Puts l s t r es in subst P e p
