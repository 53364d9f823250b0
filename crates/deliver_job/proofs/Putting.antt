-- Bytes put out one after another.
use Rattle.std.proofs.Common.{◌≡◌, ℕ, List, [], ◌∷◌, ◌++◌, refl, sym, ◌∙◌, ap, append_assoc}
use Rattle.std.proofs.lemmas.List.{append-nil}
use Rattle.scl_outside.specs.Meaning.{Meaning}
use Rattle.scl_outside.specs.Events.{Event, Wrote, WriteFailed}
use Rattle.scl_outside.specs.Steps.{Step}
use Rattle.scl_outside.specs.Effects.{HasPassed, only_written, written_until_failed, effects}
use Rattle.scl_outside.specs.Writing.{Never, Puts}
use Rattle.scl_outside.specs.declared.duct.PutOut.TheVariants.{Done, WriteFault}
use Rattle.scl_outside.proofs.Traces.{trace_one, trace_join, and_then-nothing, effects_then, at_reads_then, has_passed}

-- of all bytes these are left, and those before them were put out
pub record Putting (all left : List ℕ) (s t : Meaning) (es : List Event) : Type 0 where
  pub done : List ℕ
  pub puts : Puts done s t Done es
  pub whole : all ≡ done ++ left

pub none_put : (all : List ℕ) (s : Meaning) → Putting all all s s []
none_put all s = record { done = []; puts = record { trace = refl; within = tt; gives = refl }; whole = refl }

-- what was put out has passed
put_passed : (bytes : List ℕ) (es : List Event) → effects es ≡ only_written bytes → HasPassed (effects es)
put_passed bytes es is = has_passed (effects es) (only_written bytes) is (record { reads = refl; writes = refl; on_wire = refl })

-- the next bytes were put out,
pub put_more : (all left next later : List ℕ) (s t u : Meaning) (es fs : List Event) → Putting all left s t es → left ≡ next ++ later → Puts next t u Done fs → Putting all later s u (es ++ fs)
put_more all left next later s t u es fs w is p = record {
  done = w.done ++ next;
  puts = record {
    trace = trace_join s t u es fs w.puts.trace p.trace;
    within = at_reads_then Never Never es fs w.puts.within (put_passed w.done es w.puts.gives) (λ f i. i) p.within;
    gives = effects_then es fs _ _ w.puts.gives p.gives;
  };
  whole = w.whole ∙ (ap (λ (l : List ℕ). w.done ++ l) is ∙ sym (append_assoc w.done next later));
}

-- or a write of them failed,
pub put_broken : (all left next later : List ℕ) (s t u : Meaning) (es fs : List Event) → Putting all left s t es → left ≡ next ++ later → Puts next t u WriteFault fs → Puts all s u WriteFault (es ++ fs)
put_broken all left next later s t u es fs w is p =
    let front = p.gives.0 in
    let rest = p.gives.1 in
    record {
      trace = trace_join s t u es fs w.puts.trace p.trace;
      within = at_reads_then Never Never es fs w.puts.within (put_passed w.done es w.puts.gives) (λ f i. i) p.within;
      gives = (
        w.done ++ front,
        rest ++ later,
        w.whole ∙ (ap (λ (l : List ℕ). w.done ++ l) (is ∙ ap (λ (l : List ℕ). l ++ later) p.gives.2) ∙ regroup w.done front rest later),
        effects_then es fs _ _ w.puts.gives p.gives.3,
      );
    }
  where
    regroup : (a b c d : List ℕ) → a ++ ((b ++ c) ++ d) ≡ (a ++ b) ++ (c ++ d)
    regroup a b c d = simp append_assoc refl

-- or nothing is left
pub put_all : (all left : List ℕ) (s t : Meaning) (es : List Event) → Putting all left s t es → left ≡ [] → Puts all s t Done es
put_all all left s t es w none = record {
  trace = w.puts.trace;
  within = w.puts.within;
  gives = w.puts.gives ∙ ap (λ (l : List ℕ). only_written l) (sym (w.whole ∙ (ap (λ (l : List ℕ). w.done ++ l) none ∙ append-nil w.done)));
}

-- one write
pub put_one : (bytes line : List ℕ) (s t : Meaning) → bytes ≡ line → Step s (Wrote bytes) t → Puts line s t Done (Wrote bytes ∷ [])
put_one bytes line s t e step = record {
  trace = trace_one s t (Wrote bytes) step;
  within = (tt, record { reads = refl; writes = refl; on_wire = refl }, tt);
  gives = and_then-nothing (only_written bytes) ∙ ap (λ (l : List ℕ). only_written l) e;
}

pub put_none : (bytes line front rest : List ℕ) (s t : Meaning) → bytes ≡ line → bytes ≡ front ++ rest → Step s (WriteFailed front) t → Puts line s t WriteFault (WriteFailed front ∷ [])
put_none bytes line front rest s t e split step = record {
  trace = trace_one s t (WriteFailed front) step;
  within = (tt, record { reads = refl; writes = refl; on_wire = refl }, tt);
  gives = (front, rest, sym e ∙ split, and_then-nothing (written_until_failed front));
}
