-- A main header that was found and shown, or not found.
use Rattle.std.proofs.Common.{◌≡◌, ℕ, true, List, [], ◌∷◌, ◌++◌, take, drop, refl, sym, subst, ◌∙◌, ap, append_assoc, inl}
use Rattle.std.specs.Prelude.{Result, Ok, Err}
use Rattle.std.proofs.lemmas.List.{append-nil, take-append-drop}
use Rattle.codestream_model.specs.Values.{Head}
use Rattle.codestream_model.specs.MainHeader.{SpellsHead}
use Rattle.codestream_model.specs.MainHeaderReading.{Refused as NoHeader, head_of}
use Rattle.scl_outside.specs.Meaning.{Meaning}
use Rattle.scl_outside.specs.Events.{Event, Wrote, WriteFailed}
use Rattle.scl_outside.specs.Steps.{Step}
use Rattle.scl_outside.specs.Effects.{Effects, HasPassed, nothing, only_read, read_until_failed, only_written, written_until_failed, effects}
use Rattle.scl_outside.proofs.Traces.{trace_join, trace_one, effects_then, effects_more, at_reads_join, at_reads_then, at_reads_map, and_then-nothing, has_passed}
use Rattle.capture_frames.proofs.ReadEffects.{reads_passed}
use Rattle.scl_outside.specs.declared.duct.PutOut.TheVariants.{Done as Put, WriteFault as NotPut}
use Rattle.scl_outside.specs.Writing.{Never as NoRead, Puts}
use Rattle.scl_run.specs.declared.ending.Ending.{Ending}
use Rattle.scl_run.specs.declared.ending.Ending.TheVariants.{Done, ReadFault, WriteFault, WireFault, Refused, NoMemory}
use Rattle.scl_run.specs.HeaderInput.{BeginsWithHead}
use Rattle.scl_run.specs.Performing.{Performs, IsSoFar, passed}
use Rattle.scl_run.proofs.Performed.{EndsWith, ends_with}
use Rattle.scl_cli.specs.HeaderJobs.{shown, shown_job}
use Rattle.scl_cli.specs.Finding.{HasNoHead, IsLooking, Finds}
use Rattle.scl_cli.specs.Showing.{Shows}

-- the lines went out at once,
pub shows : (lines bytes : List ℕ) (s t : Meaning) → bytes ≡ lines → Step s (Wrote bytes) t → Shows lines s t Done (Wrote bytes ∷ [])
shows lines bytes s t e step = record {
  trace = trace_one s t (Wrote bytes) step;
  within = (tt, record { reads = refl; writes = refl; on_wire = refl }, tt);
  gives = and_then-nothing (only_written bytes) ∙ ap (λ (l : List ℕ). only_written l) e;
}

-- or a prefix of them did
pub shows_front : (lines bytes front rest : List ℕ) (s t : Meaning) → bytes ≡ lines → bytes ≡ front ++ rest → Step s (WriteFailed front) t → Shows lines s t WriteFault (WriteFailed front ∷ [])
shows_front lines bytes front rest s t e split step = record {
  trace = trace_one s t (WriteFailed front) step;
  within = (tt, record { reads = refl; writes = refl; on_wire = refl }, tt);
  gives = (front, rest, sym e ∙ split, and_then-nothing (written_until_failed front));
}

lines_passed : (lines : List ℕ) (es : List Event) → effects es ≡ only_written lines → HasPassed (effects es)
lines_passed lines es is = has_passed (effects es) (only_written lines) is (record { reads = refl; writes = refl; on_wire = refl })

-- one more line went out,
pub wrote_more : (lines line more : List ℕ) (s t u : Meaning) (es : List Event) → more ≡ lines ++ line → Puts lines s t Put es → Step t (Wrote line) u → Puts more s u Put (es ++ Wrote line ∷ [])
wrote_more lines line more s t u es is w step = record {
  trace = trace_join s t u es (Wrote line ∷ []) w.trace (trace_one t u (Wrote line) step);
  within = at_reads_join NoRead nothing es (Wrote line ∷ []) w.within (tt, lines_passed lines es w.gives, tt);
  gives = effects_more es (Wrote line) (only_written lines) w.gives ∙ ap (λ (l : List ℕ). only_written l) (sym is);
}

-- or a prefix of it did, and others were to follow
pub wrote_front : (lines line front rest more all : List ℕ) (s t u : Meaning) (es : List Event) → all ≡ (lines ++ line) ++ more → line ≡ front ++ rest → Puts lines s t Put es → Step t (WriteFailed front) u
    → Puts all s u NotPut (es ++ WriteFailed front ∷ [])
wrote_front lines line front rest more all s t u es is split w step = record {
  trace = trace_join s t u es (WriteFailed front ∷ []) w.trace (trace_one t u (WriteFailed front) step);
  within = at_reads_join NoRead nothing es (WriteFailed front ∷ []) w.within (tt, lines_passed lines es w.gives, tt);
  gives = (
    lines ++ front,
    rest ++ more,
    is ∙ (ap (λ (l : List ℕ). (lines ++ l) ++ more) split ∙ regroup lines front rest more),
    effects_more es (WriteFailed front) (only_written lines) w.gives,
  );
} where
  regroup : (a b c d : List ℕ) → (a ++ (b ++ c)) ++ d ≡ (a ++ b) ++ (c ++ d)
  regroup a b c d = simp append_assoc refl

-- the lines went out one after another, or a prefix of them
pub orders : (all lines : List ℕ) (s t : Meaning) (es : List Event) → lines ≡ all → Puts lines s t Put es → Shows all s t Done es
orders all lines s t es e w = record { trace = w.trace; within = w.within; gives = w.gives ∙ ap (λ (l : List ℕ). only_written l) e }

pub orders_front : (all lines : List ℕ) (s t : Meaning) (es : List Event) → lines ≡ all → Puts lines s t NotPut es → Shows all s t WriteFault es
orders_front all lines s t es e w = record { trace = w.trace; within = w.within; gives = (w.gives.0, w.gives.1, sym e ∙ w.gives.2, w.gives.3) }

-- where there is no main header nothing is shown
shows_none : (lines : Head → List ℕ) (bytes : List ℕ) → HasNoHead bytes → [] ≡ shown lines (head_of bytes)
shows_none lines bytes (r, none) = ap (λ (x : Result Head NoHeader). shown lines x) (sym none)

-- before each read nothing is written, since no header is whole, and bytes are wanted
so_far : (lines : Head → List ℕ) (f : Effects) → IsLooking f → IsSoFar (shown_job lines) f
so_far lines f (reads, none, wants) =
    let P : Effects → Type 0 = λ x. IsSoFar (shown_job lines) x in
    subst P (sym reads) (record {
      made = shows_none lines f.read none;
      sent = refl;
      goes_on = refl;
      asks = wants;
    })

-- no main header was found
none_gives : (lines : Head → List ℕ) (s t : Meaning) (ending : Ending) (es : List Event) → Finds s t (Err ending) es → EndsWith (shown_job lines) ending (effects es)
none_gives lines s t Done es n = absurd n.gives
none_gives lines s t WriteFault es n = absurd n.gives
none_gives lines s t WireFault es n = absurd n.gives
none_gives lines s t NoMemory es n = absurd n.gives
none_gives lines s t ReadFault es n =
    ends_with (shown_job lines) ReadFault (effects es) (read_until_failed (effects es).read) n.gives.0 (
      record {
        output = shows_none lines (effects es).read n.gives.1;
        sent = refl;
        cause = tt;
        fails = record { read_failed = refl; write_failed = refl; on_wire = refl };
        fits = n.enough;
        wires = refl;
      },
      refl,
    )
none_gives lines s t (Refused r) es n =
    let ended = n.gives.0.0 in
    ends_with (shown_job lines) (Refused r) (effects es) (record (only_read (effects es).read) { ended = ended }) n.gives.0.1 (
      record {
        output = shows_none lines (effects es).read n.gives.1;
        sent = refl;
        cause = (n.gives.2, n.gives.0.2);
        fails = record { read_failed = refl; write_failed = refl; on_wire = refl };
        fits = n.enough;
        wires = refl;
      },
      refl,
    )

pub found_none : (lines : Head → List ℕ) (s t : Meaning) (ending : Ending) (es : List Event) → Finds s t (Err ending) es → Performs (shown_job lines) s t ending es
found_none lines s t ending es n =
    let over = none_gives lines s t ending es n in
    record {
      trace = n.trace;
      so_far = at_reads_map IsLooking (IsSoFar (shown_job lines)) nothing es (so_far lines) n.within;
      noted = over.1;
      ends = over.0;
    }

-- the input begins with the header that was found
begins : (h : Head) (b : List ℕ) → SpellsHead h (take h.length b) → BeginsWithHead b
begins h b spelt = record { head = h; header = take h.length b; more = drop h.length b; spelt = spelt; whole = sym (take-append-drop h.length b) }

-- one was found and shown
whole_gives : (lines : Head → List ℕ) (s t u : Meaning) (h : Head) (ending : Ending) (es fs : List Event) → Finds s t (Ok h) es → Shows (lines h) t u ending fs → EndsWith (shown_job lines) ending (effects (es ++ fs))
whole_gives lines s t u h Done es fs n w =
    let b : List ℕ = (effects es).read in
    ends_with (shown_job lines) Done (effects (es ++ fs)) (passed b (lines h)) (effects_then es fs _ _ n.gives.0 w.gives ∙ ap (λ (r : List ℕ). passed r (lines h)) (append-nil b)) (
      record {
        output = ap (λ (x : Result Head NoHeader). shown lines x) (sym n.gives.1);
        sent = refl;
        cause = ((begins h b n.gives.2, (λ e. absurd e)), tt);
        fails = record { read_failed = refl; write_failed = refl; on_wire = refl };
        fits = n.enough;
        wires = refl;
      },
      refl,
    )
whole_gives lines s t u h WriteFault es fs n w =
    let b : List ℕ = (effects es).read in
    let front = w.gives.0 in
    ends_with (shown_job lines) WriteFault (effects (es ++ fs)) (record (passed b front) { write_failed = true })
    (effects_then es fs _ _ n.gives.0 w.gives.3 ∙ ap (λ (r : List ℕ). record (passed r front) { write_failed = true }) (append-nil b)) (
      record {
        output = inl (w.gives.1, ap (λ (x : Result Head NoHeader). shown lines x) n.gives.1 ∙ w.gives.2);
        sent = refl;
        cause = tt;
        fails = record { read_failed = refl; write_failed = refl; on_wire = refl };
        fits = n.enough;
        wires = refl;
      },
      refl,
    )
whole_gives lines s t u h NoMemory es fs n w = absurd w.gives
whole_gives lines s t u h ReadFault es fs n w = absurd w.gives
whole_gives lines s t u h WireFault es fs n w = absurd w.gives
whole_gives lines s t u h (Refused r) es fs n w = absurd w.gives

pub found_whole : (lines : Head → List ℕ) (s t u : Meaning) (h : Head) (ending : Ending) (es fs : List Event) → Finds s t (Ok h) es → Shows (lines h) t u ending fs → Performs (shown_job lines) s u ending (es ++ fs)
found_whole lines s t u h ending es fs n w =
    let over = whole_gives lines s t u h ending es fs n w in
    record {
      trace = trace_join s t u es fs n.trace w.trace;
      so_far = at_reads_then NoRead (IsSoFar (shown_job lines)) es fs (at_reads_map IsLooking (IsSoFar (shown_job lines)) nothing es (so_far lines) n.within) (reads_passed (effects es) (effects es).read n.gives.0) (λ f i. absurd i) w.within;
      noted = over.1;
      ends = over.0;
    }
