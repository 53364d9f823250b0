-- A capture thinned so far, frame by frame, and how that ends.
use Rattle.std.proofs.Common.{◌≡◌, ◌<◌, ◌≤◌, ◌+◌, ◌-◌, ℕ, Bool, true, false, List, [], ◌∷◌, ◌++◌, length, take, refl, sym, subst, ◌∙◌, ap, arith, append_assoc, inl, inr}
use Rattle.std.specs.List.{AllByRecursion}
use Rattle.std.proofs.lemmas.List.{append-nil, length-append, take_all}
use Rattle.std.proofs.lemmas.List.Elements.{filter-append}
use Rattle.std.proofs.Math.Seq.{take-append-add}
use Rattle.wire_model.specs.Framing.{frame, framing, IsFramed, IsPartial}
use Rattle.wire_model.specs.Thinning.{is_kept, kept}
use Rattle.wire_model.proofs.FramingLaws.{framing-append, framed-append, whole_frames_of_framing}
use Rattle.stream_model.specs.Commands.{thin_output}
use Rattle.scl_outside.specs.Meaning.{Meaning}
use Rattle.scl_outside.specs.Events.{Event}
use Rattle.scl_outside.specs.Effects.{Effects, HasPassed, nothing, and_then, effects}
use Rattle.scl_outside.specs.Traces.{Trace, AtReads}
use Rattle.scl_outside.proofs.Traces.{trace_join, effects_then, at_reads_then, has_passed}
use Rattle.capture_frames.specs.FramesState.{FramesState}
use Rattle.capture_frames.specs.Reading.{InsideFrame, input_limit, left_at}
use Rattle.scl_run.specs.declared.ending.Reason.TheVariants.{CutFrame, InputTooLong}
use Rattle.scl_run.specs.declared.ending.Reason.{Reason}
use Rattle.scl_run.specs.declared.ending.Ending.{Ending}
use Rattle.scl_run.specs.declared.ending.Ending.TheVariants.{Done, ReadFault, WriteFault, WireFault, Refused, NoMemory}
use Rattle.scl_run.specs.Performing.{Performs, IsSoFar, passed}
use Rattle.scl_run.proofs.Performed.{EndsWith, ends_with}
use Rattle.scl_cli.specs.declared.thin.Turn.TheVariants.{Frame, Stop}
use Rattle.scl_cli.specs.ThinJob.{thin_job}
use Rattle.scl_cli.specs.Thinning.{Turns, RefusedGives, passed_of}

-- so far whole frames were read, and those that are kept were written
pub record SoFar (limit : ℕ) (s t : Meaning) (offset : ℕ) (es : List Event) : Type 0 where
  pub trace : Trace s es t
  pub so_far : AtReads (IsSoFar (thin_job limit)) nothing es
  pub frames : List (List ℕ)
  pub each : AllByRecursion IsFramed frames
  pub done : effects es ≡ passed (framing frames) (framing (kept limit frames))
  pub place : offset ≡ length (framing frames)
  pub within : offset ≤ input_limit

-- the start
pub none_yet : (limit : ℕ) (s : Meaning) → SoFar limit s s 0 []
none_yet limit s = record { trace = refl; so_far = tt; frames = []; each = tt; done = refl; place = refl; within = omega arith }

-- what is made of whole frames and less than one, within the limit
made_of : (limit : ℕ) (frames : List (List ℕ)) (rest : List ℕ) (ended : Bool) → IsPartial rest → length (framing frames ++ rest) ≤ input_limit → thin_output limit (framing frames ++ rest) ≡ framing (kept limit frames)
made_of limit frames rest ended partial short =
    let all : take input_limit (framing frames ++ rest) ≡ framing frames ++ rest = take_all input_limit (framing frames ++ rest) short in
    rw (all, whole_frames_of_framing frames rest partial) refl

-- what is written of frames, and then one more
kept-append : (limit : ℕ) (frames : List (List ℕ)) (d : List ℕ) → framing (kept limit (frames ++ d ∷ [])) ≡ framing (kept limit frames) ++ passed_of limit d
kept-append limit frames d = ap framing (filter-append (is_kept limit) frames (d ∷ [])) ∙ framing-append (kept limit frames) (kept limit (d ∷ []))

framing-more : (frames : List (List ℕ)) (d : List ℕ) → framing (frames ++ d ∷ []) ≡ framing frames ++ frame d
framing-more frames d = framing-append frames (d ∷ []) ∙ ap (λ (l : List ℕ). framing frames ++ l) (append-nil (frame d))

-- a front that goes past some bytes
take_behind : (n offset : ℕ) (xs ys : List ℕ) → offset ≡ length xs → offset ≤ n → take n (xs ++ ys) ≡ xs ++ take (n - offset) ys
take_behind n offset xs ys at h =
    let e : take (length xs + (n - offset)) (xs ++ ys) ≡ xs ++ take (n - offset) ys = take-append-add xs ys (n - offset) in
    let m : length xs + (n - offset) ≡ n = omega arith in
    rw m at e

-- one thing was read and written, and then another
both_passed : (es fs : List Event) (r w x y : List ℕ) → effects es ≡ passed r w → effects fs ≡ passed x y → effects (es ++ fs) ≡ passed (r ++ x) (w ++ y)
both_passed es fs r w x y a b = effects_then es fs _ _ a b

-- before each read of the next frame
waiting : (limit : ℕ) (s t : Meaning) (offset : ℕ) (es : List Event) → SoFar limit s t offset es → (f : Effects) → InsideFrame (left_at offset) f → IsSoFar (thin_job limit) (and_then (effects es) f)
waiting limit s t offset es so f w =
    let room : length f.read ≤ left_at offset = w.2 in
    let at = so.place in
    let within = so.within in
    let short : length (framing so.frames ++ f.read) ≤ input_limit = omega (arith, length-append (framing so.frames) f.read) in
    let out : List ℕ = framing (kept limit so.frames) in
    let all : and_then (effects es) f ≡ passed (framing so.frames ++ f.read) (out ++ []) =
    ap (λ (x : Effects). and_then x f) so.done ∙ ap (λ (x : Effects). and_then (passed (framing so.frames) out) x) w.0 in
    let P : Effects → Type 0 = λ x. IsSoFar (thin_job limit) x in
    subst P (sym all) (record {
      made = append-nil out ∙ sym (made_of limit so.frames f.read false w.1 short);
      sent = refl;
      goes_on = refl;
      asks = short;
    })

-- no call failed so far
so_passed : (limit : ℕ) (s t : Meaning) (offset : ℕ) (es : List Event) → SoFar limit s t offset es → HasPassed (effects es)
so_passed limit s t offset es so = has_passed (effects es) (passed (framing so.frames) (framing (kept limit so.frames))) so.done (record { reads = refl; writes = refl; on_wire = refl })

-- after one more frame
pub one_more : (limit : ℕ) (s t u : Meaning) (before after : FramesState) (es fs : List Event) → SoFar limit s t before.offset es → Turns limit before after t u Frame fs → SoFar limit s u after.offset (es ++ fs)
one_more limit s t u before after es fs so n =
    let d = n.gives.0 in
    let at = so.place in
    let far = n.gives.2 in
    record {
      trace = trace_join s t u es fs so.trace n.trace;
      so_far = at_reads_then (InsideFrame (left_at before.offset)) (IsSoFar (thin_job limit)) es fs so.so_far (so_passed limit s t before.offset es so) (waiting limit s t before.offset es so) n.within;
      frames = so.frames ++ d ∷ [];
      each = framed-append so.frames (d ∷ []) so.each (n.gives.1, tt);
      done = both_passed es fs _ _ _ _ so.done n.gives.5 ∙ rw (framing-more so.frames d, kept-append limit so.frames d) refl;
      place = far ∙ (let e : length (framing (so.frames ++ d ∷ [])) ≡ length (framing so.frames) + length (frame d) = ap length (framing-more so.frames d) ∙ length-append (framing so.frames) (frame d) in omega arith);
      within = n.gives.3;
    }

-- the reader has moved on
pub moved : (limit : ℕ) (t u : Meaning) (before after : FramesState) (fs : List Event) → Turns limit before after t u Frame fs → (input_limit - after.offset < input_limit - before.offset) × (after.live ≡ true)
moved limit t u before after fs n = (let far = n.gives.2 in let within = n.gives.3 in let some : 2 ≤ length (frame n.gives.0) = long_frame n.gives.0 in omega arith, n.gives.4) where
  long_frame : (d : List ℕ) → 2 ≤ length (frame d)
  long_frame d = omega arith

-- how a run ends, by its last turn
ends : (limit : ℕ) (t u : Meaning) (before after : FramesState) (ending : Ending) (es fs : List Event) (s : Meaning) → SoFar limit s t before.offset es → Turns limit before after t u (Stop ending) fs → EndsWith (thin_job limit) ending (effects (es ++ fs))
ends limit t u before after Done es fs s so n =
    let out : List ℕ = framing (kept limit so.frames) in
    let at = so.place in
    let within = so.within in
    let short : length (framing so.frames ++ []) ≤ input_limit = omega (arith, length-append (framing so.frames) []) in
    ends_with (thin_job limit) Done (effects (es ++ fs)) (record (passed (framing so.frames ++ []) (out ++ [])) { ended = true }) (effects_then es fs _ _ so.done n.gives) (
      record {
        output = append-nil out ∙ sym (made_of limit so.frames [] true tt short);
        sent = refl;
        cause = (((short, (so.frames, record { whole = refl; each = so.each; partial = tt })), (λ u. refl)), tt);
        fails = record { read_failed = refl; write_failed = refl; on_wire = refl };
        fits = omega arith;
        wires = refl;
      },
      refl,
    )
ends limit t u before after ReadFault es fs s so n =
    let out : List ℕ = framing (kept limit so.frames) in
    let bytes = n.gives.0 in
    let room : length bytes ≤ left_at before.offset = n.gives.2 in
    let at = so.place in
    let within = so.within in
    let short : length (framing so.frames ++ bytes) ≤ input_limit = omega (arith, length-append (framing so.frames) bytes) in
    ends_with (thin_job limit) ReadFault (effects (es ++ fs)) (record (passed (framing so.frames ++ bytes) (out ++ [])) { read_failed = true }) (effects_then es fs _ _ so.done n.gives.3) (
      record {
        output = append-nil out ∙ sym (made_of limit so.frames bytes false n.gives.1 short);
        sent = refl;
        cause = tt;
        fails = record { read_failed = refl; write_failed = refl; on_wire = refl };
        fits = omega arith;
        wires = refl;
      },
      refl,
    )
ends limit t u before after WriteFault es fs s so n =
    let out : List ℕ = framing (kept limit so.frames) in
    let d = n.gives.0 in
    let front = n.gives.1 in
    let rest = n.gives.2 in
    let room : length (frame d) ≤ left_at before.offset = n.gives.4 in
    let at = so.place in
    let within = so.within in
    let more : framing (so.frames ++ d ∷ []) ≡ framing so.frames ++ frame d = framing-more so.frames d in
    let fits : length (framing so.frames ++ frame d) ≤ input_limit = omega (arith, length-append (framing so.frames) (frame d)) in
    let short : length (framing (so.frames ++ d ∷ []) ++ []) ≤ input_limit = omega (arith, length-append (framing (so.frames ++ d ∷ [])) [], ap length more) in
    let whole : thin_output limit (framing so.frames ++ frame d) ≡ out ++ passed_of limit d =
    ap (λ (l : List ℕ). thin_output limit l) (sym more ∙ sym (append-nil (framing (so.frames ++ d ∷ [])))) ∙ (made_of limit (so.frames ++ d ∷ []) [] false tt short ∙ kept-append limit so.frames d) in
    ends_with (thin_job limit) WriteFault (effects (es ++ fs)) (record (passed (framing so.frames ++ frame d) (out ++ front)) { write_failed = true }) (effects_then es fs _ _ so.done n.gives.6) (
      record {
        output = inl (rest, whole ∙ (ap (λ (l : List ℕ). out ++ l) n.gives.5 ∙ sym (append_assoc out front rest)));
        sent = refl;
        cause = tt;
        fails = record { read_failed = refl; write_failed = refl; on_wire = refl };
        fits = omega arith;
        wires = refl;
      },
      refl,
    )
ends limit t u before after (Refused r) es fs s so n = refused r.reason refl n.gives where
  out : List ℕ
  out = framing (kept limit so.frames)

  refused : (reason : Reason) → r.reason ≡ reason → RefusedGives reason r.at before.offset (effects fs) → EndsWith (thin_job limit) (Refused r) (effects (es ++ fs))
  refused CutFrame why (bytes, here, some, partial, room, is) =
      let at = so.place in
      let within = so.within in
      let short : length (framing so.frames ++ bytes) ≤ input_limit = omega (arith, length-append (framing so.frames) bytes) in
      ends_with (thin_job limit) (Refused r) (effects (es ++ fs)) (record (passed (framing so.frames ++ bytes) (framing (kept limit so.frames) ++ [])) { ended = true }) (effects_then es fs _ _ so.done is) (
        record {
          output = append-nil (framing (kept limit so.frames)) ∙ sym (made_of limit so.frames bytes false partial short);
          sent = refl;
          cause = (inl (why, record { short = short; frames = so.frames; rest = bytes; splits = record { whole = refl; each = so.each; partial = partial }; some = some; place = here ∙ at }), (λ e. refl));
          fails = record { read_failed = refl; write_failed = refl; on_wire = refl };
          fits = omega arith;
          wires = refl;
        },
        refl,
      )
  refused InputTooLong why (bytes, here, size, partial, is) =
      let at = so.place in
      let within = so.within in
      let cut : take input_limit (framing so.frames ++ bytes) ≡ framing so.frames ++ take (left_at before.offset) bytes = take_behind input_limit before.offset (framing so.frames) bytes at within in
      let size_in_all = length-append (framing so.frames) bytes in
      let same : thin_output limit (framing so.frames ++ bytes) ≡ framing (kept limit so.frames) = rw (cut, whole_frames_of_framing so.frames (take (left_at before.offset) bytes) partial) refl in
      ends_with (thin_job limit) (Refused r) (effects (es ++ fs)) (passed (framing so.frames ++ bytes) (framing (kept limit so.frames) ++ [])) (effects_then es fs _ _ so.done is) (
        record {
          output = append-nil (framing (kept limit so.frames)) ∙ sym same;
          sent = refl;
          cause = (inr (why, omega arith, here), (λ e. absurd (let h : CutFrame ≡ InputTooLong = sym e ∙ why in cc)));
          fails = record { read_failed = refl; write_failed = refl; on_wire = refl };
          fits = omega arith;
          wires = refl;
        },
        refl,
      )
  refused other why h = absurd h
ends limit t u before after WireFault es fs s so n = absurd n.gives
ends limit t u before after NoMemory es fs s so n = absurd n.gives

-- the end of a run
pub ended : (limit : ℕ) (s t u : Meaning) (before after : FramesState) (ending : Ending) (es fs : List Event) → SoFar limit s t before.offset es → Turns limit before after t u (Stop ending) fs → Performs (thin_job limit) s u ending (es ++ fs)
ended limit s t u before after ending es fs so n =
    let over = ends limit t u before after ending es fs s so n in
    record {
      trace = trace_join s t u es fs so.trace n.trace;
      so_far = at_reads_then (InsideFrame (left_at before.offset)) (IsSoFar (thin_job limit)) es fs so.so_far (so_passed limit s t before.offset es so) (waiting limit s t before.offset es so) n.within;
      noted = over.1;
      ends = over.0;
    }
