-- A capture reported so far, frame by frame, and how that ends.
use Rattle.std.proofs.Common.{◌≡◌, ◌<◌, ◌≤◌, ◌+◌, ◌-◌, ◌*◌, ◌^◌, ℕ, Bool, true, false, List, [], ◌∷◌, ◌++◌, length, take, refl, sym, subst, ◌∙◌, ap, arith, append_assoc, inl, inr}
use Rattle.std.specs.List.{AllByRecursion}
use Rattle.std.proofs.lemmas.List.{append-nil, length-append, take_all}
use Rattle.std.proofs.Math.Seq.{take-append-add}
use Rattle.wire_model.specs.Framing.{frame, framing, whole_frames, IsFramed, IsPartial}
use Rattle.wire_model.proofs.FramingLaws.{framing-append, framed-append, whole_frames_of_framing}
use Rattle.stream_model.specs.Decoder.{Release}
use Rattle.stream_model.specs.Receiver as rules
use Rattle.stream_model.specs.Receiver.{received, take_frame, take_frames}
use Rattle.stream_model.specs.ReceiverJoins.{having_given, forgetful}
use Rattle.stream_model.specs.Commands.{counted as counted_bytes}
use Rattle.stream_model.proofs.ReceiverJoins.{precincts_join}
use Rattle.stream_model.proofs.ReportWritten.{received_grows}
use Rattle.scl_outside.specs.Meaning.{Meaning}
use Rattle.scl_outside.specs.Events.{Event}
use Rattle.scl_outside.specs.Effects.{Effects, HasPassed, nothing, and_then, effects}
use Rattle.scl_outside.specs.Traces.{Trace, AtReads}
use Rattle.scl_outside.proofs.Traces.{trace_join, effects_then, at_reads_then, has_passed}
use Rattle.capture_frames.specs.FramesState.{FramesState}
use Rattle.capture_frames.specs.Reading.{InsideFrame, input_limit, left_at, start}
use Rattle.scl_run.specs.declared.ending.Reason.TheVariants.{CutFrame, InputTooLong}
use Rattle.scl_run.specs.declared.ending.Reason.{Reason}
use Rattle.scl_run.specs.declared.ending.Ending.{Ending}
use Rattle.scl_run.specs.declared.ending.Ending.TheVariants.{Done, ReadFault, WriteFault, WireFault, Refused, NoMemory}
use Rattle.scl_run.specs.Performing.{Performs, IsSoFar, passed}
use Rattle.scl_run.proofs.Performed.{EndsWith, ends_with}
use Rattle.stream_receiver.specs.States.{ReceiverState, new_state, counted}
use Rattle.receiving_job.specs.declared.capture.Turn.TheVariants.{Frame, Stop}
use Rattle.receiving_job.specs.Job.{receiving_job}
use Rattle.receiving_job.specs.Giving.{IsReady, Stands}
use Rattle.receiving_job.specs.Turns.{due_by, Turns, RefusedGives}
use Rattle.receiving_job.proofs.Takes.{given_more}

-- the packets that were released of frames
abbrev pub released_of : rules.Pick → List (List ℕ) → List Release
released_of pick frames = (received pick frames).releases

-- so far whole frames were read, and what was due was put out
pub record SoFar (so_far : List Release → List ℕ) (made : rules.Receiver → Bool → List ℕ) (HasPut : List Release → Type 0) (pick : rules.Pick) (r : ReceiverState) (s t : Meaning) (offset : ℕ) (es : List Event) : Type 0 where
  pub trace : Trace s es t
  pub reads : AtReads (IsSoFar (receiving_job made pick)) nothing es
  pub frames : List (List ℕ)
  pub each : AllByRecursion IsFramed frames
  pub done : effects es ≡ passed (framing frames) (so_far (released_of pick frames))
  pub place : offset ≡ length (framing frames)
  pub within : offset ≤ input_limit
  pub few : 2 * length frames ≤ offset
  pub rules : r.rules ≡ forgetful (received pick frames)
  pub ready : IsReady r
  pub picks : r.pick ≡ pick
  pub count : counted r.rules ≡ length frames
  pub stands : Stands HasPut r (released_of pick frames)

-- the start
none_yet : (so_far : List Release → List ℕ) (made : rules.Receiver → Bool → List ℕ) (HasPut : List Release → Type 0) (pick : rules.Pick) (r : ReceiverState) (s : Meaning) → so_far [] ≡ [] → HasPut [] → r ≡ new_state pick → SoFar so_far made HasPut pick r s s 0 []
unfolding take_frames
none_yet so_far made HasPut pick r s starts put is =
    let P : ReceiverState → Type 0 = λ r. SoFar so_far made HasPut pick r s s 0 [] in
    subst P (sym is) (record {
      trace = refl;
      reads = tt;
      frames = [];
      each = tt;
      done = ap (λ l. passed [] l) (sym starts);
      place = refl;
      within = omega arith;
      few = omega arith;
      rules = refl;
      ready = record { settled = refl; undue = refl; fresh = refl };
      picks = refl;
      count = refl;
      stands = record { has_put = put; has_given = record { frames = []; are_bytes = tt; count = refl; is = refl } };
    })

-- the reader at the start too
pub begun : (so_far : List Release → List ℕ) (made : rules.Receiver → Bool → List ℕ) (HasPut : List Release → Type 0) (pick : rules.Pick) (r : ReceiverState) (f : FramesState) (s : Meaning) → so_far [] ≡ [] → HasPut [] → r ≡ new_state pick → f ≡ start
    → (f.live ≡ true) × ((es : List Event) × SoFar so_far made HasPut pick r s s f.offset es)
begun so_far made HasPut pick r f s starts put is at =
    let P : FramesState → Type 0 = λ f. (f.live ≡ true) × ((es : List Event) × SoFar so_far made HasPut pick r s s f.offset es) in
    subst P (sym at) (refl, ([], none_yet so_far made HasPut pick r s starts put is))

-- a receiver has counted few frames
pub counts_few : (so_far : List Release → List ℕ) (made : rules.Receiver → Bool → List ℕ) (HasPut : List Release → Type 0) (pick : rules.Pick) (r : ReceiverState) (s t : Meaning) (offset : ℕ) (es : List Event) → SoFar so_far made HasPut pick r s t offset es → counted r.rules < 2 ^ 63
counts_few so_far made HasPut pick r s t offset es so = let few = so.few in let within = so.within in let count = so.count in omega arith

-- what is made of whole frames and less than one, within the limit
made_of : (made : rules.Receiver → Bool → List ℕ) (pick : rules.Pick) (frames : List (List ℕ)) (rest : List ℕ) (ended : Bool) → IsPartial rest → length (framing frames ++ rest) ≤ input_limit
    → made (received pick (whole_frames (counted_bytes (framing frames ++ rest)))) ended ≡ made (received pick frames) ended
made_of made pick frames rest ended partial short =
    let all : take input_limit (framing frames ++ rest) ≡ framing frames ++ rest = take_all input_limit (framing frames ++ rest) short in
    rw (all, whole_frames_of_framing frames rest partial) refl

framing-more : (frames : List (List ℕ)) (d : List ℕ) → framing (frames ++ d ∷ []) ≡ framing frames ++ frame d
framing-more frames d = framing-append frames (d ∷ []) ∙ ap (λ (l : List ℕ). framing frames ++ l) (append-nil (frame d))

-- a front that goes past some bytes
take_past : (n offset : ℕ) (xs ys : List ℕ) → offset ≡ length xs → offset ≤ n → take n (xs ++ ys) ≡ xs ++ take (n - offset) ys
take_past n offset xs ys at h =
    let e : take (length xs + (n - offset)) (xs ++ ys) ≡ xs ++ take (n - offset) ys = take-append-add xs ys (n - offset) in
    let m : length xs + (n - offset) ≡ n = omega arith in
    rw m at e

-- the receiver after one more frame, and what it released
received-more : (pick : rules.Pick) (r : ReceiverState) (frames : List (List ℕ)) (d : List ℕ) → r.rules ≡ forgetful (received pick frames) → r.pick ≡ pick
    → received pick (frames ++ d ∷ []) ≡ having_given (released_of pick frames) (take_frame r.pick r.rules d)
received-more pick r frames d same picks =
    (received_grows pick frames d).0
    ∙ ((precincts_join pick (received pick frames)).0 d
    ∙ (ap (λ x. having_given (released_of pick frames) (take_frame pick x d)) (sym same)
    ∙ ap (λ p. having_given (released_of pick frames) (take_frame p r.rules d)) (sym picks)))

released-more : (pick : rules.Pick) (r : ReceiverState) (frames : List (List ℕ)) (d : List ℕ) → r.rules ≡ forgetful (received pick frames) → r.pick ≡ pick
    → released_of pick frames ++ due_by r d ≡ released_of pick (frames ++ d ∷ [])
released-more pick r frames d same picks = ap (λ (x : rules.Receiver). x.releases) (sym (received-more pick r frames d same picks))

-- the receiver as it is, with all that it has given
given_is_received : (pick : rules.Pick) (r : ReceiverState) (frames : List (List ℕ)) → r.rules ≡ forgetful (received pick frames) → having_given (released_of pick frames) r.rules ≡ received pick frames
given_is_received pick r frames same =
    let x = received pick frames in
    ap (having_given x.releases) same ∙ ap (λ l. record x { releases = l }) (append-nil x.releases)

-- before each read of the next frame
waiting : (so_far : List Release → List ℕ) (made : rules.Receiver → Bool → List ℕ) (HasPut : List Release → Type 0) (pick : rules.Pick) (r : ReceiverState) (s t : Meaning) (offset : ℕ) (es : List Event) → ((r : rules.Receiver) → made r false ≡ so_far r.releases) → SoFar so_far made HasPut pick r s t offset es
    → (f : Effects) → InsideFrame (left_at offset) f → IsSoFar (receiving_job made pick) (and_then (effects es) f)
waiting so_far made HasPut pick r s t offset es before so f w =
    let room : length f.read ≤ left_at offset = w.2 in
    let at = so.place in
    let within = so.within in
    let short : length (framing so.frames ++ f.read) ≤ input_limit = omega (arith, length-append (framing so.frames) f.read) in
    let out : List ℕ = so_far (released_of pick so.frames) in
    let all : and_then (effects es) f ≡ passed (framing so.frames ++ f.read) (out ++ []) =
    ap (λ (x : Effects). and_then x f) so.done ∙ ap (λ (x : Effects). and_then (passed (framing so.frames) out) x) w.0 in
    let P : Effects → Type 0 = λ x. IsSoFar (receiving_job made pick) x in
    subst P (sym all) (record {
      made = append-nil out ∙ (sym (before (received pick so.frames)) ∙ sym (made_of made pick so.frames f.read false w.1 short));
      sent = refl;
      goes_on = refl;
      asks = short;
    })

-- no call failed so far
so_passed : (so_far : List Release → List ℕ) (made : rules.Receiver → Bool → List ℕ) (HasPut : List Release → Type 0) (pick : rules.Pick) (r : ReceiverState) (s t : Meaning) (offset : ℕ) (es : List Event) → SoFar so_far made HasPut pick r s t offset es → HasPassed (effects es)
so_passed so_far made HasPut pick r s t offset es so =
    has_passed (effects es) (passed (framing so.frames) (so_far (released_of pick so.frames))) so.done (record { reads = refl; writes = refl; on_wire = refl })

-- after one more frame
pub one_more : (so_far : List Release → List ℕ) (made : rules.Receiver → Bool → List ℕ) (HasPut Now : List Release → Type 0) (pick : rules.Pick) (r q : ReceiverState) (s t u : Meaning) (before after : FramesState) (es fs : List Event) → ((r : rules.Receiver) → made r false ≡ so_far r.releases)
    → (so : SoFar so_far made HasPut pick r s t before.offset es) → q.pick ≡ r.pick → Turns so_far made Now (released_of pick so.frames) r q before after t u Frame fs
    → SoFar so_far made Now pick q s u after.offset (es ++ fs)
one_more so_far made HasPut Now pick r q s t u before after es fs law so same n =
    let k = n.gives in
    let d = k.d in
    let at = so.place in
    let far = k.far in
    let few = so.few in
    let length-more : length (so.frames ++ d ∷ []) ≡ length so.frames + 1 = length-append so.frames (d ∷ []) in
    let long : 2 ≤ length (frame d) = omega arith in
    let grown = received-more pick r so.frames d so.rules so.picks in
    let more = released-more pick r so.frames d so.rules so.picks in
    let left : q.rules ≡ forgetful (received pick (so.frames ++ d ∷ [])) = k.left ∙ sym (ap forgetful grown) in
    let now = given_more r q (released_of pick so.frames) d k.like so.stands.has_given k.is_like.are_bytes k.is_like.same same k.left in
    let P : List Release → Type 0 = λ l. Stands Now q l in
    record {
      trace = trace_join s t u es fs so.trace n.trace;
      reads = at_reads_then (InsideFrame (left_at before.offset)) (IsSoFar (receiving_job made pick)) es fs so.reads (so_passed so_far made HasPut pick r s t before.offset es so) (waiting so_far made HasPut pick r s t before.offset es law so) n.within;
      frames = so.frames ++ d ∷ [];
      each = framed-append so.frames (d ∷ []) so.each (k.framed, tt);
      done = effects_then es fs _ _ so.done k.is ∙ (ap (λ (l : List ℕ). passed (framing so.frames ++ frame d) l) (sym k.adds ∙ ap so_far more) ∙ ap (λ (l : List ℕ). passed l (so_far (released_of pick (so.frames ++ d ∷ [])))) (sym (framing-more so.frames d)));
      place = far ∙ (let e : length (framing (so.frames ++ d ∷ [])) ≡ length (framing so.frames) + length (frame d) = ap length (framing-more so.frames d) ∙ length-append (framing so.frames) (frame d) in omega arith);
      within = k.within;
      few = omega (arith, length-more, far, few, long);
      rules = left;
      ready = k.ready;
      picks = same ∙ so.picks;
      count = (let c = (received_grows pick so.frames d).1 in let e : counted q.rules ≡ counted (received pick (so.frames ++ d ∷ [])) = ap counted left in omega (arith, c, e, length-more));
      stands = subst P more (record { has_put = k.put; has_given = now });
    }

-- the reader has moved on
pub moved : (so_far : List Release → List ℕ) (made : rules.Receiver → Bool → List ℕ) (HasPut : List Release → Type 0) (xs : List Release) (r q : ReceiverState) (t u : Meaning) (before after : FramesState) (fs : List Event) → Turns so_far made HasPut xs r q before after t u Frame fs
    → (input_limit - after.offset < input_limit - before.offset) × (after.live ≡ true)
moved so_far made HasPut xs r q t u before after fs n = (let far = n.gives.far in let within = n.gives.within in let some : 2 ≤ length (frame n.gives.d) = long_frame n.gives.d in omega arith, n.gives.live) where
  long_frame : (d : List ℕ) → 2 ≤ length (frame d)
  long_frame d = omega arith

-- how a run ends, by its last turn
ends : (so_far : List Release → List ℕ) (made : rules.Receiver → Bool → List ℕ) (HasPut Now : List Release → Type 0) (pick : rules.Pick) (r q : ReceiverState) (t u : Meaning) (before after : FramesState) (ending : Ending) (es fs : List Event) (s : Meaning) → ((r : rules.Receiver) → made r false ≡ so_far r.releases)
    → (so : SoFar so_far made HasPut pick r s t before.offset es) → Turns so_far made Now (released_of pick so.frames) r q before after t u (Stop ending) fs → EndsWith (receiving_job made pick) ending (effects (es ++ fs))
ends so_far made HasPut Now pick r q t u before after Done es fs s law so n =
    let out : List ℕ = so_far (released_of pick so.frames) in
    let k = n.gives in
    let at = so.place in
    let within = so.within in
    let short : length (framing so.frames ++ []) ≤ input_limit = omega (arith, length-append (framing so.frames) []) in
    ends_with (receiving_job made pick) Done (effects (es ++ fs)) (record (passed (framing so.frames ++ []) (out ++ k.text)) { ended = true }) (effects_then es fs _ _ so.done k.is) (
      record {
        output = sym (made_of made pick so.frames [] true tt short ∙ (ap (λ x. made x true) (sym (given_is_received pick r so.frames so.rules)) ∙ k.adds));
        sent = refl;
        cause = (((short, (so.frames, record { whole = refl; each = so.each; partial = tt })), (λ u. refl)), tt);
        fails = record { read_failed = refl; write_failed = refl; on_wire = refl };
        fits = omega arith;
        wires = refl;
      },
      refl,
    )
ends so_far made HasPut Now pick r q t u before after ReadFault es fs s law so n =
    let out : List ℕ = so_far (released_of pick so.frames) in
    let bytes = n.gives.0 in
    let room : length bytes ≤ left_at before.offset = n.gives.2 in
    let at = so.place in
    let within = so.within in
    let short : length (framing so.frames ++ bytes) ≤ input_limit = omega (arith, length-append (framing so.frames) bytes) in
    ends_with (receiving_job made pick) ReadFault (effects (es ++ fs)) (record (passed (framing so.frames ++ bytes) (out ++ [])) { read_failed = true }) (effects_then es fs _ _ so.done n.gives.3) (
      record {
        output = append-nil out ∙ (sym (law (received pick so.frames)) ∙ sym (made_of made pick so.frames bytes false n.gives.1 short));
        sent = refl;
        cause = tt;
        fails = record { read_failed = refl; write_failed = refl; on_wire = refl };
        fits = omega arith;
        wires = refl;
      },
      refl,
    )
ends so_far made HasPut Now pick r q t u before after WriteFault es fs s law so n = elim n.gives [
  | inl k ↦ (
      let d = k.d in
      let out : List ℕ = so_far (released_of pick so.frames) in
      let room = k.room in
      let at = so.place in
      let within = so.within in
      let more : framing (so.frames ++ d ∷ []) ≡ framing so.frames ++ frame d = framing-more so.frames d in
      let fits : length (framing so.frames ++ frame d) ≤ input_limit = omega (arith, length-append (framing so.frames) (frame d)) in
      let short : length (framing (so.frames ++ d ∷ []) ++ []) ≤ input_limit = omega (arith, length-append (framing (so.frames ++ d ∷ [])) [], ap length more) in
      let whole : made (received pick (whole_frames (counted_bytes (framing so.frames ++ frame d)))) false ≡ so_far (released_of pick (so.frames ++ d ∷ [])) =
      ap (λ (l : List ℕ). made (received pick (whole_frames (counted_bytes l))) false) (sym more ∙ sym (append-nil (framing (so.frames ++ d ∷ [])))) ∙ (made_of made pick (so.frames ++ d ∷ []) [] false tt short ∙ law (received pick (so.frames ++ d ∷ []))) in
      let text : so_far (released_of pick (so.frames ++ d ∷ [])) ≡ (out ++ k.front) ++ k.rest =
      ap so_far (sym (released-more pick r so.frames d so.rules so.picks)) ∙ (k.adds ∙ sym (append_assoc out k.front k.rest)) in
      ends_with (receiving_job made pick) WriteFault (effects (es ++ fs)) (record (passed (framing so.frames ++ frame d) (out ++ k.front)) { write_failed = true }) (effects_then es fs _ _ so.done k.is) (
        record {
          output = inl (k.rest, whole ∙ text);
          sent = refl;
          cause = tt;
          fails = record { read_failed = refl; write_failed = refl; on_wire = refl };
          fits = omega arith;
          wires = refl;
        },
        refl,
      ))
  | inr k ↦ (
      let out : List ℕ = so_far (released_of pick so.frames) in
      let at = so.place in
      let within = so.within in
      let short : length (framing so.frames ++ []) ≤ input_limit = omega (arith, length-append (framing so.frames) []) in
      let whole : made (received pick (whole_frames (counted_bytes (framing so.frames ++ [])))) true ≡ (out ++ k.front) ++ k.rest =
      made_of made pick so.frames [] true tt short ∙ (ap (λ x. made x true) (sym (given_is_received pick r so.frames so.rules)) ∙ (k.adds ∙ sym (append_assoc out k.front k.rest))) in
      ends_with (receiving_job made pick) WriteFault (effects (es ++ fs)) (record (passed (framing so.frames ++ []) (out ++ k.front)) { ended = true; write_failed = true }) (effects_then es fs _ _ so.done k.is) (
        record {
          output = inr ((((short, (so.frames, record { whole = refl; each = so.each; partial = tt })), (λ u. refl)), tt), (k.rest, whole));
          sent = refl;
          cause = tt;
          fails = record { read_failed = refl; write_failed = refl; on_wire = refl };
          fits = omega arith;
          wires = refl;
        },
        refl,
      ))
]
ends so_far made HasPut Now pick r q t u before after (Refused x) es fs s law so n = refused x.reason refl n.gives where
  refused : (reason : Reason) → x.reason ≡ reason → RefusedGives reason x.at before.offset (effects fs) → EndsWith (receiving_job made pick) (Refused x) (effects (es ++ fs))
  refused CutFrame why (bytes, here, some, partial, room, is) =
      let at = so.place in
      let within = so.within in
      let out : List ℕ = so_far (released_of pick so.frames) in
      let short : length (framing so.frames ++ bytes) ≤ input_limit = omega (arith, length-append (framing so.frames) bytes) in
      ends_with (receiving_job made pick) (Refused x) (effects (es ++ fs)) (record (passed (framing so.frames ++ bytes) (out ++ [])) { ended = true }) (effects_then es fs _ _ so.done is) (
        record {
          output = append-nil out ∙ (sym (law (received pick so.frames)) ∙ sym (made_of made pick so.frames bytes false partial short));
          sent = refl;
          cause = (inl (why, record { short = short; frames = so.frames; rest = bytes; splits = record { whole = refl; each = so.each; partial = partial }; some = some; place = here ∙ at }), (λ e. refl));
          fails = record { read_failed = refl; write_failed = refl; on_wire = refl };
          fits = omega arith;
          wires = refl;
        },
        refl,
      )
  refused InputTooLong why (bytes, here, size, partial, is) =
      let at = so.place in
      let within = so.within in
      let out : List ℕ = so_far (released_of pick so.frames) in
      let cut : take input_limit (framing so.frames ++ bytes) ≡ framing so.frames ++ take (left_at before.offset) bytes = take_past input_limit before.offset (framing so.frames) bytes at within in
      let size_in_all = length-append (framing so.frames) bytes in
      let same : made (received pick (whole_frames (counted_bytes (framing so.frames ++ bytes)))) false ≡ made (received pick so.frames) false = rw (cut, whole_frames_of_framing so.frames (take (left_at before.offset) bytes) partial) refl in
      ends_with (receiving_job made pick) (Refused x) (effects (es ++ fs)) (passed (framing so.frames ++ bytes) (out ++ [])) (effects_then es fs _ _ so.done is) (
        record {
          output = append-nil out ∙ (sym (law (received pick so.frames)) ∙ sym same);
          sent = refl;
          cause = (inr (why, omega arith, here), (λ e. absurd (let h : CutFrame ≡ InputTooLong = sym e ∙ why in cc)));
          fails = record { read_failed = refl; write_failed = refl; on_wire = refl };
          fits = omega arith;
          wires = refl;
        },
        refl,
      )
  refused other why h = absurd h
ends so_far made HasPut Now pick r q t u before after WireFault es fs s law so n = absurd n.gives
ends so_far made HasPut Now pick r q t u before after NoMemory es fs s law so n = absurd n.gives

-- the end of a run
pub ended : (so_far : List Release → List ℕ) (made : rules.Receiver → Bool → List ℕ) (HasPut Now : List Release → Type 0) (pick : rules.Pick) (r q : ReceiverState) (s t u : Meaning) (before after : FramesState) (ending : Ending) (es fs : List Event) → ((r : rules.Receiver) → made r false ≡ so_far r.releases)
    → (so : SoFar so_far made HasPut pick r s t before.offset es) → Turns so_far made Now (released_of pick so.frames) r q before after t u (Stop ending) fs → Performs (receiving_job made pick) s u ending (es ++ fs)
ended so_far made HasPut Now pick r q s t u before after ending es fs law so n =
    let over = ends so_far made HasPut Now pick r q t u before after ending es fs s law so n in
    record {
      trace = trace_join s t u es fs so.trace n.trace;
      so_far = at_reads_then (InsideFrame (left_at before.offset)) (IsSoFar (receiving_job made pick)) es fs so.reads (so_passed so_far made HasPut pick r s t before.offset es so) (waiting so_far made HasPut pick r s t before.offset es law so) n.within;
      noted = over.1;
      ends = over.0;
    }
