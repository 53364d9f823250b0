-- One frame, read and passed on.
use Rattle.std.proofs.Common.{◌≡◌, ◌<◌, ◌≤◌, ◌+◌, ◌^◌, ℕ, Bool, true, false, ◌&&◌, nat_le, List, [], ◌∷◌, ◌++◌, length, take, refl, sym, ◌∙◌, ap, arith, length-take-le}
use Rattle.std.proofs.lemmas.List.{append-nil}
use Rattle.wire_model.specs.Framing.{frame, framing}
use Rattle.std.specs.Prelude.{if◌then◌else◌}
use Rattle.std.proofs.lemmas.Bool.Decides.{nat_tests}
use Rattle.wire_model.specs.RtpReading.{is_rtp}
use Rattle.wire_model.specs.PayloadReading.{is_payload}
use Rattle.wire_model.specs.Datagram.{rtp_payload, datagram_of}
use Rattle.wire_model.specs.Thinning.{is_within}
use Rattle.scl_outside.specs.Meaning.{Meaning}
use Rattle.scl_outside.specs.Events.{Event}
use Rattle.scl_outside.specs.Effects.{nothing, only_read, effects}
use Rattle.capture_frames.proofs.ReadEffects.{reads_passed}
use Rattle.scl_outside.specs.Traces.{AtReads}
use Rattle.scl_outside.proofs.Traces.{trace_join, effects_then, at_reads_then}
use Rattle.scl_outside.specs.declared.duct.PutOut.TheVariants.{Done as Put, WriteFault as NotPut}
use Rattle.capture_frames.specs.FramesState.{FramesState}
use Rattle.capture_frames.specs.Reading.{ReadsFrame, InsideFrame, left_at, input_limit, state_after}
use Rattle.scl_outside.specs.Writing.{Never}
use Rattle.capture_frames.specs.declared.reader.FrameOut.TheVariants.{Whole, Empty, Oversize, End, Cut, TooLong, ReadFault as NotRead}
use Rattle.scl_run.specs.declared.ending.Reason.TheVariants.{CutFrame, InputTooLong}
use Rattle.scl_run.specs.declared.ending.Ending.TheVariants.{Done, ReadFault, WriteFault, Refused}
use Rattle.scl_cli.specs.declared.thin.Turn.TheVariants.{Frame, Stop}
use Rattle.scl_run.specs.Performing.{passed}
use Rattle.scl_cli.specs.Thinning.{Passes, Turns, passed_of}

-- while a frame is written nothing is read
inside_both : (left : ℕ) (bytes : List ℕ) (es fs : List Event) → effects es ≡ only_read bytes → AtReads (InsideFrame left) nothing es → AtReads Never nothing fs → AtReads (InsideFrame left) nothing (es ++ fs)
inside_both left bytes es fs is h n = at_reads_then Never (InsideFrame left) es fs h (reads_passed (effects es) bytes is) (λ f i. absurd i) n

pub turn_done : (limit : ℕ) (before after : FramesState) (s t u : Meaning) (n : ℕ) (buf : List ℕ) (es fs : List Event) → length buf ≡ 9000 → after ≡ state_after before (Whole n) → after.offset ≤ input_limit → before.live ≡ true
    → ReadsFrame before.offset s t (Whole n) buf es → Passes limit t u Put (take n buf) fs → Turns limit before after s u Frame (es ++ fs)
turn_done limit before after s t u n buf es fs big is within live a b =
    let size : length (take n buf) ≡ n = length-take-le n buf (let m = a.gives.1 in omega arith) in
    let m : n ≤ 9000 = a.gives.1 in
    let far : after.offset ≡ before.offset + (2 + n) = ap (λ (x : FramesState). x.offset) is in
    record {
      trace = trace_join s t u es fs a.trace b.trace;
      within = inside_both (left_at before.offset) (frame (take n buf)) es fs a.gives.3 a.within b.within;
      gives = (
        take n buf,
        omega arith,
        omega arith,
        within,
        ap (λ (x : FramesState). x.live) is ∙ live,
        effects_then es fs _ _ a.gives.3 b.gives ∙ ap (λ (l : List ℕ). passed l (passed_of limit (take n buf))) (append-nil (frame (take n buf))),
      );
    }

pub turn_broken : (limit : ℕ) (before after : FramesState) (s t u : Meaning) (n : ℕ) (buf : List ℕ) (es fs : List Event) → length buf ≡ 9000
    → ReadsFrame before.offset s t (Whole n) buf es → Passes limit t u NotPut (take n buf) fs → Turns limit before after s u (Stop WriteFault) (es ++ fs)
turn_broken limit before after s t u n buf es fs big a b =
    let size : length (take n buf) ≡ n = length-take-le n buf (let m = a.gives.1 in omega arith) in
    let m : n ≤ 9000 = a.gives.1 in
    let room : 2 + n ≤ left_at before.offset = a.gives.2 in
    record {
      trace = trace_join s t u es fs a.trace b.trace;
      within = inside_both (left_at before.offset) (frame (take n buf)) es fs a.gives.3 a.within b.within;
      gives = (
        take n buf,
        b.gives.0,
        b.gives.1,
        omega arith,
        omega arith,
        b.gives.2,
        effects_then es fs _ _ a.gives.3 b.gives.3 ∙ ap (λ (l : List ℕ). record (passed l b.gives.0) { write_failed = true }) (append-nil (frame (take n buf))),
      );
    }

pub turn_empty : (limit : ℕ) (before after : FramesState) (s t : Meaning) (buf : List ℕ) (es : List Event) → after ≡ state_after before Empty → after.offset ≤ input_limit → before.live ≡ true
    → ReadsFrame before.offset s t Empty buf es → Turns limit before after s t Frame es
turn_empty limit before after s t buf es is within live a =
    let far : after.offset ≡ before.offset + 2 = ap (λ (x : FramesState). x.offset) is in
    record {
      trace = a.trace;
      within = a.within;
      gives = ([], omega arith, omega arith, within, ap (λ (x : FramesState). x.live) is ∙ live, a.gives.1);
    }

-- a datagram of more than 9,000 bytes isn't kept
not_long : (limit : ℕ) (d : List ℕ) → 9000 < length d → passed_of limit d ≡ []
not_long limit d long =
    let t : nat_le (length d) 9000 ≡ false = grind (arith, nat_tests) in
    rw t (off (nat_le 1 (length d)) (is_rtp d) (is_payload (rtp_payload d)) (is_within limit (datagram_of d).payload)) where
      off : (x z v w : Bool) → framing (if (((x && false) && z) && v) && w then d ∷ [] else []) ≡ []
      off true z v w = refl
      off false z v w = refl

pub turn_oversize : (limit : ℕ) (before after : FramesState) (s t : Meaning) (n : ℕ) (buf : List ℕ) (es : List Event) → after ≡ state_after before (Oversize n) → after.offset ≤ input_limit → before.live ≡ true
    → ReadsFrame before.offset s t (Oversize n) buf es → Turns limit before after s t Frame es
turn_oversize limit before after s t n buf es is within live a =
    let size : length a.gives.0 ≡ n = a.gives.1 in
    let long : 9000 < n = a.gives.2 in
    let fits : n < 2 ^ 16 = a.gives.3 in
    let far : after.offset ≡ before.offset + (2 + n) = ap (λ (x : FramesState). x.offset) is in
    record {
      trace = a.trace;
      within = a.within;
      gives = (
        a.gives.0,
        omega arith,
        omega arith,
        within,
        ap (λ (x : FramesState). x.live) is ∙ live,
        a.gives.5 ∙ ap (λ (l : List ℕ). passed (frame a.gives.0) l) (sym (not_long limit a.gives.0 (omega arith))),
      );
    }

pub turn_end : (limit : ℕ) (before after : FramesState) (s t : Meaning) (buf : List ℕ) (es : List Event) → ReadsFrame before.offset s t End buf es → Turns limit before after s t (Stop Done) es
turn_end limit before after s t buf es a = record { trace = a.trace; within = a.within; gives = a.gives }

pub turn_cut : (limit : ℕ) (before after : FramesState) (s t : Meaning) (at : ℕ) (buf : List ℕ) (es : List Event) → ReadsFrame before.offset s t (Cut at) buf es
    → Turns limit before after s t (Stop (Refused (record { at = at; reason = CutFrame }))) es
turn_cut limit before after s t at buf es a = record { trace = a.trace; within = a.within; gives = a.gives }

pub turn_past : (limit : ℕ) (before after : FramesState) (s t : Meaning) (buf : List ℕ) (es : List Event) → ReadsFrame before.offset s t TooLong buf es
    → Turns limit before after s t (Stop (Refused (record { at = 1099511627776; reason = InputTooLong }))) es
turn_past limit before after s t buf es a =
    record { trace = a.trace; within = a.within; gives = (a.gives.0, refl, a.gives.1, a.gives.2, a.gives.3) }

pub turn_failed : (limit : ℕ) (before after : FramesState) (s t : Meaning) (buf : List ℕ) (es : List Event) → ReadsFrame before.offset s t NotRead buf es → Turns limit before after s t (Stop ReadFault) es
turn_failed limit before after s t buf es a = record { trace = a.trace; within = a.within; gives = a.gives }
