-- One frame, read and taken.
use Rattle.std.proofs.Common.{◌≡◌, ◌<◌, ◌≤◌, ◌+◌, ◌-◌, ◌^◌, ◌==◌, ◌&&◌, ℕ, Bool, true, false, nat_le, List, [], ◌++◌, length, take, refl, sym, ◌∙◌, ap, subst, arith, length-take-le, inl, inr}
use Rattle.std.proofs.lemmas.List.{append-nil}
use Rattle.std.proofs.lemmas.Bool.Decides.{nat_tests}
use Rattle.std.specs.Prelude.{min}
use Rattle.wire_model.specs.Framing.{frame, IsFramed}
use Rattle.wire_model.specs.RtpReading.{is_rtp}
use Rattle.wire_model.specs.PayloadReading.{is_payload}
use Rattle.wire_model.specs.Datagram.{rtp_payload, datagram_of, is_well_formed}
use Rattle.wire_model.specs.Bytes.{IsBytes}
use Rattle.stream_model.specs.Decoder.{Release}
use Rattle.stream_model.specs.Decoder.{one_more}
use Rattle.stream_model.specs.Receiver as rules
use Rattle.stream_model.specs.Receiver.{take_frame}
use Rattle.stream_model.specs.ReceiverJoins.{forgetful}
use Rattle.stream_model.proofs.CountedFrames.{malformed_frames_are_counted_alone}
use Rattle.scl_outside.specs.Meaning.{Meaning}
use Rattle.scl_outside.specs.Events.{Event}
use Rattle.scl_outside.specs.Effects.{Effects, nothing, only_read, effects}
use Rattle.scl_outside.specs.Traces.{AtReads}
use Rattle.scl_outside.proofs.ReadBytes.{no_bytes}
use Rattle.scl_outside.proofs.Traces.{trace_join, effects_then, at_reads_then, has_passed}
use Rattle.scl_outside.specs.declared.duct.PutOut.TheVariants.{Done as Put, WriteFault as NotPut}
use Rattle.capture_frames.proofs.ReadEffects.{reads_passed}
use Rattle.capture_frames.specs.FramesState.{FramesState}
use Rattle.capture_frames.specs.Reading.{ReadsFrame, InsideFrame, left_at, input_limit, state_after}
use Rattle.capture_frames.specs.declared.reader.FrameOut.TheVariants.{Whole, Empty, Oversize, End, Cut, TooLong, ReadFault as NotRead}
use Rattle.scl_outside.specs.Writing.{Never}
use Rattle.scl_run.specs.Performing.{passed}
use Rattle.scl_run.specs.declared.ending.Reason.TheVariants.{CutFrame, InputTooLong}
use Rattle.scl_run.specs.declared.ending.Ending.TheVariants.{Done, ReadFault, WriteFault, Refused}
use Rattle.stream_receiver.specs.States.{ReceiverState, counted}
use Rattle.receiving_job.specs.declared.capture.Turn.TheVariants.{Frame, Stop}
use Rattle.receiving_job.specs.Giving.{IsReady, Gives, Ends}
use Rattle.receiving_job.specs.Turns.{due_by, TakesFrame, Turns}

-- while lines are written nothing is read
inside_both : (left : ℕ) (bytes : List ℕ) (es fs : List Event) → effects es ≡ only_read bytes → AtReads (InsideFrame left) nothing es → AtReads Never nothing fs → AtReads (InsideFrame left) nothing (es ++ fs)
inside_both left bytes es fs is h n = at_reads_then Never (InsideFrame left) es fs h (reads_passed (effects es) bytes is) (λ f i. absurd i) n

pub turn_done : (so_far : List Release → List ℕ) (made : rules.Receiver → Bool → List ℕ) (HasPut : List Release → Type 0) (xs : List Release) (r s : ReceiverState) (before after : FramesState) (m t u : Meaning) (n : ℕ) (buf : List ℕ) (es fs : List Event) → length buf ≡ 9000 → after ≡ state_after before (Whole n) → after.offset ≤ input_limit
    → before.live ≡ true → IsBytes (take n buf) → ReadsFrame before.offset m t (Whole n) buf es → Gives so_far HasPut xs (take_frame r.pick r.rules (take n buf)) Put s t u fs
    → Turns so_far made HasPut xs r s before after m u Frame (es ++ fs)
turn_done so_far made HasPut xs r s before after m t u n buf es fs big is within live bytes a b =
    let d = take n buf in
    let k : n ≤ 9000 = a.gives.1 in
    let size : length d ≡ n = length-take-le n buf (omega arith) in
    let far : after.offset ≡ before.offset + (2 + n) = ap (λ (x : FramesState). x.offset) is in
    record {
      trace = trace_join m t u es fs a.trace b.puts.puts.trace;
      within = inside_both (left_at before.offset) (frame d) es fs a.gives.3 a.within b.puts.puts.within;
      gives = record {
        d = d;
        framed = omega arith;
        like = d;
        is_like = record { are_bytes = bytes; same = refl };
        far = omega arith;
        within = within;
        live = ap (λ (x : FramesState). x.live) is ∙ live;
        left = b.left.0;
        ready = b.left.1;
        put = b.put;
        text = b.puts.text;
        adds = b.puts.adds;
        is = effects_then es fs _ _ a.gives.3 b.puts.puts.gives ∙ ap (λ (l : List ℕ). passed l b.puts.text) (append-nil (frame d));
      };
    }

pub turn_broken : (so_far : List Release → List ℕ) (made : rules.Receiver → Bool → List ℕ) (HasPut : List Release → Type 0) (xs : List Release) (Other : List Release → Type 0) (r s t0 : ReceiverState) (before after : FramesState) (m t u : Meaning) (n : ℕ) (buf : List ℕ) (es fs : List Event) → length buf ≡ 9000
    → ReadsFrame before.offset m t (Whole n) buf es → Gives so_far Other xs (take_frame r.pick r.rules (take n buf)) NotPut t0 t u fs → Turns so_far made HasPut xs r s before after m u (Stop WriteFault) (es ++ fs)
turn_broken so_far made HasPut xs Other r s t0 before after m t u n buf es fs big a b =
    let d = take n buf in
    let k : n ≤ 9000 = a.gives.1 in
    let size : length d ≡ n = length-take-le n buf (omega arith) in
    let room : 2 + n ≤ left_at before.offset = a.gives.2 in
    let g = b.puts.puts.gives in
    record {
      trace = trace_join m t u es fs a.trace b.puts.puts.trace;
      within = inside_both (left_at before.offset) (frame d) es fs a.gives.3 a.within b.puts.puts.within;
      gives = inl (record {
        d = d;
        framed = omega arith;
        room = omega arith;
        front = g.0;
        rest = g.1;
        adds = b.puts.adds ∙ ap (λ (l : List ℕ). so_far xs ++ l) g.2;
        is = effects_then es fs _ _ a.gives.3 g.3 ∙ ap (λ (l : List ℕ). record (passed l g.0) { write_failed = true }) (append-nil (frame d));
      });
    }

-- a frame that is no datagram
more : (n : ℕ) → n < 2 ^ 64 - 1 → one_more n ≡ n + 1
more n low = let e : min (n + 1) 18446744073709551615 ≡ n + 1 = omega arith in e

pub refused_frame : (r s : ReceiverState) (d : List ℕ) → (is_well_formed d && ((datagram_of d).rtp.kind == r.pick.kind)) ≡ false → IsReady r → counted r.rules < 2 ^ 64 - 1
    → s ≡ record r { rules = record r.rules { refused = one_more r.rules.refused } }
    → (s.rules ≡ forgetful (take_frame r.pick r.rules d)) × IsReady s × (due_by r d ≡ [])
refused_frame r s d malformed ready few is =
    let e = malformed_frames_are_counted_alone r.pick r.rules d malformed in
    let n : one_more r.rules.refused ≡ r.rules.refused + 1 = more r.rules.refused (omega (arith, few)) in
    let now : s.rules ≡ record r.rules { refused = r.rules.refused + 1 } = ap (λ (x : ReceiverState). x.rules) is ∙ ap (λ k. record r.rules { refused = k }) n in
    let P : ReceiverState → Type 0 = λ x. IsReady x in (
      now ∙ (ap (λ l. record r.rules { refused = r.rules.refused + 1; releases = l }) ready.fresh ∙ sym (ap forgetful e)),
      subst P (sym is) (record { settled = ready.settled; undue = ready.undue; fresh = ready.fresh }),
      ap (λ (x : rules.Receiver). x.releases) e ∙ ready.fresh,
    )

-- what a turn does that changes the tally alone
turn_refused : (so_far : List Release → List ℕ) (HasPut : List Release → Type 0) (xs : List Release) (r s : ReceiverState) (before after : FramesState) (d : List ℕ) (f : Effects) → IsFramed d
    → (is_well_formed d && ((datagram_of d).rtp.kind == r.pick.kind)) ≡ false → after.offset ≡ before.offset + length (frame d) → after.offset ≤ input_limit → after.live ≡ true
    → IsReady r → counted r.rules < 2 ^ 64 - 1 → s ≡ record r { rules = record r.rules { refused = one_more r.rules.refused } } → HasPut xs → f ≡ only_read (frame d)
    → TakesFrame so_far HasPut xs r s before after f
turn_refused so_far HasPut xs r s before after d f framed malformed far within live ready few new put is =
    let gone = refused_frame r s d malformed ready few new in
    let P : List Release → Type 0 = λ l. HasPut (xs ++ l) in
    record {
      d = d;
      framed = framed;
      like = [];
      is_like = record { are_bytes = no_bytes; same = malformed_frames_are_counted_alone r.pick r.rules [] refl ∙ sym (malformed_frames_are_counted_alone r.pick r.rules d malformed) };
      far = far;
      within = within;
      live = live;
      left = gone.0;
      ready = gone.1;
      put = subst P (sym gone.2) (subst HasPut (sym (append-nil xs)) put);
      text = [];
      adds = ap (λ l. so_far (xs ++ l)) gone.2 ∙ (ap so_far (append-nil xs) ∙ sym (append-nil (so_far xs)));
      is = is;
    }

pub turn_empty : (so_far : List Release → List ℕ) (made : rules.Receiver → Bool → List ℕ) (HasPut : List Release → Type 0) (xs : List Release) (r s : ReceiverState) (before after : FramesState) (m t : Meaning) (buf : List ℕ) (es : List Event) → after ≡ state_after before Empty → after.offset ≤ input_limit → before.live ≡ true
    → IsReady r → counted r.rules < 2 ^ 64 - 1 → s ≡ record r { rules = record r.rules { refused = one_more r.rules.refused } } → HasPut xs
    → ReadsFrame before.offset m t Empty buf es → Turns so_far made HasPut xs r s before after m t Frame es
turn_empty so_far made HasPut xs r s before after m t buf es is within live ready few new put a =
    let far : after.offset ≡ before.offset + 2 = ap (λ (x : FramesState). x.offset) is in
    record {
      trace = a.trace;
      within = a.within;
      gives = turn_refused so_far HasPut xs r s before after [] (effects es) (omega arith) refl (omega arith) within (ap (λ (x : FramesState). x.live) is ∙ live) ready few new put a.gives.1;
    }

-- a datagram of more than 9,000 bytes isn't well formed
pub not_long : (d : List ℕ) (k : Bool) → 9000 < length d → (is_well_formed d && k) ≡ false
not_long d k long =
    let t : nat_le (length d) 9000 ≡ false = grind (arith, nat_tests) in
    rw t (off (nat_le 1 (length d)) (is_rtp d) (is_payload (rtp_payload d)) k) where
      off : (x z v w : Bool) → ((((x && false) && z) && v) && w) ≡ false
      off true z v w = refl
      off false z v w = refl

pub turn_oversize : (so_far : List Release → List ℕ) (made : rules.Receiver → Bool → List ℕ) (HasPut : List Release → Type 0) (xs : List Release) (r s : ReceiverState) (before after : FramesState) (m t : Meaning) (n : ℕ) (buf : List ℕ) (es : List Event) → after ≡ state_after before (Oversize n) → after.offset ≤ input_limit
    → before.live ≡ true → IsReady r → counted r.rules < 2 ^ 64 - 1 → s ≡ record r { rules = record r.rules { refused = one_more r.rules.refused } } → HasPut xs
    → ReadsFrame before.offset m t (Oversize n) buf es → Turns so_far made HasPut xs r s before after m t Frame es
turn_oversize so_far made HasPut xs r s before after m t n buf es is within live ready few new put a =
    let d = a.gives.0 in
    let size : length d ≡ n = a.gives.1 in
    let long : 9000 < n = a.gives.2 in
    let fits : n < 2 ^ 16 = a.gives.3 in
    let far : after.offset ≡ before.offset + (2 + n) = ap (λ (x : FramesState). x.offset) is in
    let malformed = not_long d ((datagram_of d).rtp.kind == r.pick.kind) (omega arith) in
    record {
      trace = a.trace;
      within = a.within;
      gives = turn_refused so_far HasPut xs r s before after d (effects es) (omega arith) malformed (omega arith) within (ap (λ (x : FramesState). x.live) is ∙ live) ready few new put a.gives.5;
    }

-- the capture's end
end_both : (left : ℕ) (es fs : List Event) → effects es ≡ record nothing { ended = true } → AtReads (InsideFrame left) nothing es → AtReads Never nothing fs → AtReads (InsideFrame left) nothing (es ++ fs)
end_both left es fs is h n = at_reads_then Never (InsideFrame left) es fs h (has_passed (effects es) (record nothing { ended = true }) is (record { reads = refl; writes = refl; on_wire = refl })) (λ f i. absurd i) n

pub turn_end : (so_far : List Release → List ℕ) (made : rules.Receiver → Bool → List ℕ) (HasPut : List Release → Type 0) (xs : List Release) (r s : ReceiverState) (before after : FramesState) (m t u : Meaning) (buf : List ℕ) (es fs : List Event) → ReadsFrame before.offset m t End buf es → Ends so_far made xs r.rules t u Put fs
    → Turns so_far made HasPut xs r s before after m u (Stop Done) (es ++ fs)
turn_end so_far made HasPut xs r s before after m t u buf es fs a p = record {
  trace = trace_join m t u es fs a.trace p.puts.trace;
  within = end_both (left_at before.offset) es fs a.gives a.within p.puts.within;
  gives = record { text = p.text; adds = p.adds; is = effects_then es fs _ _ a.gives p.puts.gives };
}

pub turn_end_broken : (so_far : List Release → List ℕ) (made : rules.Receiver → Bool → List ℕ) (HasPut : List Release → Type 0) (xs : List Release) (r s : ReceiverState) (before after : FramesState) (m t u : Meaning) (buf : List ℕ) (es fs : List Event) → ReadsFrame before.offset m t End buf es → Ends so_far made xs r.rules t u NotPut fs
    → Turns so_far made HasPut xs r s before after m u (Stop WriteFault) (es ++ fs)
turn_end_broken so_far made HasPut xs r s before after m t u buf es fs a p =
    let g = p.puts.gives in
    record {
      trace = trace_join m t u es fs a.trace p.puts.trace;
      within = end_both (left_at before.offset) es fs a.gives a.within p.puts.within;
      gives = inr (record { front = g.0; rest = g.1; adds = p.adds ∙ ap (λ (l : List ℕ). so_far xs ++ l) g.2; is = effects_then es fs _ _ a.gives g.3 });
    }

-- an input that is refused, and a failed read
pub turn_cut : (so_far : List Release → List ℕ) (made : rules.Receiver → Bool → List ℕ) (HasPut : List Release → Type 0) (xs : List Release) (r s : ReceiverState) (before after : FramesState) (m t : Meaning) (at : ℕ) (buf : List ℕ) (es : List Event) → ReadsFrame before.offset m t (Cut at) buf es
    → Turns so_far made HasPut xs r s before after m t (Stop (Refused (record { at = at; reason = CutFrame }))) es
turn_cut so_far made HasPut xs r s before after m t at buf es a = record { trace = a.trace; within = a.within; gives = a.gives }

pub turn_past : (so_far : List Release → List ℕ) (made : rules.Receiver → Bool → List ℕ) (HasPut : List Release → Type 0) (xs : List Release) (r s : ReceiverState) (before after : FramesState) (m t : Meaning) (buf : List ℕ) (es : List Event) → ReadsFrame before.offset m t TooLong buf es
    → Turns so_far made HasPut xs r s before after m t (Stop (Refused (record { at = 1099511627776; reason = InputTooLong }))) es
turn_past so_far made HasPut xs r s before after m t buf es a =
    record { trace = a.trace; within = a.within; gives = (a.gives.0, refl, a.gives.1, a.gives.2, a.gives.3) }

pub turn_failed : (so_far : List Release → List ℕ) (made : rules.Receiver → Bool → List ℕ) (HasPut : List Release → Type 0) (xs : List Release) (r s : ReceiverState) (before after : FramesState) (m t : Meaning) (buf : List ℕ) (es : List Event) → ReadsFrame before.offset m t NotRead buf es
    → Turns so_far made HasPut xs r s before after m t (Stop ReadFault) es
turn_failed so_far made HasPut xs r s before after m t buf es a = record { trace = a.trace; within = a.within; gives = a.gives }
