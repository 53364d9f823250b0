-- How a run of a sender ends.
use Rattle.std.proofs.Common.{◌≡◌, ◌≤◌, ◌+◌, ◌++◌, ℕ, true, false, List, [], ◌∷◌, length, map, take, refl, sym, ◌∙◌, ap, subst, inl, inr, arith}
use Rattle.std.specs.List.{AllByRecursion, flat_map}
use Rattle.std.proofs.lemmas.List.{append-nil}
use Rattle.codestream_model.specs.Bytes.{IsBytes}
use Rattle.codestream_walk.proofs.Bytes.{bytes_join}
use Rattle.codestream_walk.specs.InHand.{input_limit}
use Rattle.codestream_walk.specs.Faults.{walk_refusal}
use Rattle.codestream_walk.specs.declared.fault.WalkFault.{WalkFault}
use Rattle.relay_model.specs.Queue.{Tale, untold, send_tale}
use Rattle.stream_model.specs.Commands.{counted}
use Rattle.stream_model.specs.Cut.{Plan, Known, datagrams_by, datagram_bytes, sendable}
use Rattle.sender_model.specs.Closing.{closed}
use Rattle.sender_model.specs.Outputs.{send_line}
use Rattle.sender_model.specs.Refusals.{SenderAccepts, InputRefused, HeaderTooLong, TooManyDatagrams}
use Rattle.sender_model.specs.Sending.{HasTaken}
use Rattle.sender_model.specs.SendingLaws.{SendingIsTold}
use Rattle.sender_model.proofs.ClosedComputed.{none_known}
use Rattle.scl_outside.specs.Meaning.{Meaning, Reply}
use Rattle.scl_outside.specs.Events.{Event, WireEvent, Bound, Joined, Wrote, WriteFailed}
use Rattle.scl_outside.specs.Steps.{Step}
use Rattle.scl_outside.specs.Effects.{Effects, HasPassed, nothing, only_read, read_to_end, and_then, effects, answers, parcels, wire_failed}
use Rattle.scl_outside.specs.Traces.{Trace, AtReads}
use Rattle.scl_outside.specs.Writing.{Never}
use Rattle.scl_outside.proofs.Traces.{trace_join, trace_one, effects_then, effects_more, at_reads_then, has_passed}
use Rattle.scl_outside.proofs.ReadBytes.{all_bytes}
use Rattle.scl_outside.specs.declared.outside.BindOut.TheVariants as bind
use Rattle.polled_datagrams.specs.Offers.{on_wire, parcels_of}
use Rattle.packetiser.specs.Packing.{Packing}
use Rattle.packetiser.specs.declared.packetiser.PackOut.{PackOut}
use Rattle.packetiser.specs.declared.packetiser.PackOut.TheVariants as out
use Rattle.packetiser.specs.Sending.{Sender, AreAll, Sends}
use Rattle.parse_job.specs.Inputs.{reason_for}
use Rattle.pack_job.specs.SentInput.{RefusesToSend}
use Rattle.pack_job.proofs.Octets.{octets_are}
use Rattle.pack_job.proofs.Turns.{refuses_by, why_cut}
use Rattle.scl_run.specs.declared.ending.Reason.TheVariants as reason
use Rattle.scl_run.specs.declared.ending.Refusal.{Refusal}
use Rattle.scl_run.specs.declared.ending.Ending.{Ending}
use Rattle.scl_run.specs.declared.ending.Ending.TheVariants.{Done, ReadFault, WriteFault, WireFault, Refused, NoMemory}
use Rattle.scl_run.specs.Job.{seen}
use Rattle.scl_run.specs.Performing.{Performs, EndsAs, IsFinished, IsSoFar}
use Rattle.scl_run.proofs.Performed.{performs}
use Rattle.send_job.specs.declared.counts.Counts.{Counts}
use Rattle.send_job.specs.Settings.{Settings}
use Rattle.send_job.specs.Naming.{Names, named_by}
use Rattle.send_job.specs.Offering.{AreCounts, total, count_line}
use Rattle.send_job.specs.Job.{tale_of, SendsTold, KeepsToWords, send_job}
use Rattle.send_job.specs.Sending.{Sent, Finishes}
use Rattle.send_job.proofs.Offered.{one_peer}
use Rattle.send_job.proofs.Working.{did, sends_told, stepped, answered}

-- no datagram is fixed by no byte
pub none_closed : (p : Plan) → closed p (counted []) ≡ []
none_closed p = ap (λ (l : List Known). map datagram_bytes (take 8388607 (datagrams_by p (sendable p l)))) (none_known 65536)

-- nothing is sent before anything is offered
pub nothing_sent : (s : Settings) (wire : List WireEvent) → SendingIsTold → answers wire ≡ [] → parcels wire ≡ [] → SendsTold s (seen [] wire) (parcels wire)
nothing_sent s wire told quiet none =
    let P : List Reply → Type 0 = λ l. SendsTold s (record { read = []; received = (seen [] wire).received; answers = l }) (parcels wire) in
    let e : tale_of s (record { read = []; received = (seen [] wire).received; answers = [] }) ≡ untold =
    ap (λ (l : List (List ℕ)). send_tale s.idle 0 untold l []) (none_closed s.plan) ∙ told.whole s.idle [] [] untold (told.none s.idle) in
    let A : List (List ℕ) → Type 0 = λ l. HasTaken s.idle l [] untold in
    let B : Tale → Type 0 = λ t. HasTaken s.idle (closed s.plan (counted [])) [] t in
    subst P (sym quiet) (record {
      taken = subst B (sym e) (subst A (sym (none_closed s.plan)) (told.none s.idle));
      sent = none ∙ sym (ap (λ (t : Tale). parcels_of 0 t.sent) e);
    })

-- an address couldn't be named
pub named_not : (s : Settings) (m n : Meaning) → SendingIsTold → Names s bind.Failed m n → (es : List Event) × Performs (send_job s) m n WireFault es
named_not s m n told (inl trace) =
    let wire : List WireEvent = Bound s.local false ∷ [] in (
      on_wire wire,
      performs (send_job s) m n WireFault (on_wire wire) (did [] wire) trace (tt, record { reads = refl; writes = refl; on_wire = refl }, tt) refl refl (record {
        output = refl;
        sent = nothing_sent s wire told refl refl;
        cause = tt;
        fails = record { read_failed = refl; write_failed = refl; on_wire = refl };
        fits = omega arith;
        wires = record { names = (s.peer ∷ [], refl); asks_nothing = refl; one_peer = tt };
      }),
    )
named_not s m n told (inr trace) =
    let wire : List WireEvent = Bound s.local true ∷ Joined s.peer false ∷ [] in (
      on_wire wire,
      performs (send_job s) m n WireFault (on_wire wire) (did [] wire) trace (tt, record { reads = refl; writes = refl; on_wire = refl }, (tt, record { reads = refl; writes = refl; on_wire = refl }, tt)) refl refl (record {
        output = refl;
        sent = nothing_sent s wire told refl refl;
        cause = tt;
        fails = record { read_failed = refl; write_failed = refl; on_wire = refl };
        fits = omega arith;
        wires = record { names = ([], refl); asks_nothing = refl; one_peer = tt };
      }),
    )

-- no memory, before anything is done
pub no_memory : (s : Settings) (m : Meaning) → Performs (send_job s) m m NoMemory []
no_memory s m = performs (send_job s) m m NoMemory [] nothing refl tt refl refl (record {
  output = refl;
  sent = tt;
  cause = (refl, refl, refl);
  fails = record { read_failed = refl; write_failed = refl; on_wire = refl };
  fits = omega arith;
  wires = record { names = (s.local ∷ s.peer ∷ [], refl); asks_nothing = refl; one_peer = tt };
})

-- what was read by an end are bytes
read_bytes : (s : Settings) (m n u : Meaning) (v w : Packing) (c : Counts) (a : PackOut) (es fs : List Event) → (so : Sent s m n v c es) → Sends v n u a w fs → IsBytes (so.read ++ (effects fs).read)
read_bytes s m n u v w c a es fs so k = bytes_join so.read (effects fs).read so.sender.has_read.are_bytes (all_bytes n u fs k.trace)

-- the limit of what was read
fits_read : (s : Settings) (m n u : Meaning) (v w : Packing) (c : Counts) (a : PackOut) (es fs : List Event) → (so : Sent s m n v c es) → Sends v n u a w fs → length (so.read ++ (effects fs).read) ≤ input_limit + 1
fits_read s m n u v w c a es fs so k = let S : Plan → Type 0 = λ q. Sender q so.read so.datagrams v in k.within so.read so.datagrams (subst S (sym so.plan) so.sender)

-- the words are kept to
keeps_words : (s : Settings) (m n : Meaning) (v : Packing) (c : Counts) (es : List Event) → (so : Sent s m n v c es) → KeepsToWords s so.wire
keeps_words s m n v c es so =
    let O : List Reply → Type 0 = λ l. AllByRecursion (λ (r : Reply). r.peer ≡ 0) l in
    record {
      names = ([], sym (append-nil (flat_map named_by so.wire) ∙ so.wired.names));
      asks_nothing = so.wired.received;
      one_peer = subst O (sym so.wired.replies) (one_peer so.given);
    }

-- how a job ends by a step of the sender
ended : (s : Settings) (m n u : Meaning) (v w : Packing) (c : Counts) (a : PackOut) (es fs : List Event) (ending : Ending) (g : Effects) → SendingIsTold → (so : Sent s m n v c es) → Sends v n u a w fs → and_then (did so.read so.wire) (effects fs) ≡ g → g.noted ≡ [] → EndsAs (send_job s) ending g
    → Performs (send_job s) m u ending (es ++ fs)
ended s m n u v w c a es fs ending g told so k all quiet ends =
    let q = stepped s m n u v w c a es fs told so k in
    performs (send_job s) m u ending (es ++ fs) g q.trace q.so_far (effects_then es fs _ _ so.done refl ∙ all) quiet ends

-- a read failed
pub read_failed : (s : Settings) (m n u : Meaning) (v w : Packing) (c : Counts) (es fs : List Event) → SendingIsTold → Sent s m n v c es → Sends v n u out.ReadFault w fs → Performs (send_job s) m u ReadFault (es ++ fs)
read_failed s m n u v w c es fs told so k =
    let read = so.read ++ (effects fs).read in
    let all = answered s m n u v w c out.ReadFault es fs so k in
    ended s m n u v w c out.ReadFault es fs ReadFault (record (did read so.wire) { read_failed = true }) told so k
    (ap (λ (x : Effects). and_then (did so.read so.wire) x) k.only ∙ ap (λ (l : List WireEvent). record (did read l) { read_failed = true }) (append-nil so.wire)) refl (record {
      output = refl;
      sent = (sends_told s read so.wire so.datagrams so.given so.tale told all so.wired so.taken).1;
      cause = tt;
      fails = record { read_failed = refl; write_failed = refl; on_wire = so.wired.passed };
      fits = fits_read s m n u v w c out.ReadFault es fs so k;
      wires = keeps_words s m n v c es so;
    })

-- refused without the input's end
refused_open : (s : Settings) (m n u : Meaning) (v w : Packing) (c : Counts) (a : PackOut) (es fs : List Event) (r : Refusal) → SendingIsTold → (so : Sent s m n v c es) → Sends v n u a w fs → effects fs ≡ only_read (effects fs).read → (r.reason ≡ reason.Cut → ⊥)
    → RefusesToSend s.plan (so.read ++ (effects fs).read) r → AreAll s.plan (so.read ++ (effects fs).read) so.datagrams → Performs (send_job s) m u (Refused r) (es ++ fs)
refused_open s m n u v w c a es fs r told so k reads not_cut refuses all =
    let read = so.read ++ (effects fs).read in
    ended s m n u v w c a es fs (Refused r) (did read so.wire) told so k
    (ap (λ (x : Effects). and_then (did so.read so.wire) x) reads ∙ ap (λ (l : List WireEvent). did read l) (append-nil so.wire)) refl (record {
      output = refl;
      sent = (sends_told s read so.wire so.datagrams so.given so.tale told all so.wired so.taken).1;
      cause = (refuses, λ e. absurd (not_cut e));
      fails = record { read_failed = refl; write_failed = refl; on_wire = so.wired.passed };
      fits = fits_read s m n u v w c a es fs so k;
      wires = keeps_words s m n v c es so;
    })

-- or at its end
refused_over : (s : Settings) (m n u : Meaning) (v w : Packing) (c : Counts) (a : PackOut) (es fs : List Event) (r : Refusal) → SendingIsTold → (so : Sent s m n v c es) → Sends v n u a w fs → effects fs ≡ read_to_end (effects fs).read
    → RefusesToSend s.plan (so.read ++ (effects fs).read) r → AreAll s.plan (so.read ++ (effects fs).read) so.datagrams → Performs (send_job s) m u (Refused r) (es ++ fs)
refused_over s m n u v w c a es fs r told so k reads refuses all =
    let read = so.read ++ (effects fs).read in
    ended s m n u v w c a es fs (Refused r) (record (did read so.wire) { ended = true }) told so k
    (ap (λ (x : Effects). and_then (did so.read so.wire) x) reads ∙ ap (λ (l : List WireEvent). record (did read l) { ended = true }) (append-nil so.wire)) refl (record {
      output = refl;
      sent = (sends_told s read so.wire so.datagrams so.given so.tale told all so.wired so.taken).1;
      cause = (refuses, λ e. refl);
      fails = record { read_failed = refl; write_failed = refl; on_wire = so.wired.passed };
      fits = fits_read s m n u v w c a es fs so k;
      wires = keeps_words s m n v c es so;
    })

-- the input is refused
pub refused_met : (s : Settings) (m n u : Meaning) (v w : Packing) (c : Counts) (es fs : List Event) (fault : WalkFault) (r : Refusal) → SendingIsTold → Sent s m n v c es → Sends v n u (out.Refused fault) w fs → r.at ≡ fault.at → r.reason ≡ reason_for (walk_refusal fault.why)
    → Performs (send_job s) m u (Refused r) (es ++ fs)
refused_met s m n u v w c es fs fault r told so k place is =
    let a = answered s m n u v w c (out.Refused fault) es fs so k in
    let refuses = refuses_by s.plan (so.read ++ (effects fs).read) so.datagrams r (InputRefused (walk_refusal fault.why)) fault.at (read_bytes s m n u v w c (out.Refused fault) es fs so k) place is a in
    elim k.only [
      | inl t1 ↦ refused_over s m n u v w c (out.Refused fault) es fs r told so k t1.1 refuses a.1
      | inr t2 ↦ refused_open s m n u v w c (out.Refused fault) es fs r told so k t2.1 (λ e. t2.0 (why_cut fault.why (sym is ∙ e))) refuses a.1
    ]

-- a main header has no room
pub header_met : (s : Settings) (m n u : Meaning) (v w : Packing) (c : Counts) (es fs : List Event) (at : ℕ) (r : Refusal) → SendingIsTold → Sent s m n v c es → Sends v n u (out.HeaderTooLong at) w fs → r ≡ record { at = at; reason = reason.HeaderTooLong } → Performs (send_job s) m u (Refused r) (es ++ fs)
header_met s m n u v w c es fs at r told so k is =
    let a = answered s m n u v w c (out.HeaderTooLong at) es fs so k in
    let why : r.reason ≡ reason.HeaderTooLong = ap (λ (x : Refusal). x.reason) is in
    refused_open s m n u v w c (out.HeaderTooLong at) es fs r told so k k.only (λ e. let c : reason.HeaderTooLong ≡ reason.Cut = sym why ∙ e in cc)
    (refuses_by s.plan (so.read ++ (effects fs).read) so.datagrams r HeaderTooLong at (read_bytes s m n u v w c (out.HeaderTooLong at) es fs so k) (ap (λ (x : Refusal). x.at) is) why a) a.1

-- a datagram is one too many
pub many_met : (s : Settings) (m n u : Meaning) (v w : Packing) (c : Counts) (es fs : List Event) (at : ℕ) (r : Refusal) → SendingIsTold → Sent s m n v c es → Sends v n u (out.TooManyDatagrams at) w fs → r ≡ record { at = at; reason = reason.TooManyDatagrams } → Performs (send_job s) m u (Refused r) (es ++ fs)
many_met s m n u v w c es fs at r told so k is =
    let a = answered s m n u v w c (out.TooManyDatagrams at) es fs so k in
    let why : r.reason ≡ reason.TooManyDatagrams = ap (λ (x : Refusal). x.reason) is in
    refused_open s m n u v w c (out.TooManyDatagrams at) es fs r told so k k.only (λ e. let c : reason.TooManyDatagrams ≡ reason.Cut = sym why ∙ e in cc)
    (refuses_by s.plan (so.read ++ (effects fs).read) so.datagrams r TooManyDatagrams at (read_bytes s m n u v w c (out.TooManyDatagrams at) es fs so k) (ap (λ (x : Refusal). x.at) is) why a) a.1

-- All that a finished sender did before it writes.
pub record Ready (s : Settings) (m u : Meaning) (c : Counts) (es : List Event) : Type 0 where
  pub trace : Trace m es u
  pub so_far : AtReads (IsSoFar (send_job s)) nothing es
  pub read : List ℕ
  pub wire : List WireEvent
  pub done : effects es ≡ record (did read wire) { ended = true }
  pub passed : wire_failed wire ≡ false
  pub line : count_line c ≡ (send_job s).made (seen read wire) true
  pub sent : SendsTold s (seen read wire) (parcels wire)
  pub finished : IsFinished (send_job s) read true wire
  pub fits : length read ≤ input_limit + 1
  pub words : KeepsToWords s wire

-- counts say what the line does
line_is : (c : Counts) (count : ℕ) (t : Tale) → AreCounts c t → total c ≡ count → count_line c ≡ send_line count t
line_is c count t h all = let a = h.sent in let b = h.lost in let d = h.failed in rw (all, a, b, d) refl

pub ready : (s : Settings) (m n u : Meaning) (v w : Packing) (c : Counts) (es fs : List Event) → SendingIsTold → Sent s m n v c es → Sends v n u out.End w fs → Ready s m u c (es ++ fs)
ready s m n u v w c es fs told so k =
    let read = so.read ++ (effects fs).read in
    let a = answered s m n u v w c out.End es fs so k in
    let q = stepped s m n u v w c out.End es fs told so k in
    let t = sends_told s read so.wire so.datagrams so.given so.tale told a.1 so.wired so.taken in
    let A : List ℕ → Type 0 = λ l. (codestreams : List (List ℕ)) × SenderAccepts s.plan l codestreams in
    let bytes = read_bytes s m n u v w c out.End es fs so k in
    let L : List (List ℕ) → Type 0 = λ l. count_line c ≡ send_line (length l) so.tale in
    let T : Tale → Type 0 = λ x. count_line c ≡ send_line (length (closed s.plan (counted read))) x in
    record {
      trace = q.trace;
      so_far = q.so_far;
      read = read;
      wire = so.wire;
      done = effects_then es fs _ _ so.done refl ∙ (ap (λ (x : Effects). and_then (did so.read so.wire) x) k.only ∙ ap (λ (l : List WireEvent). record (did read l) { ended = true }) (append-nil so.wire));
      passed = so.wired.passed;
      line = subst T (sym t.0) (subst L a.1 (line_is c (length so.datagrams) so.tale so.counts so.all));
      sent = t.1;
      finished = ((subst A (sym (octets_are read bytes)) a.0, (λ i. refl)), so.wired.named);
      fits = fits_read s m n u v w c out.End es fs so k;
      words = keeps_words s m n v c es so;
    }

-- one write after that
ready_passed : (s : Settings) (m u : Meaning) (c : Counts) (es : List Event) → Ready s m u c es → HasPassed (effects es)
ready_passed s m u c es r = has_passed (effects es) (record (did r.read r.wire) { ended = true }) r.done (record { reads = refl; writes = refl; on_wire = r.passed })

written : (s : Settings) (m u : Meaning) (c : Counts) (es : List Event) (e : Event) → Ready s m u c es → AtReads Never nothing (e ∷ []) → AtReads (IsSoFar (send_job s)) nothing (es ++ e ∷ [])
written s m u c es e r one = at_reads_then Never (IsSoFar (send_job s)) es (e ∷ []) r.so_far (ready_passed s m u c es r) (λ f i. absurd i) one

-- the line goes out
finished : (s : Settings) (m u z : Meaning) (c : Counts) (es : List Event) → Ready s m u c es → Step u (Wrote (count_line c)) z → Performs (send_job s) m z Done (es ++ Wrote (count_line c) ∷ [])
finished s m u z c es r step =
    let line = count_line c in
    let g = record (did r.read r.wire) { ended = true; written = line } in
    let is : effects (es ++ Wrote line ∷ []) ≡ record (did r.read r.wire) { ended = true; written = line } =
    effects_more es (Wrote line) _ r.done ∙ ap (λ (l : List ℕ). record (did l (r.wire ++ [])) { ended = true; written = line }) (append-nil r.read) ∙ ap (λ (l : List WireEvent). record (did r.read l) { ended = true; written = line }) (append-nil r.wire) in
    performs (send_job s) m z Done (es ++ Wrote line ∷ []) g (trace_join m u z es (Wrote line ∷ []) r.trace (trace_one u z (Wrote line) step)) (written s m u c es (Wrote line) r (tt, record { reads = refl; writes = refl; on_wire = refl }, tt)) is refl (record {
      output = r.line;
      sent = r.sent;
      cause = r.finished;
      fails = record { read_failed = refl; write_failed = refl; on_wire = r.passed };
      fits = r.fits;
      wires = r.words;
    })

-- or the write fails
broken_off : (s : Settings) (m u z : Meaning) (c : Counts) (es : List Event) (front rest : List ℕ) → Ready s m u c es → count_line c ≡ front ++ rest → Step u (WriteFailed front) z → Performs (send_job s) m z WriteFault (es ++ WriteFailed front ∷ [])
broken_off s m u z c es front rest r whole step =
    let g = record (did r.read r.wire) { ended = true; written = front; write_failed = true } in
    let is : effects (es ++ WriteFailed front ∷ []) ≡ record (did r.read r.wire) { ended = true; written = front; write_failed = true } =
    effects_more es (WriteFailed front) _ r.done ∙ ap (λ (l : List ℕ). record (did l (r.wire ++ [])) { ended = true; written = front; write_failed = true }) (append-nil r.read) ∙ ap (λ (l : List WireEvent). record (did r.read l) { ended = true; written = front; write_failed = true }) (append-nil r.wire) in
    performs (send_job s) m z WriteFault (es ++ WriteFailed front ∷ []) g (trace_join m u z es (WriteFailed front ∷ []) r.trace (trace_one u z (WriteFailed front) step)) (written s m u c es (WriteFailed front) r (tt, record { reads = refl; writes = refl; on_wire = refl }, tt)) is refl (record {
      output = inr (r.finished, (rest, sym r.line ∙ whole));
      sent = r.sent;
      cause = tt;
      fails = record { read_failed = refl; write_failed = refl; on_wire = r.passed };
      fits = r.fits;
      wires = r.words;
    })

pub finish_met : (s : Settings) (m u z : Meaning) (c : Counts) (ending : Ending) (es : List Event) → Ready s m u c es → Finishes c ending u z → (gs : List Event) × Performs (send_job s) m z ending gs
finish_met s m u z c Done es r f = (es ++ Wrote (count_line c) ∷ [], finished s m u z c es r f)
finish_met s m u z c WriteFault es r (front, rest, whole, step) = (es ++ WriteFailed front ∷ [], broken_off s m u z c es front rest r whole step)
finish_met s m u z c ReadFault es r f = absurd f
finish_met s m u z c WireFault es r f = absurd f
finish_met s m u z c (Refused q) es r f = absurd f
finish_met s m u z c NoMemory es r f = absurd f
