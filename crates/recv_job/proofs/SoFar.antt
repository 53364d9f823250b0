-- Datagrams that came so far, reported, and how that ends.
use Rattle.std.proofs.Common.{◌≡◌, ◌<◌, ◌≤◌, ◌+◌, ◌-◌, ◌*◌, ◌^◌, ◌++◌, ℕ, true, false, List, [], ◌∷◌, length, map, refl, sym, ◌∙◌, ap, subst, append_assoc, arith, inl, inr}
use Rattle.std.specs.Prelude.{nat_le, codes, decimal}
use Rattle.std.proofs.lemmas.List.{append-nil, length-append, map-append}
use Rattle.std.proofs.lemmas.Bool.Decides.{nat_tests}
use Rattle.std.proofs.Math.Nat.{mul-add}
use Rattle.wire_model.specs.Receptions.{Reception, Arrived, NotReady, Closed, Failed}
use Rattle.relay_model.specs.Lines.{came, has_closed, end_word}
use Rattle.stream_model.specs.Commands.{release_lines, reported}
use Rattle.stream_model.specs.Decoder.{Release}
use Rattle.stream_model.specs.Receiver as rules
use Rattle.stream_model.specs.Receiver.{received, take_frame, take_frames}
use Rattle.stream_model.specs.ReceiverJoins.{having_given, forgetful}
use Rattle.stream_model.proofs.ReceiverJoins.{precincts_join}
use Rattle.stream_model.proofs.ReportWritten.{received_grows}
use Rattle.delivery_model.specs.Receiving.{recv_line, recv_output}
use Rattle.scl_outside.specs.Meaning.{Meaning}
use Rattle.scl_outside.specs.Events.{Event, WireEvent, OnWire, Received, Bound}
use Rattle.scl_outside.specs.Effects.{Effects, HasPassed, nothing, and_then, effects, receptions, parcels, wire_failed}
use Rattle.scl_outside.specs.Steps.{Step}
use Rattle.scl_outside.specs.Traces.{Trace, AtReads}
use Rattle.scl_outside.specs.Writing.{Never}
use Rattle.scl_outside.proofs.Traces.{trace_join, trace_one, and_then-nothing, effects_then, at_reads_then, has_passed}
use Rattle.scl_outside.specs.declared.duct.PutOut.{PutOut}
use Rattle.scl_outside.specs.declared.duct.PutOut.TheVariants as put
use Rattle.scl_run.specs.declared.ending.Ending.{Ending}
use Rattle.scl_run.specs.declared.ending.Ending.TheVariants.{Done, ReadFault, WriteFault, WireFault, Refused, NoMemory}
use Rattle.scl_run.specs.Performing.{Performs, IsSoFar}
use Rattle.scl_run.proofs.Performed.{performs}
use Rattle.stream_receiver.specs.States.{ReceiverState, new_state, counted}
use Rattle.receiving_job.specs.Giving.{IsReady, HasGiven}
use Rattle.receiving_job.specs.Turns.{due_by}
use Rattle.receiving_job.proofs.Takes.{given_more}
use Rattle.recv_job.specs.Settings.{Settings, AreSettings}
use Rattle.recv_job.specs.Job.{idle_after, idle_run, HasEnded, recv_job}
use Rattle.recv_job.specs.declared.link.End.{End}
use Rattle.recv_job.specs.declared.link.End.TheVariants as end
use Rattle.recv_job.specs.declared.link.Turn.TheVariants.{On, Over, Stop}
use Rattle.recv_job.specs.Turns.{TakesDatagram, After, came_after, Progress, EndsAfter, Turns, AtStart, word_of, last_line, Finishes, ending_of}

-- the calls for datagrams
abbrev calls : List Reception → List WireEvent
calls rs = map (λ r. Received r) rs

calls-more : (rs : List Reception) (r : Reception) → calls (rs ++ r ∷ []) ≡ calls rs ++ Received r ∷ []
calls-more rs r = map-append (λ (x : Reception). Received x) rs (r ∷ [])

-- and their answers
answers_are : (rs : List Reception) → receptions (calls rs) ≡ rs
answers_are [] = refl
answers_are (r ∷ rs) = ap (λ (l : List Reception). r ∷ l) (answers_are rs)

nothing_sent : (rs : List Reception) → parcels (calls rs) ≡ []
nothing_sent [] = refl
nothing_sent (r ∷ rs) = nothing_sent rs

-- what is known of one answer more
came-more : (rs : List Reception) (r : Reception) → came (rs ++ r ∷ []) ≡ came rs ++ came (r ∷ [])
came-more [] r = refl
came-more (Arrived d ∷ rs) r = ap (λ (l : List (List ℕ)). d ∷ l) (came-more rs r)
came-more (NotReady ∷ rs) r = came-more rs r
came-more (Closed ∷ rs) r = came-more rs r
came-more (Failed ∷ rs) r = came-more rs r

idle-more : (n : ℕ) (rs : List Reception) (r : Reception) → idle_run n (rs ++ r ∷ []) ≡ idle_after (idle_run n rs) r
idle-more n [] r = refl
idle-more n (x ∷ rs) r = idle-more (idle_after n x) rs r

closed-more : (rs : List Reception) (r : Reception) → has_closed rs ≡ false → has_closed (rs ++ r ∷ []) ≡ has_closed (r ∷ [])
closed-more [] r unclosed = refl
closed-more (Arrived d ∷ rs) r unclosed = closed-more rs r unclosed
closed-more (NotReady ∷ rs) r unclosed = closed-more rs r unclosed
closed-more (Closed ∷ rs) r unclosed = absurd (cc)
closed-more (Failed ∷ rs) r unclosed = closed-more rs r unclosed

-- no call failed
failed-more : (rs : List Reception) (r : Reception) → wire_failed (calls rs) ≡ false → wire_failed (calls (rs ++ r ∷ [])) ≡ wire_failed (Received r ∷ [])
failed-more [] r e = refl
failed-more (Arrived d ∷ rs) r e = failed-more rs r e
failed-more (NotReady ∷ rs) r e = failed-more rs r e
failed-more (Closed ∷ rs) r e = failed-more rs r e
failed-more (Failed ∷ rs) r e = absurd (cc)

-- datagrams were asked for so far, and the lines of what was due were written
pub record SoFar (s : Settings) (p : Progress) (m n : Meaning) (es : List Event) : Type 0 where
  pub trace : Trace m es n
  pub reads : AtReads (IsSoFar (recv_job s)) nothing es
  pub answers : List Reception
  pub done : effects es ≡ record nothing { wire = Bound s.local true ∷ calls answers; written = release_lines (received s.pick (came answers)).releases }
  pub passed : wire_failed (calls answers) ≡ false
  pub not_closed : has_closed answers ≡ false
  pub rules : p.receiver.rules ≡ forgetful (received s.pick (came answers))
  pub ready : IsReady p.receiver
  pub picks : p.receiver.pick ≡ s.pick
  pub given : HasGiven p.receiver (received s.pick (came answers)).releases
  pub counts : counted p.receiver.rules ≡ length (came answers)
  pub came : p.came ≡ length (came answers)
  pub idle : p.idle ≡ idle_run 0 answers
  pub few : p.came < s.max
  pub busy : p.idle < s.idle

-- what was done, by the answers
abbrev did : Settings → List Reception → Effects
did s rs = record nothing { wire = Bound s.local true ∷ calls rs; written = release_lines (received s.pick (came rs)).releases }

-- nothing came yet
pub begun : (s : Settings) (p : Progress) (m n : Meaning) → AreSettings s → Step m (OnWire (Bound s.local true)) n → p ≡ record { receiver = new_state s.pick; came = 0; idle = 0 } → (es : List Event) × SoFar s p m n es
unfolding take_frames
begun s p m n fits step is =
    let P : Progress → Type 0 = λ x. (es : List Event) × SoFar s x m n es in
    let few = fits.some in
    let busy = fits.idles in
    subst P (sym is) (
      OnWire (Bound s.local true) ∷ [],
      record {
        trace = trace_one m n (OnWire (Bound s.local true)) step;
        reads = (tt, record { reads = refl; writes = refl; on_wire = refl }, tt);
        answers = [];
        done = refl;
        passed = refl;
        not_closed = refl;
        rules = refl;
        ready = record { settled = refl; undue = refl; fresh = refl };
        picks = refl;
        given = record { frames = []; are_bytes = tt; count = refl; is = refl };
        counts = refl;
        came = refl;
        idle = refl;
        few = omega (arith, few);
        busy = omega (arith, busy);
      },
    )

-- a receiver has counted few datagrams
pub counts_few : (s : Settings) (p : Progress) (m n : Meaning) (es : List Event) → s.max ≤ 8388607 → SoFar s p m n es → counted p.receiver.rules < 2 ^ 63
counts_few s p m n es most so = let few = so.few in let count = so.counts in let came = so.came in omega (arith, most, few, count, came)

-- before each call for a datagram
so_far : (s : Settings) (p : Progress) (m n : Meaning) (es : List Event) → SoFar s p m n es → IsSoFar (recv_job s) (effects es)
so_far s p m n es so =
    let rs = so.answers in
    let P : Effects → Type 0 = λ f. IsSoFar (recv_job s) f in
    let few = so.few in
    let count = so.came in
    let busy = so.busy in
    let idle = so.idle in
    subst P (sym so.done) (record {
      made = ap (λ l. release_lines (received s.pick (came l)).releases) (sym (answers_are rs)) ∙ sym (append-nil (release_lines (received s.pick (came (receptions (calls rs)))).releases));
      sent = nothing_sent rs;
      goes_on = refl;
      asks = record { received = rs; receives = refl; few = omega (arith, few, count); not_closed = so.not_closed; busy = omega (arith, busy, idle) };
    })

-- no call failed so far
so_passed : (s : Settings) (p : Progress) (m n : Meaning) (es : List Event) → SoFar s p m n es → HasPassed (effects es)
so_passed s p m n es so = has_passed (effects es) (did s so.answers) so.done (record { reads = refl; writes = refl; on_wire = so.passed })

reads_more : (s : Settings) (p : Progress) (m n : Meaning) (es fs : List Event) → SoFar s p m n es → AtReads AtStart nothing fs → AtReads (IsSoFar (recv_job s)) nothing (es ++ fs)
reads_more s p m n es fs so within =
    let Q : Effects → Type 0 = λ f. IsSoFar (recv_job s) (and_then (effects es) f) in
    let at_start : (f : Effects) → f ≡ nothing → IsSoFar (recv_job s) (and_then (effects es) f) = λ f start.
    subst Q (sym start) (let R : Effects → Type 0 = λ f. IsSoFar (recv_job s) f in subst R (sym (and_then-nothing (effects es))) (so_far s p m n es so)) in
    at_reads_then AtStart (IsSoFar (recv_job s)) es fs so.reads (so_passed s p m n es so) at_start within

-- what one answer makes of the receiver
record Grown (s : Settings) (a : ReceiverState) (rs : List Reception) (answer : Reception) (f : Effects) : Type 0 where
  pub text : List ℕ
  pub is : f ≡ record nothing { wire = Received answer ∷ []; written = text }
  pub adds : release_lines (received s.pick (came (rs ++ answer ∷ []))).releases ≡ release_lines (received s.pick (came rs)).releases ++ text
  pub rules : a.rules ≡ forgetful (received s.pick (came (rs ++ answer ∷ [])))
  pub ready : IsReady a
  pub given : HasGiven a (received s.pick (came (rs ++ answer ∷ []))).releases
  pub counts : counted a.rules ≡ length (came (rs ++ answer ∷ []))

-- nothing came
same : (s : Settings) (p : Progress) (m n : Meaning) (es : List Event) (so : SoFar s p m n es) (a : ReceiverState) (answer : Reception) (f : Effects) → came (answer ∷ []) ≡ [] → a ≡ p.receiver → f ≡ record nothing { wire = Received answer ∷ [] }
    → Grown s a so.answers answer f
same s p m n es so a answer f none is done =
    let rs = so.answers in
    let all : came rs ≡ came (rs ++ answer ∷ []) = sym (came-more rs answer ∙ (ap (λ l. came rs ++ l) none ∙ append-nil (came rs))) in
    let P : ReceiverState → Type 0 = λ x. Grown s x rs answer f in
    let H : List (List ℕ) → Type 0 = λ l. HasGiven p.receiver (received s.pick l).releases in
    subst P (sym is) (record {
      text = [];
      is = done;
      adds = ap (λ l. release_lines (received s.pick l).releases) (sym all) ∙ sym (append-nil (release_lines (received s.pick (came rs)).releases));
      rules = so.rules ∙ ap (λ l. forgetful (received s.pick l)) all;
      ready = so.ready;
      given = subst H all so.given;
      counts = so.counts ∙ ap length all;
    })

-- the packets after one datagram more
packets_more : (s : Settings) (r : ReceiverState) (rs : List Reception) (d : List ℕ) → r.rules ≡ forgetful (received s.pick (came rs)) → r.pick ≡ s.pick
    → (received s.pick (came rs ++ d ∷ []) ≡ having_given (received s.pick (came rs)).releases (take_frame r.pick r.rules d))
    × ((received s.pick (came rs)).releases ++ due_by r d ≡ (received s.pick (came (rs ++ Arrived d ∷ []))).releases)
packets_more s r rs d is picks =
    let frames = came rs in
    let all : frames ++ d ∷ [] ≡ came (rs ++ Arrived d ∷ []) = sym (came-more rs (Arrived d)) in
    let grown : received s.pick (frames ++ d ∷ []) ≡ having_given (received s.pick frames).releases (take_frame r.pick r.rules d) =
    (received_grows s.pick frames d).0
    ∙ ((precincts_join s.pick (received s.pick frames)).0 d
    ∙ (ap (λ x. having_given (received s.pick frames).releases (take_frame s.pick x d)) (sym is)
    ∙ ap (λ q. having_given (received s.pick frames).releases (take_frame q r.rules d)) (sym picks))) in
    (grown, ap (λ (x : rules.Receiver). x.releases) (sym grown) ∙ ap (λ l. (received s.pick l).releases) all)

-- a datagram came
more : (s : Settings) (p : Progress) (m n : Meaning) (es : List Event) (so : SoFar s p m n es) (a : ReceiverState) (d : List ℕ) (f : Effects) → a.pick ≡ p.receiver.pick → TakesDatagram (received s.pick (came so.answers)).releases p.receiver a d f
    → Grown s a so.answers (Arrived d) f
more s p m n es so a d f pick k =
    let rs = so.answers in
    let frames = came rs in
    let r = p.receiver in
    let all : frames ++ d ∷ [] ≡ came (rs ++ Arrived d ∷ []) = sym (came-more rs (Arrived d)) in
    let (grown, packets) = packets_more s r rs d so.rules so.picks in
    let H : List Release → Type 0 = λ l. HasGiven a l in
    let left : a.rules ≡ forgetful (received s.pick (frames ++ d ∷ [])) = k.left ∙ sym (ap forgetful grown) in
    let count : counted a.rules ≡ counted (received s.pick (frames ++ d ∷ [])) = ap counted left in
    let size = (received_grows s.pick frames d).1 in
    let length-all : length (frames ++ d ∷ []) ≡ length (came (rs ++ Arrived d ∷ [])) = ap length all in
    let length-more = length-append frames (d ∷ []) in
    record {
      text = k.text;
      is = k.is;
      adds = ap release_lines (sym packets) ∙ k.adds;
      rules = left ∙ ap (λ l. forgetful (received s.pick l)) all;
      ready = k.ready;
      given = subst H packets (given_more r a (received s.pick frames).releases d k.like so.given k.is_like.are_bytes k.is_like.same pick k.left);
      counts = omega (arith, count, size, length-all, length-more);
    }

grown_by : (s : Settings) (p : Progress) (m n : Meaning) (es : List Event) (so : SoFar s p m n es) (a : ReceiverState) (answer : Reception) (f : Effects) → a.pick ≡ p.receiver.pick
    → After (received s.pick (came so.answers)).releases p.receiver a answer f → Grown s a so.answers answer f
grown_by s p m n es so a (Arrived d) f pick k = more s p m n es so a d f pick k
grown_by s p m n es so a NotReady f pick k = same s p m n es so a NotReady f refl k.0 k.1
grown_by s p m n es so a Closed f pick k = same s p m n es so a Closed f refl k.0 k.1
grown_by s p m n es so a Failed f pick k = absurd k

-- and of the calls
did_more : (s : Settings) (es fs : List Event) (rs : List Reception) (answer : Reception) (text all : List ℕ) → effects es ≡ did s rs → effects fs ≡ record nothing { wire = Received answer ∷ []; written = text }
    → all ≡ release_lines (received s.pick (came rs)).releases ++ text → effects (es ++ fs) ≡ record nothing { wire = Bound s.local true ∷ calls (rs ++ answer ∷ []); written = all }
did_more s es fs rs answer text all a b adds =
    effects_then es fs _ _ a b
    ∙ (ap (λ (w : List WireEvent). record nothing { wire = Bound s.local true ∷ w; written = release_lines (received s.pick (came rs)).releases ++ text }) (sym (calls-more rs answer))
    ∙ ap (λ (l : List ℕ). record nothing { wire = Bound s.local true ∷ calls (rs ++ answer ∷ []); written = l }) (sym adds))

came_is : (n : ℕ) (rs : List Reception) (answer : Reception) → n ≡ length (came rs) → came_after n answer ≡ length (came (rs ++ answer ∷ []))
came_is n rs answer e = by answer e ∙ ap length (sym (came-more rs answer)) where
  by : (answer : Reception) → n ≡ length (came rs) → came_after n answer ≡ length (came rs ++ came (answer ∷ []))
  by (Arrived d) e = let z = length-append (came rs) (d ∷ []) in omega (arith, e, z)
  by NotReady e = e ∙ ap length (sym (append-nil (came rs)))
  by Closed e = e ∙ ap length (sym (append-nil (came rs)))
  by Failed e = e ∙ ap length (sym (append-nil (came rs)))

not_failed : (xs : List Release) (r a : ReceiverState) (answer : Reception) (f : Effects) → After xs r a answer f → wire_failed (Received answer ∷ []) ≡ false
not_failed xs r a (Arrived d) f k = refl
not_failed xs r a NotReady f k = refl
not_failed xs r a Closed f k = refl
not_failed xs r a Failed f k = absurd k

-- after one more answer
pub one_more : (s : Settings) (p q : Progress) (l m n : Meaning) (es fs : List Event) (so : SoFar s p l m es) → q.receiver.pick ≡ p.receiver.pick → Turns s (received s.pick (came so.answers)).releases p q m n On fs → SoFar s q l n (es ++ fs)
one_more s p q l m n es fs so pick t =
    let (answer, k, unclosed, few, busy) = t.gives in
    let rs = so.answers in
    let grown = grown_by s p l m es so q.receiver answer (effects fs) pick k.after in
    record {
      trace = trace_join l m n es fs so.trace t.trace;
      reads = reads_more s p l m es fs so t.within;
      answers = rs ++ answer ∷ [];
      done = did_more s es fs rs answer grown.text _ so.done grown.is grown.adds;
      passed = failed-more rs answer so.passed ∙ not_failed (received s.pick (came rs)).releases p.receiver q.receiver answer (effects fs) k.after;
      not_closed = closed-more rs answer so.not_closed ∙ unclosed;
      rules = grown.rules;
      ready = grown.ready;
      picks = pick ∙ so.picks;
      given = grown.given;
      counts = grown.counts;
      came = k.came ∙ came_is p.came rs answer so.came;
      idle = k.idle ∙ (ap (λ i. idle_after i answer) so.idle ∙ sym (idle-more 0 rs answer));
      few = few;
      busy = busy;
    }

-- each turn brings the end nearer
abbrev pub left_of : Settings → Progress → ℕ
left_of s p = (s.idle + 1) * (s.max - p.came) + (s.idle - p.idle)

pub less_left : (s : Settings) (xs : List Release) (p q : Progress) (m n : Meaning) (es : List Event) → p.came < s.max → p.idle < s.idle → Turns s xs p q m n On es → left_of s q < left_of s p
less_left s xs p q m n es few busy t = by t.gives.0 t.gives.1.came t.gives.1.idle (not_failed xs p.receiver q.receiver t.gives.0 (effects es) t.gives.1.after) t.gives.2 where
  by : (answer : Reception) → q.came ≡ came_after p.came answer → q.idle ≡ idle_after p.idle answer → wire_failed (Received answer ∷ []) ≡ false → has_closed (answer ∷ []) ≡ false → left_of s q < left_of s p
  by (Arrived d) count rest ok unclosed =
      let one : s.max - p.came ≡ (s.max - q.came) + 1 = omega (arith, count, few) in
      let all : (s.idle + 1) * (s.max - p.came) ≡ (s.idle + 1) * (s.max - q.came) + (s.idle + 1) * 1 = ap (λ n. (s.idle + 1) * n) one ∙ mul-add (s.idle + 1) (s.max - q.came) 1 in
      omega (arith, all, busy)
  by NotReady count rest ok unclosed =
      let same_left : (s.idle + 1) * (s.max - q.came) ≡ (s.idle + 1) * (s.max - p.came) = ap (λ n. (s.idle + 1) * (s.max - n)) count in
      omega (arith, same_left, rest, busy)
  by Closed count rest ok unclosed = absurd (cc)
  by Failed count rest ok unclosed = absurd (cc)

-- no further datagram is asked for
pub record AtEnd (s : Settings) (why : End) (q : Progress) (l n : Meaning) (es : List Event) : Type 0 where
  pub trace : Trace l es n
  pub reads : AtReads (IsSoFar (recv_job s)) nothing es
  pub answers : List Reception
  pub done : effects es ≡ record nothing { wire = Bound s.local true ∷ calls answers; written = release_lines (received s.pick (came answers)).releases }
  pub passed : wire_failed (calls answers) ≡ false
  pub rules : q.receiver.rules ≡ forgetful (received s.pick (came answers))
  pub ready : IsReady q.receiver
  pub given : HasGiven q.receiver (received s.pick (came answers)).releases
  pub counts : counted q.receiver.rules ≡ length (came answers)
  pub came : q.came ≡ length (came answers)
  pub few : q.came ≤ s.max
  pub ended : HasEnded s answers
  pub word : word_of why ≡ end_word s.max answers

-- why, and the word for it
ended_by : (s : Settings) (why : End) (q : Progress) (rs : List Reception) (answer : Reception) → has_closed rs ≡ false → q.came ≡ length (came (rs ++ answer ∷ [])) → q.idle ≡ idle_run 0 (rs ++ answer ∷ [])
    → EndsAfter s why q answer → HasEnded s (rs ++ answer ∷ []) × (word_of why ≡ end_word s.max (rs ++ answer ∷ []))
ended_by s end.Closed q rs answer unclosed count rest e =
    let closed : has_closed (rs ++ answer ∷ []) ≡ true = closed-more rs answer unclosed ∙ ap (λ (a : Reception). has_closed (a ∷ [])) e in
    (inl closed, rw closed refl)
ended_by s end.Max q rs answer unclosed count rest (still, most) =
    let closed : has_closed (rs ++ answer ∷ []) ≡ false = closed-more rs answer unclosed ∙ still in
    let full : nat_le s.max (length (came (rs ++ answer ∷ []))) ≡ true = grind (arith, nat_tests, most, count) in
    (inr (inl (omega (arith, most, count))), rw (closed, full) refl)
ended_by s end.Idle q rs answer unclosed count rest (still, few, long) =
    let closed : has_closed (rs ++ answer ∷ []) ≡ false = closed-more rs answer unclosed ∙ still in
    let room : nat_le s.max (length (came (rs ++ answer ∷ []))) ≡ false = grind (arith, nat_tests, few, count) in
    (inr (inr (omega (arith, long, rest))), rw (closed, room) refl)

at_most : (n : ℕ) (answer : Reception) → came_after n answer ≤ n + 1
at_most n (Arrived d) = omega arith
at_most n NotReady = omega arith
at_most n Closed = omega arith
at_most n Failed = omega arith

pub at_end : (s : Settings) (why : End) (p q : Progress) (l m n : Meaning) (es fs : List Event) (so : SoFar s p l m es) → q.receiver.pick ≡ p.receiver.pick → Turns s (received s.pick (came so.answers)).releases p q m n (Over why) fs
    → AtEnd s why q l n (es ++ fs)
at_end s why p q l m n es fs so pick t =
    let (answer, k, e) = t.gives in
    let rs = so.answers in
    let grown = grown_by s p l m es so q.receiver answer (effects fs) pick k.after in
    let came_now = k.came ∙ came_is p.came rs answer so.came in
    let idle_now = k.idle ∙ (ap (λ i. idle_after i answer) so.idle ∙ sym (idle-more 0 rs answer)) in
    let over = ended_by s why q rs answer so.not_closed came_now idle_now e in
    record {
      trace = trace_join l m n es fs so.trace t.trace;
      reads = reads_more s p l m es fs so t.within;
      answers = rs ++ answer ∷ [];
      done = did_more s es fs rs answer grown.text _ so.done grown.is grown.adds;
      passed = failed-more rs answer so.passed ∙ not_failed (received s.pick (came rs)).releases p.receiver q.receiver answer (effects fs) k.after;
      rules = grown.rules;
      ready = grown.ready;
      given = grown.given;
      counts = grown.counts;
      came = came_now;
      few = (let one = at_most p.came answer in let was = so.few in let now = k.came in omega (arith, one, was, now));
      ended = over.0;
      word = over.1;
    }

pub few_at_end : (s : Settings) (why : End) (q : Progress) (l n : Meaning) (es : List Event) → s.max ≤ 8388607 → AtEnd s why q l n es → counted q.receiver.rules < 2 ^ 63
few_at_end s why q l n es most a = let few = a.few in let count = a.counts in let all = a.came in omega (arith, few, count, all, most)

-- what is written at the end
last_is : (s : Settings) (why : End) (q : Progress) (l n : Meaning) (es : List Event) (a : AtEnd s why q l n es) (text : List ℕ)
    → reported (having_given (received s.pick (came a.answers)).releases q.receiver.rules) true ≡ release_lines (received s.pick (came a.answers)).releases ++ text
    → release_lines (received s.pick (came a.answers)).releases ++ (text ++ last_line why q.came) ≡ recv_output s.pick s.max (receptions (calls a.answers)) true
last_is s why q l n es a text adds =
    let rs = a.answers in
    let R = received s.pick (came rs) in
    let all : having_given R.releases q.receiver.rules ≡ R = ap (having_given R.releases) a.rules ∙ ap (λ l. record R { releases = l }) (append-nil R.releases) in
    let front : release_lines R.releases ++ text ≡ reported R true = sym adds ∙ ap (λ x. reported x true) all in
    let line : last_line why q.came ≡ recv_line s.max rs =
    ap (λ (w : List ℕ). codes "RECV end=" ++ w ++ codes " in=" ++ decimal q.came ++ codes "\n") a.word ∙ ap (λ (c : ℕ). codes "RECV end=" ++ end_word s.max rs ++ codes " in=" ++ decimal c ++ codes "\n") a.came in
    sym (append_assoc (release_lines R.releases) text (last_line why q.came))
    ∙ (ap (λ (l : List ℕ). l ++ last_line why q.came) front
    ∙ (ap (λ (l : List ℕ). reported R true ++ l) line ∙ ap (λ l. recv_output s.pick s.max l true) (sym (answers_are rs))))

-- while the last lines are written nothing is asked for
put_reads : (s : Settings) (why : End) (q : Progress) (l n : Meaning) (es fs : List Event) (a : AtEnd s why q l n es) → AtReads Never nothing fs → AtReads (IsSoFar (recv_job s)) nothing (es ++ fs)
put_reads s why q l n es fs a within =
    at_reads_then Never (IsSoFar (recv_job s)) es fs a.reads (has_passed (effects es) (did s a.answers) a.done (record { reads = refl; writes = refl; on_wire = a.passed })) (λ f i. absurd i) within

pub finished : (s : Settings) (why : End) (q : Progress) (l n o : Meaning) (result : PutOut) (es fs : List Event) (a : AtEnd s why q l n es) → Finishes (received s.pick (came a.answers)).releases q why n o result fs
    → Performs (recv_job s) l o (ending_of result) (es ++ fs)
finished s why q l n o put.Done es fs a e =
    let rs = a.answers in
    let W = release_lines (received s.pick (came rs)).releases in
    performs (recv_job s) l o Done (es ++ fs) (record nothing { wire = Bound s.local true ∷ (calls rs ++ []); written = W ++ (e.text ++ last_line why q.came) })
    (trace_join l n o es fs a.trace e.puts.trace) (put_reads s why q l n es fs a e.puts.within) (effects_then es fs _ _ a.done e.puts.gives) refl (rw (append-nil (calls rs)) (record {
      output = last_is s why q l n es a e.text e.adds;
      sent = nothing_sent rs;
      cause = ((tt, λ u. absurd u), (rs, refl, a.ended));
      fails = record { read_failed = refl; write_failed = refl; on_wire = a.passed };
      fits = refl;
      wires = inr (inr (rs, refl));
    }))
finished s why q l n o put.WriteFault es fs a e =
    let rs = a.answers in
    let W = release_lines (received s.pick (came rs)).releases in
    let g = e.puts.gives in
    performs (recv_job s) l o WriteFault (es ++ fs) (record nothing { wire = Bound s.local true ∷ (calls rs ++ []); written = W ++ g.0; write_failed = true })
    (trace_join l n o es fs a.trace e.puts.trace) (put_reads s why q l n es fs a e.puts.within) (effects_then es fs _ _ a.done g.3) refl (rw (append-nil (calls rs)) (record {
      output = inr (((tt, λ u. absurd u), (rs, refl, a.ended)), (g.1, sym (last_is s why q l n es a e.text e.adds) ∙ (ap (λ (l : List ℕ). W ++ l) g.2 ∙ sym (append_assoc W g.0 g.1))));
      sent = nothing_sent rs;
      cause = tt;
      fails = record { read_failed = refl; write_failed = refl; on_wire = a.passed };
      fits = refl;
      wires = inr (inr (rs, refl));
    }))

-- a call for a datagram that failed, and a write that did
pub stopped : (s : Settings) (p q : Progress) (l m n : Meaning) (ending : Ending) (es fs : List Event) (so : SoFar s p l m es) → Turns s (received s.pick (came so.answers)).releases p q m n (Stop ending) fs
    → Performs (recv_job s) l n ending (es ++ fs)
stopped s p q l m n WireFault es fs so t =
    let rs = so.answers in
    let W = release_lines (received s.pick (came rs)).releases in
    let all : came rs ≡ came (rs ++ Failed ∷ []) = sym (came-more rs Failed ∙ append-nil (came rs)) in
    let same : W ≡ release_lines (received s.pick (came (rs ++ Failed ∷ []))).releases = ap (λ l. release_lines (received s.pick l).releases) all in
    performs (recv_job s) l n WireFault (es ++ fs) (did s (rs ++ Failed ∷ []))
    (trace_join l m n es fs so.trace t.trace) (reads_more s p l m es fs so t.within) (did_more s es fs rs Failed [] _ so.done t.gives (sym same ∙ sym (append-nil W))) refl (record {
      output = ap (λ l. release_lines (received s.pick (came l)).releases) (sym (answers_are (rs ++ Failed ∷ []))) ∙ sym (append-nil _);
      sent = nothing_sent (rs ++ Failed ∷ []);
      cause = tt;
      fails = record { read_failed = refl; write_failed = refl; on_wire = failed-more rs Failed so.passed };
      fits = refl;
      wires = inr (inr (rs ++ Failed ∷ [], refl));
    })
stopped s p q l m n WriteFault es fs so t =
    let rs = so.answers in
    let k = t.gives in
    let d = k.d in
    let W = release_lines (received s.pick (came rs)).releases in
    let now = rs ++ Arrived d ∷ [] in
    let packets = (packets_more s p.receiver rs d so.rules so.picks).1 in
    let made : release_lines (received s.pick (came (receptions (calls now)))).releases ++ [] ≡ (W ++ k.front) ++ k.rest =
    append-nil _ ∙ (ap (λ l. release_lines (received s.pick (came l)).releases) (answers_are now) ∙ (ap release_lines (sym packets) ∙ (k.adds ∙ sym (append_assoc W k.front k.rest)))) in
    performs (recv_job s) l n WriteFault (es ++ fs) (record nothing { wire = Bound s.local true ∷ calls now; written = W ++ k.front; write_failed = true })
    (trace_join l m n es fs so.trace t.trace) (reads_more s p l m es fs so t.within)
    (effects_then es fs _ _ so.done k.is ∙ ap (λ (w : List WireEvent). record nothing { wire = Bound s.local true ∷ w; written = W ++ k.front; write_failed = true }) (sym (calls-more rs (Arrived d)))) refl (record {
      output = inl (k.rest, made);
      sent = nothing_sent now;
      cause = tt;
      fails = record { read_failed = refl; write_failed = refl; on_wire = failed-more rs (Arrived d) so.passed };
      fits = refl;
      wires = inr (inr (now, refl));
    })
stopped s p q l m n Done es fs so t = absurd t.gives
stopped s p q l m n ReadFault es fs so t = absurd t.gives
stopped s p q l m n (Refused x) es fs so t = absurd t.gives
stopped s p q l m n NoMemory es fs so t = absurd t.gives

-- the address couldn't be had
pub unbound : (s : Settings) (m n : Meaning) → Step m (OnWire (Bound s.local false)) n → Performs (recv_job s) m n WireFault (OnWire (Bound s.local false) ∷ [])
unfolding take_frames
unbound s m n step = performs (recv_job s) m n WireFault (OnWire (Bound s.local false) ∷ []) (record nothing { wire = Bound s.local false ∷ [] })
    (trace_one m n (OnWire (Bound s.local false)) step) (tt, record { reads = refl; writes = refl; on_wire = refl }, tt) refl refl (record {
      output = refl;
      sent = refl;
      cause = tt;
      fails = record { read_failed = refl; write_failed = refl; on_wire = refl };
      fits = refl;
      wires = inr (inl refl);
    })

-- there was no memory
pub no_memory : (s : Settings) (m : Meaning) → Performs (recv_job s) m m NoMemory []
no_memory s m = performs (recv_job s) m m NoMemory [] nothing refl tt refl refl (record {
  output = refl;
  sent = tt;
  cause = (refl, refl, refl);
  fails = record { read_failed = refl; write_failed = refl; on_wire = refl };
  fits = refl;
  wires = inl refl;
})
