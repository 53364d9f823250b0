-- What was sent is told by the cut.
use Rattle.std.proofs.Common.{◌≡◌, ◌≢◌, ◌≤◌, ◌<◌, ◌+◌, ◌++◌, ℕ, List, [], ◌∷◌, length, refl, sym, ◌∙◌, ap, subst, inl, inr, append_assoc}
use Rattle.std.proofs.lemmas.List.{append-nil}
use Rattle.std.specs.List.{AllByRecursion}
use Rattle.wire_model.specs.Bytes.{IsBytes}
use Rattle.wire_model.specs.LinkAnswers.{LinkAnswer}
use Rattle.wire_model.specs.LinkAnswers as link
use Rattle.relay_model.specs.Queue.{Tale, untold, send_tale}
use Rattle.stream_model.specs.Commands.{counted}
use Rattle.stream_model.specs.Cut.{IsPlan, IsCut, room}
use Rattle.sender_model.specs.Closing.{closed}
use Rattle.sender_model.specs.Lead.{LeavesOpen, carried_bytes}
use Rattle.sender_model.specs.Outputs.{send_line}
use Rattle.sender_model.specs.Refusals.{SenderAccepts}
use Rattle.sender_model.specs.SendingLaws.{SendingIsTold}
use Rattle.sender_model.proofs.Ahead.{reads_little_ahead}
use Rattle.sender_model.proofs.Refused.{accepted_is_cut, all_counted}
use Rattle.scl_outside.specs.Meaning.{Parcel}
use Rattle.scl_outside.specs.Events.{Event, WireEvent, Took, Ended, ReadFailed, Wrote, WriteFailed, Noted, OnWire}
use Rattle.scl_outside.specs.Effects.{Effects, nothing, effect_of, and_then, effects, parcels}
use Rattle.scl_outside.specs.Traces.{AtReads}
use Rattle.scl_outside.proofs.Traces.{and_then-assoc}
use Rattle.scl_outside.proofs.ReadBytes.{all_bytes}
use Rattle.polled_datagrams.specs.Offers.{sent_to, parcels_of}
use Rattle.pack_job.proofs.Octets.{octets_are}
use Rattle.pack_job.proofs.Promised.{fixed_by, within_lead}
use Rattle.scl_run.specs.declared.ending.Ending.{Ending}
use Rattle.scl_run.specs.declared.ending.Ending.TheVariants.{Done, ReadFault, WriteFault, WireFault, Refused, NoMemory}
use Rattle.scl_run.specs.Endings.{status_of}
use Rattle.scl_run.specs.Job.{seen}
use Rattle.scl_run.specs.Performing.{IsSoFar, EndsAs}
use Rattle.send_job.specs.Settings.{Settings}
use Rattle.send_job.specs.Naming.{BeginsNamed}
use Rattle.send_job.specs.Job.{SendsTold, send_job}
use Rattle.send_job.specs.SentStreams.{answered, told_of, AreTold, SentSoFar, HasRead, IsWhole, EndsSent, SentAtEnd}
use Rattle.send_job.proofs.Ended.{nothing_sent}

-- what is sent is told of the datagrams that the bytes read fix
are_told : (s : Settings) (f : Effects) → IsBytes f.read → SendsTold s (seen f.read f.wire) (parcels f.wire) → AreTold s f (closed s.plan (counted f.read))
are_told s f are h = record { fixed = fixed_by s.plan f.read are; taken = h.taken; sent = h.sent }

-- where a link took each datagram, all are sent
all_taken : (idle : ℕ) (t : Tale) (datagrams : List (List ℕ)) (answers : List LinkAnswer) → AllByRecursion (λ a. a ≡ link.Sent) answers → (send_tale idle 0 t datagrams answers).left ≡ [] → (send_tale idle 0 t datagrams answers).sent ≡ t.sent ++ datagrams
unfolding send_tale
all_taken idle t [] answers all none = sym (append-nil t.sent)
all_taken idle t (d ∷ datagrams) [] all none = absurd (cc)
all_taken idle t (d ∷ datagrams) (link.Sent ∷ answers) all none = all_taken idle (record t { sent = t.sent ++ d ∷ [] }) datagrams answers all.1 none ∙ append_assoc t.sent (d ∷ []) datagrams
all_taken idle t (d ∷ datagrams) (link.NotReady ∷ answers) all none = absurd (let e = all.0 in cc)
all_taken idle t (d ∷ datagrams) (link.Failed ∷ answers) all none = absurd (let e = all.0 in cc)

own_parcels : (datagrams : List (List ℕ)) → sent_to 0 (parcels_of 0 datagrams) ≡ datagrams
own_parcels [] = refl
own_parcels (d ∷ datagrams) = ap (λ (l : List (List ℕ)). d ∷ l) (own_parcels datagrams)

pub sent_so_far : SendingIsTold → SentSoFar
sent_so_far told s f plan are so =
    let L : List ℕ → Type 0 = λ l. LeavesOpen s.plan l in
    let open_yet : LeavesOpen s.plan f.read = subst L (octets_are f.read are) so.asks.wants in
    let all = closed s.plan (counted f.read) in
    let ahead : length f.read < carried_bytes (closed s.plan (counted f.read)) + room s.plan + 65537 = reads_little_ahead s.plan f.read plan are open_yet in
    let t = are_told s f are so.sent in
    record {
      datagrams = all;
      told = t;
      written = so.made;
      named = so.asks.named;
      lead = λ taken.
          let out : (told_of s all f).sent ≡ all = all_taken s.idle untold all (answered f) taken t.taken.left in
          let same : sent_to 0 (parcels f.wire) ≡ all = ap (λ (l : List Parcel). sent_to 0 l) t.sent ∙ own_parcels (told_of s all f).sent ∙ out in
          let C : List (List ℕ) → Type 0 = λ l. length f.read ≤ carried_bytes l + 90000 in
          subst C (sym same) (within_lead (length f.read) (carried_bytes all) (room s.plan) s.plan.mtu ahead refl plan.greatest_mtu);
    }

-- addresses stay named
still_named : (s : Settings) (wire more : List WireEvent) → BeginsNamed s wire → BeginsNamed s (wire ++ more)
still_named s wire more (later, e) = (later ++ more, ap (λ (l : List WireEvent). l ++ more) e)

-- whatever call comes between
passed_by : (s : Settings) (done : Effects) (e : Event) (es : List Event) → BeginsNamed s ((and_then done (effect_of e)).wire ++ (effects es).wire) → BeginsNamed s (done.wire ++ (effects (e ∷ es)).wire)
passed_by s done e es h = let P : Effects → Type 0 = λ f. BeginsNamed s f.wire in subst P (and_then-assoc done (effect_of e) (effects es)) h

-- both addresses were named before a read
pub named_before : (s : Settings) (done : Effects) (es : List Event) → AtReads (IsSoFar (send_job s)) done es → HasRead (effects es) → BeginsNamed s (done.wire ++ (effects es).wire)
named_before s done [] at (inl some) = absurd (some refl)
named_before s done [] at (inr (inl e)) = absurd (cc)
named_before s done [] at (inr (inr e)) = absurd (cc)
named_before s done (Took bytes ∷ es) at has = still_named s done.wire (effects es).wire at.0.asks.named
named_before s done (Ended ∷ es) at has = still_named s done.wire (effects es).wire at.0.asks.named
named_before s done (ReadFailed ∷ es) at has = still_named s done.wire (effects es).wire at.0.asks.named
named_before s done (Wrote bytes ∷ es) at has = passed_by s done (Wrote bytes) es (named_before s (and_then done (effect_of (Wrote bytes))) es at.2 has)
named_before s done (WriteFailed bytes ∷ es) at has = passed_by s done (WriteFailed bytes) es (named_before s (and_then done (effect_of (WriteFailed bytes))) es at.2 has)
named_before s done (Noted line ∷ es) at has = passed_by s done (Noted line) es (named_before s (and_then done (effect_of (Noted line))) es at.2 has)
named_before s done (OnWire w ∷ es) at has = passed_by s done (OnWire w) es (named_before s (and_then done (effect_of (OnWire w))) es at.2 has)

-- nothing is sent where nothing was read and no call of the wire was made
untouched : (s : Settings) (f : Effects) → SendingIsTold → f.read ≡ [] → f.wire ≡ [] → SendsTold s (seen f.read f.wire) (parcels f.wire)
untouched s f told none quiet =
    let R : List ℕ → Type 0 = λ l. SendsTold s (seen l f.wire) (parcels f.wire) in
    let W : List WireEvent → Type 0 = λ l. SendsTold s (seen [] l) (parcels l) in
    subst R (sym none) (subst W (sym quiet) (nothing_sent s [] told refl refl))

-- an ending without the line
quiet : (s : Settings) (status : ℕ) (f : Effects) → status ≢ 0 → status ≢ 4 → IsBytes f.read → SendsTold s (seen f.read f.wire) (parcels f.wire) → f.written ≡ [] → (HasRead f → BeginsNamed s f.wire) → EndsSent s status f
quiet s status f not_done not_broken are sent written named = record {
  datagrams = closed s.plan (counted f.read);
  told = are_told s f are sent;
  whole = λ e. absurd (not_done e);
  silent = λ a b. written;
  broken_off = λ e. absurd (not_broken e);
  named = named;
}

-- a finished run
whole : (s : Settings) (f : Effects) → IsPlan s.plan → IsBytes f.read → EndsAs (send_job s) Done f → IsWhole s f (closed s.plan (counted f.read))
whole s f plan are ends =
    let codestreams = ends.cause.0.0.0 in
    let A : List ℕ → Type 0 = λ l. SenderAccepts s.plan l codestreams in
    let a : SenderAccepts s.plan f.read codestreams = subst A (octets_are f.read are) ends.cause.0.0.1 in
    let counts : counted f.read ≡ f.read = all_counted f.read a.is_input.within in
    let C : List ℕ → Type 0 = λ l. IsCut s.plan codestreams (closed s.plan l) in
    record {
      codestreams = codestreams;
      is_input = a.is_input;
      is_cut = subst C (sym counts) (accepted_is_cut s.plan f.read codestreams plan are a).3;
      written = ends.output;
      named = ends.cause.1;
    }

-- how each run ends
by_ending : (s : Settings) (ending : Ending) (f : Effects) → SendingIsTold → IsPlan s.plan → IsBytes f.read → (HasRead f → BeginsNamed s f.wire) → EndsAs (send_job s) ending f → EndsSent s (status_of ending) f
by_ending s Done f told plan are named ends = record {
  datagrams = closed s.plan (counted f.read);
  told = are_told s f are ends.sent;
  whole = λ e. whole s f plan are ends;
  silent = λ a b. absurd (a refl);
  broken_off = λ e. absurd (cc);
  named = named;
}
by_ending s ReadFault f told plan are named ends = quiet s 3 f (λ e. absurd (cc)) (λ e. absurd (cc)) are ends.sent ends.output named
by_ending s WriteFault f told plan are named ends = record {
  datagrams = closed s.plan (counted f.read);
  told = are_told s f are ends.sent;
  whole = λ e. absurd (cc);
  silent = λ a b. absurd (b refl);
  broken_off = λ e. (elim ends.output [
    | inl (rest, none) ↦ (send_line (length (closed s.plan (counted f.read))) (told_of s (closed s.plan (counted f.read)) f), ap (λ (l : List ℕ). l ++ send_line (length (closed s.plan (counted f.read))) (told_of s (closed s.plan (counted f.read)) f)) (nothing_first f.written rest none))
    | inr (done, prefix) ↦ prefix
  ]);
  named = named;
} where
  nothing_first : (front rest : List ℕ) → [] ≡ front ++ rest → [] ≡ front
  nothing_first [] rest e = refl
  nothing_first (b ∷ front) rest e = absurd (cc)
by_ending s WireFault f told plan are named ends = quiet s 5 f (λ e. absurd (cc)) (λ e. absurd (cc)) are ends.sent ends.output named
by_ending s (Refused r) f told plan are named ends = quiet s 6 f (λ e. absurd (cc)) (λ e. absurd (cc)) are ends.sent ends.output named
by_ending s NoMemory f told plan are named ends = quiet s 7 f (λ e. absurd (cc)) (λ e. absurd (cc)) are (untouched s f told ends.cause.0 ends.cause.2) ends.output named

pub sent_at_end : SendingIsTold → SentAtEnd
sent_at_end told s m n ending plan run =
    by_ending s ending (effects run.events) told plan (all_bytes m n run.events run.trace) (λ has. named_before s nothing run.events run.so_far has) run.ends
