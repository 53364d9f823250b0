-- The datagrams that were sent so far.
use Rattle.std.proofs.Common.{◌≡◌, ◌≤◌, ◌<◌, ◌-◌, ◌++◌, ℕ, List, [], ◌∷◌, refl, sym, ◌∙◌, ap, subst, arith, length-append}
use Rattle.std.proofs.lemmas.List.{append-nil}
use Rattle.wire_model.specs.LinkAnswers.{LinkAnswer}
use Rattle.relay_model.specs.Queue.{Tale, untold, send_tale}
use Rattle.stream_model.specs.Commands.{counted}
use Rattle.stream_model.specs.Cut.{Plan}
use Rattle.sender_model.specs.Closing.{closed}
use Rattle.sender_model.specs.Lead.{LeavesOpen}
use Rattle.sender_model.specs.Sending.{HasTaken}
use Rattle.sender_model.specs.SendingLaws.{DatagramIsTold, SendingIsTold}
use Rattle.scl_outside.specs.Meaning.{Meaning, Reply}
use Rattle.scl_outside.specs.Events.{Event, WireEvent}
use Rattle.scl_outside.specs.Effects.{Effects, HasPassed, nothing, only_read, and_then, effects, parcels}
use Rattle.scl_outside.specs.Traces.{Trace, AtReads}
use Rattle.scl_outside.specs.Writing.{Never}
use Rattle.scl_outside.proofs.Traces.{trace_join, effects_then, at_reads_then, has_passed}
use Rattle.scl_outside.proofs.Affects.{trace_affects}
use Rattle.scl_outside.specs.Steps.{WireTrace}
use Rattle.scl_outside.specs.Meaning.{Wire}
use Rattle.scl_outside.specs.declared.outside.BindOut.TheVariants as bind
use Rattle.polled_datagrams.specs.Offers.{on_wire, answers_to, parcels_of}
use Rattle.polled_datagrams.proofs.Polling.{answers_own}
use Rattle.packetiser.specs.Packing.{Packing}
use Rattle.packetiser.specs.declared.packetiser.PackOut.{PackOut}
use Rattle.packetiser.specs.declared.packetiser.PackOut.TheVariants as out
use Rattle.packetiser.specs.Sending.{Sender, IsSender, Asks, Answers, Sends}
use Rattle.pack_job.proofs.Octets.{octets_are}
use Rattle.pack_job.proofs.Turns.{sends_by}
use Rattle.scl_run.specs.Job.{Seen, seen}
use Rattle.scl_run.specs.Performing.{IsSoFar}
use Rattle.send_job.specs.declared.offering.Fate.{Fate}
use Rattle.send_job.specs.declared.counts.Counts.{Counts}
use Rattle.send_job.specs.Settings.{Settings}
use Rattle.send_job.specs.Naming.{Names, naming}
use Rattle.send_job.specs.Offering.{offered, Offers, with_fate, total}
use Rattle.send_job.specs.Job.{link_answers, tale_of, SendsTold, send_job}
use Rattle.send_job.specs.Sending.{Wired, Sent}
use Rattle.send_job.proofs.Offered.{tale_with, takes, sent_with, counts_with, total_with, wired_more, offers_read, effects_on}

-- these bytes were read and these calls of the wire were made, and nothing else was done
abbrev pub did : List ℕ → List WireEvent → Effects
did read wire = record nothing { read = read; wire = wire }

-- the addresses are named, and nothing is sent yet
pub begun : (s : Settings) (m n : Meaning) (v : Packing) (c : Counts) → SendingIsTold → c ≡ record { sent = 0; lost = 0; failed = 0 } → v.plan ≡ s.plan → Sender s.plan [] [] v → Names s bind.Bound m n → Sent s m n v c (on_wire (naming s))
begun s m n v c told zero plan sender named =
    let C : Counts → Type 0 = λ k. Sent s m n v k (on_wire (naming s)) in
    subst C (sym zero) (record {
      trace = named.0;
      so_far = (tt, record { reads = refl; writes = refl; on_wire = refl }, (tt, record { reads = refl; writes = refl; on_wire = refl }, tt));
      read = [];
      datagrams = [];
      wire = naming s;
      given = [];
      tale = untold;
      done = refl;
      wired = record { named = ([], refl); names = refl; replies = refl; parcels = refl; received = refl; passed = refl };
      taken = told.none s.idle;
      plan = plan;
      sender = sender;
      counts = record { sent = refl; lost = refl; failed = refl };
      all = refl;
      peers = named.1;
    })

-- a sender of a plan
pub is_sender : (s : Settings) (m n : Meaning) (v : Packing) (c : Counts) (es : List Event) → Sent s m n v c es → IsSender v
is_sender s m n v c es so = (so.read, so.datagrams, (let P : Plan → Type 0 = λ q. Sender q so.read so.datagrams v in subst P (sym so.plan) so.sender))

-- the answers of the link, among those of all links
link_given : (s : Settings) (read : List ℕ) (wire : List WireEvent) (given : List LinkAnswer) (sent : List (List ℕ)) → Wired s wire given sent → link_answers (seen read wire) ≡ given
link_given s read wire given sent w = ap (λ (l : List Reply). answers_to 0 l) w.replies ∙ answers_own 0 given

-- the tale of what was offered is that of the bytes read
pub tale_is : (s : Settings) (x : Seen) (datagrams : List (List ℕ)) (given : List LinkAnswer) (tale : Tale) → SendingIsTold → datagrams ≡ closed s.plan (counted x.read) → link_answers x ≡ given → HasTaken s.idle datagrams given tale → tale_of s x ≡ tale
tale_is s x datagrams given tale told all own taken =
    ap (λ (l : List LinkAnswer). send_tale s.idle 0 untold (closed s.plan (counted x.read)) l) own
    ∙ ap (λ (l : List (List ℕ)). send_tale s.idle 0 untold l given) (sym all)
    ∙ told.whole s.idle datagrams given tale taken

-- and what was sent is told by it
pub sends_told : (s : Settings) (read : List ℕ) (wire : List WireEvent) (datagrams : List (List ℕ)) (given : List LinkAnswer) (tale : Tale) → SendingIsTold → datagrams ≡ closed s.plan (counted read) → Wired s wire given tale.sent → HasTaken s.idle datagrams given tale
    → (tale_of s (seen read wire) ≡ tale) × SendsTold s (seen read wire) (parcels wire)
sends_told s read wire datagrams given tale told all w taken =
    let x = seen read wire in
    let own = link_given s read wire given tale.sent w in
    let is = tale_is s x datagrams given tale told all own taken in
    let D : List (List ℕ) → Type 0 = λ l. HasTaken s.idle l (link_answers x) (tale_of s x) in
    let A : List LinkAnswer → Type 0 = λ l. HasTaken s.idle datagrams l (tale_of s x) in
    let T : Tale → Type 0 = λ t. HasTaken s.idle datagrams given t in (
      is,
      record {
        taken = subst D all (subst A (sym own) (subst T (sym is) taken));
        sent = w.parcels ∙ ap (λ (t : Tale). parcels_of 0 t.sent) (sym is);
      },
    )

-- no call failed so far
pub so_passed : (s : Settings) (m n : Meaning) (v : Packing) (c : Counts) (es : List Event) → Sent s m n v c es → HasPassed (effects es)
so_passed s m n v c es so = has_passed (effects es) (did so.read so.wire) so.done (record { reads = refl; writes = refl; on_wire = so.wired.passed })

-- before each further read
waiting : (s : Settings) (m n : Meaning) (v : Packing) (c : Counts) (es : List Event) → SendingIsTold → (so : Sent s m n v c es) → (f : Effects) → Asks s.plan so.read so.datagrams f → IsSoFar (send_job s) (and_then (effects es) f)
waiting s m n v c es told so f k =
    let read = so.read ++ f.read in
    let all : and_then (effects es) f ≡ did read so.wire =
    ap (λ (x : Effects). and_then x f) so.done ∙ ap (λ (x : Effects). and_then (did so.read so.wire) x) k.reads ∙ ap (λ (l : List WireEvent). did read l) (append-nil so.wire) in
    let P : Effects → Type 0 = λ x. IsSoFar (send_job s) x in
    let L : List ℕ → Type 0 = λ l. LeavesOpen s.plan l in
    subst P (sym all) (record {
      made = refl;
      sent = (sends_told s read so.wire so.datagrams so.given so.tale told k.all so.wired so.taken).1;
      goes_on = refl;
      asks = record { wants = subst L (sym (octets_are read k.are_bytes)) k.leaves_open; named = so.wired.named };
    })

-- What a step of the sender did after that.
pub record Stepped (s : Settings) (m u : Meaning) (es : List Event) : Type 0 where
  pub trace : Trace m es u
  pub so_far : AtReads (IsSoFar (send_job s)) nothing es

pub stepped : (s : Settings) (m n u : Meaning) (v w : Packing) (c : Counts) (a : PackOut) (es fs : List Event) → SendingIsTold → Sent s m n v c es → Sends v n u a w fs → Stepped s m u (es ++ fs)
stepped s m n u v w c a es fs told so k = record {
  trace = trace_join m n u es fs so.trace k.trace;
  so_far = at_reads_then (Asks s.plan so.read so.datagrams) (IsSoFar (send_job s)) es fs so.so_far (so_passed s m n v c es so) (waiting s m n v c es told so) (sends_by s.plan v w n u a fs so.read so.datagrams so.plan so.sender k).0;
}

-- what a step says of its datagram
pub answered : (s : Settings) (m n u : Meaning) (v w : Packing) (c : Counts) (a : PackOut) (es fs : List Event) → (so : Sent s m n v c es) → Sends v n u a w fs → Answers s.plan a (so.read ++ (effects fs).read) so.datagrams w
answered s m n u v w c a es fs so k = (sends_by s.plan v w n u a fs so.read so.datagrams so.plan so.sender k).1

-- a step makes no call of the wire
wire_kept : (s t : Wire) (ws : List WireEvent) → ws ≡ [] → WireTrace s ws t → t.peers ≡ s.peers
wire_kept s t [] e h = h.peers
wire_kept s t (w ∷ ws) e h = absurd (cc)

pub peers_after : (s : Settings) (m n u : Meaning) (v w : Packing) (c : Counts) (es fs : List Event) → Sent s m n v c es → Sends v n u out.Datagram w fs → u.wire.peers ≡ 1
peers_after s m n u v w c es fs so k =
    wire_kept n.wire u.wire (effects fs).wire (ap (λ (f : Effects). f.wire) k.only) (trace_affects n u fs k.trace).wire ∙ so.peers

pub few_counted : (s : Settings) (m n u : Meaning) (v w : Packing) (c : Counts) (es fs : List Event) → Sent s m n v c es → Sends v n u out.Datagram w fs → total c < 8388607
few_counted s m n u v w c es fs so k =
    let a = (answered s m n u v w c out.Datagram es fs so k).0 in
    let few = a.few in
    let all = so.all in
    omega (arith, few, all, length-append so.datagrams (w.shown ∷ []))

-- each datagram is one more of at most 8,388,607
pub further : (s : Settings) (m n u : Meaning) (v w : Packing) (c : Counts) (es fs : List Event) → Sent s m n v c es → Sends v n u out.Datagram w fs → 8388607 - w.given < 8388607 - v.given
further s m n u v w c es fs so k =
    let a = (answered s m n u v w c out.Datagram es fs so k).0 in
    let one = a.count in
    let few = a.few in
    let before = so.sender.count in
    omega (arith, one, few, before, length-append so.datagrams (w.shown ∷ []))

-- no call failed, the offers included
did_passed : (es : List Event) (read : List ℕ) (wire : List WireEvent) (s : Settings) (given : List LinkAnswer) (sent : List (List ℕ)) → effects es ≡ did read wire → Wired s wire given sent → HasPassed (effects es)
did_passed es read wire s given sent e w = has_passed (effects es) (did read wire) e (record { reads = refl; writes = refl; on_wire = w.passed })

pub after_step : (s : Settings) (m n : Meaning) (v : Packing) (c : Counts) (es fs : List Event) → (so : Sent s m n v c es) → effects fs ≡ only_read (effects fs).read → effects (es ++ fs) ≡ did (so.read ++ (effects fs).read) so.wire
after_step s m n v c es fs so reads = effects_then es fs _ _ so.done reads ∙ ap (λ (l : List WireEvent). did (so.read ++ (effects fs).read) l) (append-nil so.wire)

-- a datagram was offered and counted
pub datagram_sent : (s : Settings) (m n u z : Meaning) (v w : Packing) (c : Counts) (fate : Fate) (es fs : List Event) → DatagramIsTold → SendingIsTold → 1 ≤ s.idle → Sent s m n v c es → Sends v n u out.Datagram w fs → (o : Offers s.idle w.shown fate u z)
    → Sent s m z w (with_fate c fate) ((es ++ fs) ++ on_wire (offered w.shown o.given))
datagram_sent s m n u z v w c fate es fs each told some so k o =
    let read = so.read ++ (effects fs).read in
    let ws = offered w.shown o.given in
    let step = stepped s m n u v w c out.Datagram es fs told so k in
    let before = after_step s m n v c es fs so k.only in
    let more = wired_more s s.idle so.wire so.given o.given so.tale.sent w.shown fate so.wired o.by in
    let W : List (List ℕ) → Type 0 = λ l. Wired s (so.wire ++ ws) (so.given ++ o.given) l in
    let all = so.all in
    let same = total_with c fate in
    record {
      trace = trace_join m u z (es ++ fs) (on_wire ws) step.trace o.trace;
      so_far = at_reads_then Never (IsSoFar (send_job s)) (es ++ fs) (on_wire ws) step.so_far (did_passed (es ++ fs) read so.wire s so.given so.tale.sent before so.wired) (λ f i. absurd i) (offers_read o.given [] w.shown refl);
      read = read;
      datagrams = so.datagrams ++ w.shown ∷ [];
      wire = so.wire ++ ws;
      given = so.given ++ o.given;
      tale = tale_with so.tale w.shown fate;
      done = effects_then (es ++ fs) (on_wire ws) _ _ before (effects_on ws) ∙ ap (λ (l : List ℕ). did l (so.wire ++ ws)) (append-nil read);
      wired = subst W (sym (sent_with so.tale w.shown fate)) more;
      taken = told.more s.idle so.datagrams so.given o.given so.tale (tale_with so.tale w.shown fate) w.shown so.taken (takes s.idle so.tale w.shown fate o.given each some o.by);
      plan = k.plan ∙ so.plan;
      sender = (answered s m n u v w c out.Datagram es fs so k).0;
      counts = counts_with c so.tale w.shown fate so.counts;
      all = omega (arith, all, same, length-append so.datagrams (w.shown ∷ []));
      peers = o.peers ∙ peers_after s m n u v w c es fs so k;
    }
