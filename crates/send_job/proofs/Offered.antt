-- A datagram that is offered again and again.
use Rattle.std.proofs.Common.{◌≡◌, ◌≤◌, ◌<◌, ◌+◌, ◌++◌, ◌||◌, ℕ, zero, suc, Bool, false, List, [], ◌∷◌, true, replicate, length-append, refl, sym, ◌∙◌, ap, subst, arith}
use Rattle.std.specs.List.{AllByRecursion, flat_map}
use Rattle.std.proofs.lemmas.List.{append-nil, map-append}
use Rattle.std.proofs.lemmas.List.Concat.{flat_map-append}
use Rattle.wire_model.specs.LinkAnswers.{LinkAnswer}
use Rattle.wire_model.specs.LinkAnswers as link
use Rattle.wire_model.specs.Receptions.{Reception}
use Rattle.relay_model.specs.Queue.{Tale}
use Rattle.sender_model.specs.Sending.{Takes}
use Rattle.sender_model.specs.SendingLaws.{DatagramIsTold}
use Rattle.scl_outside.specs.Meaning.{Meaning, Parcel, Reply}
use Rattle.scl_outside.specs.Events.{Event, WireEvent, OnWire, Offered, receptions_by, answers_by, parcels_by, wire_fails, name_fails}
use Rattle.scl_outside.specs.WireAnswers.{parcel}
use Rattle.scl_outside.specs.Steps.{Step}
use Rattle.scl_outside.specs.Effects.{Effects, nothing, effect_of, and_then, effects, receptions, answers, parcels, wire_failed, name_failed}
use Rattle.scl_outside.specs.Traces.{Trace, AtReads}
use Rattle.scl_outside.specs.Writing.{Never}
use Rattle.scl_outside.proofs.Traces.{trace_join, trace_one}
use Rattle.polled_datagrams.specs.Offers.{on_wire, replies_of, parcels_of}
use Rattle.polled_datagrams.proofs.Polling.{on_wire-append, replies_of-append, parcels_of-append}
use Rattle.send_job.specs.declared.offering.Fate.{Fate}
use Rattle.send_job.specs.declared.offering.Fate.TheVariants.{Sent, Lost, Failed}
use Rattle.send_job.specs.declared.counts.Counts.{Counts}
use Rattle.send_job.specs.Settings.{Settings}
use Rattle.send_job.specs.Naming.{named_by}
use Rattle.send_job.specs.Offering.{offered, IsFate, Offers, with_fate, total, AreCounts}
use Rattle.send_job.specs.Sending.{Wired}

-- a datagram was offered this number of times, and its link wasn't ready
pub record Waited (idle : ℕ) (d : List ℕ) (n : ℕ) (s t : Meaning) : Type 0 where
  pub trace : Trace s (on_wire (offered d (replicate n link.NotReady))) t
  pub peers : t.wire.peers ≡ s.wire.peers
  pub few : n ≤ idle

pub waited_none : (idle : ℕ) (d : List ℕ) (s : Meaning) → Waited idle d 0 s s
waited_none idle d s = record { trace = refl; peers = refl; few = omega arith }

replicate_more : (n : ℕ) → replicate n link.NotReady ++ link.NotReady ∷ [] ≡ replicate (n + 1) link.NotReady
replicate_more zero = refl
replicate_more (suc n) =
    let e : suc (n + 1) ≡ suc n + 1 = omega arith in
    ap (λ (l : List LinkAnswer). link.NotReady ∷ l) (replicate_more n) ∙ ap (λ (k : ℕ). replicate k link.NotReady) e

-- and once more
once_more : (idle n : ℕ) (d : List ℕ) (a : LinkAnswer) (s t u : Meaning) → Waited idle d n s t → Step t (OnWire (Offered (parcel 0 d) a)) u → Trace s (on_wire (offered d (replicate n link.NotReady ++ a ∷ []))) u
once_more idle n d a s t u w step =
    let e : on_wire (offered d (replicate n link.NotReady ++ a ∷ [])) ≡ on_wire (offered d (replicate n link.NotReady)) ++ OnWire (Offered (parcel 0 d) a) ∷ [] =
    ap on_wire (map-append (λ (b : LinkAnswer). Offered (parcel 0 d) b) (replicate n link.NotReady) (a ∷ [])) ∙ on_wire-append (offered d (replicate n link.NotReady)) (Offered (parcel 0 d) a ∷ []) in
    let P : List Event → Type 0 = λ l. Trace s l u in
    subst P (sym e) (trace_join s t u (on_wire (offered d (replicate n link.NotReady))) (OnWire (Offered (parcel 0 d) a) ∷ []) w.trace (trace_one t u (OnWire (Offered (parcel 0 d) a)) step))

offer_peers : (s t : Meaning) (p : Parcel) (a : LinkAnswer) → Step s (OnWire (Offered p a)) t → t.wire.peers ≡ s.wire.peers
offer_peers s t p a step = let (m, w, k) = step.wire in (let e = w.peers in let f = k.peers in omega (arith, e, f))

pub waited_more : (idle n : ℕ) (d : List ℕ) (s t u : Meaning) → Waited idle d n s t → n < idle → Step t (OnWire (Offered (parcel 0 d) link.NotReady)) u → Waited idle d (n + 1) s u
waited_more idle n d s t u w less step =
    let P : List LinkAnswer → Type 0 = λ l. Trace s (on_wire (offered d l)) u in
    record {
      trace = subst P (replicate_more n) (once_more idle n d link.NotReady s t u w step);
      peers = offer_peers t u (parcel 0 d) link.NotReady step ∙ w.peers;
      few = omega (arith, less);
    }

pub gone : (idle n : ℕ) (d : List ℕ) (s t u : Meaning) → Waited idle d n s t → n < idle → Step t (OnWire (Offered (parcel 0 d) link.Sent)) u → Offers idle d Sent s u
gone idle n d s t u w less step = record {
  given = replicate n link.NotReady ++ link.Sent ∷ [];
  by = (n, less, refl);
  trace = once_more idle n d link.Sent s t u w step;
  peers = offer_peers t u (parcel 0 d) link.Sent step ∙ w.peers;
}

pub failed : (idle n : ℕ) (d : List ℕ) (s t u : Meaning) → Waited idle d n s t → n < idle → Step t (OnWire (Offered (parcel 0 d) link.Failed)) u → Offers idle d Failed s u
failed idle n d s t u w less step = record {
  given = replicate n link.NotReady ++ link.Failed ∷ [];
  by = (n, less, refl);
  trace = once_more idle n d link.Failed s t u w step;
  peers = offer_peers t u (parcel 0 d) link.Failed step ∙ w.peers;
}

pub lost : (idle n : ℕ) (d : List ℕ) (s t : Meaning) → Waited idle d n s t → idle ≤ n → Offers idle d Lost s t
lost idle n d s t w most =
    let few = w.few in
    let e : n ≡ idle = omega (arith, most, few) in
    let P : ℕ → Type 0 = λ k. Trace s (on_wire (offered d (replicate k link.NotReady))) t in
    record { given = replicate idle link.NotReady; by = refl; trace = subst P e w.trace; peers = w.peers }

-- what went out by these ends of a datagram
abbrev pub gone_by : Fate → List ℕ → List (List ℕ)
gone_by Sent d = d ∷ []
gone_by Lost d = []
gone_by Failed d = []

-- a tale after a datagram with this end
abbrev pub tale_with : Tale → List ℕ → Fate → Tale
tale_with t d Sent = record t { sent = t.sent ++ d ∷ [] }
tale_with t d Lost = record t { lost = t.lost + 1 }
tale_with t d Failed = record t { failed = t.failed + 1 }

pub takes : (idle : ℕ) (t : Tale) (d : List ℕ) (fate : Fate) (given : List LinkAnswer) → DatagramIsTold → 1 ≤ idle → IsFate idle fate given → Takes idle t d given (tale_with t d fate)
takes idle t d Sent given told some (n, less, e) = let P : List LinkAnswer → Type 0 = λ l. Takes idle t d l (tale_with t d Sent) in subst P (sym e) (told.sent idle n t d less)
takes idle t d Failed given told some (n, less, e) = let P : List LinkAnswer → Type 0 = λ l. Takes idle t d l (tale_with t d Failed) in subst P (sym e) (told.failed idle n t d less)
takes idle t d Lost given told some e = let P : List LinkAnswer → Type 0 = λ l. Takes idle t d l (tale_with t d Lost) in subst P (sym e) (told.lost idle t d some)

pub sent_with : (t : Tale) (d : List ℕ) (fate : Fate) → (tale_with t d fate).sent ≡ t.sent ++ gone_by fate d
sent_with t d Sent = refl
sent_with t d Lost = sym (append-nil t.sent)
sent_with t d Failed = sym (append-nil t.sent)

pub counts_with : (c : Counts) (t : Tale) (d : List ℕ) (fate : Fate) → AreCounts c t → AreCounts (with_fate c fate) (tale_with t d fate)
counts_with c t d Sent h = record { sent = (let e = h.sent in omega (arith, e, length-append t.sent (d ∷ []))); lost = h.lost; failed = h.failed }
counts_with c t d Lost h = record { sent = h.sent; lost = (let e = h.lost in omega (arith, e)); failed = h.failed }
counts_with c t d Failed h = record { sent = h.sent; lost = h.lost; failed = (let e = h.failed in omega (arith, e)) }

pub total_with : (c : Counts) (fate : Fate) → total (with_fate c fate) ≡ total c + 1
total_with c Sent = omega arith
total_with c Lost = omega arith
total_with c Failed = omega arith

-- what offers of a datagram show
pub record OfferedBy (d : List ℕ) (given : List LinkAnswer) : Type 0 where
  pub replies : answers (offered d given) ≡ replies_of 0 given
  pub received : receptions (offered d given) ≡ []
  pub passed : wire_failed (offered d given) ≡ false
  pub names : flat_map named_by (offered d given) ≡ []

offers_show : (d : List ℕ) (given : List LinkAnswer) → OfferedBy d given
offers_show d [] = record { replies = refl; received = refl; passed = refl; names = refl }
offers_show d (a ∷ given) = let h = offers_show d given in record {
  replies = ap (λ (l : List Reply). record { peer = 0; answer = a } ∷ l) h.replies;
  received = h.received;
  passed = h.passed;
  names = h.names;
}

none_out : (d : List ℕ) (n : ℕ) (more : List LinkAnswer) → parcels (offered d (replicate n link.NotReady ++ more)) ≡ parcels (offered d more)
none_out d zero more = refl
none_out d (suc n) more = none_out d n more

all_lost : (d : List ℕ) (n : ℕ) → parcels (offered d (replicate n link.NotReady)) ≡ []
all_lost d zero = refl
all_lost d (suc n) = all_lost d n

parcels_out : (idle : ℕ) (d : List ℕ) (fate : Fate) (given : List LinkAnswer) → IsFate idle fate given → parcels (offered d given) ≡ parcels_of 0 (gone_by fate d)
parcels_out idle d Sent given (n, less, e) = ap (λ (l : List LinkAnswer). parcels (offered d l)) e ∙ none_out d n (link.Sent ∷ [])
parcels_out idle d Failed given (n, less, e) = ap (λ (l : List LinkAnswer). parcels (offered d l)) e ∙ none_out d n (link.Failed ∷ [])
parcels_out idle d Lost given e = ap (λ (l : List LinkAnswer). parcels (offered d l)) e ∙ all_lost d idle

failed-append : (vs ws : List WireEvent) → wire_failed (vs ++ ws) ≡ (wire_failed vs || wire_failed ws)
failed-append [] ws = refl
failed-append (v ∷ vs) ws = ap (λ (b : Bool). wire_fails v || b) (failed-append vs ws) ∙ or-assoc (wire_fails v) (wire_failed vs) (wire_failed ws) where
  or-assoc : (a b c : Bool) → (a || (b || c)) ≡ ((a || b) || c)
  or-assoc true b c = refl
  or-assoc false b c = refl

-- offers of one more datagram
pub wired_more : (s : Settings) (idle : ℕ) (wire : List WireEvent) (given new : List LinkAnswer) (sent : List (List ℕ)) (d : List ℕ) (fate : Fate) → Wired s wire given sent → IsFate idle fate new → Wired s (wire ++ offered d new) (given ++ new) (sent ++ gone_by fate d)
wired_more s idle wire given new sent d fate h by =
    let o = offers_show d new in
    let ws = offered d new in
    record {
      named = (h.named.0 ++ ws, ap (λ (l : List WireEvent). l ++ ws) h.named.1);
      names = flat_map-append named_by wire ws ∙ ap (λ (l : List (List ℕ)). flat_map named_by wire ++ l) o.names ∙ append-nil (flat_map named_by wire) ∙ h.names;
      replies = flat_map-append answers_by wire ws ∙ ap (λ (l : List Reply). l ++ answers ws) h.replies ∙ ap (λ (l : List Reply). replies_of 0 given ++ l) o.replies ∙ sym (replies_of-append 0 given new);
      parcels = flat_map-append parcels_by wire ws ∙ ap (λ (l : List Parcel). l ++ parcels ws) h.parcels ∙ ap (λ (l : List Parcel). parcels_of 0 sent ++ l) (parcels_out idle d fate new by) ∙ sym (parcels_of-append 0 sent (gone_by fate d));
      received = flat_map-append receptions_by wire ws ∙ ap (λ (l : List Reception). l ++ receptions ws) h.received ∙ o.received;
      passed = failed-append wire ws ∙ (let e = h.passed in let f = o.passed in rw (e, f) refl);
    }

names_more : (ws : List WireEvent) (p : Parcel) (a : LinkAnswer) → name_failed (ws ++ Offered p a ∷ []) ≡ name_failed ws
names_more [] p a = refl
names_more (w ∷ ws) p a = ap (λ (b : Bool). name_fails w || b) (names_more ws p a)

-- none of them asks for input
pub offers_read : (given : List LinkAnswer) (wire : List WireEvent) (d : List ℕ) → name_failed wire ≡ false → AtReads Never (record nothing { wire = wire }) (on_wire (offered d given))
offers_read [] wire d passed = tt
offers_read (a ∷ given) wire d passed = (
  tt,
  record { reads = refl; writes = refl; names = passed },
  offers_read given (wire ++ Offered (parcel 0 d) a ∷ []) d (names_more wire (parcel 0 d) a ∙ passed),
)

pub effects_on : (ws : List WireEvent) → effects (on_wire ws) ≡ record nothing { wire = ws }
effects_on [] = refl
effects_on (w ∷ ws) = ap (λ (f : Effects). and_then (effect_of (OnWire w)) f) (effects_on ws)

-- all of them are to the peer
pub one_peer : (given : List LinkAnswer) → AllByRecursion (λ (r : Reply). r.peer ≡ 0) (replies_of 0 given)
one_peer [] = tt
one_peer (a ∷ given) = (refl, one_peer given)
