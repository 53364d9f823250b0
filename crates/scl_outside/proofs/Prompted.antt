-- From what held before each read of a list of calls to what its marks say.
use Rattle.std.proofs.Common.{◌≡◌, ℕ, List, [], ◌∷◌, Bool, true, false, length, Option, Some, None, IfSome, refl, sym, ◌∙◌, ap, subst}
use Rattle.std.specs.Prelude.{MatchBool}
use Rattle.std.specs.List.{AllByRecursion, flat_map}
use Rattle.std.proofs.lemmas.List.{append-nil, take_at, drop_at}
use Rattle.std.proofs.lemmas.List.Concat.{flat_map-append}
use Rattle.wire_model.specs.Causes.{Grew}
use Rattle.wire_model.specs.Receptions.{Reception}
use Rattle.wire_model.specs.LinkAnswers.{Sent, NotReady, Failed}
use Rattle.scl_outside.specs.Meaning.{Meaning, Wire, Parcel}
use Rattle.scl_outside.specs.Events.{Event, WireEvent, Received, Offered, Bound, Joined, asks, datagram_in, received_by, arrivals_by, sent_by, parcels_by}
use Rattle.scl_outside.specs.Steps.{Marks, IsMarkOf, Moves, datagrams_of, WireTrace}
use Rattle.scl_outside.specs.Effects.{Effects, nothing, effect_of, and_then, effects, arrivals, parcels}
use Rattle.scl_outside.specs.Traces.{Trace, AtReads, Affects}
use Rattle.scl_outside.specs.Prompt.{IsPart, IsDoneBy, Prompt}
use Rattle.scl_outside.specs.declared.duct.Mark.{Mark}
use Rattle.scl_outside.proofs.Affects.{grew_join, grew_same, step_affects, affects_join, affects_none, trace_affects}

-- datagrams that came, and then others
datagrams_grew : (o p : Option (List Reception)) (rs : List Reception) → Grew o p rs → Grew (datagrams_of o) (datagrams_of p) (flat_map datagram_in rs)
datagrams_grew o None rs g = tt
datagrams_grew None (Some y) rs g = absurd g
datagrams_grew (Some x) (Some y) rs g = ap (λ (l : List Reception). flat_map datagram_in l) g ∙ flat_map-append datagram_in x rs

one_arrival : (w : WireEvent) (o p : Option (List Reception)) → Moves o p (received_by w) → Grew (datagrams_of o) (datagrams_of p) (arrivals_by w)
one_arrival (Received r) o p h = let P : List (List ℕ) → Type 0 = λ l. Grew (datagrams_of o) (datagrams_of p) l in subst P (append-nil (datagram_in r)) (datagrams_grew o p (r ∷ []) h)
one_arrival (Offered parcel answer) o p h = grew_same (datagrams_of o) (datagrams_of p) (ap datagrams_of h)
one_arrival (Bound text done) o p h = grew_same (datagrams_of o) (datagrams_of p) (ap datagrams_of h)
one_arrival (Joined text done) o p h = grew_same (datagrams_of o) (datagrams_of p) (ap datagrams_of h)

-- what calls of the wire brought in
pub arrived : (s t : Wire) (ws : List WireEvent) → WireTrace s ws t → Grew (datagrams_of s.received) (datagrams_of t.received) (arrivals ws)
arrived s t [] k = grew_same (datagrams_of s.received) (datagrams_of t.received) (ap datagrams_of k.received)
arrived s t (w ∷ ws) (m, step, rest) =
    grew_join (datagrams_of s.received) (datagrams_of m.received) (datagrams_of t.received) (arrivals_by w) (arrivals ws) (one_arrival w s.received m.received step.received) (arrived m t ws rest)

one_sent : (w : WireEvent) (o p : Option (List Parcel)) → Moves o p (sent_by w) → Grew o p (parcels_by w)
one_sent (Received r) o p h = grew_same o p h
one_sent (Offered parcel Sent) o p h = h
one_sent (Offered parcel NotReady) o p h = h
one_sent (Offered parcel Failed) o p h = h
one_sent (Bound text done) o p h = grew_same o p h
one_sent (Joined text done) o p h = grew_same o p h

-- what they sent
pub sent : (s t : Wire) (ws : List WireEvent) → WireTrace s ws t → Grew s.sent t.sent (parcels ws)
sent s t [] k = grew_same s.sent t.sent k.sent
sent s t (w ∷ ws) (m, step, rest) = grew_join s.sent m.sent t.sent (parcels_by w) (parcels ws) (one_sent w s.sent m.sent step.sent) (sent m t ws rest)

-- what was added by a place of a list, whatever came after it
part_by : {A : Type 0} (was mid now : Option (List A)) (xs ys : List A) (n : ℕ) → Grew was mid xs → Grew mid now ys → IfSome mid (λ l. n ≡ length l) → IsPart was now n xs
part_by None mid now xs ys n p q k = tt
part_by (Some w) mid None xs ys n p q k = tt
part_by (Some w) None (Some z) xs ys n p q k = absurd q
part_by (Some w) (Some m) (Some z) xs ys n p q k = rw (q, take_at m ys n (sym k), p, drop_at w xs (length w) refl) refl

-- what was done by a mark
done_by : (s m t : Meaning) (f g : Effects) (mark : Mark) → Affects s f m → Affects m g t → IsMarkOf m mark → IsDoneBy s t mark f
done_by s m t f g mark a b is = record {
  read = part_by s.read m.read t.read f.read g.read mark.read a.read b.read is.read;
  arrived = part_by (datagrams_of s.wire.received) (datagrams_of m.wire.received) (datagrams_of t.wire.received) (arrivals f.wire) (arrivals g.wire) mark.received (arrived s.wire m.wire f.wire a.wire) (arrived m.wire t.wire g.wire b.wire) is.received;
  written = part_by s.written m.written t.written f.written g.written mark.written a.written b.written is.written;
  sent = part_by s.wire.sent m.wire.sent t.wire.sent (parcels f.wire) (parcels g.wire) mark.sent (sent s.wire m.wire f.wire a.wire) (sent m.wire t.wire g.wire b.wire) is.sent;
}

-- the marks of calls from some moment on
abbrev pub Marked : (Effects → Type 0) → Meaning → Meaning → Meaning → Type 0
Marked P s m t = (marks : List Mark) × Grew m.marks t.marks marks × AllByRecursion (λ mark. (f : Effects) × IsDoneBy s t mark f × P f) marks

-- one more call before those
asked : (P : Effects → Type 0) (b : Bool) (s m n t : Meaning) (done more : Effects) → Affects s done m → Affects m more t
    → (new : Option (List Mark)) → n.marks ≡ new → Marks b m new → MatchBool b (P done) (Unit {0}) → Marked P s n t → Marked P s m t
asked P false s m n t done more a b new e stays p later = (later.0, rw (sym (e ∙ stays)) later.1, later.2)
asked P true s m n t done more a b None e added p (marks, grew, all) = (marks, untold t.marks (rw e at grew), all) where
  untold : (o : Option (List Mark)) → Grew None o marks → Grew m.marks o marks
  untold None g = tt
  untold (Some now) g = absurd g
asked P true s m n t done more a b (Some now) e (mark, is, grew) p later = (
  mark ∷ later.0,
  grew_join m.marks n.marks t.marks (mark ∷ []) later.0 (rw e grew) later.1,
  ((done, done_by s m t done more mark a b is, p), later.2),
)

-- the rest of a list of calls, from the place where this was done
trace_marks : (P : Effects → Type 0) (s m t : Meaning) (es : List Event) (done : Effects) → Affects s done m → Trace m es t → AtReads P done es → Marked P s m t
trace_marks P s m t [] done a e p = ([], grew_same m.marks t.marks (ap (λ (x : Meaning). x.marks) e), tt)
trace_marks P s m t (e ∷ es) done a (n, step, rest) p =
    let here = step_affects m e n step in
    let later = trace_marks P s n t es (and_then done (effect_of e)) (affects_join s m n done (effect_of e) a here) rest p.2 in
    asked P (asks e) s m n t done (effects (e ∷ es)) a (trace_affects m t (e ∷ es) (n, step, rest)) n.marks refl step.marks p.0 later

-- what held before each read of a list of calls is what its marks say
pub prompt : (P : Effects → Type 0) (s t : Meaning) (es : List Event) → Trace s es t → AtReads P nothing es → Prompt P s t
prompt P s t es trace p = trace_marks P s s t es nothing (affects_none s) trace p
