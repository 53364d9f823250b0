-- Addresses that are named one after another.
use Rattle.std.proofs.Common.{◌≡◌, ◌<◌, ◌+◌, ◌++◌, ℕ, Bool, true, false, List, [], ◌∷◌, Some, length, map, get_or, refl, sym, ◌∙◌, ap, subst, arith, append_assoc}
use Rattle.std.specs.Prelude.{slice_get, drop}
use Rattle.std.specs.List.{flat_map}
use Rattle.std.proofs.lemmas.List.{append-nil}
use Rattle.std.proofs.lemmas.List.Concat.{flat_map-append}
use Rattle.relay_model.specs.Queue.{Tale, untold}
use Rattle.relay_model.specs.Relays.{relay_tale}
use Rattle.relay_model.proofs.Tales.{turns_told, flushes_told}
use Rattle.scl_outside.specs.Meaning.{Meaning, Parcel, Reply}
use Rattle.scl_outside.specs.Events.{Event, WireEvent, OnWire, Bound, Joined, receptions_by, answers_by, parcels_by}
use Rattle.scl_outside.specs.Steps.{Step}
use Rattle.scl_outside.specs.Effects.{Effects, nothing, receptions, answers, parcels, wire_failed}
use Rattle.scl_outside.specs.Traces.{Trace, AtReads}
use Rattle.scl_outside.proofs.Traces.{trace_join, trace_one, at_reads_join}
use Rattle.polled_datagrams.specs.Offers.{on_wire, answers_to, sent_to}
use Rattle.polled_datagrams.proofs.Polling.{on_wire-append}
use Rattle.thinning_relay.proofs.Flushing.{get_at}
use Rattle.scl_run.specs.declared.ending.Ending.TheVariants.{WireFault}
use Rattle.scl_run.specs.Job.{seen}
use Rattle.scl_run.specs.Performing.{IsSoFar, Performs}
use Rattle.scl_run.proofs.Performed.{performs}
use Rattle.relay_job.specs.Settings.{Target, Settings, addresses}
use Rattle.relay_job.specs.Turns.{has_failed}
use Rattle.relay_job.specs.Job.{tale_of, SendsEach, naming, named_by, relay_job}
use Rattle.relay_job.proofs.Calls.{on, effects_on, failed-append}
use Rattle.relay_job.proofs.Lists.{no_target, ahead, drop_end}

-- addresses that are joined
abbrev pub joining : List Target → List WireEvent
joining targets = map (λ (text : List ℕ). Joined text true) (addresses targets)

-- calls that only name addresses
pub record Names (wire : List WireEvent) : Type 0 where
  pub receptions : receptions wire ≡ []
  pub answers : answers wire ≡ []
  pub parcels : parcels wire ≡ []

-- the local address and those of the first targets are named
pub record NamedTo (i : ℕ) (s : Settings) (m n : Meaning) (wire : List WireEvent) : Type 0 where
  pub trace : Trace m (on_wire wire) n
  pub within : AtReads (IsSoFar (relay_job s)) nothing (on_wire wire)
  pub all : wire ++ joining (drop i s.targets) ≡ naming s
  pub names : flat_map named_by wire ++ addresses (drop i s.targets) ≡ s.local ∷ addresses s.targets
  pub only : Names wire
  pub passed : wire_failed wire ≡ false
  pub peers : n.wire.peers ≡ i

same_parcels : (s : Settings) (wire : List WireEvent) → Names wire → SendsEach s (seen [] wire) (parcels wire)
same_parcels s wire h = record {
  each = λ j r at. ap (λ (l : List Parcel). sent_to j l) h.parcels ∙ sym (ap (λ (x : Tale). x.sent) (none j r));
  others = λ j above. ap (λ (l : List Parcel). sent_to j l) h.parcels;
} where
  none : (j : ℕ) (r : Target) → tale_of j r (seen [] wire) ≡ untold
  none j r =
      ap (λ l. relay_tale r.limit r.depth l (answers_to j (answers wire))) h.receptions
      ∙ ap (λ (l : List Reply). relay_tale r.limit r.depth [] (answers_to j l)) h.answers
      ∙ flushes_told.whole r.limit r.depth [] [] [] untold untold (turns_told.none r.limit r.depth) (flushes_told.none untold)

-- an address couldn't be named
failed_at : (s : Settings) (m n : Meaning) (wire : List WireEvent) (rest : List (List ℕ)) → Trace m (on_wire wire) n → AtReads (IsSoFar (relay_job s)) nothing (on_wire wire) → Names wire → wire_failed wire ≡ true
    → s.local ∷ addresses s.targets ≡ flat_map named_by wire ++ rest → (es : List Event) × Performs (relay_job s) m n WireFault es
failed_at s m n wire rest trace within only failed names = (
  on_wire wire,
  performs (relay_job s) m n WireFault (on_wire wire) (on wire) trace within (effects_on wire) refl (record {
    output = refl;
    sent = same_parcels s wire only;
    cause = tt;
    fails = record { read_failed = refl; write_failed = refl; on_wire = failed };
    fits = refl;
    wires = record {
      names = (rest, names);
      polled = λ e. absurd (let f : has_failed (receptions wire) ≡ false = ap has_failed only.receptions in let g : true ≡ false = sym e ∙ f in cc);
    };
  }),
)

-- one call after others that passed
may_follow : (s : Settings) (wire : List WireEvent) (w : WireEvent) → AtReads (IsSoFar (relay_job s)) nothing (on_wire wire) → wire_failed wire ≡ false → AtReads (IsSoFar (relay_job s)) (on wire) (OnWire w ∷ []) → AtReads (IsSoFar (relay_job s)) nothing (on_wire (wire ++ w ∷ []))
may_follow s wire w within passed one =
    let P : Effects → Type 0 = λ f. AtReads (IsSoFar (relay_job s)) f (OnWire w ∷ []) in
    let Q : List Event → Type 0 = λ l. AtReads (IsSoFar (relay_job s)) nothing l in
    subst Q (sym (on_wire-append wire (w ∷ []))) (at_reads_join (IsSoFar (relay_job s)) nothing (on_wire wire) (OnWire w ∷ []) within (subst P (sym (effects_on wire)) one))

one_traced : (m n o : Meaning) (wire : List WireEvent) (w : WireEvent) → Trace m (on_wire wire) n → Step n (OnWire w) o → Trace m (on_wire (wire ++ w ∷ [])) o
one_traced m n o wire w trace step = rw (on_wire-append wire (w ∷ [])) (trace_join m n o (on_wire wire) (OnWire w ∷ []) trace (trace_one n o (OnWire w) step))

joined_only : (wire : List WireEvent) (text : List ℕ) (b : Bool) → Names wire → Names (wire ++ Joined text b ∷ [])
joined_only wire text b h = record {
  receptions = flat_map-append receptions_by wire (Joined text b ∷ []) ∙ ap (λ l. l ++ []) h.receptions;
  answers = flat_map-append answers_by wire (Joined text b ∷ []) ∙ ap (λ (l : List Reply). l ++ []) h.answers;
  parcels = flat_map-append parcels_by wire (Joined text b ∷ []) ∙ ap (λ (l : List Parcel). l ++ []) h.parcels;
}

join_peers : (s t : Meaning) (text : List ℕ) → Step s (OnWire (Joined text true)) t → t.wire.peers ≡ s.wire.peers + 1
join_peers s t text step = let (m, w, k) = step.wire in (let e = w.peers in let f = k.peers in omega (arith, e, f))

bind_peers : (s t : Meaning) (text : List ℕ) → Step s (OnWire (Bound text true)) t → t.wire.peers ≡ s.wire.peers
bind_peers s t text step = let (m, w, k) = step.wire in (let e = w.peers in let f = k.peers in omega (arith, e, f))

pub bound_first : (s : Settings) (m n : Meaning) (text : List ℕ) → text ≡ s.local → m.wire.peers ≡ 0 → Step m (OnWire (Bound text true)) n → (wire : List WireEvent) × NamedTo 0 s m n wire
bound_first s m n text is none step =
    let P : List ℕ → Type 0 = λ l. Step m (OnWire (Bound l true)) n in
    let e = bind_peers m n text step in (
      Bound s.local true ∷ [],
      record {
        trace = trace_one m n (OnWire (Bound s.local true)) (subst P is step);
        within = (tt, record { reads = refl; writes = refl; on_wire = refl }, tt);
        all = refl;
        names = refl;
        only = record { receptions = refl; answers = refl; parcels = refl };
        passed = refl;
        peers = omega (arith, e, none);
      },
    )

pub bound_not : (s : Settings) (m n : Meaning) (text : List ℕ) → text ≡ s.local → Step m (OnWire (Bound text false)) n → (es : List Event) × Performs (relay_job s) m n WireFault es
bound_not s m n text is step =
    let P : List ℕ → Type 0 = λ l. Step m (OnWire (Bound l false)) n in
    failed_at s m n (Bound s.local false ∷ []) (addresses s.targets) (trace_one m n (OnWire (Bound s.local false)) (subst P is step)) (tt, record { reads = refl; writes = refl; on_wire = refl }, tt)
    (record { receptions = refl; answers = refl; parcels = refl }) refl refl

pub joined_more : (i : ℕ) (s : Settings) (m n o : Meaning) (text : List ℕ) (wire : List WireEvent) → i < length s.targets → ((r : Target) → slice_get s.targets i ≡ Some r → text ≡ r.address) → NamedTo i s m n wire → Step n (OnWire (Joined text true)) o
    → (ws : List WireEvent) × NamedTo (i + 1) s m o ws
joined_more i s m n o text wire low is h step =
    let r = get_or s.targets i no_target in
    let e : text ≡ r.address = is r (get_at s.targets i no_target low) in
    let next : drop i s.targets ≡ r ∷ drop (i + 1) s.targets = ahead s.targets i no_target low in
    let more = join_peers n o text step in
    let before = h.peers in (
      wire ++ Joined text true ∷ [],
      record {
        trace = one_traced m n o wire (Joined text true) h.trace step;
        within = may_follow s wire (Joined text true) h.within h.passed (tt, record { reads = refl; writes = refl; on_wire = h.passed }, tt);
        all = append_assoc wire (Joined text true ∷ []) (joining (drop (i + 1) s.targets)) ∙ ap (λ (l : List ℕ). wire ++ Joined l true ∷ joining (drop (i + 1) s.targets)) e ∙ ap (λ (l : List Target). wire ++ joining l) (sym next) ∙ h.all;
        names = ap (λ (l : List (List ℕ)). l ++ addresses (drop (i + 1) s.targets)) (flat_map-append named_by wire (Joined text true ∷ [])) ∙ append_assoc (flat_map named_by wire) (text ∷ []) (addresses (drop (i + 1) s.targets))
            ∙ ap (λ (l : List ℕ). flat_map named_by wire ++ l ∷ addresses (drop (i + 1) s.targets)) e ∙ ap (λ (l : List Target). flat_map named_by wire ++ addresses l) (sym next) ∙ h.names;
        only = joined_only wire text true h.only;
        passed = failed-append wire (Joined text true ∷ []) ∙ rw h.passed refl;
        peers = omega (arith, more, before);
      },
    )

pub joined_not : (i : ℕ) (s : Settings) (m n o : Meaning) (text : List ℕ) (wire : List WireEvent) → i < length s.targets → ((r : Target) → slice_get s.targets i ≡ Some r → text ≡ r.address) → NamedTo i s m n wire → Step n (OnWire (Joined text false)) o
    → (es : List Event) × Performs (relay_job s) m o WireFault es
joined_not i s m n o text wire low is h step =
    let r = get_or s.targets i no_target in
    let e : text ≡ r.address = is r (get_at s.targets i no_target low) in
    let next : drop i s.targets ≡ r ∷ drop (i + 1) s.targets = ahead s.targets i no_target low in
    let rest = addresses (drop (i + 1) s.targets) in
    let names : flat_map named_by (wire ++ Joined text false ∷ []) ++ rest ≡ s.local ∷ addresses s.targets =
    ap (λ (l : List (List ℕ)). l ++ rest) (flat_map-append named_by wire (Joined text false ∷ [])) ∙ append_assoc (flat_map named_by wire) (text ∷ []) rest
    ∙ ap (λ (l : List ℕ). flat_map named_by wire ++ l ∷ rest) e ∙ ap (λ (l : List Target). flat_map named_by wire ++ addresses l) (sym next) ∙ h.names in
    failed_at s m o (wire ++ Joined text false ∷ []) rest (one_traced m n o wire (Joined text false) h.trace step)
    (may_follow s wire (Joined text false) h.within h.passed (tt, record { reads = refl; writes = refl; on_wire = h.passed }, tt)) (joined_only wire text false h.only)
    (failed-append wire (Joined text false ∷ []) ∙ rw h.passed refl) (sym names)

pub all_named : (i : ℕ) (s : Settings) (m n : Meaning) (wire : List WireEvent) → i ≡ length s.targets → NamedTo i s m n wire → Trace m (on_wire (naming s)) n × (n.wire.peers ≡ length s.targets)
all_named i s m n wire is h =
    let e : wire ≡ naming s = sym (append-nil wire) ∙ ap (λ (l : List Target). wire ++ joining l) (sym (drop_end s.targets i (omega (arith, is)))) ∙ h.all in
    let P : List WireEvent → Type 0 = λ l. Trace m (on_wire l) n in
    (subst P e h.trace, h.peers ∙ is)
