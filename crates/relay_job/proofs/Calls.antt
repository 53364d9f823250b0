-- Calls of the wire, one after another.
use Rattle.std.proofs.Common.{◌≡◌, ◌++◌, ◌+◌, ◌&&◌, ◌||◌, ℕ, Bool, true, false, List, [], ◌∷◌, nat_le, if◌then◌else◌, refl, ◌∙◌, ap, arith}
use Rattle.std.specs.List.{flat_map}
use Rattle.std.proofs.lemmas.List.Concat.{flat_map-append}
use Rattle.wire_model.specs.Receptions.{Reception, Arrived, NotReady, Closed, Failed}
use Rattle.relay_model.specs.Lines.{came, has_closed, malformed_count}
use Rattle.scl_outside.specs.Meaning.{Reply}
use Rattle.scl_outside.specs.Events.{WireEvent, OnWire, Received, Offered, Bound, Joined, receptions_by, answers_by, parcels_by, wire_fails, name_fails}
use Rattle.scl_outside.specs.Effects.{Effects, nothing, effect_of, and_then, effects, receptions, answers, parcels, wire_failed, name_failed}
use Rattle.scl_outside.specs.Traces.{AtReads}
use Rattle.polled_datagrams.specs.Offers.{on_wire}
use Rattle.thinning_relay.specs.Flushing.{offers_in_order}
use Rattle.relay_job.specs.Turns.{TurnTaken, replies_before, turns_of, is_idle, idle_run}
use Rattle.relay_job.specs.Job.{are_offers, named_by}

-- what these calls of the wire did, and nothing else
abbrev pub on : List WireEvent → Effects
on wire = record nothing { wire = wire }

pub effects_on : (ws : List WireEvent) → effects (on_wire ws) ≡ on ws
effects_on [] = refl
effects_on (w ∷ ws) = ap (λ (f : Effects). and_then (effect_of (OnWire w)) f) (effects_on ws)

second : (a b : Bool) → (a && b) ≡ true → b ≡ true
second true b e = e
second false b e = absurd (cc)

pub offers_of : (n : ℕ) (ws : List WireEvent) → offers_in_order n ws ≡ true → are_offers ws ≡ true
offers_of n [] e = refl
offers_of n (Offered p a ∷ ws) e = offers_of p.peer ws (second (nat_le n p.peer) (offers_in_order p.peer ws) e)
offers_of n (Received r ∷ ws) e = absurd (cc)
offers_of n (Bound text b ∷ ws) e = absurd (cc)
offers_of n (Joined text b ∷ ws) e = absurd (cc)

-- calls to receivers
pub record Offers (ws : List WireEvent) : Type 0 where
  pub receptions : receptions ws ≡ []
  pub turns : turns_of ws ≡ []
  pub replies : replies_before ws ≡ answers ws
  pub passed : wire_failed ws ≡ false
  pub names : flat_map named_by ws ≡ []

pub are : (ws : List WireEvent) → are_offers ws ≡ true → Offers ws
are [] e = record { receptions = refl; turns = refl; replies = refl; passed = refl; names = refl }
are (Offered p a ∷ ws) e = let o = are ws e in record {
  receptions = o.receptions;
  turns = o.turns;
  replies = ap (λ (l : List Reply). record { peer = p.peer; answer = a } ∷ l) o.replies;
  passed = o.passed;
  names = o.names;
}
are (Received r ∷ ws) e = absurd (cc)
are (Bound text b ∷ ws) e = absurd (cc)
are (Joined text b ∷ ws) e = absurd (cc)

pub offers-append : (ws vs : List WireEvent) → are_offers ws ≡ true → are_offers vs ≡ true → are_offers (ws ++ vs) ≡ true
offers-append [] vs e f = f
offers-append (Offered p a ∷ ws) vs e f = offers-append ws vs e f
offers-append (Received r ∷ ws) vs e f = absurd (cc)
offers-append (Bound text b ∷ ws) vs e f = absurd (cc)
offers-append (Joined text b ∷ ws) vs e f = absurd (cc)

pub failed-append : (ws vs : List WireEvent) → wire_failed (ws ++ vs) ≡ (wire_failed ws || wire_failed vs)
failed-append [] vs = refl
failed-append (w ∷ ws) vs = ap (λ (b : Bool). wire_fails w || b) (failed-append ws vs) ∙ or-assoc (wire_fails w) (wire_failed ws) (wire_failed vs) where
  or-assoc : (a b c : Bool) → (a || (b || c)) ≡ ((a || b) || c)
  or-assoc true b c = refl
  or-assoc false b c = refl

pub names-append : (ws vs : List WireEvent) → name_failed (ws ++ vs) ≡ (name_failed ws || name_failed vs)
names-append [] vs = refl
names-append (w ∷ ws) vs = ap (λ (b : Bool). name_fails w || b) (names-append ws vs) ∙ or-assoc (name_fails w) (name_failed ws) (name_failed vs) where
  or-assoc : (a b c : Bool) → (a || (b || c)) ≡ ((a || b) || c)
  or-assoc true b c = refl
  or-assoc false b c = refl

pub names_of : (ws : List WireEvent) → wire_failed ws ≡ false → name_failed ws ≡ false
names_of [] e = refl
names_of (Bound text true ∷ ws) e = names_of ws e
names_of (Bound text false ∷ ws) e = absurd (cc)
names_of (Joined text true ∷ ws) e = names_of ws e
names_of (Joined text false ∷ ws) e = absurd (cc)
names_of (Received r ∷ ws) e = names_of ws (later (wire_fails (Received r)) (wire_failed ws) e) where
  later : (a b : Bool) → (a || b) ≡ false → b ≡ false
  later true b e = absurd (cc)
  later false b e = e
names_of (Offered p a ∷ ws) e = names_of ws e

-- calls to receivers may follow where no name failed
pub offers_follow : (P : Effects → Type 0) (wire ws : List WireEvent) → name_failed wire ≡ false → are_offers ws ≡ true → AtReads P (on wire) (on_wire ws)
offers_follow P wire [] n e = tt
offers_follow P wire (Offered p a ∷ ws) n e = (
  tt,
  record { reads = refl; writes = refl; names = n },
  offers_follow P (wire ++ Offered p a ∷ []) ws (names-append wire (Offered p a ∷ []) ∙ rw n refl) e,
)
offers_follow P wire (Received r ∷ ws) n e = absurd (cc)
offers_follow P wire (Bound text b ∷ ws) n e = absurd (cc)
offers_follow P wire (Joined text b ∷ ws) n e = absurd (cc)

-- one more turn
replies_stop : (wire : List WireEvent) (got : Reception) (ws : List WireEvent) → replies_before (wire ++ Received got ∷ ws) ≡ replies_before wire
replies_stop [] got ws = refl
replies_stop (Received r ∷ wire) got ws = refl
replies_stop (Offered p a ∷ wire) got ws = ap (λ (l : List Reply). record { peer = p.peer; answer = a } ∷ l) (replies_stop wire got ws)
replies_stop (Bound text b ∷ wire) got ws = replies_stop wire got ws
replies_stop (Joined text b ∷ wire) got ws = replies_stop wire got ws

-- the turn of a call with this answer, and of these calls to receivers
abbrev pub the_turn : Reception → List WireEvent → TurnTaken
the_turn got ws = record { got = got; replies = answers ws }

pub turns_more : (wire : List WireEvent) (got : Reception) (ws : List WireEvent) → are_offers ws ≡ true → turns_of (wire ++ Received got ∷ ws) ≡ turns_of wire ++ the_turn got ws ∷ []
turns_more [] got ws e = let o = are ws e in rw (o.turns, o.replies) refl
turns_more (Received r ∷ wire) got ws e = rw (replies_stop wire got ws) (ap (λ (l : List TurnTaken). record { got = r; replies = replies_before wire } ∷ l) (turns_more wire got ws e))
turns_more (Offered p a ∷ wire) got ws e = turns_more wire got ws e
turns_more (Bound text b ∷ wire) got ws e = turns_more wire got ws e
turns_more (Joined text b ∷ wire) got ws e = turns_more wire got ws e

pub receptions_more : (wire : List WireEvent) (got : Reception) (ws : List WireEvent) → are_offers ws ≡ true → receptions (wire ++ Received got ∷ ws) ≡ receptions wire ++ got ∷ []
receptions_more wire got ws e = flat_map-append receptions_by wire (Received got ∷ ws) ∙ ap (λ (l : List Reception). receptions wire ++ got ∷ l) (are ws e).receptions

pub answers_more : (wire : List WireEvent) (got : Reception) (ws : List WireEvent) → answers (wire ++ Received got ∷ ws) ≡ answers wire ++ answers ws
answers_more wire got ws = flat_map-append answers_by wire (Received got ∷ ws)

pub parcels_more : (wire : List WireEvent) (got : Reception) (ws : List WireEvent) → parcels (wire ++ Received got ∷ ws) ≡ parcels wire ++ parcels ws
parcels_more wire got ws = flat_map-append parcels_by wire (Received got ∷ ws)

-- one more turn at the end
pub run_more : (n : ℕ) (turns : List TurnTaken) (t : TurnTaken) → idle_run n (turns ++ t ∷ []) ≡ (if is_idle t then idle_run n turns + 1 else 0)
run_more n [] t = refl
run_more n (u ∷ turns) t = run_more (if is_idle u then n + 1 else 0) turns t

-- datagrams that came, and then others
pub came-append : (xs ys : List Reception) → came (xs ++ ys) ≡ came xs ++ came ys
came-append [] ys = refl
came-append (Arrived d ∷ xs) ys = ap (λ (l : List (List ℕ)). d ∷ l) (came-append xs ys)
came-append (NotReady ∷ xs) ys = came-append xs ys
came-append (Closed ∷ xs) ys = came-append xs ys
came-append (Failed ∷ xs) ys = came-append xs ys

pub closed-append : (xs ys : List Reception) → has_closed (xs ++ ys) ≡ (has_closed xs || has_closed ys)
closed-append [] ys = refl
closed-append (Arrived d ∷ xs) ys = closed-append xs ys
closed-append (NotReady ∷ xs) ys = closed-append xs ys
closed-append (Closed ∷ xs) ys = refl
closed-append (Failed ∷ xs) ys = closed-append xs ys

pub malformed-append : (xs ys : List (List ℕ)) → malformed_count (xs ++ ys) ≡ malformed_count xs + malformed_count ys
malformed-append [] ys = omega arith
malformed-append (d ∷ xs) ys = let e = malformed-append xs ys in omega (arith, e)
