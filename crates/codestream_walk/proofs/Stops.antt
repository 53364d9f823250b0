-- Where a walk stops.
use Rattle.std.proofs.Common.{◌≡◌, ◌<◌, ◌≤◌, ◌+◌, ◌==◌, ℕ, true, List, [], ◌∷◌, ◌++◌, length, refl, sym, subst, ◌∙◌, ap, inl, inr, arith, append_assoc, ◌-◌, false}
use Rattle.std.proofs.lemmas.List.{append-nil, length-append}
use Rattle.codestream_model.specs.Values.{Head, Place}
use Rattle.scl_outside.specs.Meaning.{Meaning}
use Rattle.scl_outside.specs.Events.{Event}
use Rattle.scl_outside.specs.Effects.{Effects, nothing, only_read, read_to_end, read_until_failed, effects, and_then}
use Rattle.scl_outside.specs.Traces.{Trace, AtReads}
use Rattle.scl_outside.proofs.Traces.{trace_join, effects_then, at_reads_then}
use Rattle.codestream_walk.specs.InHand.{input_limit}
use Rattle.codestream_walk.specs.Faults.{walk_refusal}
use Rattle.codestream_walk.specs.Walking.{Stage, AtStart, AtNext, InBody, AtEnd, Walking, Seen, fed, is_live, is_item, in_body}
use Rattle.codestream_walk.specs.Walks.{Walked, BeginsNext, RefusesItem, ShowsPacket}
use Rattle.codestream_model.specs.Precincts.{IsPrecinct}
use Rattle.codestream_walk.specs.Reading.{Waits, Steps, Fixes, MeetsEnd, MeetsLimit as LimitMet, Passes, IsBetween}
use Rattle.codestream_walk.specs.declared.fault.WalkFault.{WalkFault}
use Rattle.codestream_walk.specs.declared.fault.PieceOut.TheVariants as piece
use Rattle.codestream_walk.specs.WalkSteps.{WaitsItem, WalkGives, Walks}
use Rattle.codestream_walk.specs.declared.walk.WalkOut.TheVariants as out
use Rattle.codestream_walk.proofs.Inside.{Inside, Between, Behind, Within, SoFar, added, fixes_item, waits_item, walk_passed, all_bytes}
use Rattle.codestream_walk.proofs.Bytes.{no_bytes}
use Rattle.codestream_walk.proofs.Exits.{inside_refuses, in_packet, body_parts, start_goes, more_goes, open_by}
use Rattle.codestream_walk.proofs.Ranks.{rank}
use Rattle.codestream_model.specs.Packet.{Content, segment_bytes}

differs : (h : Head) (later : List Place) (size : ℕ) → AtNext h later size ≡ AtStart → ⊥
differs h later size e = cc

-- what begins packets isn't empty where a codestream may begin
next_long : (w : Walking) (h : Head) (later : List Place) (size : ℕ) (header : List ℕ) → BeginsNext w h later size header → w.stage ≡ AtStart → (1 ≤ length header) × (w.codestreams < 65536)
next_long w h later size header (inl n) start = absurd (let e : AtNext h later size ≡ AtStart = sym n.0 ∙ start in differs h later size e)
next_long w h later size header (inr n) start = let s = n.2 in (omega (arith, ap length s.whole), n.1)

-- a walk is where a codestream may begin exactly where the reader is
between_back : (w : Walking) (given hand all : List ℕ) (stage : Stage) (body : List ℕ) → Inside w given stage body → all ≡ given ++ hand → w.stage ≡ AtStart → all ≡ [] → (stage ≡ AtStart) × (hand ≡ [])
between_back w given hand all stage body (Between here start none) whole e empty = (here, sym (ap (λ (l : List ℕ). l ++ hand) none) ∙ (sym whole ∙ empty))
between_back w given hand all stage body (Behind h later size next here) whole e empty = absurd (omega (arith, (next_long w h later size given next e).0, ap length whole, ap length empty, length-append given hand))
between_back w given hand all stage body (Within k) whole e empty =
    absurd (omega (arith, (next_long w k.head (k.place ∷ k.later) k.size k.header k.next e).0, ap length whole, ap length empty, length-append given hand, ap length k.whole, length-append k.header (k.front ++ body)))

full_back : (w : Walking) (given : List ℕ) (stage : Stage) (body : List ℕ) → Inside w given stage body → w.stage ≡ AtStart → w.codestreams ≡ 65536 → stage ≡ AtStart
full_back w given stage body (Between here start none) e full = here
full_back w given stage body (Behind h later size next here) e full = absurd (omega (arith, full, (next_long w h later size given next e).1))
full_back w given stage body (Within k) e full = absurd (omega (arith, full, (next_long w k.head (k.place ∷ k.later) k.size k.header k.next e).1))

start_front : (w : Walking) (given : List ℕ) (stage : Stage) (body : List ℕ) → Inside w given stage body → stage ≡ AtStart → (w.stage ≡ AtStart) × (given ≡ [])
start_front w given stage body (Between here start none) e = (start, none)
start_front w given stage body (Behind h later size next here) e = absurd (differs h later size (sym here ∙ e))
start_front w given stage body (Within k) e = absurd (let f = sym k.is ∙ e in cc)

-- what holds at a walk's end
at_end : (s t : Meaning) (w x : Walking) (body : List ℕ) (es : List Event) (f : Effects) → (p : SoFar s t w x body es) → Waits x f → and_then (effects es) f ≡ only_read (p.bytes ++ f.read)
at_end s t w x body es f p k = ap (λ (e : Effects). and_then e f) p.reads ∙ ap (λ (e : Effects). and_then (only_read p.bytes) e) k.reads

-- the input is over between codestreams
pub end_stops : (s t r : Meaning) (w : Walking) (u y : Seen) (v : Walked) (body : List ℕ) (es fs : List Event) → SoFar s t w u.walk body es → Steps u t r piece.End y fs → v.walk ≡ y.walk → Walks w s r out.End v (es ++ fs)
end_stops s t r w u y v body es fs p k walk =
    let m = k.gives in
    let f = only_read (effects fs).read in
    let all = at_end s t w u.walk body es f p m.waits in
    let waits = waits_item s t w u.walk body es p f m.waits in
    let over : effects (es ++ fs) ≡ read_to_end (p.bytes ++ (effects fs).read) = effects_then es fs (only_read p.bytes) (read_to_end (effects fs).read) p.reads m.reads in
    let here = start_front w p.given u.walk.stage body p.inside m.ends.0 in
    let hand : w.hand ++ (p.bytes ++ (effects fs).read) ≡ [] = sym (append_assoc w.hand p.bytes (effects fs).read) ∙ (ap (λ (l : List ℕ). l ++ (effects fs).read) p.hand ∙ (append_assoc p.given u.walk.hand (effects fs).read ∙ (ap (λ (l : List ℕ). l ++ (u.walk.hand ++ (effects fs).read)) here.1 ∙ m.ends.1))) in
    let G : Effects → Type 0 = λ q. WalkGives out.End w v q in
    let W : Effects → Type 0 = λ q. WaitsItem w q in
    record {
      trace = trace_join s t r es fs p.trace k.trace;
      within = at_reads_then (Waits u.walk) (WaitsItem w) es fs p.within (walk_passed s t w u.walk body es p) (waits_item s t w u.walk body es p) k.within;
      gives = subst G (sym over) (record { reads = refl; waits = subst W all waits; ends = (here.0, hand) }, ap (λ (x : Walking). x.stage) walk ∙ m.done.stage);
    }

-- a read failed
pub fault_stops : (s t r : Meaning) (w : Walking) (u y : Seen) (v : Walked) (body : List ℕ) (es fs : List Event) → SoFar s t w u.walk body es → Steps u t r piece.ReadFault y fs → v.walk ≡ y.walk → Walks w s r out.ReadFault v (es ++ fs)
fault_stops s t r w u y v body es fs p k walk =
    let m = k.gives in
    let f = only_read (effects fs).read in
    let all = at_end s t w u.walk body es f p m.waits in
    let waits = waits_item s t w u.walk body es p f m.waits in
    let W : Effects → Type 0 = λ q. WaitsItem w q in
    let failed : effects (es ++ fs) ≡ read_until_failed (p.bytes ++ (effects fs).read) = effects_then es fs (only_read p.bytes) (read_until_failed (effects fs).read) p.reads m.reads in
    let G : Effects → Type 0 = λ q. WalkGives out.ReadFault w v q in
    record {
      trace = trace_join s t r es fs p.trace k.trace;
      within = at_reads_then (Waits u.walk) (WaitsItem w) es fs p.within (walk_passed s t w u.walk body es p) (waits_item s t w u.walk body es p) k.within;
      gives = subst G (sym failed) (refl, subst W all waits, ap (λ (x : Walking). x.stage) walk ∙ m.done.stage);
    }

-- the input is refused: by the bytes in hand,
fix_refused : (s t r : Meaning) (w : Walking) (u y : Seen) (v : Walked) (body : List ℕ) (es fs : List Event) (fault : WalkFault) → SoFar s t w u.walk body es → v.walk ≡ y.walk → Trace t fs r → AtReads (Waits u.walk) nothing fs → Fixes (piece.Refused fault) u y (effects fs) → Walks w s r (out.Refused fault) v (es ++ fs)
fix_refused s t r w u y v body es fs fault p walk trace within f =
    let a = added s t r w u body es fs p trace within f.reads f.are_bytes in
    let g = f.gives.0 in
    let refused = inside_refuses w p.given (u.walk.hand ++ (effects fs).read) (w.hand ++ (p.bytes ++ (effects fs).read)) u.walk.stage u.walk.codestreams body g.0 fault.at (walk_refusal fault.why) p.inside a.hand p.count (omega (arith, g.2, p.offset)) g.1 in
    record { trace = a.trace; within = a.within; gives = (inl (fixes_item (λ x. RefusesItem x fault.at (walk_refusal fault.why)) s t r w u body es fs p a f.within refused), ap (λ (x : Walking). x.stage) walk ∙ f.gives.1.stage) }

-- where it ends inside a codestream,
end_refused : (s t r : Meaning) (w : Walking) (u y : Seen) (v : Walked) (body : List ℕ) (es fs : List Event) (fault : WalkFault) → SoFar s t w u.walk body es → v.walk ≡ y.walk → Trace t fs r → AtReads (Waits u.walk) nothing fs → MeetsEnd (piece.Refused fault) u y (effects fs) → Walks w s r (out.Refused fault) v (es ++ fs)
end_refused s t r w u y v body es fs fault p walk trace within m =
    let f = only_read (effects fs).read in
    let all = at_end s t w u.walk body es f p m.waits in
    let split = all_bytes s t w u.walk body es (effects fs).read p in
    let waits = waits_item s t w u.walk body es p f m.waits in
    let over : effects (es ++ fs) ≡ read_to_end (p.bytes ++ (effects fs).read) = effects_then es fs (only_read p.bytes) (read_to_end (effects fs).read) p.reads m.reads in
    let W : Effects → Type 0 = λ q. WaitsItem w q in
    let at_is : fault.at ≡ w.offset + length (w.hand ++ (p.bytes ++ (effects fs).read)) = omega (arith, m.ends.2, p.offset, ap length split, length-append p.given (u.walk.hand ++ (effects fs).read)) in
    let inside : IsBetween (fed w (p.bytes ++ (effects fs).read)) → ⊥ = λ b. m.ends.0 (between_back w p.given (u.walk.hand ++ (effects fs).read) (w.hand ++ (p.bytes ++ (effects fs).read)) u.walk.stage body p.inside split b.0 b.1) in
    let G : Effects → Type 0 = λ q. WalkGives (out.Refused fault) w v q in
    record {
      trace = trace_join s t r es fs p.trace trace;
      within = at_reads_then (Waits u.walk) (WaitsItem w) es fs p.within (walk_passed s t w u.walk body es p) (waits_item s t w u.walk body es p) within;
      gives = subst G (sym over) (inr (inl (record { reads = refl; waits = subst W all waits; ends = (inside, m.ends.1, at_is) })), ap (λ (x : Walking). x.stage) walk ∙ m.done.stage);
    }

-- or where it goes on past the limit
passes_back : (w : Walking) (u : Seen) (given bytes hand : List ℕ) (body : List ℕ) (fault : WalkFault) → Inside w given u.walk.stage body → u.walk.codestreams ≡ w.codestreams → Passes fault (fed u.walk hand) → Passes fault (fed w bytes)
passes_back w u given bytes hand body fault i count (at_is, inl (full, why)) = (at_is, inl (((start_front w given u.walk.stage body i full.0).0, omega (arith, count, full.1)), why))
passes_back w u given bytes hand body fault i count (at_is, inr (free, why)) = (at_is, inr ((λ full. free (full_back w given u.walk.stage body i full.0 full.1, omega (arith, count, full.1))), why))

limit_refused : (s t r : Meaning) (w : Walking) (u y : Seen) (v : Walked) (body : List ℕ) (es fs : List Event) (fault : WalkFault) → SoFar s t w u.walk body es → v.walk ≡ y.walk → Trace t fs r → AtReads (Waits u.walk) nothing fs → LimitMet fault u y (effects fs) → Walks w s r (out.Refused fault) v (es ++ fs)
limit_refused s t r w u y v body es fs fault p walk trace within m =
    let f = only_read m.bytes in
    let all = at_end s t w u.walk body es f p m.waits in
    let split = all_bytes s t w u.walk body es m.bytes p in
    let waits = waits_item s t w u.walk body es p f m.waits in
    let W : Effects → Type 0 = λ q. WaitsItem w q in
    let G : Effects → Type 0 = λ q. WalkGives (out.Refused fault) w v q in
    let read : effects (es ++ fs) ≡ only_read ((p.bytes ++ m.bytes) ++ m.more) = effects_then es fs (only_read p.bytes) (only_read (m.bytes ++ m.more)) p.reads m.reads ∙ ap (λ (l : List ℕ). only_read l) (sym (append_assoc p.bytes m.bytes m.more)) in
    let full : w.offset + length (w.hand ++ (p.bytes ++ m.bytes)) ≡ input_limit = omega (arith, m.full, p.offset, ap length split, length-append p.given (u.walk.hand ++ m.bytes)) in
    record {
      trace = trace_join s t r es fs p.trace trace;
      within = at_reads_then (Waits u.walk) (WaitsItem w) es fs p.within (walk_passed s t w u.walk body es p) (waits_item s t w u.walk body es p) within;
      gives = subst G (sym read) (inr (inr (record { bytes = p.bytes ++ m.bytes; more = m.more; one = m.one; are_bytes = m.are_bytes; reads = refl; waits = subst W all waits; full = full; passes = passes_back w u p.given (p.bytes ++ m.bytes) m.bytes body fault p.inside p.count m.passes })), ap (λ (x : Walking). x.stage) walk ∙ m.done.stage);
    }

pub refused_stops : (s t r : Meaning) (w : Walking) (u y : Seen) (v : Walked) (body : List ℕ) (es fs : List Event) (fault : WalkFault) → SoFar s t w u.walk body es → v.walk ≡ y.walk → Steps u t r (piece.Refused fault) y fs → Walks w s r (out.Refused fault) v (es ++ fs)
refused_stops s t r w u y v body es fs fault p walk k = elim k.gives [
  | inl f ↦ fix_refused s t r w u y v body es fs fault p walk k.trace k.within f
  | inr (inl m) ↦ end_refused s t r w u y v body es fs fault p walk k.trace k.within m
  | inr (inr m) ↦ limit_refused s t r w u y v body es fs fault p walk k.trace k.within m
]

-- a walk at a step's start
start_inside : (stage : Stage) (w : Walking) (body : List ℕ) → w.stage ≡ stage → is_live stage ≡ true → is_item stage ≡ true → Inside w [] stage body
start_inside AtStart w body e live item = Between refl e refl
start_inside (AtNext h later size) w body e live item = Behind h later size (inl (e, refl)) refl
start_inside (InBody h p bs later size left) w body e live item = absurd (cc)
start_inside AtEnd w body e live item = absurd (cc)

pub so_far_none : (s : Meaning) (w : Walking) (body : List ℕ) → is_live w.stage ≡ true → is_item w.stage ≡ true → SoFar s s w w body []
so_far_none s w body live item = record { trace = refl; within = tt; bytes = []; given = []; reads = refl; are_bytes = no_bytes; hand = append-nil w.hand; offset = omega arith; count = refl; inside = start_inside w.stage w body refl live item }

-- a walk that goes on is live
pub inside_live : (w : Walking) (given : List ℕ) (stage : Stage) (body : List ℕ) → Inside w given stage body → is_live stage ≡ true
inside_live w given stage body (Between here start none) = ap is_live here
inside_live w given stage body (Behind h later size next here) = ap is_live here
inside_live w given stage body (Within k) = ap is_live k.is

-- the segments of a packet fit
pub body_fits : (s t r : Meaning) (w : Walking) (u y : Seen) (body : List ℕ) (es fs : List Event) → SoFar s t w u.walk body es → Steps u t r piece.More y fs → length body + length y.given ≤ 16777216
body_fits s t r w u y body es fs p k =
    let g = k.gives.gives in
    let n = in_packet w p.given u.walk.stage body g.head g.place g.blocks g.later g.size g.left p.inside g.stage in
    let e = body_parts n.head g.head n.place g.place n.blocks g.blocks n.later g.later (n.size + length (n.front ++ body)) g.size n.left g.left (sym n.is ∙ g.stage) in
    omega (arith, n.segments, e.5, g.within, n.fits, ap length g.given)

pub start_goes_to : (s t r : Meaning) (w : Walking) (u y : Seen) (body after : List ℕ) (es fs : List Event) → SoFar s t w u.walk body es → Steps u t r piece.Start y fs → in_body y.walk.stage ≡ true → after ≡ [] → SoFar s r w y.walk after (es ++ fs)
start_goes_to s t r w u y body after es fs p k more e = let P : List ℕ → Type 0 = λ l. SoFar s r w y.walk l (es ++ fs) in subst P (sym e) (start_goes s t r w u y body es fs p k more)

pub more_goes_to : (s t r : Meaning) (w : Walking) (u y : Seen) (body after : List ℕ) (es fs : List Event) → SoFar s t w u.walk body es → Steps u t r piece.More y fs → in_body y.walk.stage ≡ true → after ≡ body ++ y.given → SoFar s r w y.walk after (es ++ fs)
more_goes_to s t r w u y body after es fs p k more e = let P : List ℕ → Type 0 = λ l. SoFar s r w y.walk l (es ++ fs) in subst P (sym e) (more_goes s t r w u y body es fs p k more)

pub rank_start : (t r : Meaning) (u y : Seen) (fs : List Event) → Steps u t r piece.Start y fs → in_body y.walk.stage ≡ true → rank y.walk.stage < rank u.walk.stage
rank_start t r u y fs k more =
    let g = k.gives.gives in
    let o = open_by (segment_bytes g.blocks == 0) g.head g.place g.blocks g.later (g.size + length g.front) (segment_bytes g.blocks) refl (sym (ap (λ (x : Walking). in_body x.stage) g.now) ∙ more) in
    let now : rank y.walk.stage ≡ segment_bytes g.blocks = ap (λ (x : Walking). rank x.stage) g.now ∙ ap rank o.1 in
    let was : rank u.walk.stage ≡ 16777217 = ap rank g.stage in
    omega (arith, now, was, g.fits)

pub rank_more : (t r : Meaning) (u y : Seen) (fs : List Event) → Steps u t r piece.More y fs → in_body y.walk.stage ≡ true → rank y.walk.stage < rank u.walk.stage
rank_more t r u y fs k more =
    let g = k.gives.gives in
    let left = g.left - length g.front in
    let o = open_by (left == 0) g.head g.place g.blocks g.later (g.size + length g.front) left refl (sym (ap (λ (x : Walking). in_body x.stage) g.now) ∙ more) in
    let now : rank y.walk.stage ≡ left = ap (λ (x : Walking). rank x.stage) g.now ∙ ap rank o.1 in
    let was : rank u.walk.stage ≡ g.left = ap rank g.stage in
    omega (arith, now, was, g.some, g.within)

-- no packet is open where no more of one is to come
pub item_by : (stage : Stage) → in_body stage ≡ false → is_item stage ≡ true
item_by AtStart e = refl
item_by (AtNext h later size) e = refl
item_by (InBody h p bs later size left) e = absurd (cc)
item_by AtEnd e = refl

-- a packet that is given is shown
pub packet_shown : (s t : Meaning) (w : Walking) (v : Walked) (es : List Event) → Walks w s t out.Packet v es → ShowsPacket v
packet_shown s t w v es k =
    let g = k.gives.gives in
    let P : Place → Type 0 = λ p. IsPrecinct g.head p in
    let Q : Content → Type 0 = λ x. length x.bytes ≡ segment_bytes x.blocks in
    (g.head, g.shown_head, subst P (sym g.shown_place) g.is_precinct, subst Q (sym g.shown_content) g.is_packet.segments)
