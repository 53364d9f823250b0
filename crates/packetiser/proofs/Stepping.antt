-- Moves of a sender, one after another, as a step of it.
use Rattle.std.proofs.Common.{◌≡◌, ◌<◌, ◌≤◌, ◌+◌, ◌-◌, ◌*◌, ℕ, false, Bool, List, [], ◌∷◌, ◌++◌, length, drop, Option, Some, None, refl, sym, subst, ap, ◌∙◌, inl, inr, arith, append_assoc}
use Rattle.std.proofs.lemmas.List.{length-append, append-nil, length-drop}
use Rattle.wire_model.specs.Datagram.{Datagram}
use Rattle.codestream_model.specs.Bytes.{IsBytes}
use Rattle.codestream_model.specs.Values.{Head, Place}
use Rattle.codestream_model.specs.Precincts.{IsPrecinct}
use Rattle.stream_model.specs.Stream.{Parts}
use Rattle.stream_model.specs.Cut.{Plan, Piece, Known}
use Rattle.scl_outside.specs.Meaning.{Meaning}
use Rattle.scl_outside.specs.Events.{Event}
use Rattle.scl_outside.specs.Effects.{Effects, HasPassed, nothing, only_read, read_to_end, read_until_failed, and_then, effects}
use Rattle.scl_outside.specs.Traces.{Trace, AtReads}
use Rattle.scl_outside.proofs.Traces.{effects-append, effects_then, trace_join, has_passed, at_reads_then, at_reads_map}
use Rattle.sender_model.specs.Lead.{carried_bytes, LeavesOpen}
use Rattle.codestream_walk.specs.InHand.{input_limit}
use Rattle.codestream_walk.specs.Walking.{Seen, fed, reach}
use Rattle.codestream_walk.specs.Reading.{StepGives, Fixes, Steps, Waits}
use Rattle.codestream_walk.specs.declared.fault.PieceOut.{PieceOut}
use Rattle.codestream_walk.specs.declared.fault.PieceOut.TheVariants as piece
use Rattle.packetiser.specs.Filled.{part}
use Rattle.packetiser.specs.Packing.{Packing, taken, put_count, IsStarted, Closes, Mains, TakesPiece, Advances}
use Rattle.packetiser.specs.declared.packetiser.PackOut.{PackOut}
use Rattle.packetiser.specs.declared.packetiser.PackOut.TheVariants as out
use Rattle.packetiser.specs.Sending.{Sender, IsSender, AreAll, Asks, OnlyReads, Answers, goes_on, Sends}
use Rattle.packetiser.proofs.Growing.{knows_start}
use Rattle.packetiser.proofs.Passing.{start_passes, more_passes, eoc_passes}
use Rattle.packetiser.proofs.Settled.{asks_here}
use Rattle.packetiser.proofs.Moves.{Moved, put_stays, put_closes, has_room, is_count}
use Rattle.packetiser.proofs.Reading.{known_fed, InCodestream, in_codestream, start_known, start_stays, start_closes, more_moves, eoc_moves}
use Rattle.packetiser.proofs.Exits.{ends_here, fails_here, refused_here, refused_reads, main_moves}

-- the packet that begins is one of its codestream
begins_in : (u : Packing) (parts : List Parts) (known : List Known) (sent : List Datagram) (h : Head) (header : List ℕ) (pieces : List Piece) → InCodestream u parts known sent → known ≡ part h header pieces ∷ [] → (u.seen.head ≡ Some h) × (u.levels ≡ h.levels)
begins_in u parts known sent h header pieces (inl b) e =
    let same : b.head ≡ h = first_same (part b.head b.header []) (part h header pieces) (sym b.known_is ∙ e) in
    (b.shown ∙ ap (λ (x : Head). Some x) same, b.levels ∙ ap (λ (x : Head). x.levels) same)
  where
    first_same : (c d : Known) → c ∷ [] ≡ d ∷ [] → c.head ≡ d.head
    first_same c d e = let f : c ≡ d = cc in ap (λ (x : Known). x.head) f
begins_in u parts known sent h header pieces (inr b) e =
    let same : b.head ≡ h = first_same _ (part h header pieces) (sym b.known_is ∙ e) in
    (b.shown ∙ ap (λ (x : Head). Some x) same, b.levels ∙ ap (λ (x : Head). x.levels) same)
  where
    first_same : (c d : Known) → c ∷ [] ≡ d ∷ [] → c.head ≡ d.head
    first_same c d e = let f : c ≡ d = cc in ap (λ (x : Known). x.head) f

pub start_ready : (p : Plan) (read : List ℕ) (given : List (List ℕ)) (u : Packing) (v : Seen) (f : Effects) → Sender p read given u → Fixes piece.Start u.seen v f → (h : Head) × IsStarted h (taken v u)
start_ready p read given u v f s k =
    let g = k.gives in
    let w = knows_start s.consumed (fed u.seen.walk f.read) u.seen.head v s.parts s.known (known_fed p read given u s f.read) g in
    let b = begins_in u s.parts s.known s.sent g.head w.0 w.1 (in_codestream p read given u s (start_known p read given u s v f.read g)) w.2 in
    let I : Place → Type 0 = λ q. IsPrecinct g.head q in
    (g.head, record { shown = g.shown ∙ b.0; is_precinct = subst I (sym g.shown_place) g.is_precinct; levels = b.1 })

-- What a move does: it reads, each time where a sender may ask for more, and the datagrams given stay all that is fixed.
pub record Goes (p : Plan) (read : List ℕ) (given : List (List ℕ)) (u : Packing) (v : Packing) (es : List Event) : Type 0 where
  pub only : effects es ≡ only_read (effects es).read
  pub asks : AtReads (Asks p read given) nothing es
  pub sender : Sender p (read ++ (effects es).read) given v

-- What a move does that gives an answer.
pub record Stops (p : Plan) (read : List ℕ) (given : List (List ℕ)) (answer : PackOut) (v : Packing) (es : List Event) : Type 0 where
  pub only : OnlyReads answer (effects es)
  pub asks : AtReads (Asks p read given) nothing es
  pub moved : Moved p (read ++ (effects es).read) given answer v
  pub few : length (read ++ (effects es).read) ≤ input_limit + 1

-- a sender has read no more than may be read
read_few : (p : Plan) (read : List ℕ) (given : List (List ℕ)) (u : Packing) (s : Sender p read given u) (bytes : List ℕ) → length (read ++ bytes) ≡ reach (fed u.seen.walk bytes)
read_few p read given u s bytes = (let o = s.has_read.knows.offset in omega (arith, o, ap length s.has_read.whole, length-append s.consumed u.seen.walk.hand, length-append read bytes, length-append u.seen.walk.hand bytes))

one_more : (n limit : ℕ) → n ≤ limit → n ≤ limit + 1
one_more n limit a = omega (arith, a)

by_limit : (p : Plan) (read : List ℕ) (given : List (List ℕ)) (u : Packing) (s : Sender p read given u) (bytes : List ℕ) → reach (fed u.seen.walk bytes) ≤ input_limit → length (read ++ bytes) ≤ input_limit + 1
by_limit p read given u s bytes within = (let L : ℕ → Type 0 = λ n. n ≤ input_limit + 1 in subst L (sym (read_few p read given u s bytes)) (one_more (reach (fed u.seen.walk bytes)) input_limit within))

past_limit : (p : Plan) (read : List ℕ) (given : List (List ℕ)) (u : Packing) (s : Sender p read given u) (bytes more : List ℕ) → reach (fed u.seen.walk bytes) ≡ input_limit → length more ≡ 1 → length (read ++ (bytes ++ more)) ≤ input_limit + 1
past_limit p read given u s bytes more full one = all (length (read ++ (bytes ++ more))) (length (read ++ bytes)) (length more) (reach (fed u.seen.walk bytes)) input_limit (ap length (sym (append_assoc read bytes more)) ∙ length-append (read ++ bytes) more) (read_few p read given u s bytes) full one
  where
    all : (n m k r limit : ℕ) → n ≡ m + k → m ≡ r → r ≡ limit → k ≡ 1 → n ≤ limit + 1
    all n m k r limit a b c d = omega (arith, a, b, c, d)

-- nor does its reader
step_few : (p : Plan) (read : List ℕ) (given : List (List ℕ)) (u : Packing) (s : Sender p read given u) (a : PieceOut) (v : Seen) (f : Effects) → StepGives a u.seen v f → length (read ++ f.read) ≤ input_limit + 1
step_few p read given u s piece.Head v f k = by_limit p read given u s f.read k.within
step_few p read given u s piece.Start v f k = by_limit p read given u s f.read k.within
step_few p read given u s piece.More v f k = by_limit p read given u s f.read k.within
step_few p read given u s piece.FrameEnd v f k = by_limit p read given u s f.read k.within
step_few p read given u s piece.End v f k = by_limit p read given u s f.read k.waits.within
step_few p read given u s piece.ReadFault v f k = by_limit p read given u s f.read k.waits.within
step_few p read given u s (piece.Refused fault) v f (inl k) = by_limit p read given u s f.read k.within
step_few p read given u s (piece.Refused fault) v f (inr (inl k)) = by_limit p read given u s f.read k.waits.within
step_few p read given u s (piece.Refused fault) v f (inr (inr k)) =
    let L : List ℕ → Type 0 = λ l. length (read ++ l) ≤ input_limit + 1 in
    subst L (sym (ap (λ (x : Effects). x.read) k.reads)) (past_limit p read given u s k.bytes k.more k.full k.one)

-- before each read of the reader
reader_asks : (p : Plan) (read : List ℕ) (given : List (List ℕ)) (u : Packing) (s t : Meaning) (answer : PieceOut) (v : Seen) (es : List Event) → Sender p read given u → u.rest ≡ [] → Steps u.seen s t answer v es → AtReads (Asks p read given) nothing es
reader_asks p read given u s t answer v es is none k = at_reads_map (Waits u.seen.walk) (Asks p read given) nothing es (asks_here p read given u is none) k.within

-- a move that goes on
pub goes : (p : Plan) (read : List ℕ) (given : List (List ℕ)) (u v : Packing) (s t : Meaning) (es : List Event) → Sender p read given u → Advances u s t None v es → Goes p read given u v es
goes p read given u v s t es is (inl (some, none, same, puts)) =
    let G : List Event → Type 0 = λ l. Goes p read given u v l in
    let R : List ℕ → Type 0 = λ l. Sender p l given v in
    subst G (sym none) (record { only = refl; asks = tt; sender = subst R (sym (append-nil read)) (put_stays p read given u v is some puts) })
goes p read given u v s t es is (inr (none, k)) = by_piece k.piece k.steps k.takes
  where
    by_piece : (a : PieceOut) → Steps u.seen s t a k.seen es → TakesPiece a (taken k.seen u) None v → Goes p read given u v es
    by_piece piece.Head steps takes = absurd takes
    by_piece piece.Start steps takes =
        let h = start_ready p read given u k.seen (effects es) is steps.gives in
        record { only = steps.gives.reads; asks = reader_asks p read given u s t piece.Start k.seen es is none steps; sender = start_stays p read given u k.seen (effects es) h.0 v is none steps.gives h.1.shown (takes h.0 h.1.shown) }
    by_piece piece.More steps takes =
        let S : Packing → Type 0 = λ x. Sender p (read ++ (effects es).read) given x in
        record { only = steps.gives.reads; asks = reader_asks p read given u s t piece.More k.seen es is none steps; sender = subst S (sym takes.1) (more_moves p read given u k.seen (effects es) is none steps.gives) }
    by_piece piece.FrameEnd steps takes =
        let S : Packing → Type 0 = λ x. Sender p (read ++ (effects es).read) given x in
        record { only = steps.gives.reads; asks = reader_asks p read given u s t piece.FrameEnd k.seen es is none steps; sender = subst S (sym takes.1) (eoc_moves p read given u k.seen (effects es) is none steps.gives) }
    by_piece piece.End steps takes = (let e : None ≡ Some out.End = takes.0 in cc)
    by_piece (piece.Refused fault) steps takes = (let e : None ≡ Some (out.Refused fault) = takes.0 in cc)
    by_piece piece.ReadFault steps takes = (let e : None ≡ Some out.ReadFault = takes.0 in cc)

-- a closed payload
closes_only : (marker : Bool) (u : Packing) (answer : PackOut) (v : Packing) (f : Effects) → Closes marker u answer v → f ≡ only_read f.read → OnlyReads answer f
closes_only marker u out.Datagram v f k e = e
closes_only marker u (out.TooManyDatagrams at) v f k e = e
closes_only marker u out.End v f k e = absurd k
closes_only marker u (out.Refused fault) v f k e = absurd k
closes_only marker u (out.HeaderTooLong at) v f k e = absurd k
closes_only marker u out.ReadFault v f k e = absurd k

mains_only : (h : Head) (u : Packing) (answer : PackOut) (v : Packing) (f : Effects) → Mains h u answer v → f ≡ only_read f.read → OnlyReads answer f
mains_only h u out.Datagram v f k e = e
mains_only h u (out.TooManyDatagrams at) v f k e = e
mains_only h u (out.HeaderTooLong at) v f k e = e
mains_only h u out.End v f k e = absurd k
mains_only h u (out.Refused fault) v f k e = absurd k
mains_only h u out.ReadFault v f k e = absurd k

-- a move that gives an answer
pub stops : (p : Plan) (read : List ℕ) (given : List (List ℕ)) (u v : Packing) (s t : Meaning) (answer : PackOut) (es : List Event) → Sender p read given u → Advances u s t (Some answer) v es → Stops p read given answer v es
stops p read given u v s t answer es is (inl (some, none, same, puts)) =
    let G : List Event → Type 0 = λ l. Stops p read given answer v l in
    let R : List ℕ → Type 0 = λ l. Moved p l given answer v in
    subst G (sym none) (record { only = closes_only _ _ answer v nothing puts.1 refl; asks = tt; moved = subst R (sym (append-nil read)) (put_closes p read given u v answer is some puts); few = by_limit p read given u is [] (let W : List ℕ → Type 0 = λ l. u.seen.walk.offset + length l ≤ input_limit in subst W (sym (append-nil u.seen.walk.hand)) is.has_read.within) })
stops p read given u v s t answer es is (inr (none, k)) = by_piece k.piece k.steps k.takes
  where
    live_of : (a : PackOut) → answer ≡ a → goes_on a ≡ false → v ≡ record (taken k.seen u) { live = false } → v.live ≡ goes_on answer
    live_of a e g is_v = ap (λ (x : Packing). x.live) is_v ∙ (sym g ∙ ap goes_on (sym e))

    plan_of : v ≡ record (taken k.seen u) { live = false } → v.plan ≡ p
    plan_of is_v = ap (λ (x : Packing). x.plan) is_v ∙ is.plan

    by_piece : (a : PieceOut) → Steps u.seen s t a k.seen es → TakesPiece a (taken k.seen u) (Some answer) v → Stops p read given answer v es
    by_piece piece.Head steps takes =
        let h = steps.gives.gives.head in
        let shown = steps.gives.gives.shown in
        record {
          only = mains_only h (taken k.seen u) answer v (effects es) (takes h shown) steps.gives.reads;
          asks = reader_asks p read given u s t piece.Head k.seen es is none steps;
          moved = main_moves p read given u k.seen (effects es) h answer v is none steps.gives shown (takes h shown);
          few = step_few p read given u is piece.Head k.seen (effects es) steps.gives;
        }
    by_piece piece.Start steps takes =
        let h = start_ready p read given u k.seen (effects es) is steps.gives in
        let starts = takes h.0 h.1.shown in
        record {
          only = closes_only false _ answer v (effects es) starts.1 steps.gives.reads;
          asks = reader_asks p read given u s t piece.Start k.seen es is none steps;
          moved = start_closes p read given u k.seen (effects es) h.0 answer v is none steps.gives h.1.shown starts;
          few = step_few p read given u is piece.Start k.seen (effects es) steps.gives;
        }
    by_piece piece.More steps takes = (let e : Some answer ≡ None = takes.0 in cc)
    by_piece piece.FrameEnd steps takes = (let e : Some answer ≡ None = takes.0 in cc)
    by_piece piece.End steps takes =
        let e : answer ≡ out.End = cc in
        let O : PackOut → Type 0 = λ a. OnlyReads a (effects es) in
        let A : PackOut → Type 0 = λ a. Answers p a (read ++ (effects es).read) given v in
        record {
          only = subst O (sym e) steps.gives.reads;
          asks = reader_asks p read given u s t piece.End k.seen es is none steps;
          moved = record { answers = subst A (sym e) (ends_here p read given u k.seen (effects es) is none steps.gives); plan = plan_of takes.1; live = live_of out.End e refl takes.1 };
          few = step_few p read given u is piece.End k.seen (effects es) steps.gives;
        }
    by_piece (piece.Refused fault) steps takes =
        let e : answer ≡ out.Refused fault = cc in
        let O : PackOut → Type 0 = λ a. OnlyReads a (effects es) in
        let A : PackOut → Type 0 = λ a. Answers p a (read ++ (effects es).read) given v in
        record {
          only = subst O (sym e) (refused_reads u.seen k.seen (effects es) fault steps.gives);
          asks = reader_asks p read given u s t (piece.Refused fault) k.seen es is none steps;
          moved = record { answers = subst A (sym e) (refused_here p read given u k.seen (effects es) fault is none steps.gives); plan = plan_of takes.1; live = live_of (out.Refused fault) e refl takes.1 };
          few = step_few p read given u is (piece.Refused fault) k.seen (effects es) steps.gives;
        }
    by_piece piece.ReadFault steps takes =
        let e : answer ≡ out.ReadFault = cc in
        let O : PackOut → Type 0 = λ a. OnlyReads a (effects es) in
        let A : PackOut → Type 0 = λ a. Answers p a (read ++ (effects es).read) given v in
        record {
          only = subst O (sym e) steps.gives.reads;
          asks = reader_asks p read given u s t piece.ReadFault k.seen es is none steps;
          moved = record { answers = subst A (sym e) (fails_here p read given u k.seen (effects es) is none steps.gives); plan = plan_of takes.1; live = live_of out.ReadFault e refl takes.1 };
          few = step_few p read given u is piece.ReadFault k.seen (effects es) steps.gives;
        }

-- Some moves of a step, whatever was read and given before it.
pub record Going (u : Packing) (s t : Meaning) (v : Packing) (es : List Event) : Type 0 where
  pub trace : Trace s es t
  pub only : effects es ≡ only_read (effects es).read
  pub plan : v.plan ≡ u.plan
  pub goes : (read : List ℕ) (given : List (List ℕ)) → Sender u.plan read given u → Goes u.plan read given u v es

-- none yet
pub going_none : (u : Packing) (s : Meaning) → Going u s s u []
going_none u s = record {
  trace = refl;
  only = refl;
  plan = refl;
  goes = λ read given is. record { only = refl; asks = tt; sender = (let R : List ℕ → Type 0 = λ l. Sender u.plan l given u in subst R (sym (append-nil read)) is) };
}

-- the calls of a move
moves_trace : (u v : Packing) (s t : Meaning) (answer : Option PackOut) (es : List Event) → Advances u s t answer v es → Trace s es t
moves_trace u v s t answer es (inl (some, none, same, puts)) = (let T : List Event → Type 0 = λ l. Trace s l t in subst T (sym none) same)
moves_trace u v s t answer es (inr (none, k)) = k.steps.trace

-- what may be asked for after more reads
asks_after : (p : Plan) (read : List ℕ) (given : List (List ℕ)) (es : List Event) (f : Effects) → effects es ≡ only_read (effects es).read → Asks p (read ++ (effects es).read) given f → Asks p read given (and_then (effects es) f)
asks_after p read given es f only k =
    let all : read ++ ((effects es).read ++ f.read) ≡ (read ++ (effects es).read) ++ f.read = sym (append_assoc read (effects es).read f.read) in
    let A : List ℕ → Type 0 = λ l. AreAll p l given in
    let L : List ℕ → Type 0 = λ l. LeavesOpen p l in
    let D : List ℕ → Type 0 = λ l. length l ≤ carried_bytes given + 90000 in
    let B : List ℕ → Type 0 = λ l. IsBytes l in
    record {
      reads = ap (λ (x : Effects). and_then x f) only ∙ ap (λ (x : Effects). and_then (only_read (effects es).read) x) k.reads;
      are_bytes = subst B (sym all) k.are_bytes;
      all = subst A (sym all) k.all;
      leaves_open = subst L (sym all) k.leaves_open;
      leads = subst D (sym all) k.leads;
    }

-- reads alone didn't fail
reads_passed : (es : List Event) → effects es ≡ only_read (effects es).read → HasPassed (effects es)
reads_passed es only = has_passed (effects es) (only_read (effects es).read) only (record { reads = refl; writes = refl; on_wire = refl })

-- what was read by both
read_both : (read : List ℕ) (es fs : List Event) → read ++ (effects (es ++ fs)).read ≡ (read ++ (effects es).read) ++ (effects fs).read
read_both read es fs = ap (λ (x : Effects). read ++ x.read) (effects-append es fs) ∙ sym (append_assoc read (effects es).read (effects fs).read)

asks_both : (p : Plan) (read : List ℕ) (given : List (List ℕ)) (es fs : List Event) → effects es ≡ only_read (effects es).read → AtReads (Asks p read given) nothing es → AtReads (Asks p (read ++ (effects es).read) given) nothing fs → AtReads (Asks p read given) nothing (es ++ fs)
asks_both p read given es fs only first more = at_reads_then (Asks p (read ++ (effects es).read) given) (Asks p read given) es fs first (reads_passed es only) (λ f k. asks_after p read given es f only k) more

-- only reads, and then only reads
only_both : (es fs : List Event) → effects es ≡ only_read (effects es).read → effects fs ≡ only_read (effects fs).read → effects (es ++ fs) ≡ only_read (effects (es ++ fs)).read
only_both es fs a b = effects_then es fs _ _ a b ∙ ap only_read (sym (ap (λ (x : Effects). x.read) (effects-append es fs)))

-- one more move
pub going_further : (u v w : Packing) (s t z : Meaning) (es fs : List Event) → (read : List ℕ) (given : List (List ℕ)) → Sender u.plan read given u → Going u s t v es → Advances v t z None w fs → Going u s z w (es ++ fs)
going_further u v w s t z es fs read given is g a =
    let here = g.goes read given is in
    let next = goes u.plan (read ++ (effects es).read) given v w t z fs here.sender a in
    record {
      trace = trace_join s t z es fs g.trace (moves_trace v w t z None fs a);
      only = only_both es fs g.only next.only;
      plan = next.sender.plan;
      goes = λ read given is. further_goes read given is;
    }
  where
    further_goes : (read : List ℕ) (given : List (List ℕ)) → Sender u.plan read given u → Goes u.plan read given u w (es ++ fs)
    further_goes read given is =
        let here = g.goes read given is in
        let next = goes u.plan (read ++ (effects es).read) given v w t z fs here.sender a in
        let S : List ℕ → Type 0 = λ l. Sender u.plan l given w in
        record {
          only = only_both es fs g.only next.only;
          asks = asks_both u.plan read given es fs g.only here.asks next.asks;
          sender = subst S (sym (read_both read es fs)) next.sender;
        }

-- the answer of more reads after some
only_after : (answer : PackOut) (es fs : List Event) → effects es ≡ only_read (effects es).read → OnlyReads answer (effects fs) → OnlyReads answer (effects (es ++ fs))
only_after answer es fs only k = by_answer answer k
  where
    after : (f : List ℕ → Effects) → ((xs ys : List ℕ) → and_then (only_read xs) (f ys) ≡ f (xs ++ ys)) → effects fs ≡ f (effects fs).read → effects (es ++ fs) ≡ f (effects (es ++ fs)).read
    after f joins e = effects_then es fs _ _ only e ∙ (joins (effects es).read (effects fs).read ∙ ap f (sym (ap (λ (x : Effects). x.read) (effects-append es fs))))

    by_answer : (a : PackOut) → OnlyReads a (effects fs) → OnlyReads a (effects (es ++ fs))
    by_answer out.Datagram e = after only_read (λ xs ys. refl) e
    by_answer (out.HeaderTooLong at) e = after only_read (λ xs ys. refl) e
    by_answer (out.TooManyDatagrams at) e = after only_read (λ xs ys. refl) e
    by_answer out.End e = after read_to_end (λ xs ys. refl) e
    by_answer out.ReadFault e = after read_until_failed (λ xs ys. refl) e
    by_answer (out.Refused fault) (inl (why, e)) = inl (why, after read_to_end (λ xs ys. refl) e)
    by_answer (out.Refused fault) (inr (why, e)) = inr (why, after only_read (λ xs ys. refl) e)

-- the last move
pub going_stops : (u v w : Packing) (s t z : Meaning) (answer : PackOut) (es fs : List Event) (read : List ℕ) (given : List (List ℕ)) → Sender u.plan read given u → Going u s t v es → Advances v t z (Some answer) w fs → Sends u s z answer w (es ++ fs)
going_stops u v w s t z answer es fs read given is g a =
    let here = g.goes read given is in
    let last = stops u.plan (read ++ (effects es).read) given v w t z answer fs here.sender a in
    record {
      trace = trace_join s t z es fs g.trace (moves_trace v w t z (Some answer) fs a);
      only = only_after answer es fs g.only last.only;
      plan = last.moved.plan;
      live = last.moved.live;
      asks = λ read given is. stop_asks read given is;
      answers = λ read given is. stop_answers read given is;
      within = λ read given is. stop_within read given is;
    }
  where
    stop_of : (read : List ℕ) (given : List (List ℕ)) → Sender u.plan read given u → Stops u.plan (read ++ (effects es).read) given answer w fs
    stop_of read given is = stops u.plan (read ++ (effects es).read) given v w t z answer fs (g.goes read given is).sender a

    stop_asks : (read : List ℕ) (given : List (List ℕ)) → Sender u.plan read given u → AtReads (Asks u.plan read given) nothing (es ++ fs)
    stop_asks read given is = asks_both u.plan read given es fs g.only (g.goes read given is).asks (stop_of read given is).asks

    stop_within : (read : List ℕ) (given : List (List ℕ)) → Sender u.plan read given u → length (read ++ (effects (es ++ fs)).read) ≤ input_limit + 1
    stop_within read given is = (let L : List ℕ → Type 0 = λ l. length l ≤ input_limit + 1 in subst L (sym (read_both read es fs)) (stop_of read given is).few)

    stop_answers : (read : List ℕ) (given : List (List ℕ)) → Sender u.plan read given u → Answers u.plan answer (read ++ (effects (es ++ fs)).read) given w
    stop_answers read given is =
        let A : List ℕ → Type 0 = λ l. Answers u.plan answer l given w in
        subst A (sym (read_both read es fs)) (stop_of read given is).moved.answers

-- What is left to do of an input: each move puts in some bytes, or reads some.
abbrev pub rank : Packing → ℕ
rank u = 2 * (input_limit - u.seen.walk.offset) + length u.rest

fewer : (limit before now some left : ℕ) → now ≡ before + some → 1 ≤ some → left ≡ some → now ≤ limit → 2 * (limit - now) + left < 2 * (limit - before) + 0
fewer limit before now some left a b c d = omega (arith, a, b, c, d)

read_falls : (u v : Packing) (n : ℕ) → v.seen.walk.offset ≡ u.seen.walk.offset + n → 1 ≤ n → length v.rest ≡ n → reach v.seen.walk ≤ input_limit → u.rest ≡ [] → rank v < rank u
read_falls u v n offset some left within none =
    let R : ℕ → Type 0 = λ k. 2 * (input_limit - v.seen.walk.offset) + length v.rest < 2 * (input_limit - u.seen.walk.offset) + k in
    let few : v.seen.walk.offset ≤ input_limit = smaller v.seen.walk.offset (length v.seen.walk.hand) input_limit within in
    subst R (sym (ap length none)) (fewer input_limit u.seen.walk.offset v.seen.walk.offset n (length v.rest) offset some left few)
  where
    smaller : (a b c : ℕ) → a + b ≤ c → a ≤ c
    smaller a b c e = omega (arith, e)

pub rank_falls : (p : Plan) (read : List ℕ) (given : List (List ℕ)) (u v : Packing) (s t : Meaning) (es : List Event) → Sender p read given u → Advances u s t None v es → rank v < rank u
rank_falls p read given u v s t es is (inl (some, none, same, puts)) =
    let c = is_count u some (has_room p read given u is some) in
    let R : Packing → Type 0 = λ x. rank x < rank u in
    subst R (sym puts.1) (put_falls (2 * (input_limit - u.seen.walk.offset)) (length (drop (put_count u) u.rest)) (length u.rest) (put_count u) (length-drop (put_count u) u.rest) c.some c.within)
  where
    put_falls : (k left rest n : ℕ) → left ≡ rest - n → 1 ≤ n → n ≤ rest → k + left < k + rest
    put_falls k left rest n a b c = omega (arith, a, b, c)
rank_falls p read given u v s t es is (inr (none, k)) = by_piece k.piece k.steps k.takes
  where
    within : reach v.seen.walk ≤ input_limit
    within = (goes p read given u v s t es is (inr (none, k))).sender.has_read.within

    by_piece : (a : PieceOut) → Steps u.seen s t a k.seen es → TakesPiece a (taken k.seen u) None v → rank v < rank u
    by_piece piece.Head steps takes = absurd takes
    by_piece piece.Start steps takes =
        let h = start_ready p read given u k.seen (effects es) is steps.gives in
        let v_is = (takes h.0 h.1.shown).1 in
        let passes = start_passes (fed u.seen.walk (effects es).read) u.seen.head k.seen steps.gives.gives in
        read_falls u v (length k.seen.given) (ap (λ (x : Packing). x.seen.walk.offset) v_is ∙ passes.offset) passes.some (ap (λ (x : Packing). length x.rest) v_is) within none
    by_piece piece.More steps takes =
        let passes = more_passes (fed u.seen.walk (effects es).read) u.seen.head k.seen steps.gives.gives in
        read_falls u v (length k.seen.given) (ap (λ (x : Packing). x.seen.walk.offset) takes.1 ∙ passes.offset) passes.some (ap (λ (x : Packing). length x.rest) takes.1) within none
    by_piece piece.FrameEnd steps takes =
        let passes = eoc_passes (fed u.seen.walk (effects es).read) u.seen.head k.seen steps.gives.gives in
        read_falls u v (length k.seen.given) (ap (λ (x : Packing). x.seen.walk.offset) takes.1 ∙ passes.offset) passes.some (ap (λ (x : Packing). length x.rest) takes.1) within none
    by_piece piece.End steps takes = (let e : None ≡ Some out.End = takes.0 in cc)
    by_piece (piece.Refused fault) steps takes = (let e : None ≡ Some (out.Refused fault) = takes.0 in cc)
    by_piece piece.ReadFault steps takes = (let e : None ≡ Some out.ReadFault = takes.0 in cc)

-- a sender stays one
pub sender_stays : (u v : Packing) (s t : Meaning) (es : List Event) → Going u s t v es → IsSender u → IsSender v
sender_stays u v s t es g is =
    let P : Plan → Type 0 = λ q. Sender q (is.0 ++ (effects es).read) is.1 v in
    (is.0 ++ (effects es).read, is.1, subst P (sym g.plan) (g.goes is.0 is.1 is.2).sender)
