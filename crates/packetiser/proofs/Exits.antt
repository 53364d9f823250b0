-- How a step of a sender ends that gives no Body: with a Main, or because the input is over, or refused, or can't be read.
use Rattle.std.proofs.Common.{◌≡◌, ◌⊎◌, ◌<◌, ◌≤◌, ◌+◌, ◌-◌, ℕ, List, [], ◌∷◌, ◌++◌, map, length, Some, refl, sym, subst, ap, ◌∙◌, inl, inr, arith, append_assoc}
use Rattle.std.specs.List.{AllByRecursion}
use Rattle.std.proofs.lemmas.List.{append-nil, length-append, length-map, take_at}
use Rattle.codestream_model.specs.Values.{Head}
use Rattle.codestream_model.specs.Bytes.{IsBytes}
use Rattle.codestream_model.specs.Codestream.{WalkRefusal, Cut, InputTooLong, TooManyFrames, Faults, IsInput, joined}
use Rattle.stream_model.specs.Stream.{Parts}
use Rattle.stream_model.specs.Commands.{counted}
use Rattle.stream_model.specs.Cut.{Plan, Known, room, known_of, datagrams_by, datagram_bytes}
use Rattle.sender_model.specs.Closing.{due_by, closed}
use Rattle.sender_model.specs.Refusals.{InputRefused, HeaderTooLong, HasLongHeader, HasFewDatagrams, HasNoLongHeader}
use Rattle.scl_outside.specs.Effects.{Effects, only_read}
use Rattle.codestream_walk.specs.InHand.{input_limit}
use Rattle.codestream_walk.specs.Faults.{walk_refusal}
use Rattle.codestream_walk.specs.Walking.{Stage, AtStart, AtNext, InBody, AtEnd, Walking, Seen, fed, reach, Wants, RefusesIn, Refuses}
use Rattle.codestream_walk.specs.Reading.{Fixes, MeetsEnd, MeetsLimit, MeetsFault, StepGives, IsFull}
use Rattle.codestream_walk.specs.Inputs.{WereGiven}
use Rattle.codestream_walk.specs.declared.fault.WalkFault.{WalkFault}
use Rattle.codestream_walk.specs.declared.fault.WalkWhy.TheVariants as reason
use Rattle.codestream_walk.specs.declared.fault.PieceOut.TheVariants as piece
use Rattle.codestream_walk.proofs.Bytes.{bytes_join}
use Rattle.codestream_walk.proofs.Refusals.{refusal_is_fault, end_is_input, end_is_cut, limit_is_fault, limit_is_full}
use Rattle.packetiser.specs.Filled.{part}
use Rattle.packetiser.specs.Knowing.{IsKnown}
use Rattle.packetiser.specs.Packing.{Packing, taken, after_main, main_of, Mains}
use Rattle.packetiser.specs.declared.packetiser.PackOut.{PackOut}
use Rattle.packetiser.specs.declared.packetiser.PackOut.TheVariants as out
use Rattle.packetiser.specs.Sending.{Sender, AreAll, OnlyReads, RefusesAs, Answers}
use Rattle.packetiser.proofs.Growing.{knows_head}
use Rattle.packetiser.proofs.Closing.{knows_given, there_so_far}
use Rattle.packetiser.proofs.Due.{due_before, all_closed}
use Rattle.packetiser.proofs.Passing.{head_passes}
use Rattle.packetiser.proofs.Settled.{settled, all_read, read_is, fit_parts}
use Rattle.packetiser.proofs.Given.{due_given, due_refused}
use Rattle.packetiser.proofs.Moves.{Moved}
use Rattle.packetiser.proofs.Reading.{known_fed, head_between, main_due}

-- the bytes of an input that are read and given
given_fed : (p : Plan) (read : List ℕ) (given : List (List ℕ)) (u : Packing) (s : Sender p read given u) (bytes : List ℕ) → WereGiven s.consumed (fed u.seen.walk bytes)
given_fed p read given u s bytes = knows_given s.consumed (fed u.seen.walk bytes) s.parts s.known (known_fed p read given u s bytes)

-- the bytes read as those given and those in hand
read_fed : (p : Plan) (read : List ℕ) (given : List (List ℕ)) (u : Packing) (s : Sender p read given u) (bytes : List ℕ) → read ++ bytes ≡ s.consumed ++ (u.seen.walk.hand ++ bytes)
read_fed p read given u s bytes = read_is p read u.seen.walk s.consumed s.parts s.known bytes s.has_read

-- the input is over
pub ends_here : (p : Plan) (read : List ℕ) (given : List (List ℕ)) (u : Packing) (v : Seen) (f : Effects) → Sender p read given u → u.rest ≡ [] → MeetsEnd piece.End u.seen v f → Answers p out.End (read ++ f.read) given u
ends_here p read given u v f s none k =
    let t = settled p read f.read given u s none k.waits.are_bytes k.waits.within (inl k.waits.wants) in
    let e = end_is_input s.consumed (fed u.seen.walk f.read) (given_fed p read given u s f.read) k.waits.within k.ends in
    let I : List ℕ → Type 0 = λ l. IsInput l e.0 in
    ((e.0, record { is_input = subst I (sym (read_fed p read given u s f.read)) e.1; fit = t.fit; few = t.few }), t.all)

-- a read failed
pub fails_here : (p : Plan) (read : List ℕ) (given : List (List ℕ)) (u : Packing) (v : Seen) (f : Effects) → Sender p read given u → u.rest ≡ [] → MeetsFault u.seen v f → AreAll p (read ++ f.read) given
fails_here p read given u v f s none k = (settled p read f.read given u s none k.waits.are_bytes k.waits.within (inl k.waits.wants)).all

-- an item is refused
fixed_refusal : (p : Plan) (read : List ℕ) (given : List (List ℕ)) (u : Packing) (v : Seen) (f : Effects) (fault : WalkFault) → Sender p read given u → u.rest ≡ [] → Fixes (piece.Refused fault) u.seen v f → RefusesAs p (read ++ f.read) given fault.at (InputRefused (walk_refusal fault.why))
fixed_refusal p read given u v f fault s none k =
    let w = fed u.seen.walk f.read in
    let refuses = k.gives.0 in
    let t = settled p read f.read given u s none k.are_bytes k.within (inr (refuses.0, walk_refusal fault.why, refuses.1)) in
    let g = refusal_is_fault s.consumed [] w fault.at (walk_refusal fault.why) (given_fed p read given u s f.read) k.within refuses in
    let F : List ℕ → Type 0 = λ l. Faults l fault.at (walk_refusal fault.why) in
    let H : List ℕ → Type 0 = λ l. Faults (s.consumed ++ l) fault.at (walk_refusal fault.why) in
    ((t.few, t.fit, subst F (sym (read_fed p read given u s f.read)) (subst H (append-nil w.hand) g)), t.all)

-- the input is over inside a codestream
cut_refusal : (p : Plan) (read : List ℕ) (given : List (List ℕ)) (u : Packing) (v : Seen) (f : Effects) (fault : WalkFault) → Sender p read given u → u.rest ≡ [] → MeetsEnd (piece.Refused fault) u.seen v f → RefusesAs p (read ++ f.read) given fault.at (InputRefused (walk_refusal fault.why))
cut_refusal p read given u v f fault s none k =
    let w = fed u.seen.walk f.read in
    let t = settled p read f.read given u s none k.waits.are_bytes k.waits.within (inl k.waits.wants) in
    let g = end_is_cut s.consumed w (given_fed p read given u s f.read) k.waits.within k.waits.wants k.ends.0 in
    let F : List ℕ → Type 0 = λ l. Faults l (reach w) Cut in
    let A : ℕ → Type 0 = λ n. Faults (read ++ f.read) n Cut in
    let W : WalkRefusal → Type 0 = λ y. Faults (read ++ f.read) fault.at y in
    ((t.few, t.fit, subst W (sym (ap walk_refusal k.ends.1)) (subst A (sym k.ends.2) (subst F (sym (read_fed p read given u s f.read)) g))), t.all)

-- the input is too long
limit_refusal : (p : Plan) (read : List ℕ) (given : List (List ℕ)) (u : Packing) (v : Seen) (f : Effects) (fault : WalkFault) → Sender p read given u → u.rest ≡ [] → (k : MeetsLimit fault u.seen v f) → RefusesAs p (read ++ (k.bytes ++ k.more)) given fault.at (InputRefused (walk_refusal fault.why))
limit_refusal p read given u v f fault s none k =
    let w = fed u.seen.walk k.bytes in
    let r = s.has_read in
    let t = settled p read k.bytes given u s none k.waits.are_bytes k.waits.within (inl k.waits.wants) in
    let all = all_read p read u.seen.walk s.consumed s.parts s.known k.bytes r k.waits.within in
    let size : length (read ++ k.bytes) ≡ input_limit = omega (arith, k.full, r.knows.offset, ap length r.whole, length-append s.consumed u.seen.walk.hand, length-append read k.bytes, length-append u.seen.walk.hand k.bytes) in
    let split : read ++ (k.bytes ++ k.more) ≡ (read ++ k.bytes) ++ k.more = sym (append_assoc read k.bytes k.more) in
    let cuts : counted (read ++ (k.bytes ++ k.more)) ≡ counted (read ++ k.bytes) = ap counted split ∙ (take_at (read ++ k.bytes) k.more 1099511627776 size ∙ sym all) in
    let G : List ℕ → Type 0 = λ l. HasFewDatagrams p l in
    let L : List ℕ → Type 0 = λ l. HasNoLongHeader p l in
    let whole : s.consumed ++ (w.hand ++ k.more) ≡ read ++ (k.bytes ++ k.more) = sym (append_assoc s.consumed w.hand k.more) ∙ (ap (λ (l : List ℕ). l ++ k.more) (sym (read_fed p read given u s k.bytes)) ∙ sym split) in
    let F : List ℕ → Type 0 = λ l. Faults l fault.at (walk_refusal fault.why) in (
      (subst G (sym cuts) t.few, subst L (sym cuts) t.fit, subst F whole (limit_fault w (given_fed p read given u s k.bytes) k.full k.waits.wants k.passes.0 k.passes.1)),
      t.all ∙ ap (closed p) (sym cuts),
    )
  where
    limit_fault : (w : Walking) → WereGiven s.consumed w → reach w ≡ input_limit → Wants w → fault.at ≡ input_limit → ((IsFull w × (fault.why ≡ reason.TooManyFrames)) ⊎ ((IsFull w → ⊥) × (fault.why ≡ reason.InputTooLong))) → Faults (s.consumed ++ (w.hand ++ k.more)) fault.at (walk_refusal fault.why)
    limit_fault w g full wants at (inl t) =
        let A : ℕ → Type 0 = λ n. Faults (s.consumed ++ (w.hand ++ k.more)) n TooManyFrames in
        let W : WalkRefusal → Type 0 = λ y. Faults (s.consumed ++ (w.hand ++ k.more)) fault.at y in
        subst W (sym (ap walk_refusal t.1)) (subst A (sym at) (limit_is_full s.consumed k.more w g full wants (omega (arith, k.one)) t.0))
    limit_fault w g full wants at (inr t) =
        let A : ℕ → Type 0 = λ n. Faults (s.consumed ++ (w.hand ++ k.more)) n InputTooLong in
        let W : WalkRefusal → Type 0 = λ y. Faults (s.consumed ++ (w.hand ++ k.more)) fault.at y in
        subst W (sym (ap walk_refusal t.1)) (subst A (sym at) (limit_is_fault s.consumed k.more w g full wants (omega (arith, k.one)) t.0))

-- so the input is refused
pub refused_here : (p : Plan) (read : List ℕ) (given : List (List ℕ)) (u : Packing) (v : Seen) (f : Effects) (fault : WalkFault) → Sender p read given u → u.rest ≡ [] → StepGives (piece.Refused fault) u.seen v f → RefusesAs p (read ++ f.read) given fault.at (InputRefused (walk_refusal fault.why))
refused_here p read given u v f fault s none (inl k) = fixed_refusal p read given u v f fault s none k
refused_here p read given u v f fault s none (inr (inl k)) = cut_refusal p read given u v f fault s none k
refused_here p read given u v f fault s none (inr (inr k)) =
    let R : List ℕ → Type 0 = λ l. RefusesAs p (read ++ l) given fault.at (InputRefused (walk_refusal fault.why)) in
    subst R (sym (ap (λ (x : Effects). x.read) k.reads)) (limit_refusal p read given u v f fault s none k)

-- an item is never refused because the input ends
not_cut : (w : Walking) (at : ℕ) → Refuses w at Cut → ⊥
not_cut w at (inside, r, e) = by_stage w.stage w.codestreams w.hand inside r
  where
    by_stage : (stage : Stage) (n : ℕ) (hand : List ℕ) (inside : ℕ) → RefusesIn stage n hand inside Cut → ⊥
    by_stage AtStart n hand inside (some, inl t) = (let e : Cut ≡ TooManyFrames = t.2 in cc)
    by_stage AtStart n hand inside (some, inr t) = t.1
    by_stage (AtNext h [] size) n hand inside r = r.0
    by_stage (AtNext h (p ∷ later) size) n hand inside r = r.0
    by_stage (InBody h p blocks later size left) n hand inside r = r
    by_stage AtEnd n hand inside r = r

-- what was read where the input is refused
pub refused_reads : (u v : Seen) (f : Effects) (fault : WalkFault) → StepGives (piece.Refused fault) u v f → OnlyReads (out.Refused fault) f
refused_reads u v f fault (inl k) =
    inr ((λ e. let R : WalkRefusal → Type 0 = λ y. Refuses (fed u.walk f.read) fault.at y in not_cut (fed u.walk f.read) fault.at (subst R (ap walk_refusal e) k.gives.0)), k.reads)
refused_reads u v f fault (inr (inl k)) = inl (k.ends.1, k.reads)
refused_reads u v f fault (inr (inr k)) =
    inr (passes_not_cut k.passes.1, k.reads ∙ ap only_read (sym (ap (λ (x : Effects). x.read) k.reads)))
  where
    passes_not_cut : ((IsFull (fed u.walk k.bytes) × (fault.why ≡ reason.TooManyFrames)) ⊎ ((IsFull (fed u.walk k.bytes) → ⊥) × (fault.why ≡ reason.InputTooLong))) → fault.why ≡ reason.Cut → ⊥
    passes_not_cut (inl t) e = (let c : reason.TooManyFrames ≡ reason.Cut = sym t.1 ∙ e in cc)
    passes_not_cut (inr t) e = (let c : reason.InputTooLong ≡ reason.Cut = sym t.1 ∙ e in cc)

-- a main header that has no room in a datagram
long_header : (p : Plan) (read : List ℕ) (given : List (List ℕ)) (u : Packing) (v : Seen) (f : Effects) → Sender p read given u → u.rest ≡ [] → Fixes piece.Head u.seen v f → room u.plan < length v.given
    → RefusesAs p (read ++ f.read) given (v.walk.offset - length v.given) HeaderTooLong
long_header p read given u v f s none k long =
    let w = fed u.seen.walk f.read in
    let r = s.has_read in
    let g = k.gives in
    let passes = head_passes w v g in
    let h = knows_head s.consumed w v s.parts s.known (known_fed p read given u s f.read) g in
    let c : Known = part g.head g.front [] in
    let b = head_between p read given u s v f.read none g in
    let R : Plan → Type 0 = λ q. room q < length v.given in
    let is_long : room p < length c.header = omega (arith, subst R s.plan long, ap length g.given) in
    let all = all_read p read u.seen.walk s.consumed s.parts s.known f.read r k.within in
    let whole : read ++ f.read ≡ (s.consumed ++ v.given) ++ v.walk.hand = read_fed p read given u s f.read ∙ (ap (λ (l : List ℕ). s.consumed ++ l) passes.whole ∙ sym (append_assoc s.consumed v.given v.walk.hand)) in
    let B : List ℕ → Type 0 = λ l. IsBytes l in
    let D : List ℕ → Type 0 = λ l. due_by p l ≡ datagrams_by p (map known_of s.parts) in
    let fit = fit_known_parts p s.parts s.known r.fit in
    let sent : datagrams_by p (map known_of s.parts) ≡ s.sent = sym (b.sent_is ∙ ap (λ q. datagrams_by q (map known_of s.parts)) s.plan) in
    let due : due_by p (read ++ f.read) ≡ s.sent = subst D (sym whole) (due_before p (s.consumed ++ v.given) v.walk.hand s.parts c (subst B whole (bytes_join read f.read r.are_bytes k.are_bytes)) (there_so_far (s.consumed ++ v.given) v.walk s.parts (c ∷ []) h.1) fit is_long) ∙ sent in
    let few : length s.sent ≤ 8388607 = omega (arith, s.few, ap length s.given_is, length-map s.sent datagram_bytes) in
    let G : List ℕ → Type 0 = λ l. HasFewDatagrams p l in
    let L : List ℕ → Type 0 = λ l. HasLongHeader p l (v.walk.offset - length v.given) in
    let ks = r.knows in
    let front : ks.front ≡ [] = front_none u.seen.walk.stage ks.front s.known g.stage ks.is_known in
    let consumed : s.consumed ≡ joined ks.codestreams = ks.whole ∙ (ap (λ (l : List ℕ). joined ks.codestreams ++ l) front ∙ append-nil (joined ks.codestreams)) in (
      (
        subst G (sym all) (let n : length (due_by p (read ++ f.read)) ≤ 8388607 = omega (arith, few, ap length due) in n),
        subst L (sym all) (record {
          codestreams = ks.codestreams;
          parts = s.parts;
          head = g.head;
          header = g.front;
          more = v.walk.hand;
          whole = read_fed p read given u s f.read ∙ (ap (λ (l : List ℕ). s.consumed ++ l) (passes.whole ∙ ap (λ (l : List ℕ). l ++ v.walk.hand) g.given) ∙ ap (λ (l : List ℕ). l ++ (g.front ++ v.walk.hand)) consumed);
          are_parts = ks.are_parts;
          fit = fit_parts p s.parts s.known r.fit;
          few = omega (arith, g.few, ks.count);
          is_head = g.is_head;
          long = is_long;
          place = omega (arith, passes.offset, ks.offset, ap length consumed);
        }),
      ),
      s.given_is ∙ (sym (all_closed p (read ++ f.read) s.sent due few) ∙ ap (closed p) (sym all)),
    )
  where
    front_none : (stage : Stage) (front : List ℕ) (known : List Known) → stage ≡ AtStart → IsKnown stage front known → front ≡ []
    front_none stage front known e k = (let P : Stage → Type 0 = λ x. IsKnown x front known in (subst P e k).0)

    fit_known_parts : (p : Plan) (parts : List Parts) (known : List Known) → AllByRecursion (λ c. length c.header ≤ room p) (map known_of parts ++ known) → AllByRecursion (λ c. length c.header ≤ room p) (map known_of parts)
    fit_known_parts p [] known a = tt
    fit_known_parts p (c ∷ parts) known a = (a.0, fit_known_parts p parts known a.1)

-- a main header was given
pub main_moves : (p : Plan) (read : List ℕ) (given : List (List ℕ)) (u : Packing) (v : Seen) (f : Effects) (h : Head) (answer : PackOut) (x : Packing) → Sender p read given u → u.rest ≡ [] → Fixes piece.Head u.seen v f → v.head ≡ Some h → Mains h (taken v u) answer x → Moved p (read ++ f.read) given answer x
main_moves p read given u v f h out.Datagram x s none k shown (fits, few, is) =
    let e = main_due p read given u v f h s none k shown fits in
    let M : Packing → Type 0 = λ z. Moved p (read ++ f.read) given out.Datagram z in
    subst M (sym is) (record { answers = due_given p (read ++ f.read) given (after_main h (taken v u)) (main_of h (taken v u)) e (omega (arith, few, s.count)); plan = s.plan; live = s.live })
main_moves p read given u v f h (out.TooManyDatagrams at) x s none k shown (fits, full, place, is) =
    let e = main_due p read given u v f h s none k shown fits in
    let passes = head_passes (fed u.seen.walk f.read) v k.gives in
    let M : Packing → Type 0 = λ z. Moved p (read ++ f.read) given (out.TooManyDatagrams at) z in
    let b = head_between p read given u s v f.read none k.gives in
    subst M (sym is) (record {
      answers = due_refused p (read ++ f.read) given (after_main h (taken v u)) (main_of h (taken v u)) at e (omega (arith, full, s.count)) (main_place (length v.given) (length u.filling.payload) (length e.consumed) v.walk.offset at (ap (λ y. length y.payload) b.is_empty) e.has_read.knows.offset (omega (arith, passes.offset)) place);
      plan = s.plan;
      live = refl;
    })
  where
    main_place : (header payload consumed offset at : ℕ) → payload ≡ 0 → offset ≡ consumed → header ≤ offset → at ≡ offset - header → at + (header + (payload + 0)) ≡ consumed
    main_place header payload consumed offset at a b c d = omega (arith, a, b, c, d)
main_moves p read given u v f h (out.HeaderTooLong at) x s none k shown (long, place, is) =
    let R : ℕ → Type 0 = λ n. RefusesAs p (read ++ f.read) given n HeaderTooLong in
    record { answers = subst R (sym place) (long_header p read given u v f s none k long); plan = ap (λ (y : Packing). y.plan) is ∙ s.plan; live = ap (λ (y : Packing). y.live) is }
main_moves p read given u v f h out.End x s none k shown m = absurd m
main_moves p read given u v f h (out.Refused fault) x s none k shown m = absurd m
main_moves p read given u v f h out.ReadFault x s none k shown m = absurd m
