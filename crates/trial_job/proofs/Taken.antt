-- Frames of a trial given to a receiver one after another.
use Rattle.std.proofs.Common.{◌≡◌, ◌≤◌, ◌<◌, ◌+◌, ◌-◌, ◌^◌, ◌++◌, ℕ, Bool, true, false, List, [], ◌∷◌, map, min, length, nat_le, refl, sym, ◌∙◌, ap, subst, append_assoc, arith}
use Rattle.std.specs.Prelude.{cond, drop}
use Rattle.std.specs.List.{AllByRecursion}
use Rattle.std.proofs.lemmas.Bool.{le-leb}
use Rattle.std.proofs.lemmas.List.{append-nil, length-append}
use Rattle.wire_model.specs.Bytes.{IsBytes}
use Rattle.wire_model.specs.Thinning.{is_kept, kept}
use Rattle.stream_model.specs.Decoder.{Release}
use Rattle.stream_model.specs.Receiver as rules
use Rattle.stream_model.specs.Receiver.{new_receiver, received, take_frames, take_frame, flushed, counts_of}
use Rattle.stream_model.specs.ReceiverJoins.{having_given, forgetful}
use Rattle.stream_model.specs.Report.{Counts}
use Rattle.stream_model.proofs.CountedFrames.{counted-frame}
use Rattle.trial_model.specs.TrialLaws.{trial_pick}
use Rattle.scl_outside.specs.Events.{Event}
use Rattle.scl_outside.specs.Effects.{Effects, effects}
use Rattle.scl_outside.specs.Steps.{Counts as Rises}
use Rattle.scl_outside.specs.Memory.{sure_meaning}
use Rattle.scl_outside.specs.Writing.{Puts}
use Rattle.scl_outside.specs.declared.never_fails.NeverFails.{NeverFails}
use Rattle.scl_outside.specs.declared.duct.PutOut.{PutOut}
use Rattle.scl_outside.specs.declared.duct.PutOut.TheVariants.{Done, WriteFault}
use Rattle.scl_outside.proofs.Affects.{trace_affects}
use Rattle.stream_receiver.specs.States.{ReceiverState, counted, new_state}
use Rattle.receiving_job.specs.Giving.{IsReady, HasGiven, Stands, Gives}
use Rattle.receiving_job.proofs.Takes.{grown, all_bytes, end_put, end_counts}
use Rattle.trial_job.specs.declared.receiving.Link.{Link}
use Rattle.trial_job.specs.declared.receiving.Received.{Received}
use Rattle.trial_job.specs.Receiving.{HasTaken, HasCounted}

-- No write fails on an outside that never fails.
pub never_broken : (bytes : List ℕ) (a b : NeverFails) (es : List Event) → Puts bytes (sure_meaning a) (sure_meaning b) WriteFault es → ⊥
never_broken bytes a b es p =
    let rises : Rises (effects es).write_failed 0 0 = (trace_affects (sure_meaning a) (sure_meaning b) es p.trace).write_faults in
    let failed : (effects es).write_failed ≡ true = ap (λ (f : Effects). f.write_failed) p.gives.3 in
    let P : Bool → Type 0 = λ f. Rises f 0 0 in
    let now = subst P failed rises in
    omega (arith, now.1)

-- A new receiver has taken no frame.
nothing_taken : (pick : rules.Pick) → received pick [] ≡ having_given [] (new_receiver pick)
unfolding take_frames
nothing_taken pick = refl

pub new_link : (window : ℕ) (link : Link) → link.receiver ≡ new_state (trial_pick window) → link.counter.released ≡ 0 → link.thinned ≡ 0 → HasTaken window [] link
new_link window link is none zero =
    let R : ReceiverState → Type 0 = λ s. IsReady s in
    let at = is in
    record {
      pick = ap (λ (s : ReceiverState). s.pick) is;
      ready = subst R (sym is) (record { settled = refl; undue = refl; fresh = refl });
      packets = [];
      released = record {
        are_bytes = tt;
        count = ap (λ (s : ReceiverState). counted s.rules) (sym is);
        is = let S : ReceiverState → Type 0 = λ s. received s.pick [] ≡ having_given [] s.rules in subst S (sym is) (nothing_taken (trial_pick window));
        released = none;
      };
      thinned = zero;
    }

-- What a link has taken, as a receiving job sees it.
pub given_of : (window : ℕ) (frames : List (List ℕ)) (link : Link) (t : HasTaken window frames link) → HasGiven link.receiver t.packets
given_of window frames link t = record { frames = frames; are_bytes = t.released.are_bytes; count = t.released.count; is = t.released.is }

pub stands_of : (window : ℕ) (frames : List (List ℕ)) (link : Link) (t : HasTaken window frames link) → Stands (λ packets. link.counter.released ≡ min (length packets) (2 ^ 64 - 1)) link.receiver t.packets
stands_of window frames link t = record { has_put = t.released.released; has_given = given_of window frames link t }

pub few_of : (window : ℕ) (frames : List (List ℕ)) (link : Link) → HasTaken window frames link → link.thinned < 2 ^ 63 → counted link.receiver.rules < 2 ^ 63
few_of window frames link t few = let a = t.thinned in let b = t.released.count in omega (arith, a, b, few)

-- One frame more was taken.
pub taken_more : (window : ℕ) (frames : List (List ℕ)) (frame : List ℕ) (l m : Link) (result : PutOut) (es : List Event) (t : HasTaken window frames l) → IsBytes frame → m.thinned ≡ l.thinned + 1 → m.receiver.pick ≡ l.receiver.pick
    → Gives (λ packets. []) (λ packets. m.counter.released ≡ min (length packets) (2 ^ 64 - 1)) t.packets (take_frame l.receiver.pick l.receiver.rules frame) result m.receiver (sure_meaning l.out) (sure_meaning m.out) es
    → HasTaken window (frames ++ frame ∷ []) m
unfolding given_of
taken_more window frames frame l m WriteFault es t are more pick g = absurd (never_broken g.puts.text l.out m.out es g.puts.puts)
taken_more window frames frame l m Done es t are more pick g =
    let s = l.receiver in
    let y = take_frame s.pick s.rules frame in
    let size = length-append frames (frame ∷ []) in
    let count = t.released.count in
    let next = counted-frame s.pick s.rules frame in
    let now : counted m.receiver.rules ≡ counted y = ap counted g.left.0 in
    let thinned = t.thinned in
    let joins : having_given t.packets y ≡ having_given (t.packets ++ y.releases) (forgetful y) = ap (λ l. record y { releases = l }) (sym (append-nil (t.packets ++ y.releases))) in
    record {
      pick = pick ∙ t.pick;
      ready = g.left.1;
      packets = t.packets ++ y.releases;
      released = record {
        are_bytes = all_bytes frames frame t.released.are_bytes are;
        count = omega (arith, size, count, next, now);
        is = ap (λ p. received p (frames ++ frame ∷ [])) pick
            ∙ (grown s t.packets (given_of window frames l t) frame ∙ (joins ∙ ap (having_given (t.packets ++ y.releases)) (sym g.left.0)));
        released = g.put;
      };
      thinned = omega (arith, size, more, thinned);
    }

-- A frame that thinning keeps, or leaves out.
pub at_limit : (limit level : ℕ) (frame : List ℕ) → is_kept limit frame ≡ nat_le level limit → level ≤ limit → is_kept limit frame ≡ true
at_limit limit level frame is low = is ∙ le-leb level limit low

pub kept_one : (window limit : ℕ) (frames : List (List ℕ)) (frame : List ℕ) (m : Link) → is_kept limit frame ≡ true → HasTaken window (frames ++ frame ∷ []) m → HasTaken window (frames ++ kept limit (frame ∷ [])) m
kept_one window limit frames frame m is t = rw is t

pub left_out : (window limit : ℕ) (frames : List (List ℕ)) (frame : List ℕ) (m : Link) → is_kept limit frame ≡ false → HasTaken window frames m → HasTaken window (frames ++ kept limit (frame ∷ [])) m
left_out window limit frames frame m is t = let P : List (List ℕ) → Type 0 = λ l. HasTaken window l m in rw is (subst P (sym (append-nil frames)) t)

-- The numbers at the end.
pub counted_at_end : (window : ℕ) (frames : List (List ℕ)) (l : Link) (u : ReceiverState) (out : NeverFails) (released : ℕ) (r : Received) (result : PutOut) (es : List Event) (t : HasTaken window frames l)
    → Gives (λ packets. []) (λ packets. released ≡ min (length packets) (2 ^ 64 - 1)) t.packets (flushed l.receiver.rules) result u (sure_meaning l.out) (sure_meaning out) es
    → r.thinned ≡ l.thinned → r.kept ≡ (counts_of u.rules).kept → r.released ≡ released → HasCounted window frames r
counted_at_end window frames l u out released r WriteFault es t g thinned kept same = absurd (never_broken g.puts.text l.out out es g.puts.puts)
counted_at_end window frames l u out released r Done es t g thinned kept same =
    let s = l.receiver in
    let all : received (trial_pick window) frames ≡ having_given t.packets s.rules = ap (λ p. received p frames) (sym t.pick) ∙ t.released.is in
    let packets : (flushed (received (trial_pick window) frames)).releases ≡ t.packets ++ (flushed s.rules).releases = ap (λ (x : rules.Receiver). (flushed x).releases) all ∙ end_put s t.packets in
    let counts : counts_of u.rules ≡ counts_of (flushed (received (trial_pick window) frames)) = end_counts s u t.packets g.left.0 ∙ ap (λ (x : rules.Receiver). counts_of (flushed x)) (sym all) in
    record {
      thinned = thinned ∙ t.thinned;
      kept = kept ∙ ap (λ (c : Counts). c.kept) counts;
      released = same ∙ (g.put ∙ ap (λ (l : List Release). min (length l) (2 ^ 64 - 1)) (sym packets));
    }

-- The first of the positions that are left.
pub next_within : (n : ℕ) (positions : List ℕ) (i position : ℕ) (more : List ℕ) → drop i positions ≡ position ∷ more → AllByRecursion (λ k. k < n) (drop i positions) → (position < n) × AllByRecursion (λ k. k < n) more
next_within n positions i position more is all = let P : List ℕ → Type 0 = λ l. AllByRecursion (λ k. k < n) l in subst P is all

-- What is kept of a frame and of those after it.
kept_first : (limit : ℕ) (frame : List ℕ) (later : List (List ℕ)) → kept limit (frame ∷ []) ++ kept limit later ≡ kept limit (frame ∷ later)
kept_first limit frame later = by (is_kept limit frame) where
  by : (b : Bool) → cond b (frame ∷ []) [] ++ kept limit later ≡ cond b (frame ∷ kept limit later) (kept limit later)
  by true = refl
  by false = refl

pub kept_next : (limit : ℕ) (f : ℕ → List ℕ) (all frames : List (List ℕ)) (left more : List ℕ) (position : ℕ) → left ≡ position ∷ more → frames ++ kept limit (map f left) ≡ all → (frames ++ kept limit (f position ∷ [])) ++ kept limit (map f more) ≡ all
kept_next limit f all frames left more position is so =
    append_assoc frames (kept limit (f position ∷ [])) (kept limit (map f more))
    ∙ (ap (λ l. frames ++ l) (kept_first limit (f position) (map f more)) ∙ (ap (λ l. frames ++ kept limit (map f l)) (sym is) ∙ so))

pub kept_all : (window limit : ℕ) (f : ℕ → List ℕ) (all frames : List (List ℕ)) (left : List ℕ) (link : Link) → left ≡ [] → frames ++ kept limit (map f left) ≡ all → HasTaken window frames link → HasTaken window all link
kept_all window limit f all frames left link none so t =
    let e : frames ≡ all = sym (append-nil frames) ∙ (ap (λ l. frames ++ kept limit (map f l)) (sym none) ∙ so) in
    let P : List (List ℕ) → Type 0 = λ l. HasTaken window l link in subst P e t
