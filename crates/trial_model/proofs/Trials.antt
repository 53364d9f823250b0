-- What a trial delivers are datagrams of it, and it counts what a receiver makes of them.
use Rattle.std.proofs.Common.{◌≡◌, ◌<◌, ◌≤◌, ◌+◌, ℕ, zero, suc, Bool, true, false, cond, List, [], ◌∷◌, map, length, nat_lt, Some, refl, sym, ◌∙◌, ap, subst, arith, if◌then◌else◌}
use Rattle.std.specs.Prelude.{◌==◌, ◌&&◌}
use Rattle.std.specs.List.{AllByRecursion, AllZip, filter, flat_map, enumerate_from}
use Rattle.std.proofs.lemmas.Bool.{eq-eqb}
use Rattle.std.proofs.lemmas.List.{length-append, length-map}
use Rattle.codestream_model.proofs.HeaderSteps.{each_append, each_left, each_right}
use Rattle.wire_model.specs.Datagram.{Datagram, IsDatagram, datagram_of, is_well_formed}
use Rattle.wire_model.specs.Thinning.{is_kept, kept}
use Rattle.wire_model.proofs.DatagramLaws.{datagram_is_computed}
use Rattle.wire_model.proofs.RtpLaws.{rtp_is_read_one_way}
use Rattle.wire_model.proofs.PayloadLaws.{payload_is_read_one_way}
use Rattle.stream_model.specs.Arrivals.{is_of_kind, source_of, picked, datagram_at, Arrive}
use Rattle.stream_model.specs.Reached.{CarriedPacket, Carried, StreamPrecinct, precincts_by, is_reached, due_at_end}
use Rattle.stream_model.specs.Stream.{Parts, Sent, datagrams_of, carried}
use Rattle.stream_model.specs.StreamLaws.{said_by}
use Rattle.stream_model.specs.Laws.{all_precincts}
use Rattle.stream_model.specs.Report.{Precinct, Counts}
use Rattle.stream_model.specs.Cut.{sent_by}
use Rattle.stream_model.specs.ThinnedLaws.{CanBeSent, cut_of}
use Rattle.stream_model.proofs.CutStreams.{all_one, sent_placed}
use Rattle.stream_model.proofs.DueLaws.{each_precinct_is_said, gives_what_is_due}
use Rattle.stream_model.proofs.Thinned.{filter-map, thinned_does_not_arrive, thinned_then_picked}
use Rattle.stream_model.proofs.ThinnedCuts.{cut_carries}
use Rattle.trial_model.specs.Draws.{next_state, drawn, Drawn, item_before}
use Rattle.trial_model.specs.Trial.{trial_plan, not_lost, arrives, exchanged_pairs, first_kept, thinned_positions}
use Rattle.stream_model.specs.Receiver.{received, flushed}
use Rattle.trial_model.specs.TrialLaws.{DeliveredAreWithin, trial_pick, thinned_list, TrialCountsWhatIsReceived}

-- numbers below a bound
abbrev AreBelow : ℕ → List ℕ → Type 0
AreBelow n xs = AllByRecursion (λ i. i < n) xs

-- a position before others
arrives_below : (n position twice : ℕ) (later : Drawn (List ℕ)) → position < n → AreBelow n later.value → AreBelow n (arrives position twice later).value
arrives_below n position twice later less below = by (twice == 0) where
  by : (b : Bool) → AreBelow n (if b then item_before position (item_before position later) else item_before position later).value
  by true = (less, (less, below))
  by false = (less, below)

-- what isn't lost
not_lost_below : (n loss position count state : ℕ) → position + count ≤ n → AreBelow n (not_lost loss position count state).value
unfolding not_lost
not_lost_below n loss position zero state most = tt
not_lost_below n loss position (suc count) state most =
    by (nat_lt (drawn 1000 (next_state state)) loss) (not_lost_below n loss (position + 1) count (next_state state) (omega (arith, most))) (not_lost_below n loss (position + 1) count (next_state (next_state state)) (omega (arith, most))) where
      by : (b : Bool) → AreBelow n (not_lost loss (position + 1) count (next_state state)).value → AreBelow n (not_lost loss (position + 1) count (next_state (next_state state))).value
          → AreBelow n (if b then not_lost loss (position + 1) count (next_state state) else arrives position (drawn 8 (next_state (next_state state))) (not_lost loss (position + 1) count (next_state (next_state state)))).value
      by true first second = first
      by false first second = arrives_below n position (drawn 8 (next_state (next_state state))) (not_lost loss (position + 1) count (next_state (next_state state))) (omega (arith, most)) second

-- what is exchanged
pairs_below : (n : ℕ) (xs : List ℕ) (state : ℕ) → AreBelow n xs → AreBelow n (exchanged_pairs xs state)
unfolding exchanged_pairs
pairs_below n [] state below = tt
pairs_below n (a ∷ []) state below = below
pairs_below n (a ∷ b ∷ more) state below = by (drawn 4 (next_state state) == 0) (pairs_below n more (next_state state) below.1.1) where
  by : (c : Bool) → AreBelow n (exchanged_pairs more (next_state state)) → AreBelow n (if c then b ∷ a ∷ exchanged_pairs more (next_state state) else a ∷ b ∷ exchanged_pairs more (next_state state))
  by true ih = (below.1.0, (below.0, ih))
  by false ih = (below.0, (below.1.0, ih))

kept_below : (n : ℕ) (xs : List ℕ) (state : ℕ) → AreBelow n xs → AreBelow n (first_kept xs state)
kept_below n [] state below = tt
kept_below n (a ∷ more) state below = (below.0, pairs_below n more state below.1)

pub delivered_are_within : DeliveredAreWithin
delivered_are_within seed loss count = kept_below count (not_lost loss 0 count seed).value (not_lost loss 0 count seed).state (not_lost_below count loss 0 count seed (omega arith))

-- a frame of the trial's stream
abbrev IsFrame : List ℕ → Type 0
IsFrame b = (is_of_kind 96 b && (source_of b == 1)) ≡ true

one_frame : (x : Datagram) (b : List ℕ) → IsDatagram x b → (x.rtp.source ≡ 1) × (x.rtp.kind ≡ 96) → IsFrame b
one_frame x b d is =
    let computed = datagram_is_computed rtp_is_read_one_way payload_is_read_one_way x b d in
    let well : is_well_formed b ≡ true = computed.0 in
    let kind : ((datagram_of b).rtp.kind == 96) ≡ true = eq-eqb (datagram_of b).rtp.kind 96 (ap (λ (y : Datagram). y.rtp.kind) (sym computed.1) ∙ is.1) in
    let source : (source_of b == 1) ≡ true = eq-eqb (source_of b) 1 (ap (λ (y : Datagram). y.rtp.source) (sym computed.1) ∙ is.0) in
    rw (well, kind, source) refl

all_frames : (xs : List Datagram) (frames : List (List ℕ)) → AllZip IsDatagram xs frames → AllByRecursion (λ x. (x.rtp.source ≡ 1) × (x.rtp.kind ≡ 96)) xs → AllByRecursion IsFrame frames
all_frames [] [] a h = tt
all_frames [] (b ∷ frames) a h = absurd a
all_frames (x ∷ xs) [] a h = absurd a
all_frames (x ∷ xs) (b ∷ frames) a h = (one_frame x b a.0 h.0, all_frames xs frames a.1 h.1)

cut_frames : (parts : List Parts) (codestreams : List (List ℕ)) → CanBeSent trial_plan parts codestreams → AllByRecursion IsFrame (cut_of trial_plan parts)
cut_frames parts codestreams r =
    let P : List Sent → Type 0 = λ l. AllByRecursion (λ x. (x.rtp.source ≡ 1) × (x.rtp.kind ≡ 96)) (flat_map datagrams_of l) in
    all_frames (flat_map datagrams_of (sent_by trial_plan parts)) (cut_of trial_plan parts) (cut_carries trial_plan parts codestreams r).are_datagrams (subst P (sym (sent_placed trial_plan parts)) (all_one trial_plan 0 0 parts))

-- so is each that is delivered
frame_at : (datagrams : List (List ℕ)) (i : ℕ) → AllByRecursion IsFrame datagrams → i < length datagrams → IsFrame (datagram_at datagrams i)
frame_at [] i h less = absurd (omega arith)
frame_at (d ∷ datagrams) zero h less = h.0
frame_at (d ∷ datagrams) (suc i) h less = frame_at datagrams i h.1 (omega (arith, less))

frames_at : (datagrams : List (List ℕ)) (positions : List ℕ) → AllByRecursion IsFrame datagrams → AreBelow (length datagrams) positions → AllByRecursion IsFrame (map (datagram_at datagrams) positions)
frames_at datagrams [] h below = tt
frames_at datagrams (i ∷ positions) h below = (frame_at datagrams i h below.0, frames_at datagrams positions h below.1)

-- and all are picked
filter_all : {A : Type 0} (t : A → Bool) (xs : List A) → AllByRecursion (λ x. t x ≡ true) xs → filter t xs ≡ xs
filter_all t [] h = refl
filter_all t (x ∷ xs) h = let e = h.0 in rw e (ap (λ l. x ∷ l) (filter_all t xs h.1))

-- what is thinned arrives at the thinned positions
thinned_arrive : (parts : List Parts) (codestreams : List (List ℕ)) (limit : ℕ) (delivered : List ℕ) → CanBeSent trial_plan parts codestreams → AreBelow (length (cut_of trial_plan parts)) delivered
    → Arrive (cut_of trial_plan parts) (picked 96 (Some 1) (thinned_list parts limit delivered)) (thinned_positions limit (cut_of trial_plan parts) delivered)
thinned_arrive parts codestreams limit delivered r below =
    let datagrams = cut_of trial_plan parts in
    let frames = map (datagram_at datagrams) delivered in
    let all : picked 96 (Some 1) frames ≡ frames = filter_all (λ frame. is_of_kind 96 frame && (source_of frame == 1)) frames (frames_at datagrams delivered (cut_frames parts codestreams r) below) in
    let same : picked 96 (Some 1) (kept limit frames) ≡ kept limit frames = thinned_then_picked limit 96 1 frames ∙ ap (kept limit) all in
    let P : List (List ℕ) → Type 0 = λ l. Arrive datagrams l (thinned_positions limit datagrams delivered) in
    subst P (sym same) (thinned_does_not_arrive limit datagrams frames delivered (record { within = below; each = refl }))

-- what holds of all precincts of a stream holds of those that pass a test
some_of : (P : StreamPrecinct → Type 0) (c : Carried) (test : ℕ → CarriedPacket → Bool) (xs : List (ℕ × CarriedPacket)) → AllByRecursion P (map (λ p. record { stamp = c.stamp; precinct = p.0 }) (filter (λ p. true) xs))
    → AllByRecursion P (map (λ p. record { stamp = c.stamp; precinct = p.0 }) (filter (λ p. test p.0 p.1) xs))
some_of P c test [] h = tt
some_of P c test (x ∷ xs) h = by (test x.0 x.1) (some_of P c test xs h.1) where
  by : (b : Bool) → AllByRecursion P (map (λ p. record { stamp = c.stamp; precinct = p.0 }) (filter (λ p. test p.0 p.1) xs))
      → AllByRecursion P (map (λ (p : ℕ × CarriedPacket). record { stamp = c.stamp; precinct = p.0 }) (cond b (x ∷ filter (λ p. test p.0 p.1) xs) (filter (λ p. test p.0 p.1) xs)))
  by true ih = (h.0, ih)
  by false ih = ih

due_of_all : (P : StreamPrecinct → Type 0) (events : List ℕ) (window : ℕ) (stream : List Carried) → AllByRecursion P (all_precincts stream) → AllByRecursion P (due_at_end events window stream)
due_of_all P events window [] h = tt
due_of_all P events window (c ∷ stream) h =
    let mine = precincts_by (λ k p. true) c in
    let due = precincts_by (is_reached events window c) c in
    each_append P due (due_at_end events window stream)
    (some_of P c (is_reached events window c) (enumerate_from 0 c.packets) (each_left P mine (all_precincts stream) h))
    (due_of_all P events window stream (each_right P mine (all_precincts stream) h))

-- each says one thing, so as many precincts are said
one_each : (sent : List Sent) (xs : List StreamPrecinct) → AllByRecursion (λ x. (p : Precinct) × (said_by sent x ≡ p ∷ []) × (p.stamp ≡ x.stamp)) xs → length (flat_map (said_by sent) xs) ≡ length xs
one_each sent [] h = refl
one_each sent (x ∷ xs) h = omega (arith, length-append (said_by sent x) (flat_map (said_by sent) xs), ap length h.0.1, one_each sent xs h.1)

pub trial_counts_what_is_received : TrialCountsWhatIsReceived
trial_counts_what_is_received parts codestreams window limit delivered r some below =
    let datagrams = cut_of trial_plan parts in
    let sent = sent_by trial_plan parts in
    let positions = thinned_positions limit datagrams delivered in
    let frames = thinned_list parts limit delivered in
    let c = cut_carries trial_plan parts codestreams r in
    let g = gives_what_is_due sent codestreams datagrams frames positions (trial_pick window) c some (thinned_arrive parts codestreams limit delivered r below) in
    let said = due_of_all (λ x. (p : Precinct) × (said_by sent x ≡ p ∷ []) × (p.stamp ≡ x.stamp)) positions window (carried sent) (each_precinct_is_said sent codestreams datagrams c) in
    record {
      thinned = ap length (filter-map (datagram_at datagrams) (is_kept limit) delivered) ∙ length-map positions (datagram_at datagrams);
      kept = ap (λ (n : Counts). n.kept) g.2;
      released = sym (length-map (flushed (received (trial_pick window) frames)).releases (λ x. x.precinct)) ∙ (ap length g.1 ∙ one_each sent (due_at_end positions window (carried sent)) said);
    }
