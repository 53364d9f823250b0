-- What the rules give of a cut that is thinned on its way.
use Rattle.std.proofs.Common.{◌≡◌, ◌<◌, ◌≤◌, ◌⊎◌, ◌+◌, ◌-◌, ◌*◌, ◌^◌, ◌==◌, ℕ, suc, Bool, true, false, cond, List, [], ◌∷◌, ◌++◌, map, length, refl, sym, subst, ap, ◌∙◌, inl, inr, arith}
use Rattle.std.specs.Prelude.{◌&&◌, slice_get, slice_index, Option, Some, None}
use Rattle.std.specs.List.{AllByRecursion, AllZip, filter, flat_map, range_with_len, enumerate_from}
use Rattle.std.proofs.lemmas.Bool.{eq-eqb}
use Rattle.std.proofs.lemmas.List.FromFn.{fill_by_all}
use Rattle.std.proofs.lemmas.List.{length-map, length-append, append-nil, take_all}
use Rattle.wire_model.specs.Thinning.{is_kept, kept}
use Rattle.wire_model.specs.Framing.{frame, framing, whole_frames}
use Rattle.wire_model.proofs.FramingLaws.{whole_frames_of_framing}
use Rattle.stream_model.specs.Commands.{release_lines, counted, report_lines}
use Rattle.wire_model.specs.Datagram.{Datagram, IsDatagram, datagram_of, is_well_formed}
use Rattle.wire_model.proofs.DatagramLaws.{datagram_is_computed}
use Rattle.wire_model.proofs.RtpLaws.{rtp_is_read_one_way}
use Rattle.wire_model.proofs.PayloadLaws.{payload_is_read_one_way}
use Rattle.codestream_model.specs.Values.{Head, Place}
use Rattle.codestream_model.specs.PacketOrder.{pid}
use Rattle.codestream_model.specs.Packet.{Content}
use Rattle.codestream_model.proofs.Members.{Has, each_member, range_has, contained_has, has_contained, has_flat_map}
use Rattle.stream_model.specs.Arrivals.{Arrive, datagram_at, in_time, is_of_kind, source_of, picked_source, picked, positions_in_time}
use Rattle.stream_model.specs.Stream.{Parts, Sent, datagrams_of, packet_span, carried_at, main_position}
use Rattle.stream_model.specs.Report.{Precinct, Counts, lines, end_line}
use Rattle.stream_model.specs.CommandLaws.{precincts_of}
use Rattle.stream_model.specs.Receiver.{Pick, received, flushed, counts_of}
use Rattle.stream_model.specs.RunLaws.{reaches, passing, precincts_in, reached_in}
use Rattle.stream_model.specs.Cut.{Plan, sent_by}
use Rattle.stream_model.specs.ThinnedLaws.{kept_positions, CanBeSent, cut_of, Picks, reached_through, ReachedHasLeft, ThinnedGives, ThinnedIsReported, ThinnedIsCounted, ThinnedThenReported}
use Rattle.stream_model.proofs.Thinned.{all-filter, thinned_does_not_arrive}
use Rattle.stream_model.proofs.CutStreams.{sent_placed, all_one}
use Rattle.stream_model.proofs.ReceiverLaws.{gives_what_is_reached}
use Rattle.stream_model.proofs.ThinnedBodies.{has_cond}
use Rattle.stream_model.proofs.ThinnedTimes.{kept_are_listed}
use Rattle.stream_model.proofs.ThinnedCuts.{got_numbered, cut_carries, thinned_is_reached}

-- a precinct passes where the number of its place does
passing_has : (t : ℕ → Bool) (n : ℕ) (h : Head) (stamp : ℕ) (places : List Place) (content : List Content) (x : Precinct) → Has (precincts_of h stamp places content) x
    → ((k m : ℕ) → m ≡ n + k → slice_get places k ≡ Some x.place → t m ≡ true) → Has (passing t n (precincts_of h stamp places content)) x
passing_has t n h stamp [] content x has each = absurd has
passing_has t n h stamp (p ∷ places) [] x has each = absurd has
passing_has t n h stamp (p ∷ places) (y ∷ content) x (inl e) each =
    let q : p ≡ x.place = ap (λ (z : Precinct). z.place) e in
    let passes : t n ≡ true = each 0 n (omega arith) (ap (λ l. Some l) q) in
    rw passes (inl e)
passing_has t n h stamp (p ∷ places) (y ∷ content) x (inr has) each =
    let more = passing_has t (n + 1) h stamp places content x has (λ k m e s. each (suc k) m (omega arith) s) in
    has_cond (record { stamp = stamp; pid = pid h p; place = p; blocks = y.blocks; bytes = y.bytes }) (passing t (n + 1) (precincts_of h stamp places content)) x (t n) more

pub reached_has_left : ReachedHasLeft
reached_has_left p parts codestreams limit window i s x r some here has within =
    let sent : List Sent = sent_by p parts in
    let there : ℕ → Bool = λ i. in_time (kept_positions limit (cut_of p parts)) i window in
    let at : ℕ = main_position sent i in
    let test : ℕ → Bool = λ k. reaches there (carried_at at s) k (packet_span s at k) in
    let mine : Has (passing test 0 (precincts_in s)) x =
    passing_has test 0 s.parts.head s.stamp s.parts.places s.parts.content x (has_contained (precincts_in s) x has)
    (λ k m e q. (let n : k ≡ m = omega arith in ap test (sym n) ∙ thinned_is_reached p parts codestreams limit window i k s x.place r some here q within)) in
    contained_has (reached_in there sent) x
    (has_flat_map (λ x. passing (λ k. reaches there (carried_at (main_position sent x.0) x.1) k (packet_span x.1 (main_position sent x.0) k)) 0 (precincts_in x.1)) (enumerate_from 0 sent) (i, s) x
    (got_numbered 0 i sent i s here (omega arith)) mine)

-- frames of one payload type and one source are all picked
abbrev IsFrameOf : ℕ → ℕ → List ℕ → Type 0
IsFrameOf kind source b = (is_of_kind kind b ≡ true) × (source_of b ≡ source)

filter_all : {A : Type 0} (t : A → Bool) (xs : List A) → AllByRecursion (λ x. t x ≡ true) xs → filter t xs ≡ xs
filter_all t [] h = refl
filter_all t (x ∷ xs) h = let e = h.0 in rw e (ap (λ l. x ∷ l) (filter_all t xs h.1))

all_say : {A : Type 0} (P Q : A → Type 0) (xs : List A) → ((x : A) → P x → Q x) → AllByRecursion P xs → AllByRecursion Q xs
all_say P Q [] h k = tt
all_say P Q (x ∷ xs) h k = (h x k.0, all_say P Q xs h k.1)

source_picked : (kind source : ℕ) (o : Option ℕ) (b : List ℕ) (frames : List (List ℕ)) → AllByRecursion (IsFrameOf kind source) (b ∷ frames) → (o ≡ None) ⊎ (o ≡ Some source) → picked_source kind o (b ∷ frames) ≡ source
source_picked kind source o b frames h (inl e) =
    let all : filter (is_of_kind kind) (b ∷ frames) ≡ b ∷ frames = filter_all (is_of_kind kind) (b ∷ frames) (all_say (IsFrameOf kind source) (λ x. is_of_kind kind x ≡ true) (b ∷ frames) (λ x k. k.0) h) in
    ap (λ l. picked_source kind l (b ∷ frames)) e ∙ (ap (λ l. slice_index (map source_of l) 0) all ∙ h.0.1)
source_picked kind source o b frames h (inr e) = ap (λ l. picked_source kind l (b ∷ frames)) e

all_picked : (kind source : ℕ) (o : Option ℕ) (frames : List (List ℕ)) → AllByRecursion (IsFrameOf kind source) frames → (o ≡ None) ⊎ (o ≡ Some source) → picked kind o frames ≡ frames
all_picked kind source o [] h is = refl
all_picked kind source o (b ∷ frames) h is =
    let from : picked_source kind o (b ∷ frames) ≡ source = source_picked kind source o b frames h is in
    filter_all (λ frame. is_of_kind kind frame && (source_of frame == picked_source kind o (b ∷ frames))) (b ∷ frames)
    (all_say (IsFrameOf kind source) (λ frame. (is_of_kind kind frame && (source_of frame == picked_source kind o (b ∷ frames))) ≡ true) (b ∷ frames)
    (λ x k. (let one = k.0 in let two : (source_of x == picked_source kind o (b ∷ frames)) ≡ true = eq-eqb (source_of x) (picked_source kind o (b ∷ frames)) (k.1 ∙ sym from) in rw (one, two) refl)) h)

-- the frames of a cut are
one_frame : (kind source : ℕ) (x : Datagram) (b : List ℕ) → IsDatagram x b → x.rtp.kind ≡ kind → x.rtp.source ≡ source → IsFrameOf kind source b
one_frame kind source x b d k s =
    let computed = datagram_is_computed rtp_is_read_one_way payload_is_read_one_way x b d in
    let well : is_well_formed b ≡ true = computed.0 in
    let is : (datagram_of b).rtp.kind ≡ kind = ap (λ (y : Datagram). y.rtp.kind) (sym computed.1) ∙ k in
    let of : ((datagram_of b).rtp.kind == kind) ≡ true = eq-eqb (datagram_of b).rtp.kind kind is in
    (rw (well, of) refl, ap (λ (y : Datagram). y.rtp.source) (sym computed.1) ∙ s)

all_frames : (kind source : ℕ) (xs : List Datagram) (frames : List (List ℕ)) → AllZip IsDatagram xs frames → AllByRecursion (λ x. (x.rtp.source ≡ source) × (x.rtp.kind ≡ kind)) xs → AllByRecursion (IsFrameOf kind source) frames
all_frames kind source [] [] a h = tt
all_frames kind source [] (b ∷ frames) a h = absurd a
all_frames kind source (x ∷ xs) [] a h = absurd a
all_frames kind source (x ∷ xs) (b ∷ frames) a h = (one_frame kind source x b a.0 h.0.1 h.0.0, all_frames kind source xs frames a.1 h.1)

cut_frames : (p : Plan) (parts : List Parts) (codestreams : List (List ℕ)) → CanBeSent p parts codestreams → AllByRecursion (IsFrameOf p.kind p.source) (cut_of p parts)
cut_frames p parts codestreams r =
    let P : List Sent → Type 0 = λ l. AllByRecursion (λ x. (x.rtp.source ≡ p.source) × (x.rtp.kind ≡ p.kind)) (flat_map datagrams_of l) in
    all_frames p.kind p.source (flat_map datagrams_of (sent_by p parts)) (cut_of p parts) (cut_carries p parts codestreams r).are_datagrams (subst P (sym (sent_placed p parts)) (all_one p 0 0 parts))

-- what thinning keeps of datagrams arrives at the positions that it keeps
pub kept_arrive : (limit : ℕ) (datagrams : List (List ℕ)) → Arrive datagrams (kept limit datagrams) (kept_positions limit datagrams)
kept_arrive limit datagrams = thinned_does_not_arrive limit datagrams datagrams (range_with_len 0 (length datagrams)) (record {
  within = each_member (λ i. i < length datagrams) (range_with_len 0 (length datagrams)) (λ i h. (let r = range_has 0 (length datagrams) i h in let e : i < 0 + length datagrams = r.1 in omega arith));
  each = fill_by_all (datagram_at datagrams) datagrams (length datagrams) [] refl (λ k h. refl);
})

cut_arrives : (p : Plan) (parts : List Parts) (codestreams : List (List ℕ)) (limit : ℕ) (pick : Pick) → CanBeSent p parts codestreams → Picks p pick → Arrive (cut_of p parts) (picked pick.kind pick.source (kept limit (cut_of p parts))) (kept_positions limit (cut_of p parts))
cut_arrives p parts codestreams limit pick r picks =
    let frames : List (List ℕ) = kept limit (cut_of p parts) in
    let are : AllByRecursion (IsFrameOf p.kind p.source) frames = all-filter (IsFrameOf p.kind p.source) (is_kept limit) (cut_of p parts) (cut_frames p parts codestreams r) in
    let all : picked pick.kind pick.source frames ≡ frames = ap (λ k. picked k pick.source frames) picks.kind ∙ all_picked p.kind p.source pick.source frames are picks.source in
    let P : List (List ℕ) → Type 0 = λ l. Arrive (cut_of p parts) l (kept_positions limit (cut_of p parts)) in
    subst P (sym all) (kept_arrive limit (cut_of p parts))

pub thinned_gives : ThinnedGives
thinned_gives p parts codestreams limit pick r picks =
    (gives_what_is_reached (sent_by p parts) codestreams (cut_of p parts) (kept limit (cut_of p parts)) (kept_positions limit (cut_of p parts)) pick (cut_carries p parts codestreams r) picks.window (cut_arrives p parts codestreams limit pick r picks)).1

-- counts by the first three
abbrev counted_as : ℕ → ℕ → ℕ → Counts
counted_as kept old refused = record { kept = kept; old = old; refused = refused; unsupported = 0; disagreed = 0; broken = 0 }

-- every frame is kept
pub thinned_is_counted : ThinnedIsCounted
thinned_is_counted limit window datagrams some =
    let frames : List (List ℕ) = kept limit datagrams in
    let events : List ℕ = kept_positions limit datagrams in
    let all : length (positions_in_time events window) ≡ length events = ap (λ l. length l) (kept_are_listed limit window datagrams some) in
    let each : length frames ≡ length events = ap (λ l. length l) (kept_arrive limit datagrams).each ∙ length-map events (datagram_at datagrams) in
    let one : length (positions_in_time events window) ≡ length frames = omega arith in
    let two : length events - length (positions_in_time events window) ≡ 0 = omega arith in
    let three : length frames - length events ≡ 0 = omega arith in
    ap (λ n. counted_as n (length events - length (positions_in_time events window)) (length frames - length events)) one
    ∙ (ap (λ n. counted_as (length frames) n (length frames - length events)) two ∙ ap (λ n. counted_as (length frames) 0 n) three)

-- so a report says
pub thinned_is_reported : ThinnedIsReported
thinned_is_reported p parts codestreams limit pick read r picks e =
    let frames : List (List ℕ) = kept limit (cut_of p parts) in
    let events : List ℕ = kept_positions limit (cut_of p parts) in
    let gives = gives_what_is_reached (sent_by p parts) codestreams (cut_of p parts) frames events pick (cut_carries p parts codestreams r) picks.window (cut_arrives p parts codestreams limit pick r picks) in
    ap (λ l. release_lines (flushed (received pick l)).releases ++ end_line (counts_of (flushed (received pick l)))) e
    ∙ (ap (λ l. lines l ++ end_line (counts_of (flushed (received pick frames)))) gives.1
    ∙ ap (λ n. lines (reached_through p parts limit pick.window) ++ end_line n) (gives.2 ∙ thinned_is_counted limit pick.window (cut_of p parts) picks.window))

-- a capture of so few datagrams is read whole
short_frames : (xs : List Datagram) (frames : List (List ℕ)) → AllZip IsDatagram xs frames → AllByRecursion (λ d. length d ≤ 9000) frames
short_frames [] [] a = tt
short_frames [] (b ∷ frames) a = absurd a
short_frames (x ∷ xs) [] a = absurd a
short_frames (x ∷ xs) (b ∷ frames) a = (a.0.short, short_frames xs frames a.1)

framing_short : (frames : List (List ℕ)) → AllByRecursion (λ d. length d ≤ 9000) frames → length (framing frames) ≤ length frames * 9002
framing_short [] h = omega arith
framing_short (b ∷ frames) h =
    let more = framing_short frames h.1 in
    let here = h.0 in
    let both = length-append (frame b) (framing frames) in
    let one : length (frame b) ≡ 2 + length b = omega arith in
    let n : length (b ∷ frames) ≡ length frames + 1 = omega arith in
    omega (arith, more, here, both, one, n)

choice_short : {A : Type 0} (x : A) (ys xs : List A) (b : Bool) → length ys ≤ length xs → length (cond b (x ∷ ys) ys) ≤ length (x ∷ xs)
choice_short x ys xs true h = omega arith
choice_short x ys xs false h = omega arith

filter_short : {A : Type 0} (t : A → Bool) (xs : List A) → length (filter t xs) ≤ length xs
filter_short t [] = omega arith
filter_short t (x ∷ xs) = choice_short x (filter t xs) xs (t x) (filter_short t xs)

read_whole : (frames : List (List ℕ)) → AllByRecursion (λ d. length d ≤ 9000) frames → length frames < 2 ^ 23 → whole_frames (counted (framing frames)) ≡ frames
read_whole frames h few =
    let short = framing_short frames h in
    let all : counted (framing frames) ≡ framing frames = take_all 1099511627776 (framing frames) (omega arith) in
    ap whole_frames (all ∙ sym (append-nil (framing frames))) ∙ whole_frames_of_framing frames [] tt

pub thinned_then_reported : ThinnedThenReported
thinned_then_reported p parts codestreams limit pick r picks =
    let cut : List (List ℕ) = cut_of p parts in
    let carry = cut_carries p parts codestreams r in
    let short = short_frames (flat_map datagrams_of (sent_by p parts)) cut carry.are_datagrams in
    let few : length cut < 2 ^ 23 = carry.few in
    let less : length (kept limit cut) ≤ length cut = filter_short (is_kept limit) cut in
    let thin = ap (λ l. framing (kept limit l)) (read_whole cut short few) in
    ap (λ l. report_lines pick l true) thin
    ∙ thinned_is_reported p parts codestreams limit pick (framing (kept limit cut)) r picks (read_whole (kept limit cut) (all-filter (λ d. length d ≤ 9000) (is_kept limit) cut short) (omega arith))
