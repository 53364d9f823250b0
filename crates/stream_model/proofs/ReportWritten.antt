-- What `report` writes: of a stream what is due, and more frames only add to it.
use Rattle.std.proofs.Common.{◌≡◌, ◌<◌, ◌≤◌, ◌-◌, ◌^◌, ◌==◌, ◌&&◌, ◌++◌, ℕ, zero, suc, Bool, true, false, List, [], ◌∷◌, map, filter, length, take, drop, Option, Some, None, refl, sym, ◌∙◌, ap, subst, arith, append_assoc, length-append, if◌then◌else◌}
use Rattle.std.specs.Prelude.{slice_index}
use Rattle.std.specs.List.{AllByRecursion, flat_map}
use Rattle.std.proofs.lemmas.List.Elements.{filter-append}
use Rattle.std.proofs.lemmas.List.{append-nil}
use Rattle.std.proofs.lemmas.Grind.{flat_map-append}
use Rattle.std.proofs.lemmas.List.{map-append}
use Rattle.wire_model.specs.Bytes.{IsBytes}
use Rattle.wire_model.specs.Framing.{framing, Splits, whole_frames}
use Rattle.wire_model.proofs.FramingLaws.{frames_are_computed, bytes_split, framing-append, framed-append}
use Rattle.wire_model.proofs.DatagramLaws.{bytes-take}
use Rattle.codestream_model.proofs.BytesLemmas.{bytes_front}
use Rattle.codestream_model.proofs.CodestreamsJudged.{bytes_back}
use Rattle.stream_model.specs.Stream.{carried}
use Rattle.stream_model.specs.Arrivals.{picked, picked_source, is_of_kind, source_of, datagram_at}
use Rattle.stream_model.specs.Decoder.{Release, precincts_released}
use Rattle.stream_model.specs.Report.{Precinct, lines, precinct_line, block_lines, end_line}
use Rattle.stream_model.specs.Receiver.{Pick, Receiver, new_receiver, take_frame, take_frames, received, flushed, counts_of}
use Rattle.stream_model.specs.ReceiverJoins.{forgetful}
use Rattle.stream_model.specs.Commands.{counted, release_lines, report_lines}
use Rattle.stream_model.specs.StreamLaws.{said_by}
use Rattle.stream_model.specs.Reached.{due_at_end}
use Rattle.stream_model.specs.ReportLaws.{ReportWritesWhatIsDue, ArriveFront, ReceivedGrows, ReportGrows}
use Rattle.stream_model.proofs.DueLaws.{gives_what_is_due}
use Rattle.stream_model.proofs.ReceiverJoins.{precincts_join}
use Rattle.stream_model.proofs.CountedFrames.{counted-frames}

-- what is no longer than this is all counted
all_counted : (n : ℕ) (xs : List ℕ) → length xs ≤ n → take n xs ≡ xs
all_counted zero [] h = refl
all_counted (suc n) [] h = refl
all_counted zero (x ∷ xs) h = absurd (omega arith)
all_counted (suc n) (x ∷ xs) h = ap (λ l. x ∷ l) (all_counted n xs (omega arith))

frames_read : (read rest : List ℕ) (frames : List (List ℕ)) → Splits read frames rest → length read ≤ 2 ^ 40 → whole_frames (counted read) ≡ frames
frames_read read rest frames s few = ap whole_frames (all_counted 1099511627776 read few) ∙ sym (frames_are_computed read frames rest s).0

pub report_writes_what_is_due : ReportWritesWhatIsDue
report_writes_what_is_due sent codestreams datagrams frames events pick read rest c some s few a =
    let law = gives_what_is_due sent codestreams datagrams frames events pick c some a in
    let f = frames_read read rest frames s few in (
      ap (λ fs. release_lines (received pick fs).releases) f ∙ ap lines law.0,
      ap (λ fs. release_lines (flushed (received pick fs)).releases ++ end_line (counts_of (flushed (received pick fs)))) f
          ∙ (ap (λ xs. lines xs ++ end_line (counts_of (flushed (received pick frames)))) law.1
          ∙ ap (λ n. lines (flat_map (said_by sent) (due_at_end events pick.window (carried sent))) ++ end_line n) law.2),
    )

-- the frames that are picked of the first frames are the first that are picked
none_picked : (t u : List ℕ → Bool) (xs : List (List ℕ)) → filter t xs ≡ [] → filter (λ x. t x && u x) xs ≡ []
none_picked t u [] e = refl
none_picked t u (x ∷ xs) e = by (t x) e (λ f. none_picked t u xs f) where
  by : (b : Bool) → (if b then x ∷ filter t xs else filter t xs) ≡ [] → (filter t xs ≡ [] → filter (λ x. t x && u x) xs ≡ []) → (if (b && u x) then x ∷ filter (λ x. t x && u x) xs else filter (λ x. t x && u x) xs) ≡ []
  by true f ih = absurd (cc)
  by false f ih = ih f

picked_by : (kind : ℕ) (front back : List (List ℕ)) (v : List (List ℕ)) → filter (is_of_kind kind) front ≡ v → (later : List (List ℕ)) × (picked kind None (front ++ back) ≡ picked kind None front ++ later)
picked_by kind front back [] e = (picked kind None (front ++ back), ap (λ l. l ++ picked kind None (front ++ back)) (sym (none_picked (is_of_kind kind) (λ f. source_of f == picked_source kind None front) front e)))
picked_by kind front back (k ∷ ks) e =
    let here : picked_source kind None front ≡ source_of k = ap (λ l. slice_index (map source_of l) 0) e in
    let all : picked_source kind None (front ++ back) ≡ source_of k = ap (λ l. slice_index (map source_of l) 0) (filter-append (is_of_kind kind) front back ∙ ap (λ l. l ++ filter (is_of_kind kind) back) e) in
    let t : ℕ → List ℕ → Bool = λ n f. is_of_kind kind f && (source_of f == n) in
    (filter (t (source_of k)) back, ap (λ n. filter (t n) (front ++ back)) all ∙ (filter-append (t (source_of k)) front back ∙ ap (λ n. filter (t n) front ++ filter (t (source_of k)) back) (sym here)))

picked_front : (kind : ℕ) (o : Option ℕ) (front back : List (List ℕ)) → (later : List (List ℕ)) × (picked kind o (front ++ back) ≡ picked kind o front ++ later)
picked_front kind (Some n) front back = (filter (λ f. is_of_kind kind f && (source_of f == n)) back, filter-append (λ f. is_of_kind kind f && (source_of f == n)) front back)
picked_front kind None front back = picked_by kind front back (filter (is_of_kind kind) front) refl

arrive_split : (P : ℕ → Type 0) (f : ℕ → List ℕ) (xs ys : List (List ℕ)) (events : List ℕ) → xs ++ ys ≡ map f events → AllByRecursion P events
    → (early : List ℕ) × (late : List ℕ) × (events ≡ early ++ late) × (xs ≡ map f early) × AllByRecursion P early
arrive_split P f [] ys events e all = ([], events, refl, refl, tt)
arrive_split P f (x ∷ xs) ys [] e all = absurd (cc)
arrive_split P f (x ∷ xs) ys (i ∷ events) e all =
    let head : x ≡ f i = cc in
    let tail : xs ++ ys ≡ map f events = cc in
    let (early, late, split, is, in_all) = arrive_split P f xs ys events tail all.1 in
    (i ∷ early, late, ap (λ l. i ∷ l) split, ap (λ y. y ∷ xs) head ∙ ap (λ l. f i ∷ l) is, (all.0, in_all))

pub arrive_front : ArriveFront
arrive_front datagrams front back events pick a =
    let (later, e) = picked_front pick.kind pick.source front back in
    let (early, late, split, is, all) = arrive_split (λ i. i < length datagrams) (datagram_at datagrams) (picked pick.kind pick.source front) later events (sym e ∙ a.each) a.within in
    (early, late, split, record { within = all; each = is })

-- frame by frame
take_frames-append : (pick : Pick) (r : Receiver) (xs ys : List (List ℕ)) → take_frames pick r (xs ++ ys) ≡ take_frames pick (take_frames pick r xs) ys
unfolding take_frames
take_frames-append pick r [] ys = refl
take_frames-append pick r (x ∷ xs) ys = take_frames-append pick (take_frame pick r x) xs ys

take_one : (pick : Pick) (r : Receiver) (x : List ℕ) → take_frames pick r (x ∷ []) ≡ take_frame pick r x
unfolding take_frames
take_one pick r x = refl

pub received_grows : ReceivedGrows
received_grows pick frames frame = (
  take_frames-append pick (new_receiver pick) frames (frame ∷ []) ∙ take_one pick (received pick frames) frame,
  counted-frames pick (new_receiver pick) (frames ++ frame ∷ []) ∙ (let n = length-append frames (frame ∷ []) in omega (arith, n)),
)

frames_give : (pick : Pick) (r : Receiver) (xs : List (List ℕ)) → (later : List Release) × ((take_frames pick r xs).releases ≡ r.releases ++ later)
unfolding take_frames
frames_give pick r [] = ([], sym (append-nil r.releases))
frames_give pick r (x ∷ xs) =
    let one = (precincts_join pick r).0 x in
    let (later, e) = frames_give pick (take_frame pick r x) xs in
    let new = (take_frame pick (forgetful r) x).releases in
    (new ++ later, e ∙ (ap (λ (s : Receiver). s.releases ++ later) one ∙ append_assoc r.releases new later))

received_more : (pick : Pick) (xs ys : List (List ℕ)) → (later : List Release) × ((received pick (xs ++ ys)).releases ≡ (received pick xs).releases ++ later)
received_more pick xs ys =
    let (later, e) = frames_give pick (received pick xs) ys in
    (later, ap (λ (s : Receiver). s.releases) (take_frames-append pick (new_receiver pick) xs ys) ∙ e)

-- bytes in two parts
take_two : (n : ℕ) (xs ys : List ℕ) → take n (xs ++ ys) ≡ take n xs ++ take (n - length xs) ys
take_two zero [] ys = refl
take_two (suc n) [] ys = let e : suc n ≡ suc n - length {A = ℕ} [] = omega arith in ap (λ k. take k ys) e
take_two zero (x ∷ xs) ys = let e : zero ≡ zero - length (x ∷ xs) = omega arith in ap (λ k. take k ys) e
take_two (suc n) (x ∷ xs) ys =
    let e : n - length xs ≡ suc n - length (x ∷ xs) = omega arith in
    ap (λ l. x ∷ l) (take_two n xs ys ∙ ap (λ k. take n xs ++ take k ys) e)

-- whole frames stay
frames_more : (read more : List ℕ) → IsBytes (read ++ more) → (later : List (List ℕ)) × (whole_frames (read ++ more) ≡ whole_frames read ++ later)
frames_more read more fits =
    let first = whole_frames read in
    let left = drop (length (framing first)) read in
    let s = bytes_split read (bytes_front read more fits) in
    let whole : read ++ more ≡ framing first ++ (left ++ more) = ap (λ l. l ++ more) s.whole ∙ append_assoc (framing first) left more in
    let B : List ℕ → Type 0 = λ l. IsBytes l in
    let fit : IsBytes (left ++ more) = bytes_back (framing first) (left ++ more) (subst B whole fits) in
    let t = bytes_split (left ++ more) fit in
    let second = whole_frames (left ++ more) in
    let end = drop (length (framing second)) (left ++ more) in
    let all : read ++ more ≡ framing (first ++ second) ++ end =
    whole ∙ (ap (λ l. framing first ++ l) t.whole ∙ (sym (append_assoc (framing first) (framing second) end) ∙ ap (λ l. l ++ end) (sym (framing-append first second)))) in
    let u : Splits (read ++ more) (first ++ second) end = record { whole = all; each = framed-append first second s.each t.each; partial = t.partial } in
    (second, sym (frames_are_computed (read ++ more) (first ++ second) end u).0)

lines-append : (xs ys : List Precinct) → lines (xs ++ ys) ≡ lines xs ++ lines ys
lines-append xs ys = flat_map-append (λ x. precinct_line x ++ block_lines x.blocks x.bytes) xs ys

-- the lines of packets and then of others
pub released_lines : (xs ys : List Release) → release_lines (xs ++ ys) ≡ release_lines xs ++ release_lines ys
released_lines xs ys = ap lines (map-append (λ (x : Release). x.precinct) xs ys) ∙ lines-append (precincts_released xs) (precincts_released ys)

more_written : (pick : Pick) (read more : List ℕ) → IsBytes (read ++ more) → (later : List ℕ) × (report_lines pick (read ++ more) false ≡ report_lines pick read false ++ later)
more_written pick read more fits =
    let n : ℕ = 1099511627776 in
    let two = take_two n read more in
    let fit : IsBytes (take n read ++ take (n - length read) more) = (let B : List ℕ → Type 0 = λ l. IsBytes l in subst B two (bytes-take n (read ++ more) fits)) in
    let (frames, e) = frames_more (take n read) (take (n - length read) more) fit in
    let (later, f) = received_more pick (whole_frames (take n read)) frames in
    (release_lines later, ap (λ l. release_lines (received pick (whole_frames l)).releases) two ∙ (ap (λ fs. release_lines (received pick fs).releases) e ∙ (ap release_lines f ∙ released_lines (received pick (whole_frames (take n read))).releases later)))

end_written : (pick : Pick) (read : List ℕ) → (later : List ℕ) × (report_lines pick read true ≡ report_lines pick read false ++ later)
end_written pick read =
    let r = received pick (whole_frames (counted read)) in
    let end = end_line (counts_of (flushed r)) in
    let new = (flushed (forgetful r)).releases in
    let e : (flushed r).releases ≡ r.releases ++ new = ap (λ (s : Receiver). s.releases) (precincts_join pick r).1 in
    (release_lines new ++ end, ap (λ xs. release_lines xs ++ end) e ∙ (ap (λ l. l ++ end) (released_lines r.releases new) ∙ append_assoc (release_lines r.releases) (release_lines new) end))

pub report_grows : ReportGrows
report_grows pick read more = (λ fits. more_written pick read more fits, end_written pick read)
