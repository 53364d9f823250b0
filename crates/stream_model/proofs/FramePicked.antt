-- The frames that are picked are those that the rules take, and what is reported of a capture is read from them.
use Rattle.std.proofs.Common.{◌≡◌, ◌+◌, ◌*◌, ◌==◌, ◌&&◌, ℕ, zero, suc, Bool, true, false, cond, List, [], ◌∷◌, length, take, drop, nat_le, Some, subst, refl, sym, ◌∙◌, ap, inl, inr, arith, if◌then◌else◌}
use Rattle.std.specs.List.{AllByRecursion, filter}
use Rattle.std.proofs.lemmas.List.{append-nil}
use Rattle.wire_model.specs.Datagram.{Datagram, datagram_of}
use Rattle.wire_model.specs.Framing.{first_frames, whole_frames}
use Rattle.codestream_model.specs.Bytes.{IsBytes}
use Rattle.codestream_model.proofs.SegmentBytes.{bytes-drop, bytes-take}
use Rattle.codestream_model.proofs.TreeLemmas.{either, equal_number}
use Rattle.stream_model.specs.Report.{lines}
use Rattle.stream_model.specs.Commands.{counted}
use Rattle.stream_model.specs.Arrivals.{picked, is_of_kind, source_of, picked_source}
use Rattle.stream_model.specs.Stream.{extended_number}
use Rattle.stream_model.specs.ReadingLaws.{PickedAreTaken, ReportIsRead}
use Rattle.stream_model.specs.Decoder.{precincts_released, take_gap}
use Rattle.stream_model.specs.Window.{Offer, Behind, Again, Drain, Kept, offer, hold, make_due, make_all_due, Hand, Gap, Nothing, next}
use Rattle.stream_model.specs.Receiver.{Pick, Receiver, new_receiver, decoded, followed, drained, drain, offered, is_source, take_datagram, take_frame, take_frames, received, flushed}
use Rattle.stream_model.proofs.CountedFrames.{each_frame_is_counted_once}
use Rattle.stream_model.proofs.ReceiverRuns.{SourceIs, is_picked, other_kind, of_kind, right_source, wrong_source, source_stays}
use Rattle.stream_model.proofs.FrameReceivers.{source_offered, source_begins, received_is, are_read, each_precinct_is_read}

-- the frames that were refused
abbrev refused_by : Receiver → ℕ
refused_by r = r.refused

-- draining refuses none,
refused_drained : (n : ℕ) (r : Receiver) → refused_by (drained n r) ≡ refused_by r
unfolding drained
refused_drained zero r = refl
refused_drained (suc n) r = elim (next r.window r.window.base) as (λ v. refused_by (elim v [
  | Hand x w ↦ drained n (followed (record r { window = w }) (decoded r.decoder x x.payload))
  | Gap count w ↦ drained n (record r { window = w; decoder = take_gap r.decoder })
  | Nothing ↦ r
]) ≡ refused_by r) [
  | Hand x w ↦ refused_drained n (followed (record r { window = w }) (decoded r.decoder x x.payload))
  | Gap count w ↦ refused_drained n (record r { window = w; decoder = take_gap r.decoder })
  | Nothing ↦ refl
]

refused_drain : (r : Receiver) → (drain r).refused ≡ r.refused
refused_drain r = refused_drained (2 * length r.window.held + 1) r

-- nor does an offer
refused_offered : (r : Receiver) (x : Datagram) (o : Offer) → (offered r x o).refused ≡ r.refused
refused_offered r x Behind = refl
refused_offered r x Again = refl
refused_offered r x (Drain n) =
    let s = drain (record r { window = make_due n r.window }) in
    refused_drain (record s { window = hold s.window (extended_number x) x; kept = s.kept + 1 }) ∙ refused_drain (record r { window = make_due n r.window })
refused_offered r x Kept = refused_drain (record r { window = hold r.window (extended_number x) x; kept = r.kept + 1 })

-- one for a frame that is picked
abbrev one_if : Bool → ℕ
one_if b = if b then 1 else 0

-- as many more are refused as frames aren't picked
abbrev IsCounted : Pick → ℕ → List ℕ → List (List ℕ) → Receiver → Receiver → Type 0
IsCounted pick src f rest r s = SourceIs pick src rest s.source × (s.refused + one_if (is_picked pick src f) ≡ r.refused + 1)

kind_counted : (pick : Pick) (src : ℕ) (f : List ℕ) (rest : List (List ℕ)) (r : Receiver) → SourceIs pick src (f ∷ rest) r.source → is_of_kind pick.kind f ≡ true → IsCounted pick src f rest r (take_datagram pick r (datagram_of f))
kind_counted pick src f rest r source k =
    let x = datagram_of f in
    let P : Receiver → Type 0 = λ s. IsCounted pick src f rest r s in
    let o = offer pick.window (extended_number x) r.window r.window.base in
    let into = record r { source = Some x.rtp.source } in
    let by : (b : Bool) → is_source r.source x.rtp.source ≡ b → take_datagram pick r x ≡ (if b then offered into x o else record r { refused = r.refused + 1 }) = λ b e. ap (λ (z : Bool). if z then offered into x o else record r { refused = r.refused + 1 }) e in
    let same : is_picked pick src f ≡ (source_of f == src) = rw k refl in
    elim (either (source_of f == src)) [
      | inl t ↦
          let now : (offered into x o).source ≡ Some src = source_offered into x o ∙ ap (λ (n : ℕ). Some n) (equal_number (source_of f) src t) in
          let one : one_if (is_picked pick src f) ≡ 1 = ap one_if (same ∙ t) in
          let stays = refused_offered into x o in
          subst P (sym (by true (right_source pick src f rest r.source source t))) (inl now, omega (arith, one, stays))
      | inr t ↦
          let w = wrong_source pick src f rest r.source source k t in
          let none : one_if (is_picked pick src f) ≡ 0 = ap one_if (same ∙ t) in
          subst P (sym (by false w.0)) (inl w.1, omega (arith, none))
    ]

frame_counted : (pick : Pick) (src : ℕ) (f : List ℕ) (rest : List (List ℕ)) (r : Receiver) → SourceIs pick src (f ∷ rest) r.source → IsCounted pick src f rest r (take_frame pick r f)
frame_counted pick src f rest r source =
    let P : Receiver → Type 0 = λ s. IsCounted pick src f rest r s in
    elim (either (is_of_kind pick.kind f)) [
      | inl t ↦ subst P (sym (of_kind pick r f t)) (kind_counted pick src f rest r source t)
      | inr t ↦
          let none : one_if (is_picked pick src f) ≡ 0 = ap (λ (b : Bool). one_if (b && (source_of f == src))) t in
          subst P (sym (other_kind pick r f t)) (source_stays pick src f rest r.source source t, omega (arith, none))
    ]

-- one frame more that may be picked
longer : (b : Bool) (f : List ℕ) (fs : List (List ℕ)) → length (cond b (f ∷ fs) fs) ≡ length fs + one_if b
longer true f fs = omega arith
longer false f fs = omega arith

frames_counted : (pick : Pick) (src : ℕ) (rest : List (List ℕ)) (r : Receiver) → SourceIs pick src rest r.source → (take_frames pick r rest).refused + length (filter (is_picked pick src) rest) ≡ r.refused + length rest
unfolding take_frames
frames_counted pick src [] r source = refl
frames_counted pick src (f ∷ rest) r source =
    let one = frame_counted pick src f rest r source in
    let more : (take_frames pick (take_frame pick r f) rest).refused + length (filter (is_picked pick src) rest) ≡ (take_frame pick r f).refused + length rest = frames_counted pick src rest (take_frame pick r f) one.0 in
    let size = longer (is_picked pick src f) f (filter (is_picked pick src) rest) in
    let all : length (f ∷ rest) ≡ length rest + 1 = omega arith in
    let n : (take_frame pick r f).refused + one_if (is_picked pick src f) ≡ r.refused + 1 = one.1 in
    omega (arith, more, size, all, n)

-- each picked frame is kept or old
pub picked_are_taken : PickedAreTaken
picked_are_taken pick frames =
    let src = picked_source pick.kind pick.source frames in
    let r = received pick frames in
    let all = frames_counted pick src frames (new_receiver pick) (source_begins pick frames pick.source) in
    let s = flushed r in
    let sum : s.kept + s.old + s.refused ≡ length frames = each_frame_is_counted_once pick frames in
    let same : s.refused ≡ r.refused = refused_drain (record r { window = make_all_due r.window r.window.base }) in
    omega (arith, all, sum, same)

-- the frames of bytes are bytes
first_are_bytes : (n : ℕ) (b : List ℕ) → IsBytes b → AllByRecursion IsBytes (first_frames n b)
unfolding first_frames
first_are_bytes zero b fits = tt
first_are_bytes (suc n) [] fits = tt
first_are_bytes (suc n) (high ∷ []) fits = tt
first_are_bytes (suc n) (high ∷ low ∷ bytes) fits =
    let size = high * 256 + low in
    let behind : IsBytes bytes = λ i. fits (suc (suc i)) in
    elim (nat_le size (length bytes)) as (λ t. AllByRecursion IsBytes (if t then take size bytes ∷ first_frames n (drop size bytes) else [])) [
      | true ↦ (bytes-take size bytes behind, first_are_bytes n (drop size bytes) (bytes-drop size bytes behind))
      | false ↦ tt
    ]

-- what is reported is read
pub report_is_read : ReportIsRead
report_is_read pick read false fits =
    let b = counted read in
    let frames = whole_frames b in
    let are = first_are_bytes (length b) b (bytes-take 1099511627776 read fits) in
    (precincts_released (received pick frames).releases, are_read (picked pick.kind pick.source frames) (received pick frames).releases (received_is pick frames are).2, sym (append-nil (lines (precincts_released (received pick frames).releases))))
report_is_read pick read true fits =
    let b = counted read in
    let frames = whole_frames b in
    let are = first_are_bytes (length b) b (bytes-take 1099511627776 read fits) in
    (precincts_released (flushed (received pick frames)).releases, each_precinct_is_read pick frames are, refl)
