-- Whatever the frames are, each precinct that a receiver's rules give is read from those that are kept.
use Rattle.std.proofs.Common.{◌≡◌, ◌+◌, ◌*◌, ◌==◌, ℕ, zero, suc, Bool, true, false, List, [], ◌∷◌, length, Some, subst, refl, sym, ◌∙◌, ap, inl, inr, arith, if◌then◌else◌}
use Rattle.std.specs.Prelude.{Contains}
use Rattle.std.specs.List.{AllByRecursion}
use Rattle.std.proofs.lemmas.Bool.{and_parts}
use Rattle.std.proofs.lemmas.List.Elements.{recursion_from_All, All-contains_itself}
use Rattle.wire_model.specs.Datagram.{Datagram, datagram_of, is_well_formed}
use Rattle.codestream_model.specs.Bytes.{IsBytes}
use Rattle.codestream_model.proofs.TreeLemmas.{either, equal_number}
use Rattle.stream_model.specs.Arrivals.{is_of_kind}
use Rattle.stream_model.specs.Stream.{extended_number}
use Rattle.stream_model.specs.ReadingLaws.{kept_of, EachReleaseIsRead, EachPrecinctIsKept}
use Rattle.stream_model.specs.Decoder.{take_gap}
use Rattle.stream_model.specs.Window.{Offer, Behind, Again, Drain, Kept, offer, hold, make_due, make_all_due, Hand, Gap, Nothing, next}
use Rattle.stream_model.specs.Receiver.{Pick, Receiver, new_receiver, decoded, followed, drained, drain, keep, offered, is_source, take_datagram, take_frame, take_frames, received, flushed}
use Rattle.stream_model.proofs.ReceiverRuns.{other_kind, of_kind}
use Rattle.stream_model.proofs.FrameItems.{start_is}
use Rattle.stream_model.proofs.FrameReceivers.{ReceiverIs, are_read, Came, drain_keeps, keep_keeps, frame_came, all_due_keeps}

-- the frames that were kept
abbrev kept_by : Receiver → ℕ
kept_by r = r.kept

-- draining keeps none more
kept_drained : (n : ℕ) (r : Receiver) → kept_by (drained n r) ≡ kept_by r
unfolding drained
kept_drained zero r = refl
kept_drained (suc n) r = elim (next r.window r.window.base) as (λ v. kept_by (elim v [
  | Hand x w ↦ drained n (followed (record r { window = w }) (decoded r.decoder x x.payload))
  | Gap count w ↦ drained n (record r { window = w; decoder = take_gap r.decoder })
  | Nothing ↦ r
]) ≡ kept_by r) [
  | Hand x w ↦ kept_drained n (followed (record r { window = w }) (decoded r.decoder x x.payload))
  | Gap count w ↦ kept_drained n (record r { window = w; decoder = take_gap r.decoder })
  | Nothing ↦ refl
]

kept_drain : (r : Receiver) → (drain r).kept ≡ r.kept
kept_drain r = kept_drained (2 * length r.window.held + 1) r

kept_keep : (r : Receiver) (x : Datagram) → (keep r x).kept ≡ r.kept + 1
kept_keep r x = kept_drain (record r { window = hold r.window (extended_number x) x; kept = r.kept + 1 })

-- what is offered need have come only where it is kept
offered_kept : (frames : List (List ℕ)) (r : Receiver) (x : Datagram) (o : Offer) → ReceiverIs frames r → ((offered r x o).kept ≡ r.kept + 1 → Came frames x) → ReceiverIs frames (offered r x o)
offered_kept frames r x Behind is came = is
offered_kept frames r x Again is came = is
offered_kept frames r x (Drain n) is came =
    let due = record r { window = make_due n r.window } in
    keep_keeps frames (drain due) x (drain_keeps frames due is) (came (kept_keep (drain due) x ∙ ap (λ k. k + 1) (kept_drain due)))
offered_kept frames r x Kept is came = keep_keeps frames r x is (came (kept_keep r x))

datagram_kept : (frames : List (List ℕ)) (pick : Pick) (r : Receiver) (x : Datagram) → ReceiverIs frames r → ((take_datagram pick r x).kept ≡ r.kept + 1 → Came frames x) → ReceiverIs frames (take_datagram pick r x)
datagram_kept frames pick r x is =
    let o = offer pick.window (extended_number x) r.window r.window.base in
    let into = record r { source = Some x.rtp.source } in
    elim (is_source r.source x.rtp.source) as (λ b. ((if b then offered into x o else record r { refused = r.refused + 1 }).kept ≡ r.kept + 1 → Came frames x) → ReceiverIs frames (if b then offered into x o else record r { refused = r.refused + 1 })) [
      | true ↦ λ came. offered_kept frames into x o is came
      | false ↦ λ came. is
    ]

frame_kept : (frames : List (List ℕ)) (pick : Pick) (r : Receiver) (f : List ℕ) → ReceiverIs frames r → IsBytes f → ((take_frame pick r f).kept ≡ r.kept + 1 → Contains frames f) → ReceiverIs frames (take_frame pick r f)
frame_kept frames pick r f is fits has =
    let P : Receiver → Type 0 = λ s. (s.kept ≡ r.kept + 1 → Contains frames f) → ReceiverIs frames s in
    elim (either (is_of_kind pick.kind f)) [
      | inl t ↦
          let formed = (and_parts (is_well_formed f) ((datagram_of f).rtp.kind == pick.kind) t).0 in
          let taken : P (take_datagram pick r (datagram_of f)) = λ h. datagram_kept frames pick r (datagram_of f) is (λ e. frame_came frames f (h e) fits formed) in
          subst P (sym (of_kind pick r f t)) taken has
      | inr t ↦ let refused : P (record r { refused = r.refused + 1 }) = λ h. is in subst P (sym (other_kind pick r f t)) refused has
    ]

-- the first frame, where it is kept, and those after it
abbrev FrontIs : List (List ℕ) → Pick → Receiver → List ℕ → List (List ℕ) → Type 0
FrontIs frames pick r f rest = ((take_frame pick r f).kept ≡ r.kept + 1 → Contains frames f) × AllByRecursion (Contains frames) (kept_of pick (take_frame pick r f) rest)

front_is : (frames : List (List ℕ)) (pick : Pick) (r : Receiver) (f : List ℕ) (rest : List (List ℕ)) → AllByRecursion (Contains frames) (kept_of pick r (f ∷ rest)) → FrontIs frames pick r f rest
unfolding kept_of
front_is frames pick r f rest all =
    let s = take_frame pick r f in
    let more = kept_of pick s rest in
    let P : Bool → Type 0 = λ b. AllByRecursion (Contains frames) (if b then more else f ∷ more) in
    elim (either (s.kept == r.kept)) [
      | inl t ↦ let same = equal_number s.kept r.kept t in (λ e. absurd (omega (arith, e, same)), subst P t all)
      | inr t ↦ let both = subst P t all in (λ e. both.0, both.1)
    ]

frames_kept : (frames : List (List ℕ)) (pick : Pick) (rest : List (List ℕ)) (r : Receiver) → ReceiverIs frames r → AllByRecursion IsBytes rest → AllByRecursion (Contains frames) (kept_of pick r rest) → ReceiverIs frames (take_frames pick r rest)
unfolding take_frames
frames_kept frames pick [] r is fits has = is
frames_kept frames pick (f ∷ rest) r is fits has =
    let front = front_is frames pick r f rest has in
    frames_kept frames pick rest (take_frame pick r f) (frame_kept frames pick r f is fits.0 front.0) fits.1 front.1

-- each packet that is released is read from those that are kept
pub each_release_is_read : EachReleaseIsRead
each_release_is_read pick frames fits =
    let kept = kept_of pick (new_receiver pick) frames in
    let r = received pick frames in
    let is = frames_kept kept pick frames (new_receiver pick) (tt, λ next. start_is kept next, tt) fits (recursion_from_All (Contains kept) kept (All-contains_itself kept)) in
    (drain_keeps kept (record r { window = make_all_due r.window r.window.base }) (all_due_keeps kept r r.window.base is)).2

-- so each precinct is
pub each_precinct_is_kept : EachPrecinctIsKept
each_precinct_is_kept pick frames fits = are_read (kept_of pick (new_receiver pick) frames) (flushed (received pick frames)).releases (each_release_is_read pick frames fits)
