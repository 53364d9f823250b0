-- Each frame is counted once.
use Rattle.std.proofs.Common.{◌≡◌, ◌+◌, ◌==◌, ◌&&◌, ℕ, zero, suc, true, false, List, [], ◌∷◌, length, Some, refl, ap, ◌∙◌, arith, if◌then◌else◌}
use Rattle.wire_model.specs.Datagram.{Datagram, datagram_of, is_well_formed}
use Rattle.stream_model.specs.Decoder.{take_gap}
use Rattle.stream_model.specs.Window.{Hand, Gap, Nothing, next, Offer, Behind, Again, Drain, Kept, offer, hold, make_due, make_all_due}
use Rattle.stream_model.specs.Receiver.{Pick, Receiver, new_receiver, drained, drain, followed, decoded, keep, offered, is_source, take_datagram, take_frame, take_frames, received}
use Rattle.stream_model.specs.Stream.{extended_number}
use Rattle.stream_model.specs.ReceiverLaws.{MalformedFramesAreCountedAlone, EachFrameIsCountedOnce}

-- the frames that were counted
abbrev pub counted : Receiver → ℕ
counted r = r.kept + r.old + r.refused

counted-drained : (n : ℕ) (r : Receiver) → counted (drained n r) ≡ counted r
unfolding drained
counted-drained zero r = refl
counted-drained (suc n) r = elim (next r.window r.window.base) as (λ v. counted (elim v [
  | Hand x w ↦ drained n (followed (record r { window = w }) (decoded r.decoder x x.payload))
  | Gap count w ↦ drained n (record r { window = w; decoder = take_gap r.decoder })
  | Nothing ↦ r
]) ≡ counted r) [
  | Hand x w ↦ counted-drained n (followed (record r { window = w }) (decoded r.decoder x x.payload))
  | Gap count w ↦ counted-drained n (record r { window = w; decoder = take_gap r.decoder })
  | Nothing ↦ refl
]

counted-drain : (r : Receiver) → counted (drain r) ≡ counted r
counted-drain r = counted-drained _ r

counted-keep : (r : Receiver) (x : Datagram) → counted (keep r x) ≡ counted r + 1
counted-keep r x = counted-drain (record r { window = hold r.window (extended_number x) x; kept = r.kept + 1 }) ∙ omega arith

counted-offered : (r : Receiver) (x : Datagram) (o : Offer) → counted (offered r x o) ≡ counted r + 1
counted-offered r x Behind = omega arith
counted-offered r x Again = omega arith
counted-offered r x (Drain n) = counted-keep (drain (record r { window = make_due n r.window })) x ∙ ap (λ (k : ℕ). k + 1) (counted-drain (record r { window = make_due n r.window }))
counted-offered r x Kept = counted-keep r x

counted-taken : (pick : Pick) (r : Receiver) (x : Datagram) → counted (take_datagram pick r x) ≡ counted r + 1
counted-taken pick r x = elim (is_source r.source x.rtp.source) as (λ b. counted (if b then offered (record r { source = Some x.rtp.source }) x (offer pick.window (extended_number x) r.window r.window.base) else record r { refused = r.refused + 1 }) ≡ counted r + 1) [
  | true ↦ counted-offered (record r { source = Some x.rtp.source }) x (offer pick.window (extended_number x) r.window r.window.base)
  | false ↦ omega arith
]

pub counted-frame : (pick : Pick) (r : Receiver) (frame : List ℕ) → counted (take_frame pick r frame) ≡ counted r + 1
counted-frame pick r frame = elim (is_well_formed frame && ((datagram_of frame).rtp.kind == pick.kind)) as (λ b. counted (if b then take_datagram pick r (datagram_of frame) else record r { refused = r.refused + 1 }) ≡ counted r + 1) [
  | true ↦ counted-taken pick r (datagram_of frame)
  | false ↦ omega arith
]

pub counted-frames : (pick : Pick) (r : Receiver) (frames : List (List ℕ)) → counted (take_frames pick r frames) ≡ counted r + length frames
unfolding take_frames
counted-frames pick r [] = omega arith
counted-frames pick r (f ∷ frames) =
    let more : counted (take_frames pick (take_frame pick r f) frames) ≡ counted (take_frame pick r f) + length frames = counted-frames pick (take_frame pick r f) frames in
    let one : counted (take_frame pick r f) ≡ counted r + 1 = counted-frame pick r f in
    let n : length (f ∷ frames) ≡ length frames + 1 = omega arith in
    more ∙ (ap (λ (k : ℕ). k + length frames) one ∙ omega arith)

pub each_frame_is_counted_once : EachFrameIsCountedOnce
each_frame_is_counted_once pick frames =
    counted-drain (record (received pick frames) { window = make_all_due (received pick frames).window (received pick frames).window.base })
    ∙ (counted-frames pick (new_receiver pick) frames ∙ omega arith)

pub malformed_frames_are_counted_alone : MalformedFramesAreCountedAlone
malformed_frames_are_counted_alone pick r frame e = rw e refl
