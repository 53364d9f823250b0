-- What a receiver gives comes after what it gave before.
use Rattle.std.proofs.Common.{◌≡◌, ◌+◌, ◌*◌, ◌==◌, ◌&&◌, ℕ, zero, suc, true, false, List, length, Some, refl, sym, ap, ◌∙◌, append_assoc, if◌then◌else◌}
use Rattle.std.proofs.lemmas.List.{append-nil}
use Rattle.wire_model.specs.Datagram.{Datagram, datagram_of, is_well_formed}
use Rattle.stream_model.specs.Decoder.{Decoder, Release, settled, take_gap}
use Rattle.stream_model.specs.Window.{Hand, Gap, Nothing, next, Offer, Behind, Again, Drain, Kept, offer, hold, make_due, make_all_due}
use Rattle.stream_model.specs.Receiver.{Pick, Receiver, drained, drain, followed, decoded, keep, offered, is_source, take_datagram, take_frame, flushed}
use Rattle.stream_model.specs.Stream.{extended_number}
use Rattle.stream_model.specs.ReceiverJoins.{forgetful, having_given, PrecinctsJoin}

followed_join : (xs : List Release) (r : Receiver) (d : Decoder) → followed (having_given xs r) d ≡ having_given xs (followed r d)
followed_join xs r d = ap (λ l. record r { decoder = (settled d).decoder; releases = l }) (append_assoc xs r.releases (settled d).releases)

drained_join : (n : ℕ) (xs : List Release) (r : Receiver) → drained n (having_given xs r) ≡ having_given xs (drained n r)
unfolding drained
drained_join zero xs r = refl
drained_join (suc n) xs r = elim (next r.window r.window.base) as (λ v. (elim v [
  | Hand x w ↦ drained n (followed (record (having_given xs r) { window = w }) (decoded r.decoder x x.payload))
  | Gap count w ↦ drained n (record (having_given xs r) { window = w; decoder = take_gap r.decoder })
  | Nothing ↦ having_given xs r
]) ≡ having_given xs (elim v [
  | Hand x w ↦ drained n (followed (record r { window = w }) (decoded r.decoder x x.payload))
  | Gap count w ↦ drained n (record r { window = w; decoder = take_gap r.decoder })
  | Nothing ↦ r
])) [
  | Hand x w ↦ ap (drained n) (followed_join xs (record r { window = w }) (decoded r.decoder x x.payload)) ∙ drained_join n xs (followed (record r { window = w }) (decoded r.decoder x x.payload))
  | Gap count w ↦ drained_join n xs (record r { window = w; decoder = take_gap r.decoder })
  | Nothing ↦ refl
]

pub drain_join : (xs : List Release) (r : Receiver) → drain (having_given xs r) ≡ having_given xs (drain r)
drain_join xs r = drained_join (2 * length r.window.held + 1) xs r

keep_join : (xs : List Release) (r : Receiver) (x : Datagram) → keep (having_given xs r) x ≡ having_given xs (keep r x)
keep_join xs r x = drain_join xs (record r { window = hold r.window (extended_number x) x; kept = r.kept + 1 })

offered_join : (xs : List Release) (r : Receiver) (x : Datagram) (o : Offer) → offered (having_given xs r) x o ≡ having_given xs (offered r x o)
offered_join xs r x Behind = refl
offered_join xs r x Again = refl
offered_join xs r x (Drain n) = ap (λ s. keep s x) (drain_join xs (record r { window = make_due n r.window })) ∙ keep_join xs (drain (record r { window = make_due n r.window })) x
offered_join xs r x Kept = keep_join xs r x

taken_join : (pick : Pick) (xs : List Release) (r : Receiver) (x : Datagram) → take_datagram pick (having_given xs r) x ≡ having_given xs (take_datagram pick r x)
taken_join pick xs r x = elim (is_source r.source x.rtp.source) as (λ b. (if b then offered (record (having_given xs r) { source = Some x.rtp.source }) x (offer pick.window (extended_number x) r.window r.window.base) else record (having_given xs r) { refused = r.refused + 1 })
    ≡ having_given xs (if b then offered (record r { source = Some x.rtp.source }) x (offer pick.window (extended_number x) r.window r.window.base) else record r { refused = r.refused + 1 })) [
      | true ↦ offered_join xs (record r { source = Some x.rtp.source }) x (offer pick.window (extended_number x) r.window r.window.base)
      | false ↦ refl
    ]

pub frame_join : (pick : Pick) (xs : List Release) (r : Receiver) (frame : List ℕ) → take_frame pick (having_given xs r) frame ≡ having_given xs (take_frame pick r frame)
frame_join pick xs r frame = elim (is_well_formed frame && ((datagram_of frame).rtp.kind == pick.kind)) as (λ b. (if b then take_datagram pick (having_given xs r) (datagram_of frame) else record (having_given xs r) { refused = r.refused + 1 }) ≡ having_given xs (if b then take_datagram pick r (datagram_of frame) else record r { refused = r.refused + 1 })) [
  | true ↦ taken_join pick xs r (datagram_of frame)
  | false ↦ refl
]

pub precincts_join : PrecinctsJoin
precincts_join pick r =
    let e : r ≡ having_given r.releases (forgetful r) = sym (ap (λ l. record r { releases = l }) (append-nil r.releases)) in (
      λ frame. ap (λ s. take_frame pick s frame) e ∙ frame_join pick r.releases (forgetful r) frame,
      ap flushed e ∙ drain_join r.releases (record (forgetful r) { window = make_all_due r.window r.window.base }),
    )
