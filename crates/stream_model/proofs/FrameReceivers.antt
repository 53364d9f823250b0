-- Whatever the frames are, each precinct that a receiver's rules give is read from those that are picked.
use Rattle.std.proofs.Common.{◌≡◌, ◌+◌, ◌*◌, ◌%◌, ◌^◌, ◌==◌, ◌&&◌, ℕ, zero, suc, Bool, true, false, cond, List, [], ◌∷◌, ◌++◌, length, Option, Some, None, subst, refl, sym, ◌∙◌, ap, inl, inr, arith, append_assoc, if◌then◌else◌}
use Rattle.std.specs.Prelude.{find, not, nat_lt, Contains}
use Rattle.std.specs.List.{AllByRecursion, filter}
use Rattle.std.proofs.lemmas.Bool.{and_parts}
use Rattle.std.proofs.lemmas.List.{append-nil}
use Rattle.std.proofs.lemmas.List.Elements.{Contains-append_right}
use Rattle.wire_model.specs.Datagram.{Datagram, datagram_of, rtp_payload, is_well_formed}
use Rattle.wire_model.specs.Rtp.{header_length}
use Rattle.wire_model.specs.RtpReading.{payload_end}
use Rattle.wire_model.specs.PayloadReading.{codestream_start}
use Rattle.wire_model.proofs.DatagramLaws.{bytes-range, well_formed_is_datagram}
use Rattle.wire_model.proofs.FramingLaws.{bytes-drop}
use Rattle.wire_model.proofs.RtpFound.{rtp_reads_as_laid_out}
use Rattle.wire_model.proofs.PayloadFound.{payload_reads_as_laid_out}
use Rattle.codestream_model.specs.Bytes.{IsBytes}
use Rattle.codestream_model.proofs.TreeLemmas.{either, equal_number}
use Rattle.stream_model.specs.Arrivals.{is_of_kind, source_of, picked_source, picked}
use Rattle.stream_model.specs.Stream.{extended_number}
use Rattle.stream_model.specs.Reading.{IsAmong}
use Rattle.stream_model.specs.ReadingLaws.{IsRead, IsReleased, EachPrecinctIsRead, GivenStays, GivenGrows}
use Rattle.stream_model.specs.Decoder.{Release, precincts_released, Decoder, settled, take_gap}
use Rattle.stream_model.specs.Window.{Held, ahead, insert, base_with, hold, make_due, make_all_due, Offer, Behind, Again, Drain, Kept, offer, Next, Hand, Gap, Nothing, moved, gap_length, next_at, next}
use Rattle.stream_model.specs.Receiver.{Pick, Receiver, new_receiver, decoded, followed, drained, drain, keep, offered, is_source, take_datagram, take_frame, take_frames, received, flushed}
use Rattle.stream_model.specs.ReceiverJoins.{forgetful}
use Rattle.stream_model.proofs.CutPayloads.{all-append}
use Rattle.stream_model.proofs.CutBodies.{all_imply}
use Rattle.stream_model.proofs.ReceiverJoins.{precincts_join}
use Rattle.stream_model.proofs.ReceiverRuns.{SourceIs, is_picked, other_kind, of_kind, right_source, wrong_source, source_stays}
use Rattle.stream_model.proofs.FrameRuns.{after_next}
use Rattle.stream_model.proofs.FrameRules.{DecoderIs, settled_keeps}
use Rattle.stream_model.proofs.FrameItems.{found_passes, decoded_keeps, gap_keeps, start_is}

-- what is held came, and has its number
abbrev pub HeldIs : List (List ℕ) → Held Datagram → Type 0
HeldIs frames h = IsAmong frames h.item × IsBytes h.item.codestream × (extended_number h.item ≡ h.number)

-- what is known of a decoder, where the window's base is the number that comes next; before the first datagram any may
abbrev pub BaseIs : List (List ℕ) → Option ℕ → Decoder → Type 0
BaseIs frames None d = (next : ℕ) → DecoderIs frames next d
BaseIs frames (Some base) d = DecoderIs frames base d

-- what is known of a receiver
abbrev pub ReceiverIs : List (List ℕ) → Receiver → Type 0
ReceiverIs frames r = AllByRecursion (HeldIs frames) r.window.held × BaseIs frames r.window.base r.decoder × AllByRecursion (IsReleased frames) r.releases

-- what holds of all holds of one that is found,
all_found : {A : Type 0} (P : A → Type 0) (t : A → Bool) (xs : List A) (x : A) → AllByRecursion P xs → find t xs ≡ Some x → P x
all_found P t [] x all e = absurd (cc)
all_found P t (y ∷ xs) x all e = elim (either (t y)) as (λ z. P x) [
  | inl q ↦ let f : Some y ≡ Some x = rw q at e in let s : y ≡ x = cc in subst P s all.0
  | inr q ↦ let f : find t xs ≡ Some x = rw q at e in all_found P t xs x all.1 f
]

-- and of those that are kept
all_kept : {A : Type 0} (P : A → Type 0) (t : A → Bool) (xs : List A) → AllByRecursion P xs → AllByRecursion P (filter t xs)
all_kept P t [] all = tt
all_kept P t (y ∷ xs) all = elim (t y) as (λ b. AllByRecursion P (cond b (y ∷ filter t xs) (filter t xs))) [
  | true ↦ (all.0, all_kept P t xs all.1)
  | false ↦ all_kept P t xs all.1
]

-- one more is held
all_inserted : {T : Type 0} (P : Held T → Type 0) (base : ℕ) (h : Held T) (held : List (Held T)) → P h → AllByRecursion P held → AllByRecursion P (insert base h held)
all_inserted P base h [] one all = (one, tt)
all_inserted P base h (k ∷ held) one all = elim (nat_lt (ahead base h.number) (ahead base k.number)) as (λ b. AllByRecursion P (if b then h ∷ k ∷ held else k ∷ insert base h held)) [
  | true ↦ (one, all)
  | false ↦ (all.0, all_inserted P base h held one all.1)
]

-- what is known after what the window hands on
abbrev NextIs : List (List ℕ) → Receiver → Next Datagram → Type 0
NextIs frames r (Hand x w) = ReceiverIs frames (followed (record r { window = w }) (decoded r.decoder x x.payload))
NextIs frames r (Gap count w) = ReceiverIs frames (record r { window = w; decoder = take_gap r.decoder })
NextIs frames r Nothing = Unit {0}

-- what is at the base is handed on, or else a gap
at_base : (frames : List (List ℕ)) (r : Receiver) (base : ℕ) (o : Option (Held Datagram)) → AllByRecursion (HeldIs frames) r.window.held → DecoderIs frames base r.decoder → AllByRecursion (IsReleased frames) r.releases
    → find (λ h. h.number == base) r.window.held ≡ o → NextIs frames r (next_at base r.window o)
at_base frames r base (Some h) all k given e =
    let t : Held Datagram → Bool = λ x. x.number == base in
    let came = all_found (HeldIs frames) t r.window.held h all e in
    let number : extended_number h.item ≡ base = came.2 ∙ equal_number h.number base (found_passes t r.window.held h e) in
    let s = settled_keeps frames (after_next base) (decoded r.decoder h.item h.item.payload) (decoded_keeps frames base r.decoder h.item k came.0 came.1 number) in
    (all_kept (HeldIs frames) (λ x. not (x.number == base)) r.window.held all, s.1, all-append (IsReleased frames) r.releases (settled (decoded r.decoder h.item h.item.payload)).releases given s.0)
at_base frames r base None all k given e =
    let count = gap_length base r.window in
    elim (r.window.due == 0) as (λ b. NextIs frames r (if b then Nothing else Gap count (moved base count r.window))) [
      | true ↦ tt
      | false ↦ (all, gap_keeps frames base ((base + count) % 2 ^ 24) r.decoder k, given)
    ]

next_by : (frames : List (List ℕ)) (r : Receiver) (base : Option ℕ) → AllByRecursion (HeldIs frames) r.window.held → BaseIs frames base r.decoder → AllByRecursion (IsReleased frames) r.releases → NextIs frames r (next r.window base)
next_by frames r None all k given = tt
next_by frames r (Some base) all k given = at_base frames r base (find (λ h. h.number == base) r.window.held) all k given refl

-- one step of the draining
drained_by : (frames : List (List ℕ)) (n : ℕ) (r : Receiver) (v : Next Datagram) → ReceiverIs frames r → NextIs frames r v → ((s : Receiver) → ReceiverIs frames s → ReceiverIs frames (drained n s)) → ReceiverIs frames (elim v [
  | Hand x w ↦ drained n (followed (record r { window = w }) (decoded r.decoder x x.payload))
  | Gap count w ↦ drained n (record r { window = w; decoder = take_gap r.decoder })
  | Nothing ↦ r
])
drained_by frames n r (Hand x w) is k ih = ih (followed (record r { window = w }) (decoded r.decoder x x.payload)) k
drained_by frames n r (Gap count w) is k ih = ih (record r { window = w; decoder = take_gap r.decoder }) k
drained_by frames n r Nothing is k ih = is

-- the draining
drained_keeps : (frames : List (List ℕ)) (n : ℕ) (r : Receiver) → ReceiverIs frames r → ReceiverIs frames (drained n r)
unfolding drained
drained_keeps frames zero r is = is
drained_keeps frames (suc n) r is = drained_by frames n r (next r.window r.window.base) is (next_by frames r r.window.base is.0 is.1 is.2) (λ s k. drained_keeps frames n s k)

pub drain_keeps : (frames : List (List ℕ)) (r : Receiver) → ReceiverIs frames r → ReceiverIs frames (drain r)
drain_keeps frames r is = drained_keeps frames (2 * length r.window.held + 1) r is

-- the source stays
abbrev picked_by : Receiver → Option ℕ
picked_by r = r.source

source_drained : (n : ℕ) (r : Receiver) → picked_by (drained n r) ≡ picked_by r
unfolding drained
source_drained zero r = refl
source_drained (suc n) r = elim (next r.window r.window.base) as (λ v. picked_by (elim v [
  | Hand x w ↦ drained n (followed (record r { window = w }) (decoded r.decoder x x.payload))
  | Gap count w ↦ drained n (record r { window = w; decoder = take_gap r.decoder })
  | Nothing ↦ r
]) ≡ picked_by r) [
  | Hand x w ↦ source_drained n (followed (record r { window = w }) (decoded r.decoder x x.payload))
  | Gap count w ↦ source_drained n (record r { window = w; decoder = take_gap r.decoder })
  | Nothing ↦ refl
]

source_drain : (r : Receiver) → (drain r).source ≡ r.source
source_drain r = source_drained (2 * length r.window.held + 1) r

pub source_offered : (r : Receiver) (x : Datagram) (o : Offer) → (offered r x o).source ≡ r.source
source_offered r x Behind = refl
source_offered r x Again = refl
source_offered r x (Drain n) =
    let s = drain (record r { window = make_due n r.window }) in
    source_drain (record s { window = hold s.window (extended_number x) x; kept = s.kept + 1 }) ∙ source_drain (record r { window = make_due n r.window })
source_offered r x Kept = source_drain (record r { window = hold r.window (extended_number x) x; kept = r.kept + 1 })

-- the first datagram sets the base
base_held : (frames : List (List ℕ)) (n : ℕ) (base : Option ℕ) (d : Decoder) → BaseIs frames base d → DecoderIs frames (base_with n base) d
base_held frames n None d k = k n
base_held frames n (Some base) d k = k

-- a datagram that is offered came
abbrev pub Came : List (List ℕ) → Datagram → Type 0
Came frames x = IsAmong frames x × IsBytes x.codestream

pub keep_keeps : (frames : List (List ℕ)) (r : Receiver) (x : Datagram) → ReceiverIs frames r → Came frames x → ReceiverIs frames (keep r x)
keep_keeps frames r x is came =
    let n = extended_number x in
    drain_keeps frames (record r { window = hold r.window n x; kept = r.kept + 1 })
    (all_inserted (HeldIs frames) (base_with n r.window.base) (record { number = n; item = x }) r.window.held (came.0, came.1, refl) is.0, base_held frames n r.window.base r.decoder is.1, is.2)

offered_keeps : (frames : List (List ℕ)) (r : Receiver) (x : Datagram) (o : Offer) → ReceiverIs frames r → Came frames x → ReceiverIs frames (offered r x o)
offered_keeps frames r x Behind is came = is
offered_keeps frames r x Again is came = is
offered_keeps frames r x (Drain n) is came = keep_keeps frames (drain (record r { window = make_due n r.window })) x (drain_keeps frames (record r { window = make_due n r.window }) is) came
offered_keeps frames r x Kept is came = keep_keeps frames r x is came

-- a well-formed frame came
pub frame_came : (frames : List (List ℕ)) (f : List ℕ) → Contains frames f → IsBytes f → is_well_formed f ≡ true → Came frames (datagram_of f)
frame_came frames f has fits formed =
    ((f, has, well_formed_is_datagram rtp_reads_as_laid_out payload_reads_as_laid_out f fits formed), bytes-drop (codestream_start (rtp_payload f)) (rtp_payload f) (bytes-range f (header_length f) (payload_end f) fits))

-- what is known after one more frame, where more follow
abbrev FrameIs : List (List ℕ) → Pick → ℕ → List (List ℕ) → Receiver → Type 0
FrameIs frames pick src rest r = ReceiverIs frames r × SourceIs pick src rest r.source

-- a frame of the payload type
kind_keeps : (frames : List (List ℕ)) (pick : Pick) (src : ℕ) (f : List ℕ) (rest : List (List ℕ)) (r : Receiver) → FrameIs frames pick src (f ∷ rest) r → IsBytes f → is_of_kind pick.kind f ≡ true → (is_picked pick src f ≡ true → Contains frames f)
    → FrameIs frames pick src rest (take_datagram pick r (datagram_of f))
kind_keeps frames pick src f rest r (is, source) fits k has =
    let x = datagram_of f in
    let P : Receiver → Type 0 = λ s. FrameIs frames pick src rest s in
    let o = offer pick.window (extended_number x) r.window r.window.base in
    let into = record r { source = Some x.rtp.source } in
    let by : (b : Bool) → is_source r.source x.rtp.source ≡ b → take_datagram pick r x ≡ (if b then offered into x o else record r { refused = r.refused + 1 }) = λ b e. ap (λ (z : Bool). if z then offered into x o else record r { refused = r.refused + 1 }) e in
    elim (either (source_of f == src)) [
      | inl t ↦
          let one : is_picked pick src f ≡ true = (let q : (is_of_kind pick.kind f && (source_of f == src)) ≡ true = rw (k, t) refl in q) in
          let came = frame_came frames f (has one) fits (and_parts (is_well_formed f) (x.rtp.kind == pick.kind) k).0 in
          let now : (offered into x o).source ≡ Some src = source_offered into x o ∙ ap (λ (n : ℕ). Some n) (equal_number (source_of f) src t) in
          subst P (sym (by true (right_source pick src f rest r.source source t))) (offered_keeps frames into x o is came, inl now)
      | inr t ↦
          let w = wrong_source pick src f rest r.source source k t in
          subst P (sym (by false w.0)) (is, inl w.1)
    ]

frame_keeps : (frames : List (List ℕ)) (pick : Pick) (src : ℕ) (f : List ℕ) (rest : List (List ℕ)) (r : Receiver) → FrameIs frames pick src (f ∷ rest) r → IsBytes f → (is_picked pick src f ≡ true → Contains frames f)
    → FrameIs frames pick src rest (take_frame pick r f)
frame_keeps frames pick src f rest r is fits has =
    let P : Receiver → Type 0 = λ s. FrameIs frames pick src rest s in
    elim (either (is_of_kind pick.kind f)) [
      | inl t ↦ subst P (sym (of_kind pick r f t)) (kind_keeps frames pick src f rest r is fits t has)
      | inr t ↦ subst P (sym (other_kind pick r f t)) (is.0, source_stays pick src f rest r.source is.1 t)
    ]

frames_keep : (frames : List (List ℕ)) (pick : Pick) (src : ℕ) (rest : List (List ℕ)) (r : Receiver) → FrameIs frames pick src rest r → AllByRecursion IsBytes rest → AllByRecursion (λ f. is_picked pick src f ≡ true → Contains frames f) rest
    → ReceiverIs frames (take_frames pick r rest)
unfolding take_frames
frames_keep frames pick src [] r is fits has = is.0
frames_keep frames pick src (f ∷ rest) r is fits has = frames_keep frames pick src rest (take_frame pick r f) (frame_keeps frames pick src f rest r is fits.0 has.0) fits.1 has.1

-- those that pass are among those that are kept
are_among : {A : Type 0} (t : A → Bool) (xs : List A) → AllByRecursion (λ x. t x ≡ true → Contains (filter t xs) x) xs
are_among t [] = tt
are_among {A} t (x ∷ xs) =
    let P : Bool → Type 0 = λ b. (t x ≡ true → Contains (cond b (x ∷ filter t xs) (filter t xs)) x) × AllByRecursion (λ y. t y ≡ true → Contains (cond b (x ∷ filter t xs) (filter t xs)) y) xs in
    let rest = are_among t xs in
    elim (either (t x)) [
      | inl e ↦ subst P (sym e) (λ q. (0, omega arith, refl), all_imply (λ (y : A). t y ≡ true → Contains (filter t xs) y) (λ y. t y ≡ true → Contains (x ∷ filter t xs) y) xs (λ y h q. Contains-append_right (x ∷ []) (filter t xs) y (h q)) rest)
      | inr e ↦ subst P (sym e) (λ q. let c : true ≡ false = sym q ∙ e in absurd (cc), rest)
    ]

-- at the start
pub source_begins : (pick : Pick) (frames : List (List ℕ)) (source : Option ℕ) → SourceIs pick (picked_source pick.kind source frames) frames source
source_begins pick frames None = inr (refl, refl)
source_begins pick frames (Some source) = inl refl

-- after all frames
pub received_is : (pick : Pick) (frames : List (List ℕ)) → AllByRecursion IsBytes frames → ReceiverIs (picked pick.kind pick.source frames) (received pick frames)
received_is pick frames fits =
    let src = picked_source pick.kind pick.source frames in
    let kept = picked pick.kind pick.source frames in
    frames_keep kept pick src frames (new_receiver pick) ((tt, λ next. start_is kept next, tt), source_begins pick frames pick.source) fits (are_among (λ frame. is_of_kind pick.kind frame && (source_of frame == src)) frames)

-- all that is held is due
pub all_due_keeps : (frames : List (List ℕ)) (r : Receiver) (base : Option ℕ) → ReceiverIs frames r → ReceiverIs frames (record r { window = make_all_due r.window base })
all_due_keeps frames r None is = is
all_due_keeps frames r (Some base) is = is

-- what holds of packets that are read holds of their precincts
pub are_read : (frames : List (List ℕ)) (xs : List Release) → AllByRecursion (IsReleased frames) xs → AllByRecursion (IsRead frames) (precincts_released xs)
are_read frames [] h = tt
are_read frames (x ∷ xs) h = ((h.0.reading, h.0.names), are_read frames xs h.1)

-- each precinct is read
pub each_precinct_is_read : EachPrecinctIsRead
each_precinct_is_read pick frames fits =
    let kept = picked pick.kind pick.source frames in
    let r = received pick frames in
    are_read kept (flushed r).releases (drain_keeps kept (record r { window = make_all_due r.window r.window.base }) (all_due_keeps kept r r.window.base (received_is pick frames fits))).2

-- and what was given stays
pub given_stays : GivenStays
given_stays pick frames =
    let r = received pick frames in
    ((flushed (forgetful r)).releases, ap (λ (s : Receiver). s.releases) (precincts_join pick r).1)

-- frames in two parts
frames_further : (pick : Pick) (r : Receiver) (frames later : List (List ℕ)) → take_frames pick r (frames ++ later) ≡ take_frames pick (take_frames pick r frames) later
unfolding take_frames
frames_further pick r [] later = refl
frames_further pick r (f ∷ frames) later = frames_further pick (take_frame pick r f) frames later

-- what more frames give comes after what was given
behind_given : (pick : Pick) (r : Receiver) (frames : List (List ℕ)) → (more : List Release) × ((take_frames pick r frames).releases ≡ r.releases ++ more)
unfolding take_frames
behind_given pick r [] = ([], sym (append-nil r.releases))
behind_given pick r (f ∷ frames) =
    let one : (take_frame pick r f).releases ≡ r.releases ++ (take_frame pick (forgetful r) f).releases = ap (λ (s : Receiver). s.releases) ((precincts_join pick r).0 f) in
    let rest = behind_given pick (take_frame pick r f) frames in
    ((take_frame pick (forgetful r) f).releases ++ rest.0, rest.1 ∙ (ap (λ (l : List Release). l ++ rest.0) one ∙ append_assoc r.releases (take_frame pick (forgetful r) f).releases rest.0))

pub given_grows : GivenGrows
given_grows pick frames later =
    let more = behind_given pick (received pick frames) later in
    (more.0, ap (λ (s : Receiver). s.releases) (frames_further pick (new_receiver pick) frames later) ∙ more.1)
