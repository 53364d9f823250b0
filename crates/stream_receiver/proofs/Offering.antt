-- A frame that is offered: the answer by the fields, and the receiver after it.
use Rattle.std.proofs.Common.{◌≡◌, ◌⊎◌, ◌<◌, ◌≤◌, ◌+◌, ◌^◌, ◌==◌, ◌&&◌, ℕ, Bool, true, false, nat_lt, List, [], ◌∷◌, Option, Some, None, refl, sym, ◌∙◌, ap, subst, inl, inr, if◌then◌else◌}
use Rattle.std.specs.List.{AllByRecursion}
use Rattle.std.proofs.lemmas.Bool.{eqb-true}
use Rattle.wire_model.specs.Datagram.{Datagram, datagram_of, is_well_formed}
use Rattle.stream_model.specs.Arrivals.{is_of_kind}
use Rattle.stream_model.specs.Stream.{extended_number}
use Rattle.stream_model.specs.Decoder.{one_more}
use Rattle.stream_model.specs.Receiver.{is_source}
use Rattle.stream_model.specs.Window as window
use Rattle.stream_model.specs.Window.{Window, Held, ahead, insert, hold, make_due, base_with, offer}
use Rattle.stream_model.specs.WindowMaps.{window_as}
use Rattle.stream_model.specs.DrainLaws.{IsWindow, is_picked, offer_of}
use Rattle.stream_model.proofs.Drains.{kept_is_near}
use Rattle.stream_model.proofs.WindowMaps.{window_of_frames}
use Rattle.reassembly_window.specs.Answers.{offered, offer_answer, after_offer as window_after}
use Rattle.reassembly_window.specs.Windows.{WindowState}
use Rattle.reassembly_window.specs.declared.window.Offer.TheVariants as offers
use Rattle.stream_receiver.specs.declared.datagram.Read.{Read}
use Rattle.stream_receiver.specs.declared.datagram.DatagramFault.{DatagramFault}
use Rattle.stream_receiver.specs.declared.datagram.DatagramFault.TheVariants.{Oversize, Rtp, Kind, Payload, Source}
use Rattle.stream_receiver.specs.declared.receiver.Receiver.TheInside.{Inside}
use Rattle.stream_receiver.specs.declared.receiver.Taken.TheVariants as taken
use Rattle.stream_receiver.specs.Datagrams.{IsRead, IsFault}
use Rattle.stream_receiver.specs.States.{ReceiverState, pick_of, Answers, IsRefused, with_source, drained_for, after_offer}
use Rattle.stream_receiver.specs.Views.{state_of, IsSound}

-- the window's answer
pub is_kept : (o : window.Offer) → offers.Kept ≡ offer_answer o → o ≡ window.Kept
is_kept window.Behind e = absurd (cc)
is_kept window.Again e = absurd (cc)
is_kept (window.Drain k) e = absurd (cc)
is_kept window.Kept e = refl

pub is_again : (o : window.Offer) → offers.Again ≡ offer_answer o → o ≡ window.Again
is_again window.Behind e = absurd (cc)
is_again window.Again e = refl
is_again (window.Drain k) e = absurd (cc)
is_again window.Kept e = absurd (cc)

pub is_behind : (o : window.Offer) → offers.Behind ≡ offer_answer o → o ≡ window.Behind
is_behind window.Behind e = refl
is_behind window.Again e = absurd (cc)
is_behind (window.Drain k) e = absurd (cc)
is_behind window.Kept e = absurd (cc)

pub is_drain : (o : window.Offer) → offers.Drain ≡ offer_answer o → (k : ℕ) × (o ≡ window.Drain k)
is_drain window.Behind e = absurd (cc)
is_drain window.Again e = absurd (cc)
is_drain (window.Drain k) e = (k, refl)
is_drain window.Kept e = absurd (cc)

-- a frame was read as a datagram of the source, and the window answered this, and is this then
pub record IsOffered (d : Inside) (b : List ℕ) (r : Read) (o : window.Offer) (t : WindowState) : Type 0 where
  pub sound : IsSound d
  pub read : IsRead d.pick.kind b r
  pub source : is_source d.source r.source ≡ true
  pub answer : offered d.window r.number ≡ o
  pub after : t ≡ window_after d.window r.number b o

pub is_offered : (d : Inside) (s : ReceiverState) (b : List ℕ) (r : Read) (o : window.Offer) (t : WindowState) → state_of d ≡ s → IsSound d → IsRead d.pick.kind b r → is_source s.rules.source r.source ≡ true
    → offered d.window r.number ≡ o → t ≡ window_after d.window r.number b (offered d.window r.number) → IsOffered d b r o t
is_offered d s b r o t view sound read source answer after = record {
  sound = sound;
  read = read;
  source = ap (λ (s : ReceiverState). is_source s.rules.source r.source) view ∙ source;
  answer = answer;
  after = after ∙ ap (window_after d.window r.number b) answer;
}

offer_is : (d : Inside) (b : List ℕ) (r : Read) (o : window.Offer) (t : WindowState) → IsOffered d b r o t → offer_of (pick_of d.pick) (state_of d).rules b ≡ o
offer_is d b r o t i =
    ap (λ n. offer d.pick.window n (window_as datagram_of d.window.window) d.window.window.base) i.read.number
    ∙ (ap (λ size. offer size r.number (window_as datagram_of d.window.window) d.window.window.base) (sym i.sound.size)
    ∙ ((window_of_frames d.window.window d.window.size r.number b d.window.window.base).0 ∙ i.answer))

both : (x y : Bool) → x ≡ true → y ≡ true → (x && y) ≡ true
both x y e f = rw (e, f) refl

picked_is : (d : Inside) (b : List ℕ) (r : Read) (o : window.Offer) (t : WindowState) → IsOffered d b r o t → is_picked (pick_of d.pick) d.source b ≡ true
picked_is d b r o t i = both (is_well_formed b && ((datagram_of b).rtp.kind == d.pick.kind)) (is_source d.source (datagram_of b).rtp.source) i.read.is (ap (is_source d.source) i.read.source ∙ i.source)

-- the answer to the frame
pub kept_answers : (d : Inside) (s : ReceiverState) (b : List ℕ) (r : Read) (t : WindowState) → state_of d ≡ s → IsOffered d b r window.Kept t → Answers s.pick s.rules b taken.Kept
kept_answers d s b r t view i = let P : ReceiverState → Type 0 = λ s. Answers s.pick s.rules b taken.Kept in subst P view (picked_is d b r window.Kept t i, offer_is d b r window.Kept t i)

pub again_answers : (d : Inside) (s : ReceiverState) (b : List ℕ) (r : Read) (t : WindowState) → state_of d ≡ s → IsOffered d b r window.Again t → Answers s.pick s.rules b taken.Old
again_answers d s b r t view i = let P : ReceiverState → Type 0 = λ s. Answers s.pick s.rules b taken.Old in subst P view (picked_is d b r window.Again t i, inr (offer_is d b r window.Again t i))

pub behind_answers : (d : Inside) (s : ReceiverState) (b : List ℕ) (r : Read) (t : WindowState) → state_of d ≡ s → IsOffered d b r window.Behind t → Answers s.pick s.rules b taken.Old
behind_answers d s b r t view i = let P : ReceiverState → Type 0 = λ s. Answers s.pick s.rules b taken.Old in subst P view (picked_is d b r window.Behind t i, inl (offer_is d b r window.Behind t i))

pub drain_answers : (d : Inside) (s : ReceiverState) (b : List ℕ) (r : Read) (t : WindowState) (k : ℕ) → state_of d ≡ s → IsOffered d b r (window.Drain k) t → Answers s.pick s.rules b taken.Drain
drain_answers d s b r t k view i = let P : ReceiverState → Type 0 = λ s. Answers s.pick s.rules b taken.Drain in subst P view (picked_is d b r (window.Drain k) t i, k, offer_is d b r (window.Drain k) t i)

-- a frame that is kept
abbrev pub after_kept : Inside → Read → WindowState → ℕ → Inside
after_kept d r t n = record d { source = Some r.source; window = t; kept = n }

pub kept_state : (d : Inside) (s : ReceiverState) (b : List ℕ) (r : Read) (t : WindowState) (n : ℕ) → state_of d ≡ s → IsOffered d b r window.Kept t → n ≡ one_more d.kept → state_of (after_kept d r t n) ≡ after_offer s b taken.Kept
kept_state d s b r t n view i count =
    let R = (state_of d).rules in
    let W = window_as datagram_of d.window.window in
    let held : window_as datagram_of (hold d.window.window r.number b) ≡ hold W r.number (datagram_of b) = sym (window_of_frames d.window.window 0 r.number b d.window.window.base).1 in
    ap (λ (w : WindowState). state_of (after_kept d r w n)) i.after
    ∙ (ap (λ w. record (state_of d) { rules = record R { source = Some r.source; window = w; kept = n } }) held
    ∙ (ap (λ x. record (state_of d) { rules = record R { source = Some x; window = hold W r.number (datagram_of b); kept = n } }) (sym i.read.source)
    ∙ (ap (λ x. record (state_of d) { rules = record (with_source R b) { window = hold W x (datagram_of b); kept = n } }) (sym i.read.number)
    ∙ (ap (λ x. record (state_of d) { rules = record (with_source R b) { window = hold W (extended_number (datagram_of b)) (datagram_of b); kept = x } }) count
    ∙ ap (λ (x : ReceiverState). after_offer x b taken.Kept) view))))

items_inserted : (P : List ℕ → Type 0) (base : ℕ) (h : Held (List ℕ)) (held : List (Held (List ℕ))) → P h.item → AllByRecursion (λ k. P k.item) held → AllByRecursion (λ k. P k.item) (insert base h held)
items_inserted P base h [] p all = (p, tt)
items_inserted P base h (k ∷ held) p all = elim (nat_lt (ahead base h.number) (ahead base k.number)) as (λ b. AllByRecursion (λ k. P k.item) (if b then h ∷ k ∷ held else k ∷ insert base h held)) [
  | true ↦ (p, all)
  | false ↦ (all.0, items_inserted P base h held p all.1)
]

pub kept_sound : (d : Inside) (b : List ℕ) (r : Read) (t : WindowState) (n : ℕ) → IsOffered d b r window.Kept t → IsSound (after_kept d r t n)
kept_sound d b r t n i =
    let P : WindowState → Type 0 = λ t. IsSound (after_kept d r t n) in
    let W = window_as datagram_of d.window.window in
    let law = window_of_frames d.window.window d.pick.window r.number b d.window.window.base in
    let answer : offer d.pick.window r.number W W.base ≡ window.Kept = law.0 ∙ (ap (λ size. offer size r.number d.window.window d.window.window.base) (sym i.sound.size) ∙ i.answer) in
    let near = kept_is_near d.pick.window r.number (datagram_of b) W i.sound.near i.sound.some i.read.low answer in
    let N : Window Datagram → Type 0 = λ w. IsWindow d.pick.window w (Some (base_with r.number d.window.window.base)) in
    subst P (sym i.after) (record {
      size = i.sound.size;
      some = i.sound.some;
      near = subst N law.1 near;
      items = items_inserted (λ x. is_of_kind d.pick.kind x ≡ true) (base_with r.number d.window.window.base) (record { number = r.number; item = b }) d.window.window.held i.read.is i.sound.items;
      sourced = λ e. absurd (cc);
      undue = λ e. absurd (cc);
      waits = i.sound.waits;
    })

-- one that is old
abbrev pub after_old : Inside → Read → WindowState → ℕ → Inside
after_old d r t n = record d { source = Some r.source; window = t; late = n }

-- the source is that of the frame
source_some : (o : Option ℕ) (n : ℕ) → is_source o n ≡ true → (o ≡ None → ⊥) → o ≡ Some n
source_some None n e some = absurd (some refl)
source_some (Some m) n e some = let same : m ≡ n = eqb-true m n e in ap (λ k. Some k) same

not_first : (size n : ℕ) (w : Window (List ℕ)) (o : Option ℕ) (a : window.Offer) → offer size n w o ≡ a → (window.Kept ≡ a → ⊥) → o ≡ None → ⊥
not_first size n w None a e f is = f e
not_first size n w (Some base) a e f is = absurd (cc)

same_source : (d : Inside) (b : List ℕ) (r : Read) (a : window.Offer) (t : WindowState) → IsOffered d b r a t → (window.Kept ≡ a → ⊥) → d.source ≡ Some r.source
same_source d b r a t i f = source_some d.source r.source i.source (λ none. not_first d.window.size r.number d.window.window d.window.window.base a i.answer f (i.sound.sourced none))

pub again_source : (d : Inside) (s : ReceiverState) (b : List ℕ) (r : Read) (t : WindowState) → state_of d ≡ s → IsOffered d b r window.Again t → s.rules.source ≡ Some (datagram_of b).rtp.source
again_source d s b r t view i = sym (ap (λ (x : ReceiverState). x.rules.source) view) ∙ (same_source d b r window.Again t i (λ e. absurd (cc)) ∙ ap (λ k. Some k) (sym i.read.source))

pub behind_source : (d : Inside) (s : ReceiverState) (b : List ℕ) (r : Read) (t : WindowState) → state_of d ≡ s → IsOffered d b r window.Behind t → s.rules.source ≡ Some (datagram_of b).rtp.source
behind_source d s b r t view i = sym (ap (λ (x : ReceiverState). x.rules.source) view) ∙ (same_source d b r window.Behind t i (λ e. absurd (cc)) ∙ ap (λ k. Some k) (sym i.read.source))

old_state : (d : Inside) (s : ReceiverState) (b : List ℕ) (r : Read) (t : WindowState) (n : ℕ) → state_of d ≡ s → d.source ≡ Some r.source → t ≡ record d.window { shown = None } → n ≡ one_more d.late → state_of (after_old d r t n) ≡ after_offer s b taken.Old
old_state d s b r t n view source after count =
    let R = (state_of d).rules in
    ap (λ (w : WindowState). state_of (after_old d r w n)) after
    ∙ (ap (λ x. record (state_of d) { rules = record R { source = x; old = n } }) (sym source)
    ∙ (ap (λ x. record (state_of d) { rules = record R { old = x } }) count
    ∙ ap (λ (x : ReceiverState). after_offer x b taken.Old) view))

pub again_state : (d : Inside) (s : ReceiverState) (b : List ℕ) (r : Read) (t : WindowState) (n : ℕ) → state_of d ≡ s → IsOffered d b r window.Again t → n ≡ one_more d.late → state_of (after_old d r t n) ≡ after_offer s b taken.Old
again_state d s b r t n view i count = old_state d s b r t n view (same_source d b r window.Again t i (λ e. absurd (cc))) i.after count

pub behind_state : (d : Inside) (s : ReceiverState) (b : List ℕ) (r : Read) (t : WindowState) (n : ℕ) → state_of d ≡ s → IsOffered d b r window.Behind t → n ≡ one_more d.late → state_of (after_old d r t n) ≡ after_offer s b taken.Old
behind_state d s b r t n view i count = old_state d s b r t n view (same_source d b r window.Behind t i (λ e. absurd (cc))) i.after count

old_sound : (d : Inside) (r : Read) (t : WindowState) (n : ℕ) → IsSound d → t ≡ record d.window { shown = None } → IsSound (after_old d r t n)
old_sound d r t n sound after =
    let P : WindowState → Type 0 = λ t. IsSound (after_old d r t n) in
    subst P (sym after) (record { size = sound.size; some = sound.some; near = sound.near; items = sound.items; sourced = λ e. absurd (cc); undue = sound.undue; waits = sound.waits })

pub again_sound : (d : Inside) (b : List ℕ) (r : Read) (t : WindowState) (n : ℕ) → IsOffered d b r window.Again t → IsSound (after_old d r t n)
again_sound d b r t n i = old_sound d r t n i.sound i.after

pub behind_sound : (d : Inside) (b : List ℕ) (r : Read) (t : WindowState) (n : ℕ) → IsOffered d b r window.Behind t → IsSound (after_old d r t n)
behind_sound d b r t n i = old_sound d r t n i.sound i.after

-- one that is too far ahead
abbrev pub after_drain : Inside → Read → WindowState → Inside
after_drain d r t = record d { source = Some r.source; window = t }

pub drain_state : (d : Inside) (s : ReceiverState) (b : List ℕ) (r : Read) (t : WindowState) (k : ℕ) → state_of d ≡ s → IsOffered d b r (window.Drain k) t → state_of (after_drain d r t) ≡ after_offer s b taken.Drain
drain_state d s b r t k view i =
    let R = (state_of d).rules in
    ap (λ (w : WindowState). state_of (after_drain d r w)) i.after
    ∙ (ap (λ x. record (state_of d) { rules = record R { source = Some x; window = make_due k R.window } }) (sym i.read.source)
    ∙ (ap (λ o. record (state_of d) { rules = drained_for R b o }) (sym (offer_is d b r (window.Drain k) t i))
    ∙ ap (λ (x : ReceiverState). after_offer x b taken.Drain) view))

due_near : (size k : ℕ) (w : Window Datagram) (o : Option ℕ) → IsWindow size w o → IsWindow size (make_due k w) o
due_near size k w None a = a
due_near size k w (Some base) a = a

drains_some : (size n k : ℕ) (w : Window (List ℕ)) (o : Option ℕ) → offer size n w o ≡ window.Drain k → o ≡ None → ⊥
drains_some size n k w None e f = absurd (cc)
drains_some size n k w (Some base) e f = absurd (cc)

pub drain_sound : (d : Inside) (b : List ℕ) (r : Read) (t : WindowState) (k : ℕ) → IsOffered d b r (window.Drain k) t → IsSound (after_drain d r t)
drain_sound d b r t k i =
    let P : WindowState → Type 0 = λ t. IsSound (after_drain d r t) in
    subst P (sym i.after) (record {
      size = i.sound.size;
      some = i.sound.some;
      near = due_near d.pick.window k (window_as datagram_of d.window.window) d.window.window.base i.sound.near;
      items = i.sound.items;
      sourced = λ e. absurd (cc);
      undue = λ e. absurd (drains_some d.window.size r.number k d.window.window d.window.window.base i.answer e);
      waits = i.sound.waits;
    })

-- one that is refused
off : (x y : Bool) → x ≡ false → (x && y) ≡ false
off true y e = absurd (cc)
off false y e = refl

off_second : (x y : Bool) → y ≡ false → (x && y) ≡ false
off_second true y e = e
off_second false y e = refl

pub refused_answers : (s : ReceiverState) (b : List ℕ) (why : DatagramFault) → is_of_kind s.pick.kind b ≡ false → IsFault s.pick.kind b why → Answers s.pick s.rules b (taken.Refused why)
refused_answers s b why e f = (off (is_well_formed b && ((datagram_of b).rtp.kind == s.pick.kind)) (is_source s.rules.source (datagram_of b).rtp.source) e, by why f) where
  by : (why : DatagramFault) → IsFault s.pick.kind b why → IsRefused s.pick b why
  by Oversize f = f
  by (Rtp x) f = f
  by Kind f = f
  by (Payload x) f = f
  by Source f = absurd f

pub other_answers : (s : ReceiverState) (b : List ℕ) (r : Read) → IsRead s.pick.kind b r → is_source s.rules.source r.source ≡ false → Answers s.pick s.rules b (taken.Refused Source)
other_answers s b r read e = (off_second (is_well_formed b && ((datagram_of b).rtp.kind == s.pick.kind)) (is_source s.rules.source (datagram_of b).rtp.source) (ap (is_source s.rules.source) read.source ∙ e), read.is)
