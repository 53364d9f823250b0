-- What an offered frame makes of a receiver, by the rules.
use Rattle.std.proofs.Common.{◌≡◌, ◌<◌, ◌≤◌, ◌+◌, ◌-◌, ◌^◌, ℕ, Bool, true, false, List, Some, refl, sym, ◌∙◌, ap, subst, inl, inr, arith}
use Rattle.std.specs.Prelude.{min}
use Rattle.wire_model.specs.Datagram.{datagram_of}
use Rattle.stream_model.specs.Stream.{extended_number}
use Rattle.stream_model.specs.Decoder.{one_more}
use Rattle.stream_model.specs.Receiver as rules
use Rattle.stream_model.specs.Receiver.{Pick, take_frame, drain, followed, flushed}
use Rattle.stream_model.specs.Window as window
use Rattle.stream_model.specs.Window.{hold, make_all_due}
use Rattle.stream_model.specs.DrainLaws.{IsWindow, is_picked, offer_of, made_due, TakesAsOffered}
use Rattle.stream_model.proofs.Drains.{takes, drained_takes_frame}
use Rattle.stream_receiver.specs.declared.datagram.DatagramFault.{DatagramFault}
use Rattle.stream_receiver.specs.declared.receiver.Receiver.TheInside.{Inside}
use Rattle.stream_receiver.specs.declared.receiver.Taken.{Taken}
use Rattle.stream_receiver.specs.declared.receiver.Taken.TheVariants as taken
use Rattle.stream_receiver.specs.Views.{state_of, IsSound}
use Rattle.stream_receiver.specs.States.{ReceiverState, counted, followed_by, rest, IsKept, Answers, with_source, drained_for, rules_after, after_offer, Offers}

-- a count below the greatest
more : (n : ℕ) → n < 2 ^ 64 - 1 → one_more n ≡ n + 1
more n low = let e : min (n + 1) 18446744073709551615 ≡ n + 1 = omega arith in e

-- what the rules make of a frame, by the window's answer
taken_at : (x : Bool) (pick : Pick) (r : rules.Receiver) (frame : List ℕ) (o : window.Offer) → is_picked pick r.source frame ≡ true → offer_of pick r frame ≡ o → TakesAsOffered pick (followed_by x r) frame true o
taken_at true pick r frame o p e =
    let T : Bool → window.Offer → Type 0 = λ a b. TakesAsOffered pick r frame a b in
    subst (λ a. T a o) p (subst (λ b. T (is_picked pick r.source frame) b) e (takes pick r frame))
taken_at false pick r frame o p e =
    let F = followed r r.decoder in
    let T : Bool → window.Offer → Type 0 = λ a b. TakesAsOffered pick F frame a b in
    subst (λ a. T a o) p (subst (λ b. T (is_picked pick r.source frame) b) e (takes pick F frame))

not_taken : (pick : Pick) (r : rules.Receiver) (frame : List ℕ) → is_picked pick r.source frame ≡ false → take_frame pick r frame ≡ record r { refused = r.refused + 1 }
not_taken pick r frame e = let T : Bool → Type 0 = λ a. TakesAsOffered pick r frame a (offer_of pick r frame) in subst T e (takes pick r frame)

-- kept
kept_rest : (x : Bool) (pick : Pick) (r : rules.Receiver) (frame : List ℕ) → IsKept pick r frame → one_more r.kept ≡ r.kept + 1 → drain (followed_by x (rules_after pick r frame taken.Kept)) ≡ take_frame pick (followed_by x r) frame
kept_rest true pick r frame (p, e) count =
    ap (λ n. drain (record (with_source r frame) { window = hold r.window (extended_number (datagram_of frame)) (datagram_of frame); kept = n })) count ∙ sym (taken_at true pick r frame window.Kept p e)
kept_rest false pick r frame (p, e) count =
    ap (λ n. drain (followed (record (with_source r frame) { window = hold r.window (extended_number (datagram_of frame)) (datagram_of frame); kept = n }) r.decoder)) count ∙ sym (taken_at false pick r frame window.Kept p e)

-- too far ahead
abbrev IsTakenLater : Pick → rules.Receiver → List ℕ → rules.Receiver → Type 0
IsTakenLater pick r frame left = (take_frame pick left frame ≡ take_frame pick r frame) × IsKept pick left frame

drain_rest : (x : Bool) (pick : Pick) (r : rules.Receiver) (frame : List ℕ) (k : ℕ) → IsWindow pick.window r.window r.window.base → 1 ≤ pick.window → extended_number (datagram_of frame) < 2 ^ 24 → r.window.due ≡ 0
    → is_picked pick r.source frame ≡ true → offer_of pick r frame ≡ window.Drain k → IsTakenLater pick (followed_by x r) frame (drain (followed_by x (made_due r frame k)))
drain_rest true pick r frame k near some low due p e = let law = drained_takes_frame pick r frame k near some low due p e in (law.0, (law.2, law.1))
drain_rest false pick r frame k near some low due p e = let law = drained_takes_frame pick (followed r r.decoder) frame k near some low due p e in (law.0, (law.2, law.1))

-- an old frame is of the source
abbrev pub IsOldSource : ReceiverState → List ℕ → Taken → Type 0
IsOldSource s frame taken.Old = s.rules.source ≡ Some (datagram_of frame).rtp.source
IsOldSource s frame answer = Unit {0}

-- any of the answers
offers : (s t : ReceiverState) (frame : List ℕ) (answer : Taken) → t ≡ after_offer s frame answer → Answers s.pick s.rules frame answer
    → IsWindow s.pick.window s.rules.window s.rules.window.base → 1 ≤ s.pick.window → (is_picked s.pick s.rules.source frame ≡ true → extended_number (datagram_of frame) < 2 ^ 24)
    → IsOldSource s frame answer → counted s.rules < 2 ^ 64 - 1 → Offers s frame answer t
offers s t frame answer is answers near some low source few =
    let P : ReceiverState → Type 0 = λ t. Offers s frame answer t in
    subst P (sym is) (by answer answers source) where
      old_is : s.rules.source ≡ Some (datagram_of frame).rtp.source → record s.rules { old = one_more s.rules.old } ≡ record (with_source s.rules frame) { old = s.rules.old + 1 }
      old_is e = ap (λ x. record s.rules { source = x; old = one_more s.rules.old }) e ∙ ap (λ n. record (with_source s.rules frame) { old = n }) (more s.rules.old (omega (arith, few)))

      by : (answer : Taken) → Answers s.pick s.rules frame answer → IsOldSource s frame answer → Offers s frame answer (after_offer s frame answer)
      by taken.Kept a o = kept_rest s.settled s.pick s.rules frame a (more s.rules.kept (omega (arith, few)))
      by taken.Old (p, inl e) o = old_is o ∙ sym (taken_at true s.pick s.rules frame window.Behind p e)
      by taken.Old (p, inr e) o = old_is o ∙ sym (taken_at true s.pick s.rules frame window.Again p e)
      by taken.Drain (p, k, e) o = λ due. (
          let Q : window.Offer → Type 0 = λ o. IsTakenLater s.pick (followed_by s.settled s.rules) frame (drain (followed_by s.settled (drained_for s.rules frame o))) in
          subst Q (sym e) (drain_rest s.settled s.pick s.rules frame k near some (low p) due p e))
      by (taken.Refused why) (p, f) o = ap (λ n. record s.rules { refused = n }) (more s.rules.refused (omega (arith, few))) ∙ sym (not_taken s.pick s.rules frame p)

-- the number of a frame that was read
pub low_number : (frame : List ℕ) (n : ℕ) → extended_number (datagram_of frame) ≡ n → n < 2 ^ 24 → extended_number (datagram_of frame) < 2 ^ 24
low_number frame n is low = let P : ℕ → Type 0 = λ k. k < 2 ^ 24 in subst P (sym is) low

-- a frame that is picked, or isn't, offered to a receiver of these fields
pub offers_inside : (d : Inside) (s t : ReceiverState) (frame : List ℕ) (answer : Taken) → state_of d ≡ s → IsSound d → t ≡ after_offer s frame answer → Answers s.pick s.rules frame answer
    → extended_number (datagram_of frame) < 2 ^ 24 → IsOldSource s frame answer → counted s.rules < 2 ^ 64 - 1 → Offers s frame answer t
offers_inside d s t frame answer view sound is answers low source few =
    let N : ReceiverState → Type 0 = λ s. IsWindow s.pick.window s.rules.window s.rules.window.base in
    let S : ReceiverState → Type 0 = λ s. 1 ≤ s.pick.window in
    offers s t frame answer is answers (subst N view sound.near) (subst S view sound.some) (λ p. low) source few

-- one that is refused
pub refused_offers : (d : Inside) (s t : ReceiverState) (frame : List ℕ) (why : DatagramFault) → state_of d ≡ s → IsSound d → t ≡ after_offer s frame (taken.Refused why) → Answers s.pick s.rules frame (taken.Refused why)
    → counted s.rules < 2 ^ 64 - 1 → Offers s frame (taken.Refused why) t
refused_offers d s t frame why view sound is answers few =
    let N : ReceiverState → Type 0 = λ s. IsWindow s.pick.window s.rules.window s.rules.window.base in
    let S : ReceiverState → Type 0 = λ s. 1 ≤ s.pick.window in
    offers s t frame (taken.Refused why) is answers (subst N view sound.near) (subst S view sound.some) (λ p. absurd (let q = answers.0 in cc)) tt few

-- at the end
pub flush_rest : (s t : ReceiverState) → t ≡ record s { rules = record s.rules { window = make_all_due s.rules.window s.rules.window.base } } → rest t ≡ flushed (followed_by s.settled s.rules)
flush_rest s t is =
    let P : ReceiverState → Type 0 = λ t. rest t ≡ flushed (followed_by s.settled s.rules) in
    subst P (sym is) (by s.settled) where
      by : (x : Bool) → drain (followed_by x (record s.rules { window = make_all_due s.rules.window s.rules.window.base })) ≡ flushed (followed_by x s.rules)
      by true = refl
      by false = refl
