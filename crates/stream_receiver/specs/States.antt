-- What a contract sees of a receiver, and what its calls do.
use Rattle.std.specs.Prelude.{◌≡◌, ◌⊎◌, ◌+◌, ℕ, Bool, true, false, List, [], ◌∷◌, Option, Some, None}
use Rattle.wire_model.specs.Datagram.{Datagram, datagram_of}
use Rattle.stream_model.specs.Report.{Counts}
use Rattle.stream_model.specs.Arrivals.{is_of_kind}
use Rattle.stream_model.specs.Stream.{extended_number}
use Rattle.stream_model.specs.Decoder.{Release, one_more, take_gap}
use Rattle.stream_model.specs.Receiver as rules
use Rattle.stream_model.specs.Receiver.{followed, decoded, drain, take_frame}
use Rattle.stream_model.specs.ReceiverJoins.{having_given}
use Rattle.stream_model.specs.DrainLaws.{is_picked, offer_of, made_due}
use Rattle.stream_model.specs.Window as window
use Rattle.stream_receiver.specs.declared.pick.Pick.{Pick}
use Rattle.stream_receiver.specs.declared.pick.Tally.{Tally}
use Rattle.stream_receiver.specs.declared.datagram.DatagramFault.{DatagramFault}
use Rattle.stream_receiver.specs.declared.datagram.DatagramFault.TheVariants.{Source}
use Rattle.stream_receiver.specs.declared.receiver.Taken.{Taken}
use Rattle.stream_receiver.specs.declared.receiver.Taken.TheVariants.{Kept, Old, Drain, Refused}
use Rattle.stream_receiver.specs.declared.receiver.Stepped.{Stepped}
use Rattle.stream_receiver.specs.declared.receiver.Stepped.TheVariants.{Ready, Idle}
use Rattle.stream_receiver.specs.Datagrams.{IsFault}

-- The stream that is picked.
abbrev pub pick_of : Pick → rules.Pick
pick_of p = record { kind = p.kind; source = p.source; window = p.window }

-- A receiver: the stream that is picked; its state by the rules, without the packets that were
-- given; the packet that `released` and `raw` lend; and whether the decoder's rules were followed since
-- the window handed on the last datagram.
pub record ReceiverState : Type 0 where
  pub pick : rules.Pick
  pub rules : rules.Receiver
  pub given : Option Release
  pub settled : Bool

-- A new receiver of a stream.
abbrev pub new_state : rules.Pick → ReceiverState
new_state pick = record { pick = pick; rules = rules.new_receiver pick; given = None; settled = true }

-- The receiver once the decoder's rules were followed, where they weren't yet.
abbrev pub followed_by : Bool → rules.Receiver → rules.Receiver
followed_by true r = r
followed_by false r = followed r r.decoder

-- The receiver once all is given that can be given by now: what the steps that follow make of it.
abbrev pub rest : ReceiverState → rules.Receiver
rest s = drain (followed_by s.settled s.rules)

-- The number of frames that were counted.
abbrev pub counted : rules.Receiver → ℕ
counted r = r.kept + r.old + r.refused

-- The window keeps a frame of the stream that is picked.
abbrev pub IsKept : rules.Pick → rules.Receiver → List ℕ → Type 0
IsKept pick r frame = (is_picked pick r.source frame ≡ true) × (offer_of pick r frame ≡ window.Kept)

-- A frame has this fault, the first in their order; one of another source is a datagram of the
-- payload type.
abbrev pub IsRefused : rules.Pick → List ℕ → DatagramFault → Type 0
IsRefused pick frame Source = is_of_kind pick.kind frame ≡ true
IsRefused pick frame why = IsFault pick.kind frame why

-- The answer to a frame, by the stream that is picked and the window as it is.
abbrev pub Answers : rules.Pick → rules.Receiver → List ℕ → Taken → Type 0
Answers pick r frame Kept = IsKept pick r frame
Answers pick r frame Old =
    (is_picked pick r.source frame ≡ true)
    × ((offer_of pick r frame ≡ window.Behind) ⊎ (offer_of pick r frame ≡ window.Again))
Answers pick r frame Drain = (is_picked pick r.source frame ≡ true) × (k : ℕ) × (offer_of pick r frame ≡ window.Drain k)
Answers pick r frame (Refused why) = (is_picked pick r.source frame ≡ false) × IsRefused pick frame why

-- The receiver with the source of a frame as its own.
abbrev pub with_source : rules.Receiver → List ℕ → rules.Receiver
with_source r frame = record r { source = Some (datagram_of frame).rtp.source }

-- The receiver after the window answered to a frame that it must be drained up to a number of
-- numbers.
abbrev pub drained_for : rules.Receiver → List ℕ → window.Offer → rules.Receiver
drained_for r frame (window.Drain k) = made_due r frame k
drained_for r frame o = r

-- The receiver after each answer to a frame: the window holds it, or makes numbers due, or a count
-- rises. A count stays at 2^64 - 1.
abbrev pub rules_after : rules.Pick → rules.Receiver → List ℕ → Taken → rules.Receiver
rules_after pick r frame Kept =
    record (with_source r frame) {
      window = window.hold r.window (extended_number (datagram_of frame)) (datagram_of frame);
      kept = one_more r.kept;
    }
rules_after pick r frame Old = record r { old = one_more r.old }
rules_after pick r frame Drain = drained_for r frame (offer_of pick r frame)
rules_after pick r frame (Refused why) = record r { refused = one_more r.refused }

-- The same of all that a contract sees.
abbrev pub after_offer : ReceiverState → List ℕ → Taken → ReceiverState
after_offer s frame answer = record s { rules = rules_after s.pick s.rules frame answer }

-- What an offered frame makes of a receiver. Kept, all that can be given is what the rules make of
-- the frame; old or refused, the receiver is what they make of it. Too far ahead, where nothing was
-- due, it makes of what can be given what it makes of the receiver before, and the window keeps it
-- then.
abbrev pub Offers : ReceiverState → List ℕ → Taken → ReceiverState → Type 0
Offers s frame Kept t = rest t ≡ take_frame s.pick (followed_by s.settled s.rules) frame
Offers s frame Drain t =
    s.rules.window.due ≡ 0
    → (take_frame s.pick (rest t) frame ≡ take_frame s.pick (followed_by s.settled s.rules) frame) × IsKept s.pick (rest t) frame
Offers s frame Old t = t.rules ≡ take_frame s.pick s.rules frame
Offers s frame (Refused why) t = t.rules ≡ take_frame s.pick s.rules frame

-- A receiver has given this packet, and others are left.
abbrev pub Gave : rules.Receiver → Option Release → rules.Receiver → Type 0
Gave r None left = ⊥
Gave r (Some x) left = r ≡ having_given (x ∷ []) left

-- A step has given the first precinct that can be given. Or none can be: the decoder's rules were
-- followed and nothing is due.
abbrev pub StepsTo : ReceiverState → Stepped → ReceiverState → Type 0
StepsTo s Ready t = Gave (rest s) t.given (rest t)
StepsTo s Idle t = (rest s ≡ t.rules) × (t.settled ≡ true) × (t.rules.window.due ≡ 0)

-- The decoder's rules were followed up to a precinct, or until they wait.
abbrev pub Settles : ReceiverState → Bool → ReceiverState → Type 0
Settles s true t = Gave (followed_by s.settled s.rules) t.given (followed_by t.settled t.rules)
Settles s false t = (followed_by s.settled s.rules ≡ t.rules) × (t.settled ≡ true)

-- What the window hands on went to the decoder; where that is nothing, nothing is due.
abbrev pub Advances : window.Next Datagram → ReceiverState → Bool → ReceiverState → Type 0
Advances (window.Hand x w) s true t =
    (t.rules ≡ record s.rules { window = w; decoder = decoded s.rules.decoder x x.payload }) × (t.settled ≡ false)
Advances (window.Hand x w) s false t = ⊥
Advances (window.Gap n w) s true t =
    (t.rules ≡ record s.rules { window = w; decoder = take_gap s.rules.decoder }) × (t.settled ≡ true)
Advances (window.Gap n w) s false t = ⊥
Advances window.Nothing s true t = ⊥
Advances window.Nothing s false t = (t.rules ≡ s.rules) × (t.settled ≡ true) × (t.rules.window.due ≡ 0)

-- The tally of these counts.
abbrev pub tally_of : Counts → Tally
tally_of n = record {
  kept = n.kept;
  old = n.old;
  refused = n.refused;
  unsupported = n.unsupported;
  disagreed = n.disagreed;
  broken = n.broken;
}
