-- Laws of draining the window: what it hands on next says what is drained, until it has nothing; and an item that was too far ahead
-- is within reach then.
use Rattle.std.specs.Prelude.{◌≡◌, ◌<◌, ◌≤◌, ◌+◌, ◌*◌, ◌^◌, ◌==◌, ◌&&◌, ℕ, Bool, true, false, List, [], length, Option, Some, None, if◌then◌else◌}
use Rattle.std.specs.List.{AllByRecursion}
use Rattle.wire_model.specs.Datagram.{Datagram, datagram_of, is_well_formed}
use Rattle.stream_model.specs.Stream.{extended_number}
use Rattle.codestream_model.specs.Packet.{segment_bytes}
use Rattle.stream_model.specs.Decoder.{Release, take_gap}
use Rattle.stream_model.specs.Window.{Window, Held, ahead, is_held, offer, hold, base_with, make_due, Offer, Behind, Again, Drain, Kept, Next, Hand, Gap, Nothing, next}
use Rattle.stream_model.specs.Receiver.{Pick, Receiver, decoded, followed, drain, keep, is_source, take_frame}

-- The number of an item is one that a window of this size holds from this base on.
abbrev pub IsNear : ℕ → ℕ → Held Datagram → Type 0
IsNear size base h = (h.number < 2 ^ 24) × (ahead base h.number < size)

-- Every window is so: empty before the first datagram, and then all that it holds is near its base.
abbrev pub IsWindow : ℕ → Window Datagram → Option ℕ → Type 0
IsWindow size w None = w.held ≡ []
IsWindow size w (Some base) = (base < 2 ^ 24) × AllByRecursion (IsNear size base) w.held

-- 1 where the next thing that the window hands on is a gap, else 0.
abbrev pub pending : Window Datagram → Option ℕ → ℕ
pending w None = 0
pending w (Some base) = if is_held base w.held then 0 else if w.due == 0 then 0 else 1

-- At most this often the window hands something on.
abbrev pub weight : Window Datagram → ℕ
weight w = 2 * length w.held + pending w w.base

-- Whatever is handed on, the window that is left weighs less and is one of the same size.
abbrev pub FallsAs : ℕ → ℕ → Next Datagram → Type 0
FallsAs size before (Hand x w) = (weight w < before) × IsWindow size w w.base
FallsAs size before (Gap count w) = (weight w < before) × IsWindow size w w.base
FallsAs size before Nothing = Unit {0}

-- Draining a receiver is treating what its window hands on next, and then draining what is left.
abbrev pub DrainsAs : Receiver → Next Datagram → Type 0
DrainsAs r (Hand x w) = drain r ≡ drain (followed (record r { window = w }) (decoded r.decoder x x.payload))
DrainsAs r (Gap count w) = drain r ≡ drain (record r { window = w; decoder = take_gap r.decoder })
DrainsAs r Nothing = drain r ≡ r

-- Draining a receiver goes by what its window hands on next, and each step makes the window lighter.
abbrev pub NextIsDrained : Type 0
NextIsDrained =
    (size : ℕ) (r : Receiver) → IsWindow size r.window r.window.base
    → DrainsAs r (next r.window r.window.base) × FallsAs size (weight r.window) (next r.window r.window.base)

-- A receiver that is drained has a window with nothing to hand on.
abbrev pub DrainedHasNothing : Type 0
DrainedHasNothing =
    (size : ℕ) (r : Receiver) → IsWindow size r.window r.window.base
    → (next (drain r).window (drain r).window.base ≡ Nothing) × IsWindow size (drain r).window (drain r).window.base

-- A number that was too far ahead of a window of which nothing was due is kept once the window is drained.
abbrev pub DrainedIsInReach : Type 0
DrainedIsInReach =
    (size n k : ℕ) (r : Receiver) → IsWindow size r.window r.window.base → 1 ≤ size → n < 2 ^ 24
    → r.window.due ≡ 0 → offer size n r.window r.window.base ≡ Drain k
    → offer size n (drain (record r { window = make_due k r.window })).window (drain (record r { window = make_due k r.window })).window.base ≡ Kept

-- A window that holds an item which it kept is still a window of its size.
abbrev pub KeptIsNear : Type 0
KeptIsNear =
    (size n : ℕ) (x : Datagram) (w : Window Datagram) → IsWindow size w w.base → 1 ≤ size → n < 2 ^ 24
    → offer size n w w.base ≡ Kept → IsWindow size (hold w n x) (Some (base_with n w.base))

-- Whether a frame is well formed, of the payload type, and of the source picked so far.
abbrev pub is_picked : Pick → Option ℕ → List ℕ → Bool
is_picked pick source frame = (is_well_formed frame && ((datagram_of frame).rtp.kind == pick.kind)) && is_source source (datagram_of frame).rtp.source

-- What the window answers to a frame that is picked.
abbrev pub offer_of : Pick → Receiver → List ℕ → Offer
offer_of pick r frame = offer pick.window (extended_number (datagram_of frame)) r.window r.window.base

-- The receiver with `k` more numbers due and the source of this frame.
abbrev pub made_due : Receiver → List ℕ → ℕ → Receiver
made_due r frame k = record r { source = Some (datagram_of frame).rtp.source; window = make_due k r.window }

-- What a frame makes of a receiver, by whether it is picked and by the answer of the window.
abbrev pub TakesAsOffered : Pick → Receiver → List ℕ → Bool → Offer → Type 0
TakesAsOffered pick r frame false o = take_frame pick r frame ≡ record r { refused = r.refused + 1 }
TakesAsOffered pick r frame true Behind = take_frame pick r frame ≡ record r { source = Some (datagram_of frame).rtp.source; old = r.old + 1 }
TakesAsOffered pick r frame true Again = take_frame pick r frame ≡ record r { source = Some (datagram_of frame).rtp.source; old = r.old + 1 }
TakesAsOffered pick r frame true (Drain k) = take_frame pick r frame ≡ keep (drain (made_due r frame k)) (datagram_of frame)
TakesAsOffered pick r frame true Kept = take_frame pick r frame ≡ keep (record r { source = Some (datagram_of frame).rtp.source }) (datagram_of frame)

-- A frame that needs numbers to be made due, where none was, is kept by the receiver that was drained, and makes of it what it
-- would have made of the receiver before.
abbrev pub DrainedTakesFrame : Type 0
DrainedTakesFrame =
    (pick : Pick) (r : Receiver) (frame : List ℕ) (k : ℕ) → IsWindow pick.window r.window r.window.base → 1 ≤ pick.window
    → extended_number (datagram_of frame) < 2 ^ 24 → r.window.due ≡ 0 → is_picked pick r.source frame ≡ true → offer_of pick r frame ≡ Drain k
    → (take_frame pick (drain (made_due r frame k)) frame ≡ take_frame pick r frame)
    × (offer_of pick (drain (made_due r frame k)) frame ≡ Kept)
    × (is_picked pick (drain (made_due r frame k)).source frame ≡ true)

-- The precinct of a packet has as many bytes as its code-blocks say.
abbrev pub IsWhole : Release → Type 0
IsWhole x = length x.precinct.bytes ≡ segment_bytes x.precinct.blocks

-- The precincts of all packets that a receiver releases have as many bytes as their code-blocks say.
abbrev pub GivenAreWhole : Type 0
GivenAreWhole =
    (r : Receiver) → AllByRecursion IsWhole r.releases
    → AllByRecursion IsWhole (drain r).releases × AllByRecursion IsWhole (followed r r.decoder).releases
