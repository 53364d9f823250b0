-- A window of frames as a window of the datagrams that they are.
use Rattle.std.specs.Prelude.{◌≡◌, ℕ, List, map, Option}
use Rattle.wire_model.specs.Datagram.{datagram_of}
use Rattle.stream_model.specs.Window.{Window, Held, offer, hold, make_all_due, Next, Hand, Gap, Nothing, next}

-- What is held, with each item mapped.
abbrev pub held_as : {S T : Type 0} → (S → T) → Held S → Held T
held_as f h = record { number = h.number; item = f h.item }

-- A window with each item mapped.
abbrev pub window_as : {S T : Type 0} → (S → T) → Window S → Window T
window_as f w = record { base = w.base; due = w.due; held = map (held_as f) w.held }

-- What is handed on, with its item mapped.
abbrev pub next_as : {S T : Type 0} → (S → T) → Next S → Next T
next_as f (Hand x w) = Hand (f x) (window_as f w)
next_as f (Gap count w) = Gap count (window_as f w)
next_as f Nothing = Nothing

-- A window of frames answers, holds and hands on as the window of the datagrams that they are.
abbrev pub WindowOfFrames : Type 0
WindowOfFrames =
    (w : Window (List ℕ)) (size n : ℕ) (x : List ℕ) (base : Option ℕ)
    → (offer size n (window_as datagram_of w) base ≡ offer size n w base)
    × (hold (window_as datagram_of w) n (datagram_of x) ≡ window_as datagram_of (hold w n x))
    × (next (window_as datagram_of w) base ≡ next_as datagram_of (next w base))
    × (make_all_due (window_as datagram_of w) base ≡ window_as datagram_of (make_all_due w base))
