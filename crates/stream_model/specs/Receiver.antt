-- The rules of a receiver: which frames it takes, how the window puts them in order, and how the decoder reads them.
use Rattle.std.specs.Prelude.{◌+◌, ◌*◌, ◌==◌, ◌&&◌, ◌++◌, ℕ, zero, suc, Bool, true, List, [], ◌∷◌, length, Option, Some, None, if◌then◌else◌}
use Rattle.wire_model.specs.Payload.{PayloadFields, Main, Body}
use Rattle.wire_model.specs.Datagram.{Datagram, datagram_of, is_well_formed}
use Rattle.stream_model.specs.Stream.{extended_number}
use Rattle.stream_model.specs.Report.{Counts}
use Rattle.stream_model.specs.Decoder.{Decoder, at_start, take_main, take_body, take_gap, Release, settled}
use Rattle.stream_model.specs.Window.{Window, empty, offer, Offer, Behind, Again, Drain, Kept, hold, make_due, make_all_due, next, Hand, Gap, Nothing}

-- The payload type and the source that are asked for, and the window's size.
pub record Pick : Type 0 where
  pub kind : ℕ
  pub source : Option ℕ
  pub window : ℕ

-- The source that is picked by now, the window, the decoder, the packets released so far, and what was counted.
pub record Receiver : Type 0 where
  pub source : Option ℕ
  pub window : Window Datagram
  pub decoder : Decoder
  pub releases : List Release
  pub kept : ℕ
  pub old : ℕ
  pub refused : ℕ

-- A receiver before its first frame.
abbrev pub new_receiver : Pick → Receiver
new_receiver pick = record { source = pick.source; window = empty; decoder = at_start; releases = []; kept = 0; old = 0; refused = 0 }

-- The decoder after a datagram, before its rules.
abbrev pub decoded : Decoder → Datagram → PayloadFields → Decoder
decoded d x (Main h) = take_main d x.rtp.stamp x.codestream
decoded d x (Body h) = take_body d d.current x.rtp.stamp h x.codestream

-- The rules are followed until they wait.
abbrev pub followed : Receiver → Decoder → Receiver
followed r d = record r { decoder = (settled d).decoder; releases = r.releases ++ (settled d).releases }

-- What the window hands on is decoded, until it has nothing; in at most n steps.
unfoldable pub drained : ℕ → Receiver → Receiver
drained zero r = r
drained (suc n) r = elim (next r.window r.window.base) [
  | Hand x w ↦ drained n (followed (record r { window = w }) (decoded r.decoder x x.payload))
  | Gap count w ↦ drained n (record r { window = w; decoder = take_gap r.decoder })
  | Nothing ↦ r
]

-- The receiver after its window is drained: each datagram that is held has at most a gap before it, and a gap is at the
-- end.
abbrev pub drain : Receiver → Receiver
drain r = drained (2 * length r.window.held + 1) r

-- The window holds a datagram from now on.
abbrev pub keep : Receiver → Datagram → Receiver
keep r x = drain (record r { window = hold r.window (extended_number x) x; kept = r.kept + 1 })

-- A datagram that is below the base or held already is old. One that is too far ahead drains the window first, and is
-- then kept.
abbrev pub offered : Receiver → Datagram → Offer → Receiver
offered r x Behind = record r { old = r.old + 1 }
offered r x Again = record r { old = r.old + 1 }
offered r x (Drain n) = keep (drain (record r { window = make_due n r.window })) x
offered r x Kept = keep r x

-- Whether a source is the one that is picked, or none is picked yet.
abbrev pub is_source : Option ℕ → ℕ → Bool
is_source None source = true
is_source (Some picked) source = picked == source

-- A well-formed datagram of the picked source is offered to the window, and one of another source is refused; the first
-- one fixes the source where none is asked for.
abbrev pub take_datagram : Pick → Receiver → Datagram → Receiver
take_datagram pick r x =
    if is_source r.source x.rtp.source
    then offered (record r { source = Some x.rtp.source }) x (offer pick.window (extended_number x) r.window r.window.base)
    else record r { refused = r.refused + 1 }

-- A frame that isn't well formed, or of another payload type, is refused.
abbrev pub take_frame : Pick → Receiver → List ℕ → Receiver
take_frame pick r frame =
    if is_well_formed frame && ((datagram_of frame).rtp.kind == pick.kind)
    then take_datagram pick r (datagram_of frame)
    else record r { refused = r.refused + 1 }

-- The receiver after these frames, one after another.
unfoldable pub take_frames : Pick → Receiver → List (List ℕ) → Receiver
take_frames pick r [] = r
take_frames pick r (f ∷ frames) = take_frames pick (take_frame pick r f) frames

-- The receiver that was new, after these frames.
abbrev pub received : Pick → List (List ℕ) → Receiver
received pick frames = take_frames pick (new_receiver pick) frames

-- The receiver at the end, where all numbers up to the highest that is held are due.
abbrev pub flushed : Receiver → Receiver
flushed r = drain (record r { window = make_all_due r.window r.window.base })

-- What was counted.
abbrev pub counts_of : Receiver → Counts
counts_of r = record {
  kept = r.kept;
  old = r.old;
  refused = r.refused;
  unsupported = r.decoder.unsupported;
  disagreed = r.decoder.disagreed;
  broken = r.decoder.broken;
}
