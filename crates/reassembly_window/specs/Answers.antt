-- The answers of the code by those of the window's rules, and the window after each.
use Rattle.std.specs.Prelude.{ℕ, List, Option, Some, None}
use Rattle.stream_model.specs.Window as rules
use Rattle.stream_model.specs.Window.{Window, Behind, Again, Drain, Kept, Hand, Gap, Nothing, hold, make_due}
use Rattle.reassembly_window.specs.declared.window.Offer.{Offer}
use Rattle.reassembly_window.specs.declared.window.Offer.TheVariants as offers
use Rattle.reassembly_window.specs.declared.window.Slot.{Slot}
use Rattle.reassembly_window.specs.declared.window.Slot.TheVariants as slots
use Rattle.reassembly_window.specs.Windows.{WindowState}

-- What the rules answer where a datagram of this number is offered.
abbrev pub offered : WindowState → ℕ → rules.Offer
offered s n = rules.offer s.size n s.window s.window.base

-- The answer of `offer` for that of the rules.
abbrev pub offer_answer : rules.Offer → Offer
offer_answer Behind = offers.Behind
offer_answer Again = offers.Again
offer_answer (Drain n) = offers.Drain
offer_answer Kept = offers.Kept

-- The window after a datagram was offered: kept, it is held; too far ahead, it makes numbers due.
abbrev pub after_offer : WindowState → ℕ → List ℕ → rules.Offer → WindowState
after_offer s n bytes Behind = record s { shown = None }
after_offer s n bytes Again = record s { shown = None }
after_offer s n bytes (Drain k) = record s { window = make_due k s.window; shown = None }
after_offer s n bytes Kept = record s { window = hold s.window n bytes; shown = None }

-- What the rules hand on next.
abbrev pub handed : WindowState → rules.Next (List ℕ)
handed s = rules.next s.window s.window.base

-- The answer of `next`, where this number is at the base.
abbrev pub next_answer : ℕ → rules.Next (List ℕ) → Option Slot
next_answer base (Hand bytes w) = Some (slots.Held base)
next_answer base (Gap count w) = Some (slots.Gap base count)
next_answer base Nothing = None

-- The window after it handed something on; it shows a datagram that was handed on.
abbrev pub after_next : WindowState → rules.Next (List ℕ) → WindowState
after_next s (Hand bytes w) = record s { window = w; shown = Some bytes }
after_next s (Gap count w) = record s { window = w; shown = None }
after_next s Nothing = record s { shown = None }
