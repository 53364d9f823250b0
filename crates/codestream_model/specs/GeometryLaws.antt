-- What is promised of areas, precincts, their numbers and their order.
use Rattle.std.specs.Prelude.{◌≡◌, ◌<◌, ◌≤◌, ◌↔◌, ◌+◌, ◌*◌, ◌/◌, ◌^◌, ℕ, zero, suc, true, List, length}
use Rattle.std.specs.List.{All}
use Rattle.codestream_model.specs.Values.{Head, Place}
use Rattle.codestream_model.specs.Areas.{ceil_div, Span, step_of, band_area}
use Rattle.codestream_model.specs.Precincts.{precinct_exponents, strips, precinct_count, IsPrecinct, part_x, part_y}
use Rattle.codestream_model.specs.PacketOrder.{precincts_below, pid, key, IsPacketOrder, packet_order}
use Rattle.codestream_model.specs.SegmentTests.{has_great_pid}
use Rattle.codestream_model.specs.HeadLimits.{HasSamples}

-- A quotient rounded up is the least number that, times the divisor, is at least the dividend.
abbrev pub QuotientIsRoundedUp : Type 0
QuotientIsRoundedUp = (a b q : ℕ) → 0 < b → (ceil_div a b ≤ q) ↔ (a ≤ q * b)

-- The strips of a range, counted from that of its first coordinate, are those in which it has a coordinate.
abbrev pub StripsAreReached : Type 0
StripsAreReached = (e : ℕ) (s : Span) (i : ℕ) → s.from ≤ s.to → (i < strips e s) ↔ ((t : ℕ) × (s.from ≤ t) × (t < s.to) × (t / 2 ^ e ≡ s.from / 2 ^ e + i))

-- Every step is at least 1, as in each header.
abbrev pub HasSteps : Head → Type 0
HasSteps h = All (λ step. (0 < step.x) × (0 < step.y)) h.steps

-- Two precincts have two numbers.
abbrev pub PidsAreDistinct : Type 0
PidsAreDistinct = (h : Head) (p q : Place) → IsPrecinct h p → IsPrecinct h q → pid h p ≡ pid h q → p ≡ q

-- Each number up to a component's last is that of one of its precincts.
abbrev pub PidsAreDense : Type 0
PidsAreDense = (h : Head) (c s : ℕ) → c < length h.steps → s < precincts_below h c (h.levels + 1) → (p : Place) × IsPrecinct h p × (p.c ≡ c) × (pid h p ≡ c + s * length h.steps)

-- A header is found to have a PID of 2^20 or more exactly where a precinct has one.
abbrev pub GreatPidsAreFound : Type 0
GreatPidsAreFound = (h : Head) → length h.steps ≤ 2 ^ 20 → (has_great_pid h ≡ true) ↔ ((p : Place) × IsPrecinct h p × (2 ^ 20 ≤ pid h p))

-- Two precincts have two keys.
abbrev pub KeysAreDistinct : Type 0
KeysAreDistinct = (h : Head) (p q : Place) → HasSteps h → IsPrecinct h p → IsPrecinct h q → key h p ≡ key h q → p ≡ q

-- A header has one packet order.
abbrev pub PacketOrderIsOne : Type 0
PacketOrderIsOne = (h : Head) (one other : List Place) → IsPacketOrder h one → IsPacketOrder h other → one ≡ other

-- The packet order of a header is the one that is computed.
abbrev pub PacketOrderIsComputed : Type 0
PacketOrderIsComputed = (h : Head) → HasSteps h → IsPacketOrder h (packet_order h)

-- A component that isn't empty has a precinct at the highest resolution.
abbrev pub EachComponentHasPrecincts : Type 0
EachComponentHasPrecincts = (h : Head) (c : ℕ) → HasSamples h (step_of h c) → 1 ≤ precinct_count h c h.levels

-- A coordinate is in a range.
abbrev pub IsWithin : Span → ℕ → Type 0
IsWithin s t = (s.from ≤ t) × (t < s.to)

-- The band is one of this resolution: LL of the lowest, and HL, LH and HH of each other.
abbrev pub IsBandOf : ℕ → ℕ → Type 0
IsBandOf zero band = band ≡ 0
IsBandOf (suc r) band = (1 ≤ band) × (band ≤ 3)

-- Each coordinate of a band is in a precinct's part of it.
abbrev pub PartsCoverBands : Type 0
PartsCoverBands = (h : Head) (c r band u v : ℕ)
    → (0 < r → (1 ≤ (precinct_exponents h r).x) × (1 ≤ (precinct_exponents h r).y))
    → IsBandOf r band
    → IsWithin (band_area h c r band).x u
    → IsWithin (band_area h c r band).y v
    → (k : ℕ) × (k < precinct_count h c r) × IsWithin (part_x h (record { c = c; r = r; k = k }) band) u × IsWithin (part_y h (record { c = c; r = r; k = k }) band) v

-- No coordinate of a band is in two precincts' parts of it.
abbrev pub PartsAreApart : Type 0
PartsAreApart = (h : Head) (c r k j band u v : ℕ)
    → IsWithin (part_x h (record { c = c; r = r; k = k }) band) u
    → IsWithin (part_y h (record { c = c; r = r; k = k }) band) v
    → IsWithin (part_x h (record { c = c; r = r; k = j }) band) u
    → IsWithin (part_y h (record { c = c; r = r; k = j }) band) v
    → k ≡ j
