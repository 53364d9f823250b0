-- The numbers of precincts, and the order of their packets: resolution, position, component (T.800 B.12.1.3, RPCL), or
-- position, component, resolution (B.12.1.4, PCRL).
use Rattle.std.specs.Prelude.{◌≡◌, ◌<◌, ◌↔◌, ◌⊎◌, ◌+◌, ◌-◌, ◌*◌, ◌^◌, ◌==◌, ◌&&◌, ◌||◌, ℕ, zero, suc, max, Bool, false, List, [], ◌∷◌, map, length, nat_lt, if◌then◌else◌}
use Rattle.std.specs.List.{Contains, AllPairs, flat_map, range_with_len}
use Rattle.codestream_model.specs.Values.{Pair, Head, Place}
use Rattle.codestream_model.specs.Areas.{step_of}
use Rattle.codestream_model.specs.Precincts.{precinct_exponents, precinct_count, IsPrecinct, strip_x, strip_y}

-- `sum_below f n` is the sum of the first n values of a function.
unfoldable pub sum_below : (ℕ → ℕ) → ℕ → ℕ
sum_below f zero = 0
sum_below f (suc n) = sum_below f n + f n

-- The number of a component's precincts of the resolutions below one.
abbrev pub precincts_below : Head → ℕ → ℕ → ℕ
precincts_below h c r = sum_below (precinct_count h c) r

-- PID is the number of a precinct: its index among those of its component, times the number of components, plus its
-- component.
abbrev pub pid : Head → Place → ℕ
pid h p = p.c + (precincts_below h p.c p.r + p.k) * length h.steps

-- The anchor of a precinct: where its upper left corner is on the reference grid, or where the image begins if that is
-- later.
abbrev pub anchor : Head → Place → Pair
anchor h p = record {
  x = max h.x0 (strip_x h p * ((step_of h p.c).x * 2 ^ ((precinct_exponents h p.r).x + (h.levels - p.r))));
  y = max h.y0 (strip_y h p * ((step_of h p.c).y * 2 ^ ((precinct_exponents h p.r).y + (h.levels - p.r))));
}

-- What packets are ordered by before all else: in RPCL the resolution, in PCRL nothing.
abbrev pub rank : Head → ℕ → ℕ
rank h r = if h.order == 2 then r else 0

-- What packets are ordered by: the rank, the anchor's y and x, the component, the resolution.
abbrev pub key : Head → Place → List ℕ
key h p = rank h p.r ∷ (anchor h p).y ∷ (anchor h p).x ∷ p.c ∷ p.r ∷ []

-- A list of numbers comes before another: it is less at the first index where they differ.
abbrev pub IsBefore : List ℕ → List ℕ → Type 0
IsBefore (a ∷ more) (b ∷ others) = (a < b) ⊎ ((a ≡ b) × IsBefore more others)
IsBefore [] b = ⊥
IsBefore (a ∷ more) [] = ⊥

-- These precincts are in packet order: each precinct of the image occurs once, and by its key each comes before all
-- that follow it.
pub record IsPacketOrder (h : Head) (places : List Place) : Type 0 where
  pub each : (p : Place) → Contains places p ↔ IsPrecinct h p
  pub ascending : AllPairs (λ p q. IsBefore (key h p) (key h q)) places

-- The precincts of a component and a resolution; from here on the packet order is computed, which the law
-- `PacketOrderIsComputed` ties to `IsPacketOrder`.
abbrev pub places_of : Head → ℕ → ℕ → List Place
places_of h c r = map (λ k. record { c = c; r = r; k = k }) (range_with_len 0 (precinct_count h c r))

-- All precincts of the image.
abbrev pub all_places : Head → List Place
all_places h = flat_map (λ c. flat_map (λ r. places_of h c r) (range_with_len 0 (h.levels + 1))) (range_with_len 0 (length h.steps))

-- Whether a list of numbers comes before another.
abbrev pub is_before : List ℕ → List ℕ → Bool
is_before (a ∷ more) (b ∷ others) = nat_lt a b || ((a == b) && is_before more others)
is_before [] b = false
is_before (a ∷ more) [] = false

-- A precinct inserted by its key among others in order, unless one with its key is there already.
unfoldable pub placed : Head → Place → List Place → List Place
placed h p [] = p ∷ []
placed h p (q ∷ qs) = if is_before (key h p) (key h q) then p ∷ q ∷ qs else if is_before (key h q) (key h p) then q ∷ placed h p qs else q ∷ qs

-- All these precincts inserted in order, one after another.
unfoldable pub sorted : Head → List Place → List Place
sorted h [] = []
sorted h (p ∷ ps) = placed h p (sorted h ps)

-- The packet order, computed.
abbrev pub packet_order : Head → List Place
packet_order h = sorted h (all_places h)
