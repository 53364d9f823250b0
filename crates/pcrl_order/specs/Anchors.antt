-- Precincts with their anchors.
use Rattle.std.specs.Prelude.{ℕ, List}
use Rattle.std.specs.List.{flat_map, range_with_len}
use Rattle.std.specs.declared.cmp.Ordering.{Ordering}
use Rattle.std.specs.Ordering.{ordering_then, nat_cmp}
use Rattle.codestream_model.specs.Values.{Head, Place}
use Rattle.codestream_model.specs.PacketOrder.{rank, anchor, places_of}
use Rattle.pcrl_order.specs.declared.anchored.Anchored.{Anchored}

-- a precinct with its rank and its anchor
abbrev pub anchored_of : Head → Place → Anchored
anchored_of h p = record { rank = rank h p.r; y = (anchor h p).y; x = (anchor h p).x; c = p.c; r = p.r; k = p.k }

-- the precinct of one with its anchor
abbrev pub place_in : Anchored → Place
place_in a = record { c = a.c; r = a.r; k = a.k }

-- the precincts of the first n resolutions of a component
abbrev pub component_places : Head → ℕ → ℕ → List Place
component_places h c n = flat_map (λ r. places_of h c r) (range_with_len 0 n)

-- the order of the fields from first to last, in which `k` is the last
abbrev pub by_fields : Anchored → Anchored → Ordering
by_fields a b =
    ordering_then (nat_cmp a.rank b.rank)
    (ordering_then (nat_cmp a.y b.y)
    (ordering_then (nat_cmp a.x b.x) (ordering_then (nat_cmp a.c b.c) (ordering_then (nat_cmp a.r b.r) (nat_cmp a.k b.k)))))
