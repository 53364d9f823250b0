-- The lines that show the packet order of a main header.
use Rattle.std.specs.Prelude.{◌++◌, ℕ, List, [], ◌∷◌, codes, decimal}
use Rattle.std.specs.List.{flat_map}
use Rattle.codestream_model.specs.Values.{Head, Place}
use Rattle.codestream_model.specs.PacketOrder.{pid, anchor, packet_order}

-- a precinct: its number, its component, its resolution, its number there, and its anchor
abbrev pub place_line : Head → Place → List ℕ
place_line h p =
    codes "O pid=" ++ decimal (pid h p)
    ++ codes " c=" ++ decimal p.c
    ++ codes " r=" ++ decimal p.r
    ++ codes " k=" ++ decimal p.k
    ++ codes " y=" ++ decimal (anchor h p).y
    ++ codes " x=" ++ decimal (anchor h p).x
    ++ 10 ∷ []

-- all precincts, in the order of their packets
abbrev pub order_lines : Head → List ℕ
order_lines h = flat_map (place_line h) (packet_order h)
