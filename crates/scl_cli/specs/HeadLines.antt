-- The lines that show the values of a main header.
use Rattle.std.specs.Prelude.{◌+◌, ◌==◌, ◌++◌, ℕ, List, [], ◌∷◌, length, codes, decimal, if◌then◌else◌}
use Rattle.std.specs.List.{flat_map, range_with_len}
use Rattle.codestream_model.specs.Values.{Head}
use Rattle.codestream_model.specs.Areas.{step_of}
use Rattle.codestream_model.specs.Precincts.{precinct_exponents}

-- a word, and numbers with a blank before each
abbrev pub line : List ℕ → List ℕ → List ℕ
line word numbers = word ++ flat_map (λ n. 32 ∷ decimal n) numbers ++ 10 ∷ []

-- where the image begins and ends
abbrev pub area_line : Head → List ℕ
area_line h = codes "AREA x0=" ++ decimal h.x0 ++ codes " y0=" ++ decimal h.y0 ++ codes " x1=" ++ decimal h.x1 ++ codes " y1=" ++ decimal h.y1 ++ 10 ∷ []

-- the packet order, where it is RPCL
abbrev pub order_line : Head → List ℕ
order_line h = if h.order == 2 then line (codes "ORDER") (2 ∷ []) else []

-- the steps of a component
abbrev pub component_line : Head → ℕ → List ℕ
component_line h c = line (codes "COMP") (c ∷ (step_of h c).x ∷ (step_of h c).y ∷ [])

-- the size of a resolution's precincts
abbrev pub precinct_line : Head → ℕ → List ℕ
precinct_line h r = line (codes "PREC") (r ∷ (precinct_exponents h r).x ∷ (precinct_exponents h r).y ∷ [])

-- all of them
abbrev pub head_lines : Head → List ℕ
head_lines h =
    area_line h
    ++ line (codes "LEVELS") (h.levels ∷ [])
    ++ order_line h
    ++ line (codes "BLOCK") (h.block.x ∷ h.block.y ∷ [])
    ++ flat_map (component_line h) (range_with_len 0 (length h.steps))
    ++ flat_map (precinct_line h) (range_with_len 0 (h.levels + 1))
    ++ line (codes "PSOT") (h.psot ∷ [])
    ++ line (codes "LENGTH") (h.length ∷ [])
