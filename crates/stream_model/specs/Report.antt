-- What is printed of a stream: a line for each precinct and for each of its code-blocks, and one at the end.
use Rattle.std.specs.Prelude.{◌+◌, ◌/◌, ◌%◌, ◌++◌, ℕ, List, [], ◌∷◌, length, take, drop, nat_lt, codes, decimal, if◌then◌else◌}
use Rattle.std.specs.List.{flat_map}
use Rattle.codestream_model.specs.Values.{Place, Block}

-- A precinct of a picture with this stamp: its PID and its place, its included code-blocks, and the bytes of their
-- segments.
pub record Precinct : Type 0 where
  pub stamp : ℕ
  pub pid : ℕ
  pub place : Place
  pub blocks : List Block
  pub bytes : List ℕ

-- What a receiver has counted.
pub record Counts : Type 0 where
  pub kept : ℕ
  pub old : ℕ
  pub refused : ℕ
  pub unsupported : ℕ
  pub disagreed : ℕ
  pub broken : ℕ

-- A digit of base 16, in lower case.
abbrev pub hex_digit : ℕ → ℕ
hex_digit n = if nat_lt n 10 then 48 + n else 87 + n

-- Bytes in two digits of base 16 each.
abbrev pub hex : List ℕ → List ℕ
hex bytes = flat_map (λ b. hex_digit (b / 16) ∷ hex_digit (b % 16) ∷ []) bytes

-- The line of a precinct.
abbrev pub precinct_line : Precinct → List ℕ
precinct_line x =
    codes "P stamp=" ++ decimal x.stamp ++ codes " pid=" ++ decimal x.pid ++ codes " c=" ++ decimal x.place.c ++ codes " r=" ++ decimal x.place.r
    ++ codes " k=" ++ decimal x.place.k ++ codes " blocks=" ++ decimal (length x.blocks) ++ codes "\n"

-- The line of a code-block with these bytes.
abbrev pub block_line : Block → List ℕ → List ℕ
block_line b bytes =
    codes "B band=" ++ decimal b.band ++ codes " col=" ++ decimal b.col ++ codes " row=" ++ decimal b.row ++ codes " planes=" ++ decimal b.planes
    ++ codes " passes=" ++ decimal b.passes ++ codes " cleanup=" ++ decimal b.cleanup ++ codes " refine=" ++ decimal b.refine
    ++ codes " bytes=" ++ hex bytes ++ codes "\n"

-- The lines of code-blocks, whose bytes follow one another.
abbrev pub block_lines : List Block → List ℕ → List ℕ
block_lines [] bytes = []
block_lines (b ∷ blocks) bytes = block_line b (take (b.cleanup + b.refine) bytes) ++ block_lines blocks (drop (b.cleanup + b.refine) bytes)

-- The lines of precincts.
abbrev pub lines : List Precinct → List ℕ
lines precincts = flat_map (λ x. precinct_line x ++ block_lines x.blocks x.bytes) precincts

-- The line at the end.
abbrev pub end_line : Counts → List ℕ
end_line n =
    codes "END kept=" ++ decimal n.kept ++ codes " old=" ++ decimal n.old ++ codes " refused=" ++ decimal n.refused
    ++ codes " unsupported=" ++ decimal n.unsupported ++ codes " disagreed=" ++ decimal n.disagreed ++ codes " broken=" ++ decimal n.broken ++ codes "\n"
