-- Why a main header is refused, and the order in which conditions are judged.
use Rattle.std.specs.Prelude.{ℕ, Bool, List, [], ◌∷◌, Option, Some, None, if◌then◌else◌}

-- The reasons for which a main header is refused. `Cut` and `TooLong` say that it needs a byte past the bytes given, or
-- past 8,192; `Marker`, `Twice` and `Missing` name the marker that is not allowed there, that was there before, or that
-- was not there.
pub data HeadRefusal : Type 0 where
  Cut : HeadRefusal
  NoSoc : HeadRefusal
  NoSiz : HeadRefusal
  Marker : ℕ → HeadRefusal
  Length : HeadRefusal
  Twice : ℕ → HeadRefusal
  Missing : ℕ → HeadRefusal
  Tiles : HeadRefusal
  Components : HeadRefusal
  Step : HeadRefusal
  Area : HeadRefusal
  Rsiz : HeadRefusal
  Cap : HeadRefusal
  Order : HeadRefusal
  Layers : HeadRefusal
  Levels : HeadRefusal
  Blocks : HeadRefusal
  Style : HeadRefusal
  Precinct : HeadRefusal
  Quant : HeadRefusal
  Sop : HeadRefusal
  TileHeader : HeadRefusal
  Ids : HeadRefusal
  TooLong : HeadRefusal

-- A test is a condition, and why a header that meets it is refused.
pub record Test : Type 0 where
  pub why : HeadRefusal
  pub fails : Bool

-- `refuses why failed` is the test that gives this refusal.
abbrev pub refuses : HeadRefusal → Bool → Test
refuses why fails = record { why = why; fails = fails }

-- The first refusal of tests, in order, if one fails.
abbrev pub first_refusal : List Test → Option HeadRefusal
first_refusal [] = None
first_refusal (t ∷ tests) = if t.fails then Some t.why else first_refusal tests
