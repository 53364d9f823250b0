-- The values that the definitions speak of: a main header's, a precinct, a grid of code-blocks, a code-block.
use Rattle.std.specs.Prelude.{ℕ, Bool, List}

-- A number for each direction.
pub record Pair : Type 0 where
  pub x : ℕ
  pub y : ℕ

-- The values of a main header. The image area goes from (x0, y0) up to (x1, y1): XOsiz, YOsiz, Xsiz, Ysiz. `steps` has
-- XRsiz and YRsiz of each component, `levels` is N_L, `block` has xcb and ycb, `precincts` has PPx and PPy of each
-- resolution from 0 to N_L, `order` is the progression order's number (2 RPCL, 3 PCRL), `eph` says that an EPH marker
-- follows each packet header, `sot` is the offset of SOT and `length` the number of bytes up to and including SOD.
pub record Head : Type 0 where
  pub x0 : ℕ
  pub y0 : ℕ
  pub x1 : ℕ
  pub y1 : ℕ
  pub steps : List Pair
  pub levels : ℕ
  pub block : Pair
  pub precincts : List Pair
  pub order : ℕ
  pub eph : Bool
  pub psot : ℕ
  pub sot : ℕ
  pub length : ℕ

-- A precinct: component c, resolution r, and k, which is row × columns + column.
pub record Place : Type 0 where
  pub c : ℕ
  pub r : ℕ
  pub k : ℕ

-- The code-blocks of a precinct in one band: 0 LL, 1 HL, 2 LH, 3 HH.
pub record Grid : Type 0 where
  pub band : ℕ
  pub cols : ℕ
  pub rows : ℕ

-- An included code-block: where it is, its zero bit-planes, its coding passes, and the bytes of its two segments.
pub record Block : Type 0 where
  pub band : ℕ
  pub col : ℕ
  pub row : ℕ
  pub planes : ℕ
  pub passes : ℕ
  pub cleanup : ℕ
  pub refine : ℕ
