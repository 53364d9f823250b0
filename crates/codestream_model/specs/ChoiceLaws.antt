-- What is promised of the choices of our writer: Lblock and the labels of both tag trees.
use Rattle.std.specs.Prelude.{◌≡◌, ◌≤◌, ◌↔◌, ◌==◌, ◌&&◌, ℕ, true, false, List}
use Rattle.std.specs.List.{AllByRecursion, list_any}
use Rattle.codestream_model.specs.Values.{Grid, Block}
use Rattle.codestream_model.specs.TagTrees.{is_below, least_inclusion, least_planes}
use Rattle.codestream_model.specs.PacketHeader.{HaveOwnBands, AreBlocks, IsWithinLimits, FitLengths, CanSay, least_lblock, least_choices}

-- `least_lblock` is the least Lblock that the lengths of a code-block fit.
abbrev pub LblockIsLeast : Type 0
LblockIsLeast =
    (b : Block) → IsWithinLimits b
    → FitLengths (least_lblock b) b × ((lblock : ℕ) → FitLengths lblock b → least_lblock b ≤ lblock)

-- The inclusion label of a node is 0 exactly where a code-block below it is included.
abbrev pub InclusionIsLeast : Type 0
InclusionIsLeast =
    (blocks : List Block) (band level col row : ℕ)
    → (least_inclusion blocks band level col row ≡ 0)
    ↔ (list_any (is_below band level col row) blocks ≡ true)

-- A number is the least of the zero bit-planes of the included code-blocks below a node, or 74 if there is none.
pub record IsLeastBelow (blocks : List Block) (band level col row n : ℕ) : Type 0 where
  pub lower : AllByRecursion (λ b. is_below band level col row b ≡ true → n ≤ b.planes) blocks
  pub reached :
      list_any (is_below band level col row) blocks ≡ true
      → list_any (λ b. is_below band level col row b && (b.planes == n)) blocks ≡ true
  pub none : list_any (is_below band level col row) blocks ≡ false → n ≡ 74

-- The value label of a node is the least zero bit-planes below it.
abbrev pub PlanesAreLeast : Type 0
PlanesAreLeast =
    (blocks : List Block) (band level col row : ℕ) → AllByRecursion IsWithinLimits blocks
    → IsLeastBelow blocks band level col row (least_planes blocks band level col row)

-- With the choices of our writer a header can say the code-blocks of a packet.
abbrev pub ChoicesCanSay : Type 0
ChoicesCanSay =
    (gs : List Grid) (blocks : List Block) → HaveOwnBands gs → AreBlocks gs blocks
    → CanSay gs (least_choices blocks) blocks
