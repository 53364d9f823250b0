-- Both trees are filled.
use Rattle.std.proofs.Common.{ℕ, List, map, subst}
use Rattle.precinct_geometry.specs.Spans.{grid_of}
use Rattle.packet_header.specs.Answers.{block_of}
use Rattle.packet_header.specs.PositionsWritten.{IsFilled}
use Rattle.packet_header.specs.declared.grids.TagTrees.{TagTrees}
use Rattle.packet_header.proofs.LeafPlaces.{trees_filled}
use Rattle.packet_header.proofs.filling.trees_of.Goals as goal

pub returns-clause-written : goal.returns-clause-written
returns-clause-written c =
    let g = grid_of c.args.grid in
    let leaves = c.in_ok-leaves.leaves in
    let t : TagTrees = record { inclusion = c.in_ok-tree_of.field-0; planes = c.in_ok-tree_of-2.field-0 } in
    let P : List ℕ → Type 0 = λ l. IsFilled g l t.inclusion in
    let Q : List ℕ → Type 0 = λ l. IsFilled g l t.planes in
    trees_filled g t (map block_of c.args.blocks.now) leaves.inclusion.items leaves.planes.items c.requires.on_grid c.in_ok-leaves.ensures.inclusion c.in_ok-leaves.ensures.planes
    (subst P c.deref.ensures.value c.in_ok-tree_of.ensures) (subst Q c.deref-2.ensures.value c.in_ok-tree_of-2.ensures)
