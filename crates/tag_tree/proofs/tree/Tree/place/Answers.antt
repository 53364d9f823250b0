-- A place is within both lists.
use Rattle.std.proofs.Common.{◌≡◌, ◌<◌, ◌≤◌, ◌+◌, ◌*◌, ◌/◌, ◌^◌, length, slice_index, ◌∙◌, ap, arith}
use Rattle.tag_tree.specs.TreeState.{TreeState, nodes_of}
use Rattle.tag_tree.specs.Places.{base_of, place_of}
use Rattle.tag_tree.proofs.PlaceLemmas.{place_in_list}
use Rattle.tag_tree.proofs.tree.Tree.place.Goals as goal

-- the node is in the list
in_list : (c : goal.After-cols_at) → place_of c.self.inside.cols c.self.inside.rows c.args.level c.args.col c.args.row < nodes_of c.self.inside.leaves
in_list c =
    let col : c.args.col < c.self.inside.cols = omega (arith, c.requires.col_in, ap (λ (t : TreeState). t.cols) c.self.view_is) in
    let row : c.args.row < c.self.inside.rows = omega (arith, c.requires.row_in, ap (λ (t : TreeState). t.rows) c.self.view_is) in
    let low : c.args.level ≤ 16 = omega (arith, c.requires.low, ap (λ (t : TreeState). t.root) c.self.view_is, c.self.invariant.4) in
    place_in_list c.self.inside.cols c.self.inside.rows c.args.level c.args.col c.args.row c.self.inside.leaves col row low c.self.invariant.1

-- and it stands where the definitions say
holds : (c : goal.After-cols_at) → slice_index c.self.inside.bases c.args.level + c.args.row / 2 ^ c.args.level * c.cols_at.result + c.args.col / 2 ^ c.args.level ≡ place_of c.self.inside.cols c.self.inside.rows c.args.level c.args.col c.args.row
holds c =
    let low : c.args.level ≤ c.self.inside.root = omega (arith, c.requires.low, ap (λ (t : TreeState). t.root) c.self.view_is) in
    let base : slice_index c.self.inside.bases c.args.level ≡ base_of c.self.inside.cols c.self.inside.rows c.args.level = c.self.invariant.6 c.args.level low in
    rw (base, c.cols_at.ensures) (omega arith)

pub overflow_add-result : goal.overflow_add-result
overflow_add-result c = omega (arith, holds c, in_list c, c.self.invariant.0)

pub overflow_add-result-2 : goal.overflow_add-result-2
overflow_add-result-2 c = omega (arith, holds c, in_list c, c.self.invariant.0)

pub returns : goal.returns
returns c = record {
  place = holds c ∙ ap (λ (t : TreeState). place_of t.cols t.rows c.args.level c.args.col c.args.row) c.self.view_is;
  labelled = omega (arith, holds c, in_list c, c.self.invariant.2, ap (λ (t : TreeState). length t.labels) c.self.view_is);
  listed = omega (arith, holds c, in_list c, c.self.invariant.3, ap (λ (t : TreeState). length t.met) c.self.view_is);
}
