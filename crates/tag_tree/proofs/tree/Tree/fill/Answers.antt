-- Leaf by leaf.
use Rattle.std.proofs.Common.{◌≡◌, ◌<◌, ◌≤◌, ◌*◌, ℕ, length, slice_index, ◌∙◌, ap, subst, arith, vec_len}
use Rattle.std.proofs.lemmas.Grind.{common_steps}
use Rattle.tag_tree.specs.Places.{place_of}
use Rattle.tag_tree.specs.TreeState.{TreeState, nodes_of}
use Rattle.tag_tree.specs.LeafWriting.{IsLowered}
use Rattle.tag_tree.proofs.PlaceLemmas.{place_in_list}
use Rattle.tag_tree.proofs.FillLemmas.{LeastOf, least_of_none, least_of_more, least_of_all, leaf_of, some_cols, col_within, row_within, none_met, same_twice}
use Rattle.tag_tree.proofs.tree.Tree.fill.Goals as goal

pub loop-at-init : goal.loop-at-init
loop-at-init c =
    let view = c.self.view_is in
    record {
      same = record { leaves = ap (λ (t : TreeState). t.leaves) view; cols = ap (λ (t : TreeState). t.cols) view; rows = ap (λ (t : TreeState). t.rows) view; root = ap (λ (t : TreeState). t.root) view };
      met = ap (λ (t : TreeState). t.met) view;
      least = least_of_none _ c.args.leaves.now (vec_len c.self.inside.labels) (c.fill.ensures.items (λ y e. e))
          (λ level s on low.
          let col : s.col < c.self.inside.cols = on.col in
          let row : s.row < c.self.inside.rows = on.row in
          let top : level ≤ c.self.inside.root = low in
          let inside : place_of c.self.inside.cols c.self.inside.rows level s.col s.row < nodes_of c.self.inside.leaves = place_in_list c.self.inside.cols c.self.inside.rows level s.col s.row c.self.inside.leaves col row (omega (arith, c.self.invariant.4)) c.self.invariant.1 in
          let whole : vec_len c.self.inside.labels ≡ length c.self.inside.labels.items = grind (arith, common_steps) in
          let size : length c.self.inside.labels.items ≡ nodes_of c.self.inside.leaves = c.self.invariant.2 in
          omega (arith, inside, size, whole));
    }

-- a leaf's place is among those of the grid
few : (c : goal.After-lower) → c.loop-at.at < c.lower.inside.cols * c.lower.inside.rows
few c =
    let cols : c.lower.inside.cols ≡ c.args.self.now.cols = ap (λ (t : TreeState). t.cols) c.lower.view_is ∙ c.loop-at.invariant.same.cols in
    let rows : c.lower.inside.rows ≡ c.args.self.now.rows = ap (λ (t : TreeState). t.rows) c.lower.view_is ∙ c.loop-at.invariant.same.rows in
    rw (cols, rows, ← c.requires.leaves) c.loop-at-test.true

pub nonzero_rem-at : goal.nonzero_rem-at
nonzero_rem-at c = some_cols c.lower.inside.cols c.lower.inside.rows c.loop-at.at (few c)

pub nonzero_div-at : goal.nonzero_div-at
nonzero_div-at c = some_cols c.lower.inside.cols c.lower.inside.rows c.loop-at.at (few c)

-- the same among those of the tree
few_now : (c : goal.After-row_known-1) → c.loop-at.at < c.loop-at.self.cols * c.loop-at.self.rows
few_now c = rw (c.loop-at.invariant.same.cols, c.loop-at.invariant.same.rows, ← c.requires.leaves) c.loop-at-test.true

pub lower-requires-clause-col_in : goal.lower-requires-clause-col_in
lower-requires-clause-col_in c =
    let cols : c.lower.inside.cols ≡ c.loop-at.self.cols = ap (λ (t : TreeState). t.cols) c.lower.view_is in
    rw cols (col_within c.loop-at.self.cols c.loop-at.at (some_cols c.loop-at.self.cols c.loop-at.self.rows c.loop-at.at (few_now c)))

pub lower-requires-clause-row_in : goal.lower-requires-clause-row_in
lower-requires-clause-row_in c =
    let cols : c.lower.inside.cols ≡ c.loop-at.self.cols = ap (λ (t : TreeState). t.cols) c.lower.view_is in
    rw cols (row_within c.loop-at.self.cols c.loop-at.self.rows c.loop-at.at (few_now c))

pub loop-at-preserved : goal.loop-at-preserved
loop-at-preserved c =
    let t = c.loop-at.self in
    let now = c.lower-in-loop-at.new.self in
    let cols : c.lower.inside.cols ≡ t.cols = ap (λ (g : TreeState). g.cols) c.lower.view_is in
    let root : c.lower.inside.root ≡ t.root = ap (λ (g : TreeState). g.root) c.lower.view_is in
    let same = c.lower-in-loop-at.ensures.same in
    let h = c.lower-in-loop-at.ensures.lowered in
    let v = slice_index c.args.leaves.now c.loop-at.at in
    let C : ℕ → Type 0 = λ n. IsLowered t now (leaf_of n c.loop-at.at) v c.lower.inside.root in
    let R : ℕ → Type 0 = λ n. IsLowered t now (leaf_of t.cols c.loop-at.at) v n in
    let in_few : c.loop-at.at < t.cols * t.rows = rw (c.loop-at.invariant.same.cols, c.loop-at.invariant.same.rows, ← c.requires.leaves) c.loop-at-test.true in
    record {
      same = same_twice c.args.self.now t now c.loop-at.invariant.same same;
      met = c.lower-in-loop-at.ensures.met ∙ c.loop-at.invariant.met;
      least = least_of_more t now c.args.leaves.now c.loop-at.at same.cols same.rows same.root in_few (subst R root (subst C cols h)) c.loop-at.invariant.least;
    }

pub returns-clause-least : goal.returns-clause-least
returns-clause-least c =
    let t = c.loop-at.self in
    let all : c.loop-at.at ≡ t.cols * t.rows = rw (c.loop-at.invariant.same.cols, c.loop-at.invariant.same.rows, ← c.requires.leaves) (omega arith) in
    let P : ℕ → Type 0 = λ n. LeastOf t c.args.leaves.now n in
    least_of_all t c.args.leaves.now (λ i. omega (arith, c.type_inv.leaves i)) (subst P all c.loop-at.invariant.least)

pub returns-clause-unmet : goal.returns-clause-unmet
returns-clause-unmet c =
    let same = c.loop-at.invariant.same in
    none_met c.args.self.now c.loop-at.self same.cols same.rows same.root c.loop-at.invariant.met c.requires.fresh
