-- A leaf is read from the root down.
use Rattle.std.proofs.Common.{◌≡◌, ◌<◌, ◌++◌, ℕ, max, ap, subst, arith}
use Rattle.std.specs.List.{slice_range}
use Rattle.codestream_model.specs.TagTrees.{Seat, exponent, levels_from, root_level}
use Rattle.tag_tree.specs.TreeState.{TreeState}
use Rattle.tag_tree.specs.Kinds.{levels_reading, levels_of}
use Rattle.tag_tree.specs.LeafGoing.{Waits}
use Rattle.tag_tree.proofs.tree.Tree.read_leaf.Goals as goal

-- the root's level
top : (c : goal.After-read_path-2) → c.read_path.inside.root ≡ root_level (record { band = 0; cols = c.args.self.now.cols; rows = c.args.self.now.rows })
top c =
    let R : TreeState → Type 0 = λ t. c.args.col < t.cols → c.args.row < t.rows → c.read_path.inside.root ≡ exponent (max t.cols t.rows) in
    subst R c.read_path.view_is (λ col row. c.read_path.invariant.5 (omega arith) (omega arith)) c.requires.col_in c.requires.row_in

pub returns-clause-waits : goal.returns-clause-waits
returns-clause-waits c = λ e band nodes done bytes k r.
    let kind = c.args.kind in
    let old = c.args.source.now in
    let new = c.read_path-2.new.source in
    let s : Seat = record { band = band; col = c.args.col; row = c.args.row } in
    let root = c.read_path.inside.root in
    let own : root ≡ c.args.self.now.root = ap (λ (t : TreeState). t.root) c.read_path.view_is in
    let taken = bytes ++ slice_range old.piece.now old.at new.at in
    let P : ℕ → Type 0 = λ n. Waits (λ ns l. levels_reading kind (levels_from n) 0 s ns l) root nodes done taken c.read_path-2.new.self new.bits in
    let Q : ℕ → Type 0 = λ n. Waits (λ ns l. levels_reading kind (levels_of c.args.self.now) 0 s ns l) n nodes done taken c.read_path-2.new.self new.bits in
    subst Q own (subst P (top c) (c.read_path-2.ensures.waits e band nodes done bytes k r))
