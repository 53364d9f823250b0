-- A leaf's bits are those from the root down.
use Rattle.std.proofs.Common.{◌≡◌, ◌<◌, ◌+◌, ℕ, max, sym, ◌∙◌, ap, subst, arith}
use Rattle.codestream_model.specs.Values.{Grid}
use Rattle.codestream_model.specs.TagTrees.{Seat, exponent, root_level}
use Rattle.tag_tree.specs.TreeState.{TreeState}
use Rattle.tag_tree.specs.LeafWriting.{HasMetFrom, Writes, grid_of, bits_down, inclusion_step}
use Rattle.tag_tree.proofs.WayLemmas.{none_on_way, none_above, met_behind, ok_then}
use Rattle.tag_tree.proofs.tree.Tree.write_inclusion.Goals as goal

pub returns-clause-bits : goal.returns-clause-bits
returns-clause-bits c = λ labels before holds met.
    let s : Seat = record { band = 0; col = c.args.col; row = c.args.row } in
    let g : Grid = grid_of c.args.self.now in
    let R : TreeState → Type 0 = λ t. c.args.col < t.cols → c.args.row < t.rows → c.self.inside.root ≡ exponent (max t.cols t.rows) in
    let top : c.self.inside.root ≡ root_level g = subst R c.self.view_is (λ col row. c.self.invariant.5 (omega arith) (omega arith)) c.requires.col_in c.requires.row_in in
    let own : c.self.inside.root ≡ c.args.self.now.root = ap (λ (t : TreeState). t.root) c.self.view_is in
    let P : ℕ → Type 0 = λ n. HasMetFrom c.args.self.now before s (n + 1) in
    let Q : ℕ → Type 0 = λ n. Writes {A = Unit {0}} (bits_down inclusion_step g labels before s n) c.args.bits.now c.put_path.new.bits c.args.buf.now c.put_path.new.buf c.put_path.result in
    subst Q top (c.put_path.ensures.bits g labels before (sym top ∙ own) holds (subst P (sym own) (none_on_way c.args.self.now before s met)) (none_above g labels s c.self.inside.root top))

pub returns-clause-met : goal.returns-clause-met
returns-clause-met c = ok_then c.put_path.result _ _ c.put_path.ensures.met (λ x f band before m.
    let s : Seat = record { band = band; col = c.args.col; row = c.args.row } in
    met_behind c.args.self.now c.put_path.new.self before s c.self.inside.root (ap (λ (t : TreeState). t.root) c.self.view_is) (f band before) m)
