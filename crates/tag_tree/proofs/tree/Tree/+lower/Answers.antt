-- A node is lowered, and then those below it.
use Rattle.std.proofs.Common.{◌≡◌, ◌≢◌, ◌<◌, ◌-◌, ℕ, length, sym, ◌∙◌, ap, subst, arith}
use Rattle.codestream_model.specs.TagTrees.{Seat}
use Rattle.tag_tree.specs.Places.{place_of}
use Rattle.tag_tree.specs.TreeState.{TreeState}
use Rattle.tag_tree.specs.LeafWriting.{IsOn, IsLowered, lowered_at}
use Rattle.tag_tree.proofs.FillLemmas.{lowers_leaf, lowers_more}
use Rattle.tag_tree.proofs.tree.Tree.+lower.Goals as goal

pub returns-then-level-gt0-clause-lowered : goal.returns-then-level-gt0-clause-lowered
returns-then-level-gt0-clause-lowered t c =
    let s : Seat = record { band = 0; col = c.args.col; row = c.args.row } in
    let now = c.args.self.now in
    let at : IsOn now s = record { col = c.requires.col_in; row = c.requires.row_in } in
    let place : c.place-place.result ≡ place_of now.cols now.rows c.args.level c.args.col c.args.row = c.place-place.ensures.place in
    let P : ℕ → Type 0 = λ p. p < length now.labels in
    let inside = subst P place c.place-place.ensures.labelled in
    let is : c.lower_node.new.self ≡ lowered_at now (place_of now.cols now.rows c.args.level c.args.col c.args.row) c.args.label = c.lower_node.ensures ∙ ap (λ (p : ℕ). lowered_at now p c.args.label) place in
    let Q : TreeState → Type 0 = λ v. IsLowered v c.lower.new.self s c.args.label (c.args.level - 1) in
    let some : c.args.level ≢ 0 = λ e. omega arith in
    lowers_more now c.lower.new.self s c.args.level c.args.label at inside some (subst Q is c.lower.ensures.lowered)

pub returns-else-level-gt0-clause-lowered : goal.returns-else-level-gt0-clause-lowered
returns-else-level-gt0-clause-lowered t c =
    let s : Seat = record { band = 0; col = c.args.col; row = c.args.row } in
    let now = c.args.self.now in
    let at : IsOn now s = record { col = c.requires.col_in; row = c.requires.row_in } in
    let place : c.place-place.result ≡ place_of now.cols now.rows c.args.level c.args.col c.args.row = c.place-place.ensures.place in
    let P : ℕ → Type 0 = λ p. p < length now.labels in
    let inside = subst P place c.place-place.ensures.labelled in
    let is : c.lower_node.new.self ≡ lowered_at now (place_of now.cols now.rows c.args.level c.args.col c.args.row) c.args.label = c.lower_node.ensures ∙ ap (λ (p : ℕ). lowered_at now p c.args.label) place in
    let Q : TreeState → Type 0 = λ v. IsLowered now v s c.args.label c.args.level in
    let leaf : c.args.level ≡ 0 = omega arith in
    subst Q (sym is) (lowers_leaf now s c.args.level c.args.label at inside leaf)
