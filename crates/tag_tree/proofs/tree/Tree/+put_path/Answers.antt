-- A node's bits, and then those below it.
use Rattle.std.proofs.Common.{◌≡◌, ◌<◌, ◌≤◌, ◌+◌, ◌-◌, ◌++◌, ℕ, Bool, List, length, slice_index, refl, sym, ◌∙◌, ap, subst, arith}
use Rattle.codestream_model.specs.TagTrees.{Seat, parent_label, root_level}
use Rattle.tag_tree.specs.Places.{place_of}
use Rattle.tag_tree.specs.TreeState.{TreeState}
use Rattle.tag_tree.specs.LeafWriting.{Holds, HasMetFrom, IsOn, Writes, step_of, bits_down, node_bits, marked_at}
use Rattle.tag_tree.proofs.WriteLemmas.{writes_behind, writes_no_more, writes_same, behind_both}
use Rattle.tag_tree.proofs.WayLemmas.{marks_node, still_holds, first_bits, node_bits_are, bits_at_leaf, bits_by_node, bits_split, label_above, ok_then}
use Rattle.tag_tree.proofs.DownLemmas.{down_after}
use Rattle.tag_tree.proofs.tree.Tree.+put_path.Goals as goal

pub returns-in_err-label-clause-bits : goal.returns-in_err-label-clause-bits
returns-in_err-label-clause-bits t c = λ g labels before root holds met above.
    let s : Seat = record { band = 0; col = c.args.node.col; row = c.args.node.row } in
    let step = step_of c.args.kind in
    let at : IsOn c.args.self.now s = record { col = c.requires.node.col; row = c.requires.node.row } in
    let none = c.in_err-label.ensures in
    let all = bits_split step g labels before s c.args.node.level in
    let here : node_bits step c.args.self.now c.place-place.result c.args.node.above ≡ first_bits step g labels before s c.args.node.level =
    ap (λ (p : ℕ). node_bits step c.args.self.now p c.args.node.above) c.place-place.ensures.place ∙ node_bits_are step c.args.self.now g labels before s c.args.node.level c.args.node.above at c.requires.node.low holds met above in
    let P : List Bool → Type 0 = λ l. Writes {A = Unit {0}} l c.args.bits.now c.put_node.new.bits c.args.buf.now c.put_node.new.buf c.from_residual.result in
    subst P (ap (λ (l : List Bool). l ++ all.0) here ∙ sym all.1)
    (writes_no_more ℕ (Unit {0}) (node_bits step c.args.self.now c.place-place.result c.args.node.above) all.0 c.args.bits.now c.put_node.new.bits c.args.buf.now c.put_node.new.buf c.in_err-label.field-0.0 c.from_residual.result c.from_residual.ensures.0 none.bits)

pub returns-then-node-eq0-clause-bits : goal.returns-then-node-eq0-clause-bits
returns-then-node-eq0-clause-bits t c = λ g labels before root holds met above.
    let s : Seat = record { band = 0; col = c.args.node.col; row = c.args.node.row } in
    let step = step_of c.args.kind in
    let at : IsOn c.args.self.now s = record { col = c.requires.node.col; row = c.requires.node.row } in
    let one = c.in_ok-label.ensures in
    let here : node_bits step c.args.self.now c.place-place.result c.args.node.above ≡ first_bits step g labels before s c.args.node.level =
    ap (λ (p : ℕ). node_bits step c.args.self.now p c.args.node.above) c.place-place.ensures.place ∙ node_bits_are step c.args.self.now g labels before s c.args.node.level c.args.node.above at c.requires.node.low holds met above in
    writes_same ℕ (Unit {0}) (node_bits step c.args.self.now c.place-place.result c.args.node.above) (bits_down step g labels before s c.args.node.level) c.args.bits.now c.put_node.new.bits c.args.buf.now c.put_node.new.buf c.in_ok-label.label tt
    (here ∙ sym (bits_at_leaf step g labels before s c.args.node.level c.if-node-eq0.true)) one.bits

-- a node on the path is met
met_here : (t : TreeState) (before : List Seat) (s : Seat) (level place : ℕ) (u : TreeState) → IsOn t s → place ≡ place_of t.cols t.rows level s.col s.row → place < length t.met → u ≡ marked_at t place → HasMetFrom t before s (level + 1) → HasMetFrom u before s level
met_here t before s level place u at e inside is m =
    let P : TreeState → Type 0 = λ v. HasMetFrom v before s level in
    let Q : ℕ → Type 0 = λ p. p < length t.met in
    subst P (sym (is ∙ ap (marked_at t) e)) (marks_node t before s level at (subst Q e inside) m)

pub returns-then-node-eq0-clause-met : goal.returns-then-node-eq0-clause-met
returns-then-node-eq0-clause-met t c = λ band before m.
    let s : Seat = record { band = band; col = c.args.node.col; row = c.args.node.row } in
    let at : IsOn c.args.self.now s = record { col = c.requires.node.col; row = c.requires.node.row } in
    let P : ℕ → Type 0 = λ l. HasMetFrom c.put_node.new.self before s l in
    subst P c.if-node-eq0.true (met_here c.args.self.now before s c.args.node.level c.place-place.result c.put_node.new.self at c.place-place.ensures.place c.place-place.ensures.listed c.put_node.ensures.met m)

pub returns-clause-bits : goal.returns-clause-bits
returns-clause-bits t c = λ g labels before root holds met above.
    let s : Seat = record { band = 0; col = c.args.node.col; row = c.args.node.row } in
    let step = step_of c.args.kind in
    let at : IsOn c.args.self.now s = record { col = c.requires.node.col; row = c.requires.node.row } in
    let one = c.in_ok-label.ensures in
    let marked : c.put_node.new.self ≡ marked_at c.args.self.now c.place-place.result = c.put_node.ensures.met in
    let here : node_bits step c.args.self.now c.place-place.result c.args.node.above ≡ first_bits step g labels before s c.args.node.level =
    ap (λ (p : ℕ). node_bits step c.args.self.now p c.args.node.above) c.place-place.ensures.place ∙ node_bits_are step c.args.self.now g labels before s c.args.node.level c.args.node.above at c.requires.node.low holds met above in
    let still : Holds c.put_node.new.self labels = still_holds c.args.self.now c.put_node.new.self labels (ap (λ (v : TreeState). v.labels) marked) (ap (λ (v : TreeState). v.cols) marked) (ap (λ (v : TreeState). v.rows) marked) (ap (λ (v : TreeState). v.root) marked) holds in
    let down : c.args.node.level - 1 + 1 ≡ c.args.node.level = omega (arith, c.if-node-eq0.false) in
    let M : ℕ → Type 0 = λ l. HasMetFrom c.put_node.new.self before s l in
    let on_way : HasMetFrom c.put_node.new.self before s (c.args.node.level - 1 + 1) =
    subst M (sym down) (met_here c.args.self.now before s c.args.node.level c.place-place.result c.put_node.new.self at c.place-place.ensures.place c.place-place.ensures.listed marked met) in
    let low : c.args.node.level ≤ root_level g = omega (arith, root, c.requires.node.low) in
    let own : c.in_ok-label.label ≡ parent_label g labels (c.args.node.level - 1) s =
    one.label ∙ (ap (λ (p : ℕ). slice_index c.args.self.now.labels p) c.place-place.ensures.place ∙ (holds.each c.args.node.level s at c.requires.node.low ∙ label_above g labels s c.args.node.level c.if-node-eq0.false low)) in
    let below = c.put_path.ensures.bits g labels before (root ∙ sym (ap (λ (v : TreeState). v.root) marked)) still on_way own in
    let P : List Bool → Type 0 = λ l. Writes {A = Unit {0}} l c.args.bits.now c.put_path.new.bits c.args.buf.now c.put_path.new.buf c.put_path.result in
    subst P (ap (λ (l : List Bool). l ++ bits_down step g labels before s (c.args.node.level - 1)) here ∙ sym (bits_by_node step g labels before s c.args.node.level c.if-node-eq0.false))
    (writes_behind ℕ (Unit {0}) (node_bits step c.args.self.now c.place-place.result c.args.node.above) (bits_down step g labels before s (c.args.node.level - 1)) c.args.bits.now c.put_node.new.bits c.put_path.new.bits c.args.buf.now c.put_node.new.buf c.put_path.new.buf
    c.in_ok-label.label c.put_path.result c.put_node.auto.buf one.bits below)

pub returns-clause-met : goal.returns-clause-met
returns-clause-met t c = ok_then c.put_path.result _ _ c.put_path.ensures.met (λ x f band before m.
    let s : Seat = record { band = band; col = c.args.node.col; row = c.args.node.row } in
    let at : IsOn c.args.self.now s = record { col = c.requires.node.col; row = c.requires.node.row } in
    let down : c.args.node.level - 1 + 1 ≡ c.args.node.level = omega (arith, c.if-node-eq0.false) in
    let M : ℕ → Type 0 = λ l. HasMetFrom c.put_node.new.self before s l in
    f band before (subst M (sym down) (met_here c.args.self.now before s c.args.node.level c.place-place.result c.put_node.new.self at c.place-place.ensures.place c.place-place.ensures.listed c.put_node.ensures.met m)))

pub returns-clause-beyond : goal.returns-clause-beyond
returns-clause-beyond t c = behind_both c.args.buf.now c.put_node.new.buf c.put_path.new.buf c.put_node.new.bits.len c.put_path.new.bits.len c.put_path.ensures.onward c.put_node.ensures.beyond c.put_path.ensures.beyond

pub put_node-requires-clause-down : goal.put_node-requires-clause-down
put_node-requires-clause-down t c =
    let n = c.args.node in
    let tree = c.args.self.now in
    down_after tree (marked_at tree c.place-place.result) n.level n.col n.row c.place-place.result c.requires.node.col c.requires.node.row c.place-place.ensures.place c.is_tree.ensures.down c.requires.upper refl refl refl refl
