-- The reading of a leaf below a node that was met.
use Rattle.std.proofs.Common.{◌≡◌, ◌≢◌, ◌<◌, ◌≤◌, ◌-◌, ◌++◌, ℕ, max, Bool, List, Result, Ok, Some, drop, refl, sym, ◌∙◌, ap, subst, inl, inr, arith}
use Rattle.std.specs.Prelude.{slice_index}
use Rattle.std.specs.List.{slice_range}
use Rattle.codestream_model.specs.TagTrees.{Seat, exponent, levels_from, root_level}
use Rattle.codestream_model.specs.PacketHeaderReading.{Node, Walked, Read, Got, known_label}
use Rattle.stuffed_bits.specs.BitsRead.{HasRead}
use Rattle.tag_tree.specs.TreeState.{TreeState}
use Rattle.tag_tree.specs.Places.{place_of}
use Rattle.tag_tree.specs.Kinds.{levels_reading, leaf_reading}
use Rattle.tag_tree.specs.LeafReading.{Knows, IsAnswer, bits_after}
use Rattle.tag_tree.specs.LeafGoing.{Waits}
use Rattle.tag_tree.specs.MetNodes.{IsMet, IsMetDown}
use Rattle.tag_tree.specs.declared.kind.Kind.{Kind}
use Rattle.tag_tree.specs.declared.stop.LabelStop.{LabelStop}
use Rattle.tag_tree.proofs.AnswerLemmas.{answered_at_once, no_range}
use Rattle.tag_tree.proofs.DownLemmas.{AreKnown, HasMet, has_met, kept_known, leaf_below, leaf_here}
use Rattle.tag_tree.proofs.tree.Tree.read_below.Goals as goal

-- a level that isn't the leaves' is above the one below it
below_itself : (level : ℕ) → level ≢ 0 → level - 1 < level
below_itself level some = omega (arith, some)

same_label : (a b : ℕ) (x y : Result ℕ LabelStop) → x ≡ Ok a → y ≡ Ok b → x ≡ y → a ≡ b
same_label a b x y e f g = let h : Ok a ≡ Ok b = sym e ∙ (g ∙ f) in cc

-- nothing is read of a leaf that was met
here : (kind : Kind) (t : TreeState) (level col row v band : ℕ) (nodes : List Node) (l : List Bool) → HasMet t level col row v → level ≡ 0 → Knows t nodes
    → leaf_reading kind t (record { band = band; col = col; row = row }) nodes l ≡ Got (record { label = v; nodes = nodes }) l
here kind t level col row v band nodes l m zero k =
    let s : Seat = record { band = band; col = col; row = row } in
    let P : ℕ → Type 0 = λ n. AreKnown n t.root s nodes in
    let Q : ℕ → Type 0 = λ n. known_label n s nodes ≡ Some v in
    leaf_here kind t v s nodes l m.top (subst P zero (m.all band nodes k)) (subst Q zero (m.is band nodes k))

pub returns-then-level-eq0-clause-read : goal.returns-then-level-eq0-clause-read
returns-then-level-eq0-clause-read c = λ band nodes done bytes k r.
    let m = has_met c.args.self.now c.args.level c.args.col c.args.row c.place.result c.label-label.result c.requires.col_in c.requires.row_in c.requires.low c.requires.met c.is_tree.ensures.down c.is_tree.ensures.root c.place.ensures.place c.label-label.ensures in
    let t = c.args.self.now in
    let old = c.args.source.now in
    let whole = bytes ++ drop old.at old.piece.now in
    let taken = bytes ++ slice_range old.piece.now old.at old.at in
    let P : Read Walked → Type 0 = λ x. IsAnswer done whole taken t old.bits (Ok c.label-label.result) x in
    let R : List ℕ → Type 0 = λ l. HasRead done l old.bits in
    subst P (sym (here c.args.kind t c.args.level c.args.col c.args.row c.label-label.result band nodes (bits_after done whole) m c.if-level-eq0.true k)) (answered_at_once c.label-label.result nodes done whole taken t old.bits k (subst R (no_range bytes old.piece.now old.at) r))

pub returns-then-level-eq0-clause-free : goal.returns-then-level-eq0-clause-free
returns-then-level-eq0-clause-free c = λ v e.
    let m = has_met c.args.self.now c.args.level c.args.col c.args.row c.place.result c.label-label.result c.requires.col_in c.requires.row_in c.requires.low c.requires.met c.is_tree.ensures.down c.is_tree.ensures.root c.place.ensures.place c.label-label.ensures in
    let same = same_label c.label-label.result v (Ok c.label-label.result) (Ok v) refl refl e in
    inr (refl, refl, λ band nodes l k. here c.args.kind c.args.self.now c.args.level c.args.col c.args.row c.label-label.result band nodes l m c.if-level-eq0.true k ∙ ap (λ (n : ℕ). Got (record { label = n; nodes = nodes }) l) same)

pub returns-clause-read : goal.returns-clause-read
returns-clause-read c = λ band nodes done bytes k r.
    let m = has_met c.args.self.now c.args.level c.args.col c.args.row c.place.result c.label-label.result c.requires.col_in c.requires.row_in c.requires.low c.requires.met c.is_tree.ensures.down c.is_tree.ensures.root c.place.ensures.place c.label-label.ensures in
    let t = c.args.self.now in
    let kind = c.args.kind in
    let old = c.args.source.now in
    let new = c.read_path.new.source in
    let s : Seat = record { band = band; col = c.args.col; row = c.args.row } in
    let whole = bytes ++ drop old.at old.piece.now in
    let taken = bytes ++ slice_range old.piece.now old.at new.at in
    let P : Read Walked → Type 0 = λ x. IsAnswer done whole taken c.read_path.new.self new.bits c.read_path.result x in
    subst P (sym (leaf_below kind t c.args.level c.label-label.result s nodes (bits_after done whole) c.if-level-eq0.false m.low m.top (m.all band nodes k) (m.is band nodes k)))
    (c.read_path.ensures.read band nodes done bytes k r)

pub returns-clause-waits : goal.returns-clause-waits
returns-clause-waits c = λ e band nodes done bytes k r.
    let m = has_met c.args.self.now c.args.level c.args.col c.args.row c.place.result c.label-label.result c.requires.col_in c.requires.row_in c.requires.low c.requires.met c.is_tree.ensures.down c.is_tree.ensures.root c.place.ensures.place c.label-label.ensures in
    let t = c.args.self.now in
    let kind = c.args.kind in
    let s : Seat = record { band = band; col = c.args.col; row = c.args.row } in
    let w = c.read_path.ensures.waits e band nodes done bytes k r in
    let from : (m : ℕ) (u : Seat) → c.args.level - 1 < m → known_label m u w.known ≡ known_label m u nodes = λ m u h. w.upper m u h in
    record {
      known = w.known;
      more = w.more;
      knows = w.knows;
      read = w.read;
      upper = λ m u h. w.upper m u (omega (arith, h, c.requires.low));
      goes_on = λ further.
          leaf_below kind t c.args.level c.label-label.result s nodes (w.more ++ further) c.if-level-eq0.false m.low m.top (m.all band nodes k) (m.is band nodes k)
          ∙ (w.goes_on further
          ∙ sym (leaf_below kind t c.args.level c.label-label.result s w.known further c.if-level-eq0.false m.low m.top (kept_known c.args.level t.root s nodes w.known c.if-level-eq0.false (m.all band nodes k) from)
          (from c.args.level s (below_itself c.args.level c.if-level-eq0.false) ∙ m.is band nodes k)));
    }

pub returns-clause-free : goal.returns-clause-free
returns-clause-free c = λ v e.
    let m = has_met c.args.self.now c.args.level c.args.col c.args.row c.place.result c.label-label.result c.requires.col_in c.requires.row_in c.requires.low c.requires.met c.is_tree.ensures.down c.is_tree.ensures.root c.place.ensures.place c.label-label.ensures in
    elim (c.read_path.ensures.free v e) [
      | inl f ↦ inl f
      | inr f ↦ inr (
        f.0,
        f.1,
        λ band nodes l k.
            leaf_below c.args.kind c.args.self.now c.args.level c.label-label.result (record { band = band; col = c.args.col; row = c.args.row }) nodes l c.if-level-eq0.false m.low m.top (m.all band nodes k) (m.is band nodes k)
            ∙ f.2 band nodes l k,
      )
    ]
