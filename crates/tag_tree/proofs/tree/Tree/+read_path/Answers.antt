-- A node's answer, and then those below it.
use Rattle.std.proofs.Common.{◌≡◌, ◌-◌, ◌++◌, ℕ, Bool, List, [], ◌∷◌, Ok, Err, Result, drop, length, sym, ◌∙◌, ap, subst}
use Rattle.std.proofs.lemmas.Result.{err_from_is_err_and}
use Rattle.std.specs.List.{slice_range}
use Rattle.codestream_model.specs.TagTrees.{Seat, levels_from}
use Rattle.codestream_model.specs.PacketHeaderReading.{Node, Walked, Read, and_then}
use Rattle.stuffed_bits.proofs.RangeLemmas.{ranges_join, range_and_rest}
use Rattle.tag_tree.specs.Kinds.{levels_reading}
use Rattle.tag_tree.specs.LeafReading.{bits_after, IsAnswer, path_node}
use Rattle.tag_tree.specs.declared.tree.PathNode.{PathNode}
use Rattle.tag_tree.specs.LeafGoing.{Waits, IsFreeOrKnown}
use Rattle.tag_tree.specs.declared.stop.LabelStop.{LabelStop}
use Rattle.tag_tree.specs.declared.stop.LabelStop.TheVariants.{Need}
use Rattle.tag_tree.proofs.AnswerLemmas.{answered_on, by_node, leaf_levels, lower_levels}
use Rattle.tag_tree.proofs.GoLemmas.{waits_on, path_of, free_on, same_freed, path_stopped, path_waits_first}
use Rattle.tag_tree.proofs.tree.Tree.+read_path.Goals as goal

pub returns-then-level-eq0-clause-read : goal.returns-then-level-eq0-clause-read
returns-then-level-eq0-clause-read m c = λ band nodes done bytes k r.
    let n : PathNode = path_node c.args.level c.args.above c.args.col c.args.row in
    let old = c.args.source.now in
    let new = c.read_node.new.source in
    let s : Seat = record { band = band; col = n.col; row = n.row } in
    let all = bytes ++ drop old.at old.piece.now in
    let taken = bytes ++ slice_range old.piece.now old.at new.at in
    let P : List ℕ → Type 0 = λ levels. IsAnswer done all taken c.read_node.new.self new.bits (Ok c.in_ok-label.label) (levels_reading c.args.kind levels n.above s nodes (bits_after done all)) in
    let Q : Result ℕ LabelStop → Type 0 = λ x. IsAnswer done all taken c.read_node.new.self new.bits x (levels_reading c.args.kind (n.level ∷ []) n.above s nodes (bits_after done all)) in
    subst P (sym (leaf_levels n.level c.if-level-eq0.true)) (subst Q c.in_ok-label.was (c.read_node.ensures.read band nodes done bytes k r))

pub returns-then-level-eq0-clause-free : goal.returns-then-level-eq0-clause-free
returns-then-level-eq0-clause-free m c = λ v e.
    let n : PathNode = path_node c.args.level c.args.above c.args.col c.args.row in
    let old = c.args.source.now in
    let new = c.read_node.new.source in
    let P : List ℕ → Type 0 = λ levels. IsFreeOrKnown (λ s ns l. levels_reading c.args.kind levels n.above s ns l) n.col n.row v c.args.self.now c.read_node.new.self old.bits new.bits in
    subst P (sym (leaf_levels n.level c.if-level-eq0.true))
    (same_freed (λ s ns l. levels_reading c.args.kind (n.level ∷ []) n.above s ns l) n.col n.row c.in_ok-label.label v c.args.self.now c.read_node.new.self old.bits new.bits e (c.read_node.ensures.free c.in_ok-label.label c.in_ok-label.was))

pub returns-in_err-label-clause-read : goal.returns-in_err-label-clause-read
returns-in_err-label-clause-read m c = λ band nodes done bytes k r.
    let p = err_from_is_err_and c.from_residual.result c.from_residual.ensures.1 in
    let n : PathNode = path_node c.args.level c.args.above c.args.col c.args.row in
    let kind = c.args.kind in
    let old = c.args.source.now in
    let new = c.read_node.new.source in
    let s : Seat = record { band = band; col = n.col; row = n.row } in
    let all = bytes ++ drop old.at old.piece.now in
    let taken = bytes ++ slice_range old.piece.now old.at new.at in
    let stopped = c.in_err-label.field-0.0 in
    let one : IsAnswer done all taken c.read_node.new.self new.bits (Err stopped) (levels_reading kind (n.level ∷ []) n.above s nodes (bits_after done all)) =
    let Q : Result ℕ LabelStop → Type 0 = λ x. IsAnswer done all taken c.read_node.new.self new.bits x (levels_reading kind (n.level ∷ []) n.above s nodes (bits_after done all)) in
    subst Q c.in_err-label.was (c.read_node.ensures.read band nodes done bytes k r) in
    rw (p.1, p.2) (path_stopped kind n.level n.above s nodes done all taken c.read_node.new.self new.bits stopped one)

pub returns-in_err-label-clause-waits : goal.returns-in_err-label-clause-waits
returns-in_err-label-clause-waits m c = λ e band nodes done bytes k r.
    let p = err_from_is_err_and c.from_residual.result c.from_residual.ensures.1 in
    let one : c.from_residual.result ≡ Err p.0 = p.1 in
    let two : p.0 ≡ c.in_err-label.field-0.0 = p.2 in
    let was : c.read_node.result ≡ Err c.in_err-label.field-0.0 = c.in_err-label.was in
    let need : c.read_node.result ≡ Err Need = cc in
    let n : PathNode = path_node c.args.level c.args.above c.args.col c.args.row in
    let old = c.args.source.now in
    let new = c.read_node.new.source in
    let s : Seat = record { band = band; col = n.col; row = n.row } in
    path_waits_first c.args.kind n.level n.above s nodes done (bytes ++ slice_range old.piece.now old.at new.at) c.read_node.new.self new.bits (c.read_node.ensures.waits need band nodes done bytes k r)

pub returns-clause-waits : goal.returns-clause-waits
returns-clause-waits m c = λ e band nodes done bytes k r.
    let n : PathNode = path_node c.args.level c.args.above c.args.col c.args.row in
    let kind = c.args.kind in
    let old = c.args.source.now in
    let piece = old.piece.now in
    let mid = c.read_node.new.source in
    let new = c.read_path.new.source in
    let s : Seat = record { band = band; col = n.col; row = n.row } in
    let all = bytes ++ drop old.at piece in
    let same_piece : mid.piece.now ≡ piece = c.read_node.ensures.goes.piece in
    let levels = levels_from (n.level - 1) in
    let v = c.in_ok-label.label in
    let P : List ℕ → Type 0 = λ ls. Waits (λ ns l. levels_reading kind ls n.above s ns l) n.level nodes done (bytes ++ slice_range piece old.at new.at) c.read_path.new.self new.bits in
    subst P (sym (lower_levels n.level c.if-level-eq0.false))
    (waits_on (λ a ns l. levels_reading kind (n.level ∷ levels) a s ns l) (λ a ns l. levels_reading kind (n.level ∷ []) a s ns l) (λ a ns l. levels_reading kind levels a s ns l) n.level s n.above (path_of kind n.level levels s n.above) c.if-level-eq0.false
    nodes done all (bytes ++ slice_range piece old.at mid.at) (bytes ++ slice_range piece old.at new.at) c.read_node.new.self c.read_path.new.self mid.bits new.bits
    c.read_node.result v (c.read_node.ensures.read band nodes done bytes k r) c.in_ok-label.was
    (λ w more same knows has.
    let below = c.read_path.ensures.waits e band w.nodes (done ++ more) (bytes ++ slice_range piece old.at mid.at) knows has in
    let O : List ℕ → Type 0 = λ l. Waits (λ ns m. levels_reading kind levels v s ns m) (n.level - 1) w.nodes (done ++ more) ((bytes ++ slice_range piece old.at mid.at) ++ slice_range l mid.at new.at) c.read_path.new.self new.bits in
    let R : List ℕ → Type 0 = λ l. Waits (λ ns m. levels_reading kind levels v s ns m) (n.level - 1) w.nodes (done ++ more) l c.read_path.new.self new.bits in
    let S : ℕ → Type 0 = λ u. Waits (λ ns m. levels_reading kind levels u s ns m) (n.level - 1) w.nodes (done ++ more) (bytes ++ slice_range piece old.at new.at) c.read_path.new.self new.bits in
    subst S (sym same) (subst R (ranges_join bytes piece old.at mid.at new.at c.read_node.ensures.goes.onward c.read_path.ensures.goes.onward) (subst O same_piece below))))

pub returns-clause-free : goal.returns-clause-free
returns-clause-free m c = λ v e.
    let n : PathNode = path_node c.args.level c.args.above c.args.col c.args.row in
    let kind = c.args.kind in
    let old = c.args.source.now in
    let mid = c.read_node.new.source in
    let new = c.read_path.new.source in
    let levels = levels_from (n.level - 1) in
    let P : List ℕ → Type 0 = λ ls. IsFreeOrKnown (λ s ns l. levels_reading kind ls n.above s ns l) n.col n.row v c.args.self.now c.read_path.new.self old.bits new.bits in
    subst P (sym (lower_levels n.level c.if-level-eq0.false))
    (free_on kind n.level levels n.above n.col n.row c.in_ok-label.label v c.args.self.now c.read_node.new.self c.read_path.new.self old.bits mid.bits new.bits
    (c.read_node.ensures.free c.in_ok-label.label c.in_ok-label.was) (c.read_path.ensures.free v e))

pub returns-clause-read : goal.returns-clause-read
returns-clause-read m c = λ band nodes done bytes k r.
    let n : PathNode = path_node c.args.level c.args.above c.args.col c.args.row in
    let kind = c.args.kind in
    let old = c.args.source.now in
    let piece = old.piece.now in
    let mid = c.read_node.new.source in
    let new = c.read_path.new.source in
    let out = c.read_path.result in
    let s : Seat = record { band = band; col = n.col; row = n.row } in
    let all = bytes ++ drop old.at piece in
    let same_piece : mid.piece.now ≡ piece = c.read_node.ensures.goes.piece in
    let levels = levels_from (n.level - 1) in
    let v = c.in_ok-label.label in
    let next : Walked → List Bool → Read Walked = λ w rest. levels_reading kind levels w.label s w.nodes rest in
    let first = levels_reading kind (n.level ∷ []) n.above s nodes (bits_after done all) in
    let whole : levels_reading kind (levels_from n.level) n.above s nodes (bits_after done all) ≡ and_then first next =
    ap (λ (l : List ℕ). levels_reading kind l n.above s nodes (bits_after done all)) (lower_levels n.level c.if-level-eq0.false) ∙ by_node kind n.level levels s n.above nodes (bits_after done all) in
    let P : Read Walked → Type 0 = λ x. IsAnswer done all (bytes ++ slice_range piece old.at new.at) c.read_path.new.self new.bits out x in
    subst P (sym whole) (answered_on first next done all (bytes ++ slice_range piece old.at mid.at) (bytes ++ slice_range piece old.at new.at) c.read_node.new.self c.read_path.new.self mid.bits new.bits
    c.read_node.result out v (c.read_node.ensures.read band nodes done bytes k r) c.in_ok-label.was
    (λ w more same knows has.
    let below = c.read_path.ensures.read band w.nodes (done ++ more) (bytes ++ slice_range piece old.at mid.at) knows has in
    let O : List ℕ → Type 0 = λ l. IsAnswer (done ++ more) ((bytes ++ slice_range piece old.at mid.at) ++ drop mid.at l) ((bytes ++ slice_range piece old.at mid.at) ++ slice_range l mid.at new.at) c.read_path.new.self new.bits out (levels_reading kind levels v s w.nodes (bits_after (done ++ more) ((bytes ++ slice_range piece old.at mid.at) ++ drop mid.at l))) in
    let Q : List ℕ → Type 0 = λ l. IsAnswer (done ++ more) l ((bytes ++ slice_range piece old.at mid.at) ++ slice_range piece mid.at new.at) c.read_path.new.self new.bits out (levels_reading kind levels v s w.nodes (bits_after (done ++ more) l)) in
    let R : List ℕ → Type 0 = λ l. IsAnswer (done ++ more) all l c.read_path.new.self new.bits out (levels_reading kind levels v s w.nodes (bits_after (done ++ more) all)) in
    let S : ℕ → Type 0 = λ u. IsAnswer (done ++ more) all (bytes ++ slice_range piece old.at new.at) c.read_path.new.self new.bits out (levels_reading kind levels u s w.nodes (bits_after (done ++ more) all)) in
    subst S (sym same) (subst R (ranges_join bytes piece old.at mid.at new.at c.read_node.ensures.goes.onward c.read_path.ensures.goes.onward) (subst Q (range_and_rest bytes piece old.at mid.at c.read_node.ensures.goes.onward) (subst O same_piece below)))))
