-- A node's answer, by whether it was met, is silent, or its label is read.
use Rattle.std.proofs.Common.{◌≡◌, ◌<◌, ◌++◌, ℕ, List, [], ◌∷◌, drop, length, Some, None, Ok, Err, Result, true, false, inl, inr, refl, sym, ◌∙◌, ap, subst}
use Rattle.std.proofs.lemmas.Result.{err_from_is_err_and}
use Rattle.std.specs.List.{slice_range}
use Rattle.codestream_model.specs.TagTrees.{Seat}
use Rattle.codestream_model.specs.PacketHeaderReading.{Node, node_of, known_label}
use Rattle.stuffed_bits.specs.BitsRead.{HasRead}
use Rattle.tag_tree.specs.Places.{place_of}
use Rattle.tag_tree.specs.Kinds.{IsSilent, label_reading, levels_reading}
use Rattle.tag_tree.specs.LeafReading.{told_at, met_at, Knows, bits_after, IsLabel}
use Rattle.tag_tree.specs.declared.stop.LabelStop.{LabelStop}
use Rattle.tag_tree.specs.declared.stop.LabelStop.TheVariants.{Need}
use Rattle.tag_tree.proofs.KnowLemmas.{knows_more}
use Rattle.tag_tree.proofs.AnswerLemmas.{node_known, node_silent, node_met, node_stopped, no_range}
use Rattle.tag_tree.proofs.GoLemmas.{waits_here, known_free, silent_free, same_freed}
use Rattle.tag_tree.specs.MetNodes.{IsMet, MayMeetBelow}
use Rattle.tag_tree.proofs.DownLemmas.{down_after}
use Rattle.tag_tree.proofs.tree.Tree.read_node.Goals as goal

pub returns-in-Some-clause-read : goal.returns-in-Some-clause-read
returns-in-Some-clause-read c = λ band nodes done bytes k r.
    let n = c.args.node in
    let old = c.args.source.now in
    let s : Seat = record { band = band; col = n.col; row = n.row } in
    let e : known_label n.level s nodes ≡ Some c.in-Some.label =
    k.told n.level s c.requires.node.col c.requires.node.row c.requires.node.low ∙ (ap (told_at c.args.self.now) (sym c.place-place.ensures.place) ∙ (sym c.told.ensures ∙ c.in-Some.is)) in
    let P : List ℕ → Type 0 = λ l. HasRead done l old.bits in
    node_known c.args.kind n.level n.above c.in-Some.label s nodes done (bytes ++ drop old.at old.piece.now) (bytes ++ slice_range old.piece.now old.at old.at) c.args.self.now old.bits e k
    (subst P (no_range bytes old.piece.now old.at) r)

pub returns-in-Some-clause-free : goal.returns-in-Some-clause-free
returns-in-Some-clause-free c = λ v e.
    let n = c.args.node in
    let t = c.args.self.now in
    let h = c.args.source.now.bits in
    same_freed (λ s ns l. levels_reading c.args.kind (n.level ∷ []) n.above s ns l) n.col n.row c.in-Some.label v t t h h e
    (known_free c.args.kind n.level n.above n.col n.row c.in-Some.label t h
    (λ band nodes k. k.told n.level (record { band = band; col = n.col; row = n.row }) c.requires.node.col c.requires.node.row c.requires.node.low
    ∙ (ap (told_at t) (sym c.place-place.ensures.place) ∙ (sym c.told.ensures ∙ c.in-Some.is))))

pub returns-then-is_silent-clause-read : goal.returns-then-is_silent-clause-read
returns-then-is_silent-clause-read c = λ band nodes done bytes k r.
    let n = c.args.node in
    let old = c.args.source.now in
    let s : Seat = record { band = band; col = n.col; row = n.row } in
    let e : known_label n.level s nodes ≡ None =
    k.told n.level s c.requires.node.col c.requires.node.row c.requires.node.low ∙ (ap (told_at c.args.self.now) (sym c.place-place.ensures.place) ∙ (sym c.told.ensures ∙ c.in_default.is)) in
    let silent : IsSilent c.args.kind n.above = c.is_silent.ensures.0 c.if-is_silent.true in
    let P : List ℕ → Type 0 = λ l. HasRead done l old.bits in
    node_silent c.args.kind n.level n.above s nodes done (bytes ++ drop old.at old.piece.now) (bytes ++ slice_range old.piece.now old.at old.at) c.args.self.now old.bits e silent k
    (subst P (no_range bytes old.piece.now old.at) r)

pub returns-in_err-label-clause-read : goal.returns-in_err-label-clause-read
returns-in_err-label-clause-read c = λ band nodes done bytes k r.
    let p = err_from_is_err_and c.from_residual.result c.from_residual.ensures.1 in
    let n = c.args.node in
    let old = c.args.source.now in
    let new = c.label_below.new.source in
    let all = bytes ++ drop old.at old.piece.now in
    let taken = bytes ++ slice_range old.piece.now old.at new.at in
    let s : Seat = record { band = band; col = n.col; row = n.row } in
    let e : known_label n.level s nodes ≡ None =
    k.told n.level s c.requires.node.col c.requires.node.row c.requires.node.low ∙ (ap (told_at c.args.self.now) (sym c.place-place.ensures.place) ∙ (sym c.told.ensures ∙ c.in_default.is)) in
    let spoken : IsSilent c.args.kind n.above → ⊥ = λ q. let yes : c.is_silent.result ≡ true = c.is_silent.ensures.1 q in let no : c.is_silent.result ≡ false = c.if-is_silent.false in absurd (cc) in
    let O : Result ℕ LabelStop → Type 0 = λ x. IsLabel done all taken new.bits x (label_reading c.args.kind n.above (bits_after done all)) in
    rw (p.1, p.2) (node_stopped c.args.kind n.level n.above s nodes done all taken c.args.self.now new.bits c.in_err-label.field-0.0 e spoken (subst O c.in_err-label.was (c.label_below.ensures.read done bytes r)))

pub returns-in_err-label-clause-waits : goal.returns-in_err-label-clause-waits
returns-in_err-label-clause-waits c = λ e band nodes done bytes k r.
    let p = err_from_is_err_and c.from_residual.result c.from_residual.ensures.1 in
    let one : c.from_residual.result ≡ Err p.0 = p.1 in
    let two : p.0 ≡ c.in_err-label.field-0.0 = p.2 in
    let was : c.label_below.result ≡ Err c.in_err-label.field-0.0 = c.in_err-label.was in
    let need : c.label_below.result ≡ Err Need = cc in
    let n = c.args.node in
    let old = c.args.source.now in
    let new = c.label_below.new.source in
    let s : Seat = record { band = band; col = n.col; row = n.row } in
    waits_here (λ ns l. levels_reading c.args.kind (n.level ∷ []) n.above s ns l) n.level nodes done (bytes ++ slice_range old.piece.now old.at new.at) c.args.self.now new.bits k (c.label_below.ensures.waits need done bytes r)

pub returns-clause-read : goal.returns-clause-read
returns-clause-read c = λ band nodes done bytes k r.
    let n = c.args.node in
    let t = c.args.self.now in
    let old = c.args.source.now in
    let new = c.label_below.new.source in
    let all = bytes ++ drop old.at old.piece.now in
    let taken = bytes ++ slice_range old.piece.now old.at new.at in
    let s : Seat = record { band = band; col = n.col; row = n.row } in
    let place = place_of t.cols t.rows n.level n.col n.row in
    let at_place : c.place-place.result ≡ place = c.place-place.ensures.place in
    let v = c.in_ok-label.label in
    let e : known_label n.level s nodes ≡ None =
    k.told n.level s c.requires.node.col c.requires.node.row c.requires.node.low ∙ (ap (told_at t) (sym at_place) ∙ (sym c.told.ensures ∙ c.in_default.is)) in
    let spoken : IsSilent c.args.kind n.above → ⊥ = λ q. let yes : c.is_silent.result ≡ true = c.is_silent.ensures.1 q in let no : c.is_silent.result ≡ false = c.if-is_silent.false in absurd (cc) in
    let P : ℕ → Type 0 = λ i. i < length t.labels in
    let Q : ℕ → Type 0 = λ i. i < length t.met in
    let more : Knows (met_at t place v) (node_of n.level s v ∷ nodes) =
    knows_more t nodes n.level v s c.requires.node.col c.requires.node.row (subst P at_place c.place-place.ensures.labelled) (subst Q at_place c.place-place.ensures.listed) k in
    let whole : c.meet.new.self ≡ met_at t place v = c.meet.ensures ∙ ap (λ (i : ℕ). met_at t i v) at_place in
    let O : Result ℕ LabelStop → Type 0 = λ x. IsLabel done all taken new.bits x (label_reading c.args.kind n.above (bits_after done all)) in
    rw whole (node_met c.args.kind n.level n.above v s nodes done all taken (met_at t place v) new.bits e spoken (subst O c.in_ok-label.was (c.label_below.ensures.read done bytes r)) more)

pub meet-requires-clause-down : goal.meet-requires-clause-down
meet-requires-clause-down c =
    let n = c.args.node in
    let t = c.args.self.now in
    let spoken : IsSilent c.args.kind n.above → ⊥ = λ q. let yes : c.is_silent.result ≡ true = c.is_silent.ensures.1 q in let no : c.is_silent.result ≡ false = c.if-is_silent.false in absurd (cc) in
    down_after t (met_at t c.place-place.result c.in_ok-label.label) n.level n.col n.row c.place-place.result c.requires.node.col c.requires.node.row c.place-place.ensures.place c.is_tree.ensures.down
    (λ low. elim (c.requires.upper low) [ inl q ↦ absurd (spoken q) | inr h ↦ h ]) refl refl refl refl
