-- A leaf, of the bytes at hand.
use Rattle.std.proofs.Common.{ℕ, List, Bool, Result, subst}
use Rattle.std.proofs.lemmas.Result.{err_from_is_err_and}
use Rattle.codestream_model.specs.TagTrees.{Seat}
use Rattle.codestream_model.specs.PacketHeaderReading.{Node, Read, Walked}
use Rattle.tag_tree.specs.Kinds.{levels_reading, levels_of}
use Rattle.tag_tree.specs.declared.kind.Kind.TheVariants.{Value}
use Rattle.tag_tree.specs.declared.stop.LabelStop.{LabelStop}
use Rattle.tag_tree.proofs.LocalReads.{local_levels}
use Rattle.packet_header.specs.Answers.{leaf_answer}
use Rattle.packet_header.specs.Leaves.{LeafMoved}
use Rattle.packet_header.proofs.LeafMoves.{leaf_gets, label_refuses_planes}
use Rattle.packet_header.proofs.source.planes.Goals as goal

pub returns-in_err-read_value-clause-gets : goal.returns-in_err-read_value-clause-gets
returns-in_err-read_value-clause-gets c = λ band nodes knows before done holds.
    let p = err_from_is_err_and c.from_residual.result c.from_residual.ensures.1 in
    let s : Seat = record { band = band; col = c.args.col; row = c.args.row } in
    let reading : List Node → List Bool → Read Walked = λ ns l. levels_reading Value (levels_of c.args.tree.now) 0 s ns l in
    let old = c.args.source.now in
    let new = c.read_value.new.source in
    let out = c.read_value.result in
    let P : Result ℕ LabelStop → Type 0 = λ x. LeafMoved reading nodes before done c.read_value.new.self old new (leaf_answer x) in
    rw (p.1, p.2) (subst P c.in_err-read_value.was (leaf_gets reading c.args.tree.now.root nodes before done c.read_value.new.self old new out c.read_value.ensures.goes.onward c.read_value.ensures.goes.piece c.read_value.ensures.goes.whole
    (local_levels Value (levels_of c.args.tree.now) s 0 nodes) (λ bytes r. c.read_value.ensures.read band nodes done bytes knows r) (λ n bytes r. c.read_value.ensures.waits n band nodes done bytes knows r)
    (λ l refused e n. label_refuses_planes Value (levels_of c.args.tree.now) s nodes l refused out (λ q. absurd (cc)) e n) holds))

pub returns-clause-gets : goal.returns-clause-gets
returns-clause-gets c = λ band nodes knows before done holds.
    let s : Seat = record { band = band; col = c.args.col; row = c.args.row } in
    let reading : List Node → List Bool → Read Walked = λ ns l. levels_reading Value (levels_of c.args.tree.now) 0 s ns l in
    let old = c.args.source.now in
    let new = c.read_value.new.source in
    let out = c.read_value.result in
    let P : Result ℕ LabelStop → Type 0 = λ x. LeafMoved reading nodes before done c.read_value.new.self old new (leaf_answer x) in
    subst P c.in_ok-read_value.was (leaf_gets reading c.args.tree.now.root nodes before done c.read_value.new.self old new out c.read_value.ensures.goes.onward c.read_value.ensures.goes.piece c.read_value.ensures.goes.whole
    (local_levels Value (levels_of c.args.tree.now) s 0 nodes) (λ bytes r. c.read_value.ensures.read band nodes done bytes knows r) (λ n bytes r. c.read_value.ensures.waits n band nodes done bytes knows r)
    (λ l refused e n. label_refuses_planes Value (levels_of c.args.tree.now) s nodes l refused out (λ q. absurd (cc)) e n) holds)
