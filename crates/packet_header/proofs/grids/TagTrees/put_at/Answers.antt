-- A position is left out, or its code-block is put.
use Rattle.std.proofs.Common.{◌≡◌, ◌++◌, Bool, List, [], ◌∷◌, refl, sym, subst}
use Rattle.std.specs.List.{filter}
use Rattle.codestream_model.specs.TagTrees.{Seat, seat_of, least_inclusion, least_planes}
use Rattle.codestream_model.specs.PacketHeader.{is_included, least_lblock}
use Rattle.precinct_geometry.specs.Spans.{grid_of}
use Rattle.tag_tree.specs.TreeState.{TreeState}
use Rattle.tag_tree.specs.LeafReading.{IsSameShape}
use Rattle.tag_tree.specs.LeafWriting.{grid_of as tree_grid, HasMet, Writes, leaf_bits, inclusion_step, value_step}
use Rattle.tag_tree.proofs.WriteLemmas.{writes_behind}
use Rattle.packet_header.specs.Answers.{block_of}
use Rattle.packet_header.specs.Queues.{remaining}
use Rattle.packet_header.specs.Puts.{value_bits}
use Rattle.packet_header.specs.PositionsWritten.{AreWritten}
use Rattle.packet_header.specs.declared.grids.TagTrees.{TagTrees}
use Rattle.packet_header.proofs.PutSteps.{goes_both}
use Rattle.packet_header.proofs.PositionWalks.{position_there}
use Rattle.packet_header.proofs.PositionPuts.{seat_out, taken_at, written_out, written_in, is_out, position_full, ok_along, always_ok}
use Rattle.packet_header.proofs.grids.TagTrees.put_at.Goals as goal

pub returns-in_err-write_inclusion-clause-bits : goal.returns-in_err-write_inclusion-clause-bits
returns-in_err-write_inclusion-clause-bits c = λ blocks earlier later rest on_grid e written waits.
    let g = grid_of c.args.grid in
    let s : Seat = record { band = g.band; col = c.args.col; row = c.args.row } in
    let none = c.in_err-write_inclusion.ensures.bits (least_inclusion blocks g.band) earlier written.inclusion written.met in
    position_full g blocks earlier later rest s c.args.self.now _ (remaining c.args.queue.now) c.args.bits.now c.write_inclusion.new.bits c.args.buf.now c.write_inclusion.new.buf c.in_err-write_inclusion.field-0.0 c.from_residual.result c.from_residual.ensures.0
    c.requires.same.inclusion_cols c.requires.same.inclusion_rows e none

pub returns-in-None-clause-bits : goal.returns-in-None-clause-bits
returns-in-None-clause-bits c = λ blocks earlier later rest on_grid e written waits.
    let g = grid_of c.args.grid in
    let s : Seat = record { band = g.band; col = c.args.col; row = c.args.row } in
    let u : TagTrees = record { inclusion = c.write_inclusion.new.self; planes = c.args.self.now.planes } in
    let one = c.in_ok-write_inclusion.ensures in
    let took = c.in-None.ensures in
    let out = is_out blocks s rest (remaining c.args.queue.now) waits took.1 in
    seat_out g blocks earlier later rest s c.args.self.now u (remaining c.args.queue.now) (remaining c.take_at.new.self) c.args.bits.now c.write_inclusion.new.bits c.args.buf.now c.write_inclusion.new.buf
    c.requires.same.inclusion_cols c.requires.same.inclusion_rows e waits took.0 took.1
    (written_out g blocks earlier s c.args.self.now u written out one.same one.labels (one.met g.band earlier written.met) refl)
    (one.bits (least_inclusion blocks g.band) earlier written.inclusion written.met)

pub returns-in-Some-clause-bits : goal.returns-in-Some-clause-bits
returns-in-Some-clause-bits c = λ blocks earlier later rest on_grid e written waits.
    let g = grid_of c.args.grid in
    let s : Seat = record { band = g.band; col = c.args.col; row = c.args.row } in
    let t = c.args.self.now in
    let u = c.put_block.new.self in
    let b = block_of c.in-Some.block in
    let one = c.in_ok-write_inclusion.ensures in
    let took = c.in-Some.ensures in
    let before = filter (is_included blocks) earlier in
    let there : seat_of b ≡ s = position_there s b took.1 in
    let is = taken_at g blocks earlier later rest s b t t.planes (remaining c.args.queue.now) (remaining c.take_at.new.self) on_grid c.requires.same.inclusion_cols c.requires.same.inclusion_rows c.requires.same.planes_cols c.requires.same.planes_rows e waits took.0 took.1 in
    let inclusion = leaf_bits inclusion_step (tree_grid t.inclusion) (least_inclusion blocks g.band) earlier s in
    let values = value_bits (least_lblock b) b in
    let P : Seat → Type 0 = λ x. Writes {A = Unit {0}} (leaf_bits value_step (tree_grid t.planes) (least_planes blocks g.band) before x ++ values) c.write_inclusion.new.bits c.put_block.new.bits c.write_inclusion.new.buf c.put_block.new.buf c.put_block.result in
    let block = subst P there (c.put_block.ensures.bits (least_planes blocks g.band) before written.planes written.met_planes) in
    let Q : List Bool → Type 0 = λ l. Writes {A = Unit {0}} l c.args.bits.now c.put_block.new.bits c.args.buf.now c.put_block.new.buf c.put_block.result in
    let same_inclusion = sym c.put_block.ensures.inclusion in
    let S : TreeState → Type 0 = λ x. IsSameShape t.inclusion x in
    let L : TreeState → Type 0 = λ x. x.labels ≡ t.inclusion.labels in
    let M : TreeState → Type 0 = λ x. HasMet x (earlier ++ s ∷ []) in
    let N : Seat → Type 0 = λ x. HasMet u.planes (before ++ x ∷ []) in
    record {
      bits = subst Q is.bits (writes_behind (Unit {0}) (Unit {0}) inclusion (leaf_bits value_step (tree_grid t.planes) (least_planes blocks g.band) before s ++ values) c.args.bits.now c.write_inclusion.new.bits c.put_block.new.bits
          c.args.buf.now c.write_inclusion.new.buf c.put_block.new.buf c.in_ok-write_inclusion.field-0 c.put_block.result c.write_inclusion.auto.buf (one.bits (least_inclusion blocks g.band) earlier written.inclusion written.met) block);
      written = ok_along _ (λ x. AreWritten g blocks (earlier ++ s ∷ []) u) c.put_block.result
          (λ x meets. written_in g blocks earlier s t u written is.included (subst S same_inclusion one.same) (subst L same_inclusion one.labels) (subst M same_inclusion (one.met g.band earlier written.met))
          c.put_block.ensures.same c.put_block.ensures.labels (subst N there (meets b.band before written.met_planes)))
          c.put_block.ensures.met;
      waits = always_ok c.put_block.result is.waits;
    }

pub returns-in-Some-clause-goes : goal.returns-in-Some-clause-goes
returns-in-Some-clause-goes c =
    let one = c.in_ok-write_inclusion.ensures in
    goes_both c.args.bits.now c.write_inclusion.new.bits c.put_block.new.bits c.args.buf.now c.write_inclusion.new.buf c.put_block.new.buf (record { onward = one.onward; within = one.within; beyond = one.beyond }) c.put_block.ensures.goes
