-- The zero bit-planes, and then the values.
use Rattle.std.proofs.Common.{◌≡◌, ◌++◌, ℕ, List, Some, Result, Err, sym, ◌∙◌, subst}
use Rattle.std.proofs.lemmas.Result.{err_from_is_err_and}
use Rattle.codestream_model.specs.TagTrees.{Seat}
use Rattle.codestream_model.specs.PacketHeaderReading.{read_planes}
use Rattle.tag_tree.specs.Kinds.{levels_of}
use Rattle.packet_header.specs.Leaves.{LeafMoved}
use Rattle.packet_header.specs.Positions.{WentAt, ReadsAt}
use Rattle.packet_header.specs.declared.grids.TagTrees.{TagTrees}
use Rattle.packet_header.specs.declared.refusal.HeaderStop.{HeaderStop}
use Rattle.packet_header.specs.declared.step.Step.TheVariants.{Planes, Passes}
use Rattle.packet_header.proofs.PositionMoves.{find_planes, planes_stop, finds_stop, position_on, same_levels}
use Rattle.packet_header.proofs.grids.TagTrees.read_planes.Goals as goal

pub returns-in_err-planes-clause-read : goal.returns-in_err-planes-clause-read
returns-in_err-planes-clause-read c = λ nodes others k before done h.
    let p = err_from_is_err_and c.from_residual.result c.from_residual.ensures.1 in
    let s : Seat = record { band = c.args.at.band; col = c.args.at.col; row = c.args.at.row } in
    let t : TagTrees = record { inclusion = c.args.self.now.inclusion; planes = c.planes-label.new.tree } in
    let old = c.args.source.now in
    let new = c.planes-label.new.source in
    let held = c.args.blocks.now.items in
    let levels = levels_of c.args.self.now.planes in
    let same : levels ≡ levels_of c.args.self.now.inclusion = same_levels c.args.self.now.inclusion c.args.self.now.planes c.requires.same.planes_cols c.requires.same.planes_rows in
    let stopped = c.in_err-planes.field-0.0 in
    let R : Result ℕ HeaderStop → Type 0 = λ x. LeafMoved (λ ns l. read_planes levels s 0 ns l) others before done t.planes old new x in
    let here = subst R (sym c.noted.ensures.same ∙ c.in_err-planes.was) (c.planes-label.ensures.gets c.args.at.band others k.planes before done h) in
    let Q : List ℕ → Type 0 = λ ls. ReadsAt ls s nodes others t Planes Planes before done old new held held (Err stopped) in
    rw (p.1, p.2, c.in_err-planes.ensures.noted) (subst Q same (finds_stop levels s nodes others t Planes before done old new held stopped (planes_stop levels s nodes others t before done old new stopped here k.inclusion)))

pub returns-clause-read : goal.returns-clause-read
returns-clause-read c = λ nodes others k before done h.
    let s : Seat = record { band = c.args.at.band; col = c.args.at.col; row = c.args.at.row } in
    let t : TagTrees = record { inclusion = c.args.self.now.inclusion; planes = c.planes-label.new.tree } in
    let old = c.args.source.now in
    let mid = c.planes-label.new.source in
    let new = c.keep_values.new.source in
    let own = levels_of c.args.self.now.planes in
    let levels = levels_of c.args.self.now.inclusion in
    let same : own ≡ levels = same_levels c.args.self.now.inclusion c.args.self.now.planes c.requires.same.planes_cols c.requires.same.planes_rows in
    let label = c.in_ok-planes.planes in
    let R : Result ℕ HeaderStop → Type 0 = λ x. LeafMoved (λ ns l. read_planes own s 0 ns l) others before done t.planes old mid x in
    let here = subst R (sym c.noted.ensures.same ∙ c.in_ok-planes.was) (c.planes-label.ensures.gets c.args.at.band others k.planes before done h) in
    let Q : List ℕ → Type 0 = λ ls. WentAt ls s nodes others t Planes before done mid (Some (Passes label)) in
    let w : WentAt levels s nodes others t Planes before done mid (Some (Passes label)) = subst Q same (find_planes own s nodes others t before done mid label here k.inclusion) in
    position_on levels s nodes others t t Planes (Passes label) c.keep_values.new.step before done old mid new c.args.blocks.now.items c.keep_values.new.blocks.items c.keep_values.result c.planes-label.ensures.piece w
    (c.keep_values.ensures.read levels w.known w.known_others t w.knows before (done ++ w.bits) w.holds)
