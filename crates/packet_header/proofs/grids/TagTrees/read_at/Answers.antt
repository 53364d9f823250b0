-- The inclusion, and then what follows it.
use Rattle.std.proofs.Common.{◌≡◌, ◌++◌, ℕ, List, Some, Result, Err, sym, subst}
use Rattle.std.proofs.lemmas.Result.{err_from_is_err_and}
use Rattle.codestream_model.specs.TagTrees.{Seat}
use Rattle.codestream_model.specs.PacketHeaderReading.{read_inclusion}
use Rattle.tag_tree.specs.Kinds.{levels_of}
use Rattle.packet_header.specs.Leaves.{LeafMoved}
use Rattle.packet_header.specs.Positions.{WentAt, ReadAt, ReadsAt}
use Rattle.packet_header.specs.declared.grids.TagTrees.{TagTrees}
use Rattle.packet_header.specs.declared.refusal.HeaderStop.{HeaderStop}
use Rattle.packet_header.specs.declared.step.Step.{Step}
use Rattle.packet_header.specs.declared.step.Step.TheVariants.{Inclusion, Planes}
use Rattle.packet_header.proofs.PositionMoves.{find_included, find_left_out, inclusion_stops, finds_stop, left_out, position_on, unread_free, same_levels}
use Rattle.packet_header.proofs.grids.TagTrees.read_at.Goals as goal

pub returns-in_err-label-in-Inclusion-clause-read : goal.returns-in_err-label-in-Inclusion-clause-read
returns-in_err-label-in-Inclusion-clause-read c = λ nodes others k before done h.
    let p = err_from_is_err_and c.from_residual.result c.from_residual.ensures.1 in
    let s : Seat = record { band = c.args.at.band; col = c.args.at.col; row = c.args.at.row } in
    let t : TagTrees = record { inclusion = c.inclusion.new.tree; planes = c.args.self.now.planes } in
    let old = c.args.source.now in
    let new = c.inclusion.new.source in
    let held = c.args.blocks.now.items in
    let levels = levels_of c.args.self.now.inclusion in
    let stopped = c.in_err-label-in-Inclusion.field-0.0 in
    let R : Result ℕ HeaderStop → Type 0 = λ x. LeafMoved (λ ns l. read_inclusion levels s 0 ns l) nodes before done t.inclusion old new x in
    let here = subst R c.in_err-label-in-Inclusion.was (c.inclusion.ensures.gets c.args.at.band nodes k.inclusion before done h) in
    let P : Step → Type 0 = λ x. ReadsAt levels s nodes others t x x before done old new held held (Err stopped) in
    rw (p.1, p.2) (subst P (sym c.in-Inclusion.is) (finds_stop levels s nodes others t Inclusion before done old new held stopped (inclusion_stops levels s nodes others t before done old new stopped here k.planes)))

pub returns-then-label-ne0-clause-read : goal.returns-then-label-ne0-clause-read
returns-then-label-ne0-clause-read c = λ nodes others k before done h.
    let s : Seat = record { band = c.args.at.band; col = c.args.at.col; row = c.args.at.row } in
    let t : TagTrees = record { inclusion = c.inclusion.new.tree; planes = c.args.self.now.planes } in
    let old = c.args.source.now in
    let new = c.inclusion.new.source in
    let held = c.args.blocks.now.items in
    let levels = levels_of c.args.self.now.inclusion in
    let R : Result ℕ HeaderStop → Type 0 = λ x. LeafMoved (λ ns l. read_inclusion levels s 0 ns l) nodes before done t.inclusion old new x in
    let here = subst R c.in_ok-label-in-Inclusion.was (c.inclusion.ensures.gets c.args.at.band nodes k.inclusion before done h) in
    let P : Step → Type 0 = λ x. ReadAt levels s nodes others t x before done new held held in
    subst P (sym c.in-Inclusion.is) (left_out levels s nodes others t Inclusion before done new held (find_left_out levels s nodes others t before done new c.in_ok-label-in-Inclusion.label here c.if-label-ne0.true k.planes))

pub read_planes-requires-clause-ready : goal.read_planes-requires-clause-ready
read_planes-requires-clause-ready c =
    let s : Seat = record { band = c.args.at.band; col = c.args.at.col; row = c.args.at.row } in
    let t : TagTrees = record { inclusion = c.inclusion.new.tree; planes = c.args.self.now.planes } in
    let q = c.requires.ready in
    let mid = c.inclusion.new.source in
    let levels = levels_of c.args.self.now.inclusion in
    let R : Result ℕ HeaderStop → Type 0 = λ x. LeafMoved (λ ns l. read_inclusion levels s 0 ns l) q.nodes q.before q.done t.inclusion c.args.source.now mid x in
    let here = subst R c.in_ok-label-in-Inclusion.was (c.inclusion.ensures.gets c.args.at.band q.nodes q.knows.inclusion q.before q.done q.holds) in
    let w = find_included levels s q.nodes q.others t q.before q.done mid c.in_ok-label-in-Inclusion.label here c.if-label-ne0.false q.knows.planes in
    record {
      before = q.before;
      done = q.done ++ w.bits;
      nodes = w.known;
      others = w.known_others;
      holds = w.holds;
      knows = w.knows;
      unread = unread_free (levels_of c.args.self.now.planes) s w.known_others Planes mid.bits.part c.inclusion.ensures.free;
    }

pub returns-else-label-ne0-clause-read : goal.returns-else-label-ne0-clause-read
returns-else-label-ne0-clause-read c = λ nodes others k before done h.
    let s : Seat = record { band = c.args.at.band; col = c.args.at.col; row = c.args.at.row } in
    let t : TagTrees = record { inclusion = c.inclusion.new.tree; planes = c.args.self.now.planes } in
    let old = c.args.source.now in
    let mid = c.inclusion.new.source in
    let new = c.read_planes.new.source in
    let held = c.args.blocks.now.items in
    let now = c.read_planes.new.blocks.items in
    let levels = levels_of c.args.self.now.inclusion in
    let same : levels_of t.inclusion ≡ levels = same_levels c.args.self.now.inclusion t.inclusion c.inclusion.ensures.same.cols c.inclusion.ensures.same.rows in
    let R : Result ℕ HeaderStop → Type 0 = λ x. LeafMoved (λ ns l. read_inclusion levels s 0 ns l) nodes before done t.inclusion old mid x in
    let here = subst R c.in_ok-label-in-Inclusion.was (c.inclusion.ensures.gets c.args.at.band nodes k.inclusion before done h) in
    let w : WentAt levels s nodes others t Inclusion before done mid (Some Planes) = find_included levels s nodes others t before done mid c.in_ok-label-in-Inclusion.label here c.if-label-ne0.false k.planes in
    let Q : List ℕ → Type 0 = λ ls. ReadsAt ls s w.known w.known_others c.read_planes.new.self Planes c.read_planes.new.step before (done ++ w.bits) mid new held now c.read_planes.result in
    let next = subst Q same (c.read_planes.ensures.read w.known w.known_others w.knows before (done ++ w.bits) w.holds) in
    let P : Step → Type 0 = λ x. ReadsAt levels s nodes others c.read_planes.new.self x c.read_planes.new.step before done old new held now c.read_planes.result in
    subst P (sym c.in-Inclusion.is) (position_on levels s nodes others t c.read_planes.new.self Inclusion Planes c.read_planes.new.step before done old mid new held now c.read_planes.result c.inclusion.ensures.piece w next)
