-- Nothing was read yet.
use Rattle.std.proofs.Common.{false, List, [], map, refl, sym, ap, subst, arith}
use Rattle.codestream_model.specs.PacketHeaderReading.{read_bits}
use Rattle.precinct_geometry.specs.Spans.{grid_of}
use Rattle.precinct_geometry.specs.declared.place.Grid.{Grid}
use Rattle.packet_header.specs.Blocks.{HasTaken}
use Rattle.packet_header.specs.declared.blocks.BlocksReader.{BlocksReader}
use Rattle.packet_header.specs.declared.step.Step.TheVariants.{Inclusion}
use Rattle.packet_header.proofs.GridMoves.{header_begun}
use Rattle.packet_header.proofs.blocks.BlocksReader.begin.Goals as goal

pub returns-clause-begun : goal.returns-clause-begun
returns-clause-begun c = λ h free read.
    let gs = map grid_of c.args.bands.now.items in
    let r : BlocksReader = record c.args.self.now { bands = c.copy.new.to; blocks = c.clear.new.self; begun = false; step = Inclusion } in
    let u = c.enter.new.self.trees in
    let P : BlocksReader → Type 0 = λ x. HasTaken (read_bits gs) x [] h in
    subst P (sym c.enter.ensures.place) (header_begun gs r u h (ap (λ (l : List Grid). map grid_of l) c.copy.ensures) refl refl c.clear.ensures.items c.clear.ensures.len free read c.enter.ensures.trees
    (omega (arith, c.requires.inclusion, c.enter.ensures.room)) (omega (arith, c.requires.planes, c.enter.ensures.planes_room)) (omega (arith, c.requires.blocks, c.clear.ensures.capacity)))
