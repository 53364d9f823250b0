-- The header that was put is closed.
use Rattle.std.proofs.Common.{◌≡◌, ◌<◌, ℕ, List, map, length, take, Err, refl, sym, ◌∙◌, subst}
use Rattle.std.proofs.lemmas.Result.{err_from_is_err_and}
use Rattle.codestream_model.specs.StuffedBits.{packing}
use Rattle.codestream_model.specs.PacketHeader.{HaveOwnBands, SpellsHeader, written_bits, written_header}
use Rattle.precinct_geometry.specs.Spans.{grid_of}
use Rattle.precinct_geometry.specs.declared.place.Grid.{Grid}
use Rattle.packet_header.specs.Answers.{block_of}
use Rattle.packet_header.specs.declared.fault.PutFault.TheVariants as fault
use Rattle.packet_header.proofs.GridPuts.{same_fault, header_full, header_stands, header_size, header_behind, written_says}
use Rattle.packet_header.proofs.writing.write_plain.Goals as goal

pub returns-in_err-put_header-clause-full : goal.returns-in_err-put_header-clause-full
returns-in_err-put_header-clause-full c = λ f.
    let p = err_from_is_err_and c.from_residual.result c.from_residual.ensures.1 in
    let blocks = map block_of c.args.blocks.now in
    let same : Err p.0 ≡ Err fault.Full = sym p.1 ∙ f in
    let why : c.in_err-put_header.field-0.0 ≡ fault.Full = sym p.2 ∙ same_fault p.0 fault.Full same in
    let P : List Grid → Type 0 = λ l. length c.args.buf.now < length (written_header (map grid_of l) blocks) in
    subst P c.as_slice-grids.ensures.value
    (header_full (map grid_of c.as_slice-grids.result.now) blocks c.new-bits.result c.put_header.new.bits c.args.buf.now c.put_header.new.buf c.in_err-put_header.field-0.0 c.new-bits.ensures.none c.in_err-put_header.ensures.bits why)

pub returns-in_err-finish-clause-full : goal.returns-in_err-finish-clause-full
returns-in_err-finish-clause-full c = λ f.
    let blocks = map block_of c.args.blocks.now in
    let gs = map grid_of c.as_slice-grids.result.now in
    let r = header_stands gs blocks c.new-bits.result c.put_header.new.bits c.args.buf.now c.put_header.new.buf c.in_ok-put_header.field-0 c.new-bits.ensures.none c.in_ok-put_header.ensures.bits in
    let far : length c.put_header.new.buf < length (packing (written_bits gs blocks)) = (c.in_err-finish.ensures.full (written_bits gs blocks) r).0 refl in
    let P : ℕ → Type 0 = λ n. n < length (written_header gs blocks) in
    let Q : List Grid → Type 0 = λ l. length c.args.buf.now < length (written_header (map grid_of l) blocks) in
    subst Q c.as_slice-grids.ensures.value (subst P c.put_header.auto.buf far)

pub returns-clause-written : goal.returns-clause-written
returns-clause-written c =
    let blocks = map block_of c.args.blocks.now in
    let gs = map grid_of c.as_slice-grids.result.now in
    let n = c.in_ok-finish.field-0 in
    let r = header_stands gs blocks c.new-bits.result c.put_header.new.bits c.args.buf.now c.put_header.new.buf c.in_ok-put_header.field-0 c.new-bits.ensures.none c.in_ok-put_header.ensures.bits in
    let e = c.in_ok-finish.ensures.packed (written_bits gs blocks) r in
    let P : List Grid → Type 0 = λ l. (n ≡ length (written_header (map grid_of l) blocks)) × (take n c.finish.new.buf ≡ written_header (map grid_of l) blocks) in
    subst P c.as_slice-grids.ensures.value (header_size n c.finish.new.buf (written_header gs blocks) e c.in_ok-finish.ensures.within, e)

pub returns-clause-beyond : goal.returns-clause-beyond
returns-clause-beyond c =
    let blocks = map block_of c.args.blocks.now in
    let gs = map grid_of c.as_slice-grids.result.now in
    let n = c.in_ok-finish.field-0 in
    let r = header_stands gs blocks c.new-bits.result c.put_header.new.bits c.args.buf.now c.put_header.new.buf c.in_ok-put_header.field-0 c.new-bits.ensures.none c.in_ok-put_header.ensures.bits in
    header_behind (written_bits gs blocks) c.args.buf.now c.put_header.new.buf c.finish.new.buf c.put_header.new.bits n c.in_ok-put_header.ensures.begun r (c.in_ok-finish.ensures.packed (written_bits gs blocks) r) c.in_ok-finish.ensures.within
    c.put_header.ensures.goes.beyond c.in_ok-finish.ensures.beyond

pub returns-clause-says : goal.returns-clause-says
returns-clause-says c = λ short.
    let blocks = map block_of c.args.blocks.now in
    let gs = map grid_of c.as_slice-grids.result.now in
    let n = c.in_ok-finish.field-0 in
    let r = header_stands gs blocks c.new-bits.result c.put_header.new.bits c.args.buf.now c.put_header.new.buf c.in_ok-put_header.field-0 c.new-bits.ensures.none c.in_ok-put_header.ensures.bits in
    let e = c.in_ok-finish.ensures.packed (written_bits gs blocks) r in
    let H : List Grid → Type 0 = λ l. HaveOwnBands (map grid_of l) in
    let bands = subst H (sym c.as_slice-grids.ensures.value) c.requires.own_bands in
    let P : List Grid → Type 0 = λ l. SpellsHeader (map grid_of l) blocks (take n c.finish.new.buf) in
    subst P c.as_slice-grids.ensures.value (written_says gs blocks n c.finish.new.buf bands (c.if-not-are_blocks.ensures.0 refl) e c.in_ok-finish.ensures.within short)
