-- The two bytes of EPH.
use Rattle.std.proofs.Common.{◌≢◌, ◌<◌, ◌≤◌, ◌++◌, ℕ, true, length, sym, subst, arith}
use Rattle.codestream_model.specs.MarkedHeader.{marked_header_of}
use Rattle.packet_header.specs.Answers.{Tells}
use Rattle.packet_header.specs.Headers.{ReaderState, grids_of, IsFed, counted_out}
use Rattle.packet_header.specs.declared.reader.Stage.TheVariants.{EphEnd}
use Rattle.packet_header.specs.declared.refusal.HeaderOut.TheVariants as out
use Rattle.packet_header.specs.declared.refusal.HeaderWhy.TheVariants as why
use Rattle.packet_header.proofs.Feeds.{eph_other, eph_ends, eph_waits}
use Rattle.packet_header.proofs.reader.HeaderReader.read_eph.Goals as goal

-- an index that isn't the end is within
within : (from size : ℕ) → from ≤ size → from ≢ size → from < size
within from size h ne = omega (arith, h, ne)

pub returns-then-piece-from-clause-judged : goal.returns-then-piece-from-clause-judged
returns-then-piece-from-clause-judged c = λ bytes rest.
    let r = c.args.self.now in
    let P : ReaderState → Type 0 = λ s. Tells (marked_header_of (grids_of r) true (bytes ++ c.args.piece.now)) (out.Bad why.NoEph) s.blocks in
    subst P (sym c.self.view_is) (eph_other r bytes c.args.piece.now c.args.from (within c.args.from (length c.args.piece.now) c.requires.inside c.if-from-piece.false) c.if-piece-from.true rest)

pub returns-clause-judged : goal.returns-clause-judged
returns-clause-judged c = λ bytes rest.
    let r = c.args.self.now in
    let P : ReaderState → Type 0 = λ s. Tells (marked_header_of (grids_of r) true (bytes ++ c.args.piece.now)) (counted_out (length bytes) c.end_eph.result) s.blocks in
    subst P (sym c.self.view_is) (eph_ends r bytes c.args.piece.now c.args.from c.end_eph.result (within c.args.from (length c.args.piece.now) c.requires.inside c.if-from-piece.false) c.if-piece-from.false c.end_eph.ensures rest)

pub returns-clause-fed : goal.returns-clause-fed
returns-clause-fed c = λ need bytes rest.
    let r = c.args.self.now in
    let P : ReaderState → Type 0 = λ s. IsFed (record s { stage = EphEnd }) (bytes ++ c.args.piece.now) in
    subst P (sym c.self.view_is) (eph_waits r bytes c.args.piece.now c.args.from c.end_eph.result c.requires.own_bands c.requires.eph (within c.args.from (length c.args.piece.now) c.requires.inside c.if-from-piece.false) c.if-piece-from.false c.end_eph.ensures need rest)
