-- By what is read next.
use Rattle.std.proofs.Common.{◌≡◌, ◌++◌, Bool, length, sym, ◌∙◌, ap, subst, arith}
use Rattle.codestream_model.specs.Bytes.{IsBytes}
use Rattle.codestream_model.specs.MarkedHeader.{marked_header_of}
use Rattle.codestream_model.proofs.BytesLemmas.{bytes_join}
use Rattle.packet_header.specs.Answers.{Tells}
use Rattle.packet_header.specs.Headers.{ReaderState, grids_of, Judges, counted_out}
use Rattle.packet_header.specs.declared.reader.Stage.TheVariants.{Eph, EphEnd}
use Rattle.packet_header.proofs.Feeds.{feeds, at_eph, end_tells, end_waits}
use Rattle.packet_header.proofs.reader.HeaderReader.feed.Goals as goal

pub returns-in-Header-clause-answers : goal.returns-in-Header-clause-answers
returns-in-Header-clause-answers c = λ bytes f.
    let r = c.args.self.now in
    let each : IsBytes c.args.piece.now = λ i. omega (arith, c.type_inv.piece i) in
    feeds (grids_of r) r.eph bytes c.args.piece.now c.feed_header.result c.feed_header.new.self.blocks f.own_bands (bytes_join bytes c.args.piece.now f.each each) (c.feed_header.ensures.judged bytes f)

-- after the header
judged_eph : (c : goal.After-read_eph) → Judges c.args.self.now c.read_eph.new.self c.args.piece.now c.read_eph.result
judged_eph c = λ bytes f.
    let r = c.args.self.now in
    let each : IsBytes c.args.piece.now = λ i. omega (arith, c.type_inv.piece i) in
    let stage : r.stage ≡ Eph = sym (ap (λ (s : ReaderState). s.stage) c.self.view_is) ∙ c.in-Eph.is in
    let h = at_eph r bytes c.args.piece.now f stage each in
    let E : Bool → Type 0 = λ x. Tells (marked_header_of (grids_of r) x (bytes ++ c.args.piece.now)) (counted_out (length bytes) c.read_eph.result) c.read_eph.new.self.blocks in
    subst E (sym h.0) (c.read_eph.ensures.judged bytes h.1)

pub returns-in-Eph-clause-fed : goal.returns-in-Eph-clause-fed
returns-in-Eph-clause-fed c = λ need bytes f.
    let r = c.args.self.now in
    let each : IsBytes c.args.piece.now = λ i. omega (arith, c.type_inv.piece i) in
    let stage : r.stage ≡ Eph = sym (ap (λ (s : ReaderState). s.stage) c.self.view_is) ∙ c.in-Eph.is in
    c.read_eph.ensures.fed need bytes (at_eph r bytes c.args.piece.now f stage each).1

pub returns-in-Eph-clause-answers : goal.returns-in-Eph-clause-answers
returns-in-Eph-clause-answers c = λ bytes f.
    let r = c.args.self.now in
    let each : IsBytes c.args.piece.now = λ i. omega (arith, c.type_inv.piece i) in
    feeds (grids_of r) r.eph bytes c.args.piece.now c.read_eph.result c.read_eph.new.self.blocks f.own_bands (bytes_join bytes c.args.piece.now f.each each) (judged_eph c bytes f)

-- after the first byte of EPH
judged_end : (c : goal.After-end_eph) → Judges c.args.self.now c.args.self.now c.args.piece.now c.end_eph.result
judged_end c = λ bytes f.
    let r = c.args.self.now in
    let stage : r.stage ≡ EphEnd = sym (ap (λ (s : ReaderState). s.stage) c.self.view_is) ∙ c.in-EphEnd.is in
    end_tells r bytes c.args.piece.now c.end_eph.result f stage c.end_eph.ensures

pub returns-in-EphEnd-clause-answers : goal.returns-in-EphEnd-clause-answers
returns-in-EphEnd-clause-answers c = λ bytes f.
    let r = c.args.self.now in
    let each : IsBytes c.args.piece.now = λ i. omega (arith, c.type_inv.piece i) in
    feeds (grids_of r) r.eph bytes c.args.piece.now c.end_eph.result c.args.self.now.blocks f.own_bands (bytes_join bytes c.args.piece.now f.each each) (judged_end c bytes f)

pub returns-in-EphEnd-clause-fed : goal.returns-in-EphEnd-clause-fed
returns-in-EphEnd-clause-fed c = λ need bytes f. end_waits c.args.self.now bytes c.args.piece.now c.end_eph.result f c.end_eph.ensures need
