-- As after one piece.
use Rattle.std.proofs.Common.{◌≡◌, ◌+◌, ℕ, Bool, List, [], map, take, sym, ◌∙◌, subst, arith}
use Rattle.codestream_model.specs.Values as values
use Rattle.codestream_model.specs.Bytes.{IsBytes}
use Rattle.codestream_model.specs.MarkedHeader.{SpellsMarkedHeader, marked_header_of}
use Rattle.precinct_geometry.specs.Spans.{grid_of}
use Rattle.packet_header.specs.Answers.{block_of, Tells}
use Rattle.packet_header.specs.Headers.{AnswersFor, counted_out}
use Rattle.packet_header.proofs.Feeds.{feeds, counted_none}
use Rattle.packet_header.proofs.reader.HeaderReader.read.Goals as goal

-- what one piece after the beginning says
alone : (c : goal.After-feed) → AnswersFor (map grid_of c.args.bands.now.items) c.args.eph [] c.args.bytes.now c.feed.result c.feed.new.self.blocks
alone c =
    let b = c.begin.new.self in
    let gs = map grid_of c.args.bands.now.items in
    let bytes = c.args.bytes.now in
    let each : IsBytes bytes = λ i. omega (arith, c.type_inv.bytes i) in
    let G : List values.Grid → Type 0 = λ x. Tells (marked_header_of x b.eph bytes) (counted_out 0 c.feed.result) c.feed.new.self.blocks in
    let E : Bool → Type 0 = λ x. Tells (marked_header_of gs x bytes) (counted_out 0 c.feed.result) c.feed.new.self.blocks in
    feeds gs c.args.eph [] bytes c.feed.result c.feed.new.self.blocks c.requires.own_bands each (subst E c.begin.ensures.eph (subst G c.begin.ensures.grids (c.feed.ensures.answers [] c.begin.ensures.fed).judged))

pub returns-clause-found : goal.returns-clause-found
returns-clause-found c = λ used e.
    let gs = map grid_of c.args.bands.now.items in
    let all : 0 + used ≡ used = omega arith in
    let P : ℕ → Type 0 = λ n. SpellsMarkedHeader gs c.args.eph (map block_of c.feed.new.self.blocks) (take n c.args.bytes.now) in
    subst P all ((alone c).found used e)

pub returns-clause-only : goal.returns-clause-only
returns-clause-only c = λ blocks header more s e.
    let a = (alone c).only blocks header more s e in
    (sym (counted_none c.feed.result) ∙ a.0, a.1)

pub returns-clause-refused : goal.returns-clause-refused
returns-clause-refused c = (alone c).refused
