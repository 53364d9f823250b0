use Rattle.std.proofs.Common.{◌<◌, map, take, Some, sym, subst, ◌∙◌, ap, arith}
use Rattle.codestream_model.specs.MainHeader.{SpellsHead}
use Rattle.codestream_model.specs.Values.{Head}
use Rattle.codestream_model.specs.PacketOrder.{IsPacketOrder}
use Rattle.precinct_geometry.specs.Spans.{place_of}
use Rattle.packet_header.specs.Answers.{block_of}
use Rattle.codestream_walk.specs.InHand.{InHand}
use Rattle.codestream_walk.specs.Walking.{Seen}
use Rattle.codestream_walk.proofs.Stages.{begins_head, head_seen}
use Rattle.codestream_walk.specs.declared.pieces.State.TheVariants.{Next}
use Rattle.codestream_walk.proofs.NextReads.{unread, unread_start}
use Rattle.codestream_walk.proofs.pieces.Pieces.begin.Goals as goal

pub invariant_of-self : goal.invariant_of-self
invariant_of-self c =
    let few : c.self.inside.codestreams < 65536 = rw (ap (λ (v : Seen). v.walk.codestreams) c.self.view_is) c.requires.few in
    let place = ap (λ (j : InHand). j.offset) c.give.ensures in
    let i = c.self.inside in
    let start = ap (λ (v : Seen). v.walk.stage) c.self.view_is ∙ c.requires.start in
    let none = unread_start i.state i.begun (place_of i.place) (map block_of i.header.reader.blocks) i.size i.left i.header.fed i.header.reader i.input.bytes start c.self.invariant.3 in
    (c.self.invariant.0, (few, omega (arith, place, c.from-self-inside.ensures)), tt, unread Next (Some c.new.result) i.header.fed i.header.reader c.give.new.self.bytes none)

pub returns : goal.returns
returns c =
    let i = c.self.inside in
    let few : c.self.inside.codestreams < 65536 = rw (ap (λ (v : Seen). v.walk.codestreams) c.self.view_is) c.requires.few in
    let S : Seen → Type 0 = λ u. SpellsHead c.args.head (take c.args.head.length u.walk.hand) in
    head_seen _ _ _ c.self.view_is (begins_head c.new.result.head c.args.head c.new.result.places (place_of i.place) (map block_of i.header.reader.blocks) c.length-length.result c.from-self-inside.result i.input c.give.new.self i.codestreams _ (ap (λ (v : Seen). v.walk.stage) c.self.view_is ∙ c.requires.start) c.new.ensures.head (c.from-self-inside.ensures ∙ c.length-length.ensures.length) c.length-length.ensures.length few (subst S (sym c.self.view_is) c.requires.spells) (let P : Head → Type 0 = λ k. IsPacketOrder k c.new.result.places in subst P (sym c.new.ensures.head) c.new.ensures.order) c.give.ensures)
