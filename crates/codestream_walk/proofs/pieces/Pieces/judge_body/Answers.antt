use Rattle.std.proofs.Common.{map, sym, subst, ap, arith}
use Rattle.precinct_geometry.specs.Spans.{place_of}
use Rattle.packet_header.specs.Answers.{block_of}
use Rattle.codestream_walk.specs.Walking.{Seen, Stage, IsBody}
use Rattle.codestream_walk.specs.Staging.{stage_of}
use Rattle.codestream_walk.proofs.Stages.{gives_more, more_seen}
use Rattle.codestream_walk.proofs.pieces.Pieces.judge_body.Goals as goal

pub returns : goal.returns
returns c =
    let i = c.self.inside in
    let S : Stage → Type 0 = λ s. IsBody s in
    let body : IsBody (stage_of i.state i.begun (place_of i.place) (map block_of i.header.reader.blocks) i.size i.left) = subst S (sym (ap (λ (v : Seen). v.walk.stage) c.self.view_is)) c.requires in
    let a = c.len.ensures in
    let d = c.min.ensures in
    let m = c.min-count.ensures in
    more_seen _ _ _ c.self.view_is (rw c.state_with-self-inside.ensures (gives_more i.state i.begun (place_of i.place) (map block_of i.header.reader.blocks) i.size i.left i.input c.give.new.self i.codestreams c.min-count.result body (omega arith) (omega arith) (omega arith) (omega arith) c.give.ensures))
