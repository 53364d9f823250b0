use Rattle.std.proofs.Common.{ℕ, [], ◌∷◌, ◌++◌, map, refl, sym, ◌∙◌, ap, subst}
use Rattle.scl_outside.specs.Events.{Took, Ended, ReadFailed}
use Rattle.precinct_geometry.specs.Spans.{place_of}
use Rattle.packet_header.specs.Answers.{block_of}
use Rattle.codestream_walk.specs.InHand.{InHand}
use Rattle.codestream_walk.specs.Staging.{stage_of}
use Rattle.codestream_walk.specs.Walking.{Seen, reach, IsSound}
use Rattle.codestream_walk.proofs.NextReads.{next_read_on}
use Rattle.codestream_walk.proofs.Stepping.{IsOpen, shows_none, fed_view, fed_none, stepping_more, stepped_end, stepped_limit, stepped_fault}
use Rattle.codestream_walk.proofs.pieces.Pieces.step.Goals as goal

pub invariant_of-self : goal.invariant_of-self
invariant_of-self g c =
    let i = c.self.inside in
    let m = c.in-Grown.ensures in
    let P : ℕ → Type 0 = λ o. IsSound (stage_of i.state i.begun (place_of i.place) (map block_of i.header.reader.blocks) i.size i.left) i.codestreams o in
    let sound = subst P (sym (ap (λ (j : InHand). j.offset) m.3)) c.self.invariant.1 in
    (c.self.invariant.0, sound, c.self.invariant.2, next_read_on i.input c.more.new.self m.0 i.state i.begun i.header.fed i.header.reader m.3 c.self.invariant.3)

pub loop-out-preserved : goal.loop-out-preserved
loop-out-preserved g c =
    let so_far = c.loop-out.invariant in
    let v = c.loop-out.self in
    let i = c.self.inside in
    let j = c.in-Wants.ensures.judged in
    let o : IsOpen v = record { wants = j.wants; short = j.short; within = c.in-Wants.ensures.within } in
    let walk = ap (λ (x : Seen). x.walk) c.self.view_is ∙ j.walk in
    let shown = ap (λ (x : Seen). x.head) c.self.view_is ∙ j.shown in
    let m = c.in-Grown.ensures in
    (so_far.0 ++ Took m.0 ∷ [], stepping_more _ _ _ _ v _ _ m.0 so_far.1 o m.2 m.4 (fed_view i.input c.more.new.self i.codestreams _ m.0 v.walk m.3 walk) shown)

pub returns-in-Ended : goal.returns-in-Ended
returns-in-Ended g c =
    let so_far = c.loop-out.invariant in
    let v = c.loop-out.self in
    let i = c.self.inside in
    let j = c.in-Wants.ensures.judged in
    let o : IsOpen v = record { wants = j.wants; short = j.short; within = c.in-Wants.ensures.within } in
    let walk = ap (λ (x : Seen). x.walk) c.self.view_is ∙ j.walk in
    let shown = ap (λ (x : Seen). x.head) c.self.view_is ∙ j.shown in
    let m = c.in-Ended.ensures in
    let same = fed_view i.input c.more.new.self i.codestreams _ [] v.walk m.0 walk ∙ fed_none v.walk in
    record { steps = (so_far.0 ++ Ended ∷ [], stepped_end _ _ _ _ v _ _ _ _ _ so_far.1 o m.1 same shown c.end.ensures.ends c.end.ensures.done); shows = shows_none c.end.new.self c.end.ensures.done.stage }

pub returns-in-Past : goal.returns-in-Past
returns-in-Past g c =
    let so_far = c.loop-out.invariant in
    let v = c.loop-out.self in
    let i = c.self.inside in
    let j = c.in-Wants.ensures.judged in
    let o : IsOpen v = record { wants = j.wants; short = j.short; within = c.in-Wants.ensures.within } in
    let walk = ap (λ (x : Seen). x.walk) c.self.view_is ∙ j.walk in
    let shown = ap (λ (x : Seen). x.head) c.self.view_is ∙ j.shown in
    let m = c.in-Past.ensures in
    let same = fed_view i.input c.more.new.self i.codestreams _ [] v.walk m.3 walk ∙ fed_none v.walk in
    record { steps = (so_far.0 ++ Took m.0 ∷ [], stepped_limit _ _ _ _ v _ _ _ _ _ m.0 so_far.1 o (ap reach (sym walk) ∙ m.4) m.1 m.2 m.5 same shown c.pass.ensures.passes c.pass.ensures.done); shows = shows_none c.pass.new.self c.pass.ensures.done.stage }

pub returns-in-Failed : goal.returns-in-Failed
returns-in-Failed g c =
    let so_far = c.loop-out.invariant in
    let v = c.loop-out.self in
    let i = c.self.inside in
    let j = c.in-Wants.ensures.judged in
    let o : IsOpen v = record { wants = j.wants; short = j.short; within = c.in-Wants.ensures.within } in
    let walk = ap (λ (x : Seen). x.walk) c.self.view_is ∙ j.walk in
    let shown = ap (λ (x : Seen). x.head) c.self.view_is ∙ j.shown in
    let m = c.in-Failed.ensures in
    record { steps = (so_far.0 ++ ReadFailed ∷ [], stepped_fault _ _ _ _ v _ _ so_far.1 o m.1 (record { stage = refl; shown = shown })); shows = tt }
