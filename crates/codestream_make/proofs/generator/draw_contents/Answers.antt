use Rattle.std.proofs.Common.{◌≡◌, ◌++◌, List, [], ◌∷◌, map, length, refl, ◌∙◌, ap, subst, arith}
use Rattle.std.specs.List.{flat_map}
use Rattle.std.proofs.lemmas.List.{map-append}
use Rattle.codestream_model.specs.Values as values
use Rattle.codestream_model.specs.Precincts.{grids}
use Rattle.codestream_model.specs.PacketOrder.{packet_order}
use Rattle.codestream_model.specs.TagTrees.{seats}
use Rattle.codestream_model.specs.Packet.{Content}
use Rattle.trial_model.specs.Generator.{draw_content, draw_contents}
use Rattle.precinct_geometry.specs.Spans.{place_of, grid_of}
use Rattle.pcrl_order.specs.Ahead.{rest}
use Rattle.codestream_make.specs.Making.{content_of}
use Rattle.codestream_make.proofs.DrawnRuns.{next_drawn, all_drawn}
use Rattle.codestream_make.proofs.generator.draw_contents.Goals as goal

pub returns-then-not-advance : goal.returns-then-not-advance
returns-then-not-advance c =
    let h = c.args.walk.head in
    let p = c.loop-contents.walk.place in
    let all = (draw_contents h (packet_order h) c.args.seed).value in
    let grids_are : map grid_of c.bands-bands.result.items ≡ grids h p =
    c.bands-bands.ensures ∙ ap (λ (g : values.Head). grids g (place_of c.place.result)) (c.geometry.ensures ∙ c.loop-contents.invariant.head) ∙ ap (grids h) c.place.ensures in
    let content = c.in_ok-content.ensures.content ∙ ap (λ (gs : List values.Grid). (draw_content (flat_map seats gs) c.loop-contents.draws.state).value) grids_are in
    let state = c.in_ok-content.ensures.state ∙ ap (λ (gs : List values.Grid). (draw_content (flat_map seats gs) c.loop-contents.draws.state).state) grids_are in
    let pushed = ap (map content_of) c.in_ok-push.ensures.items ∙ map-append content_of c.loop-contents.contents.items (c.in_ok-content.content ∷ []) in
    let joined = next_drawn h p (rest c.loop-contents.walk) (map content_of c.loop-contents.contents.items) all c.loop-contents.draws.state c.in_ok-content.after.state (content_of c.in_ok-content.content) c.loop-contents.invariant.drawn content state in
    let P : List values.Place → Type 0 = λ l. (map content_of c.loop-contents.contents.items ++ content_of c.in_ok-content.content ∷ []) ++ (draw_contents h l c.in_ok-content.after.state).value ≡ all in
    pushed ∙ all_drawn h _ all c.in_ok-content.after.state (subst P (c.if-not-advance.ensures.last refl).0 joined)

pub loop-contents-smaller : goal.loop-contents-smaller
loop-contents-smaller c = omega (arith, ap length (c.if-not-advance.ensures.next refl))

pub loop-contents-preserved : goal.loop-contents-preserved
loop-contents-preserved c =
    let h = c.args.walk.head in
    let p = c.loop-contents.walk.place in
    let all = (draw_contents h (packet_order h) c.args.seed).value in
    let grids_are : map grid_of c.bands-bands.result.items ≡ grids h p =
    c.bands-bands.ensures ∙ ap (λ (g : values.Head). grids g (place_of c.place.result)) (c.geometry.ensures ∙ c.loop-contents.invariant.head) ∙ ap (grids h) c.place.ensures in
    let content = c.in_ok-content.ensures.content ∙ ap (λ (gs : List values.Grid). (draw_content (flat_map seats gs) c.loop-contents.draws.state).value) grids_are in
    let state = c.in_ok-content.ensures.state ∙ ap (λ (gs : List values.Grid). (draw_content (flat_map seats gs) c.loop-contents.draws.state).state) grids_are in
    let pushed = ap (map content_of) c.in_ok-push.ensures.items ∙ map-append content_of c.loop-contents.contents.items (c.in_ok-content.content ∷ []) in
    let joined = next_drawn h p (rest c.loop-contents.walk) (map content_of c.loop-contents.contents.items) all c.loop-contents.draws.state c.in_ok-content.after.state (content_of c.in_ok-content.content) c.loop-contents.invariant.drawn content state in
    let P : List values.Place → Type 0 = λ l. (map content_of c.loop-contents.contents.items ++ content_of c.in_ok-content.content ∷ []) ++ (draw_contents h l c.in_ok-content.after.state).value ≡ all in
    record {
      head = c.advance.ensures.head ∙ c.loop-contents.invariant.head;
      precinct = c.advance.ensures.precinct;
      drawn = ap (λ (l : List Content). l ++ (draw_contents h (c.advance.new.self.place ∷ rest c.advance.new.self) c.in_ok-content.after.state).value) pushed ∙ subst P (c.if-not-advance.ensures.next refl) joined;
    }
