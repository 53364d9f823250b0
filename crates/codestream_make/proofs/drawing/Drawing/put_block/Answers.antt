use Rattle.std.proofs.Common.{◌≡◌, ◌+◌, ◌++◌, ℕ, List, [], ◌∷◌, map, refl, sym, ◌∙◌, ap}
use Rattle.std.proofs.lemmas.List.{map-append}
use Rattle.trial_model.specs.Draws.{draw, draw_bytes}
use Rattle.packet_header.specs.declared.block.Block.{Block}
use Rattle.packet_header.specs.Answers.{block_of}
use Rattle.codestream_make.specs.declared.drawing.Drawing.{Drawing}
use Rattle.codestream_make.specs.Drawn.{seat_at}
use Rattle.codestream_make.proofs.DrawSteps.{left_out, put_in, refine_none, refine_some}
use Rattle.codestream_make.proofs.drawing.Drawing.put_block.Goals as goal
use Rattle.codestream_make.proofs.drawing.Drawing.put_block.Goals.{then-passes-eq1, else-passes-eq1}

pub returns-then-passes-eq0 : goal.returns-then-passes-eq0
returns-then-passes-eq0 c =
    left_out (seat_at c.args.band c.args.col c.args.row) c.args.self.now _ refl (sym c.below-passes.ensures.number ∙ c.if-passes-eq0.true) c.below-passes.ensures.state

pub returns : goal.returns
returns c =
    let s = seat_at c.args.band c.args.col c.args.row in
    let passes = c.below-passes.result in
    let third = c.below-cleanup.new.self.state in
    let refine = c.if-passes-eq1.refine in
    let fourth = c.if-passes-eq1.self.draws.state in
    let drawn = c.in_ok-put_bytes.ensures in
    let block : Block = record { band = c.args.band; col = c.args.col; row = c.args.row; planes = c.below-planes.result; passes = passes; cleanup = 2 + c.below-cleanup.result; refine = refine } in
    let same : (c.if-passes-eq1.self.blocks.items ≡ c.args.self.now.blocks.items) × (c.if-passes-eq1.self.bytes.items ≡ c.args.self.now.bytes.items) = elim c.if-passes-eq1.branch [
      | then-passes-eq1 w ↦ (ap (λ (d : Drawing). d.blocks.items) w.self-is, ap (λ (d : Drawing). d.bytes.items) w.self-is)
      | else-passes-eq1 w ↦ (ap (λ (d : Drawing). d.blocks.items) w.self-is, ap (λ (d : Drawing). d.bytes.items) w.self-is)
    ] in
    put_in s c.args.self.now c.put_bytes.new.self passes c.below-planes.result c.below-planes.new.self.state (2 + c.below-cleanup.result) third refine fourth record {
      passes_is = c.below-passes.ensures.number;
      some = c.if-passes-eq0.false;
      planes_is = c.below-planes.ensures.number ∙ ap (λ (n : ℕ). (draw 8 n).value) c.below-passes.ensures.state;
      second_is = c.below-planes.ensures.state ∙ ap (λ (n : ℕ). (draw 8 n).state) c.below-passes.ensures.state;
      cleanup_is = ap (λ (n : ℕ). 2 + n) c.below-cleanup.ensures.number;
      third_is = c.below-cleanup.ensures.state;
      refine_is = elim c.if-passes-eq1.branch [
        | then-passes-eq1 w ↦ w.refine-is ∙ sym (refine_none passes third w.if-passes-eq1.true).0
        | else-passes-eq1 w ↦ w.refine-is ∙ w.below-refine.ensures.number ∙ sym (refine_some passes third w.if-passes-eq1.false).0
      ];
      fourth_is = elim c.if-passes-eq1.branch [
        | then-passes-eq1 w ↦ ap (λ (d : Drawing). d.draws.state) w.self-is ∙ sym (refine_none passes third w.if-passes-eq1.true).1
        | else-passes-eq1 w ↦ ap (λ (d : Drawing). d.draws.state) w.self-is ∙ w.below-refine.ensures.state ∙ sym (refine_some passes third w.if-passes-eq1.false).1
      ];
      blocks =
          ap (map block_of) (drawn.blocks ∙ c.in_ok-push.ensures.items)
          ∙ map-append block_of c.if-passes-eq1.self.blocks.items (block ∷ [])
          ∙ ap (λ (l : List Block). map block_of l ++ block_of block ∷ []) same.0;
      bytes = drawn.bytes ∙ ap (λ (l : List ℕ). l ++ (draw_bytes (2 + c.below-cleanup.result + refine) fourth).value) same.1;
      state = drawn.state;
    }
