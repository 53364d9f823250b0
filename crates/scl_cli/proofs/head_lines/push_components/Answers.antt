use Rattle.std.proofs.Common.{ap, ◌∙◌, arith}
use Rattle.std.specs.Prelude.{codes}
use Rattle.codestream_model.specs.Values.{Pair}
use Rattle.scl_cli.specs.HeadLines.{component_line}
use Rattle.scl_cli.proofs.HeadText.{one_more_line, three}
use Rattle.scl_cli.proofs.head_lines.push_components.Goals as goal

pub loop-c-preserved : goal.loop-c-preserved
loop-c-preserved c =
    let step = c.step-x.ensures.step in
    let here = three (codes "COMP") c.from.result c.from-in-loop-c.result c.from-in-loop-c-2.result _ _ _ c.from.ensures (c.from-in-loop-c.ensures ∙ ap (λ (p : Pair). p.x) step) (c.from-in-loop-c-2.ensures ∙ ap (λ (p : Pair). p.y) step) in
    record {
      text = one_more_line (component_line c.args.head.now) c.args.lines.now.bytes c.loop-c.lines.bytes c.push_line.new.lines.bytes _ c.loop-c.c c.loop-c.invariant.text here c.push_line.ensures.text;
      size = omega (arith, c.loop-c.invariant.size, c.push_line.ensures.size);
    }
