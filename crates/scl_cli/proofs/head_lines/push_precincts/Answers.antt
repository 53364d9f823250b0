use Rattle.std.proofs.Common.{ap, ◌∙◌, arith}
use Rattle.std.specs.Prelude.{codes}
use Rattle.codestream_model.specs.Values.{Pair}
use Rattle.scl_cli.specs.HeadLines.{precinct_line}
use Rattle.scl_cli.proofs.HeadText.{one_more_line, three}
use Rattle.scl_cli.proofs.head_lines.push_precincts.Goals as goal

pub loop-r-preserved : goal.loop-r-preserved
loop-r-preserved c =
    let sizes = c.precinct-x.ensures.precinct in
    let here = three (codes "PREC") c.from.result c.from-in-loop-r.result c.from-in-loop-r-2.result _ _ _ c.from.ensures (c.from-in-loop-r.ensures ∙ ap (λ (p : Pair). p.x) sizes) (c.from-in-loop-r-2.ensures ∙ ap (λ (p : Pair). p.y) sizes) in
    record {
      text = one_more_line (precinct_line c.args.head.now) c.args.lines.now.bytes c.loop-r.lines.bytes c.push_line.new.lines.bytes _ c.loop-r.r c.loop-r.invariant.text here c.push_line.ensures.text;
      size = omega (arith, c.loop-r.invariant.size, c.push_line.ensures.size);
    }
