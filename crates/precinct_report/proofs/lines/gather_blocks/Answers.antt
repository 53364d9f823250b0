use Rattle.std.proofs.Common.{◌+◌, ◌++◌, [], drop, refl, sym}
use Rattle.stream_model.specs.Report.{block_lines}
use Rattle.precinct_report.specs.Lines.{blocks_of}
use Rattle.precinct_report.proofs.Gathered.{gathers_same, gathers_done, gathers_failed, gathers_front, gathers_nothing}
use Rattle.precinct_report.proofs.Written.{one_line, one_fits, left_sum, one_more}
use Rattle.precinct_report.proofs.lines.gather_blocks.Goals as goal

pub loop-block-init : goal.loop-block-init
loop-block-init g c = ([], refl, c.requires, ([], gathers_nothing _ _))

pub split_at-requires : goal.split_at-requires
split_at-requires g c = let so = c.loop-block.invariant in one_fits c.args.blocks.now c.loop-block.block-index _ c.loop-block.rest.now c.loop-block-test.true so.2

pub returns-in-WriteFault : goal.returns-in-WriteFault
returns-in-WriteFault g c =
    let so = c.loop-block.invariant in
    let line = one_line c.args.blocks.now c.loop-block.block-index _ c.loop-block.rest.now c.split_at.result.0.now c.split_at.result.1.now c.loop-block-test.true c.split_at.ensures.front c.split_at.ensures.back in
    let all = one_more _ so.0 _ _ _ so.1 line in
    (so.3.0 ++ c.in-WriteFault.ensures.0, gathers_same _ _ _ _ _ _ _ _ (sym all) (gathers_front _ (block_lines (blocks_of (drop (c.loop-block.block-index + 1) c.args.blocks.now)) c.split_at.result.1.now) _ _ _ _ _ (gathers_failed _ _ _ _ _ _ _ _ _ _ so.3.1 c.in-WriteFault.ensures.1)))

pub loop-block-preserved : goal.loop-block-preserved
loop-block-preserved g c =
    let so = c.loop-block.invariant in
    let line = one_line c.args.blocks.now c.loop-block.block-index _ c.loop-block.rest.now c.split_at.result.0.now c.split_at.result.1.now c.loop-block-test.true c.split_at.ensures.front c.split_at.ensures.back in
    let all = one_more _ so.0 _ _ _ so.1 line in
    (_, all, left_sum c.args.blocks.now c.loop-block.block-index _ c.loop-block.rest.now c.split_at.result.1.now c.loop-block-test.true c.split_at.ensures.back so.2, (so.3.0 ++ c.in-Done.ensures.0, gathers_done _ _ _ _ _ _ _ _ _ _ so.3.1 c.in-Done.ensures.1))
