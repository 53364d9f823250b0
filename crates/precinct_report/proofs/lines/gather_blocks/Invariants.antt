use Rattle.std.proofs.Common.{◌≡◌, ◌++◌, ◌+◌, ℕ, List, length, drop}
use Rattle.std.specs.List.{sum_by}
use Rattle.stream_model.specs.Report.{block_lines}
use Rattle.scl_outside.specs.Events.{Event}
use Rattle.scl_outside.specs.declared.duct.PutOut.TheVariants.{Done}
use Rattle.precinct_report.specs.Gathering.{Gathers}
use Rattle.precinct_report.specs.Lines.{blocks_of}
use Rattle.precinct_report.proofs.lines.gather_blocks.Given as goal

-- the lines of the code-blocks behind are gathered, and the bytes of those ahead are left
abbrev pub invariant-loop-block : goal.invariant-loop-block
invariant-loop-block g l =
    (front : List ℕ) × (block_lines (blocks_of l.blocks) l.bytes ≡ front ++ block_lines (blocks_of (drop l.block-index l.blocks)) l.rest)
    × (length l.rest ≡ sum_by (λ b. b.cleanup + b.refine) (drop l.block-index l.blocks))
    × ((es : List Event) × Gathers front (g.D.Duct.meaning l.fn.duct) (g.D.Duct.meaning l.duct) l.fn.page l.page Done es)
