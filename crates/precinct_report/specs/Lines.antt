-- The values of the code as those of the lines' definitions.
use Rattle.std.specs.Prelude.{◌++◌, ℕ, List, map, codes, decimal}
use Rattle.codestream_model.specs.Values as values
use Rattle.stream_model.specs.Report as report
use Rattle.packet_header.specs.Answers.{block_of}
use Rattle.packet_header.specs.declared.block.Block.{Block}
use Rattle.packet_header.specs.declared.block.Precinct.{Precinct}
use Rattle.precinct_geometry.specs.Spans.{place_of}
use Rattle.precinct_report.specs.declared.lines.Counts.{Counts}

-- The values of these code-blocks.
abbrev pub blocks_of : List Block → List values.Block
blocks_of blocks = map block_of blocks

-- The values of a precinct, with its code-blocks and their bytes.
abbrev pub precinct_of : Precinct → report.Precinct
precinct_of x = record {
  stamp = x.stamp;
  pid = x.pid;
  place = place_of x.place;
  blocks = blocks_of x.blocks.now;
  bytes = x.bytes.now;
}

-- The counts of an END line.
abbrev pub counts_of : Counts → report.Counts
counts_of n = record {
  kept = n.kept;
  old = n.old;
  refused = n.refused;
  unsupported = n.unsupported;
  disagreed = n.disagreed;
  broken = n.broken;
}

-- The line of a code-block up to the digits of its bytes.
abbrev pub block_start : values.Block → List ℕ
block_start b =
    codes "B band=" ++ decimal b.band ++ codes " col=" ++ decimal b.col ++ codes " row=" ++ decimal b.row
    ++ codes " planes=" ++ decimal b.planes ++ codes " passes=" ++ decimal b.passes
    ++ codes " cleanup=" ++ decimal b.cleanup ++ codes " refine=" ++ decimal b.refine ++ codes " bytes="
